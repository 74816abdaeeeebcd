use Rattle.std.proofs.Common.{ap, ◌∙◌, arith, length}
use Rattle.gp_certificate.specs.Loaded.{LoadedForm}
use Rattle.gp_certificate.specs.Rows.{occurs, clause_at, left_at, row_of}
use Rattle.gp_certificate.proofs.Rowing.{count_row, row_within}
use Rattle.gp_certificate.proofs.loaded.Loaded.rise.Goals as goal

pub raise-requires-clause-within : goal.raise-requires-clause-within
raise-requires-clause-within c =
    row_within c.self.inside.clauses.lists c.args.lit c.row.result.now (length c.self.inside.left.items) c.self.invariant.left
    (λ number. count_row c.self.inside.rows.items c.self.inside.clauses.lists c.args.lit c.row.result.now number c.self.invariant.rows (c.row.ensures ∙ ap (λ rows. row_of rows c.args.lit) c.deref.ensures.value))

pub raise-requires-clause-few : goal.raise-requires-clause-few
raise-requires-clause-few c = λ number.
    let counts = count_row c.self.inside.rows.items c.self.inside.clauses.lists c.args.lit c.row.result.now number c.self.invariant.rows (c.row.ensures ∙ ap (λ rows. row_of rows c.args.lit) c.deref.ensures.value) in
    omega (arith, counts, c.requires number, c.self.invariant.sizes number, ap (λ (l : LoadedForm). left_at l.left number) c.self.view_is, ap (λ (l : LoadedForm). occurs c.args.lit (clause_at l.clauses number)) c.self.view_is, ap (λ (l : LoadedForm). length (clause_at l.clauses number)) c.self.view_is)

pub returns-clause-more : goal.returns-clause-more
returns-clause-more c = λ number.
    let counts = count_row c.self.inside.rows.items c.self.inside.clauses.lists c.args.lit c.row.result.now number c.self.invariant.rows (c.row.ensures ∙ ap (λ rows. row_of rows c.args.lit) c.deref.ensures.value) in
    omega (arith, counts, c.raise.ensures.more number, ap (λ (l : LoadedForm). left_at l.left number) c.self.view_is, ap (λ (l : LoadedForm). occurs c.args.lit (clause_at l.clauses number)) c.self.view_is)

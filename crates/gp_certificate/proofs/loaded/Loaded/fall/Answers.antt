use Rattle.std.proofs.Common.{ap, ◌∙◌, arith}
use Rattle.gp_certificate.specs.Loaded.{LoadedForm}
use Rattle.gp_certificate.specs.Rows.{occurs, clause_at, left_at, row_of}
use Rattle.gp_certificate.proofs.Rowing.{count_row}
use Rattle.gp_certificate.proofs.loaded.Loaded.fall.Goals as goal

pub lower-requires : goal.lower-requires
lower-requires c = λ number.
    let counts = count_row c.self.inside.rows.items c.self.inside.clauses.lists c.args.lit c.row.result.now number c.self.invariant.rows (c.row.ensures ∙ ap (λ rows. row_of rows c.args.lit) c.deref.ensures.value) in
    omega (arith, counts, c.requires number, ap (λ (l : LoadedForm). left_at l.left number) c.self.view_is, ap (λ (l : LoadedForm). occurs c.args.lit (clause_at l.clauses number)) c.self.view_is)

pub returns-clause-less : goal.returns-clause-less
returns-clause-less c = λ number.
    let counts = count_row c.self.inside.rows.items c.self.inside.clauses.lists c.args.lit c.row.result.now number c.self.invariant.rows (c.row.ensures ∙ ap (λ rows. row_of rows c.args.lit) c.deref.ensures.value) in
    omega (arith, counts, c.lower.ensures.less number, ap (λ (l : LoadedForm). left_at l.left number) c.self.view_is, ap (λ (l : LoadedForm). occurs c.args.lit (clause_at l.clauses number)) c.self.view_is)

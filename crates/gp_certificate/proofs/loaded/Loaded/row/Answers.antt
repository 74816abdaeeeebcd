use Rattle.std.proofs.Common.{ap, ◌∙◌, arith}
use Rattle.gp_certificate.specs.Loaded.{LoadedForm}
use Rattle.gp_certificate.specs.Rows.{occurs, clause_at, row_of}
use Rattle.gp_certificate.proofs.Rowing.{count_row, stands_there}
use Rattle.gp_certificate.proofs.loaded.Loaded.row.Goals as goal

pub returns : goal.returns
returns c = λ number some.
    let counts = count_row c.self.inside.rows.items c.self.inside.clauses.lists c.args.lit c.row.result.now number c.self.invariant.rows (c.row.ensures ∙ ap (λ rows. row_of rows c.args.lit) c.deref.ensures.value) in
    stands_there c.row.result.now number (omega (arith, counts, some, ap (λ (l : LoadedForm). occurs c.args.lit (clause_at l.clauses number)) c.self.view_is))

use Rattle.std.proofs.Common.{◌≡◌, ◌≤◌, length}
use Rattle.gp_clause.specs.declared.lit.Lit.{Lit}
use Rattle.gp_certificate.specs.Rows.{row_of}
use Rattle.gp_certificate.proofs.loaded.add_rows.Given as goal

abbrev pub invariant-loop-row : goal.invariant-loop-row
invariant-loop-row l = (length l.rows.items ≡ l._row) × (length l.fn.rows.items ≤ l._row) × ((lit : Lit) → row_of l.rows.items lit ≡ row_of l.fn.rows.items lit)

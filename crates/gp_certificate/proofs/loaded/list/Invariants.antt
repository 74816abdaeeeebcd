use Rattle.std.proofs.Common.{◌≡◌, ◌++◌, length, take, replicate}
use Rattle.gp_clause.specs.declared.lit.Lit.{Lit}
use Rattle.gp_certificate.specs.Rows.{occurs, row_of}
use Rattle.gp_certificate.proofs.loaded.list.Given as goal

abbrev pub invariant-loop-place : goal.invariant-loop-place
invariant-loop-place l =
    (length l.rows.items ≡ length l.fn.rows.items) × ((one : Lit) → row_of l.rows.items one ≡ row_of l.fn.rows.items one ++ replicate (occurs one (take l.place l.lits)) l.number)

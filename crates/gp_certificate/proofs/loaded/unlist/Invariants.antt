use Rattle.std.proofs.Common.{◌≡◌, ◌++◌, ℕ, List, length, drop, replicate}
use Rattle.gp_clause.specs.declared.lit.Lit.{Lit}
use Rattle.gp_certificate.specs.Rows.{occurs, row_of}
use Rattle.gp_certificate.proofs.loaded.unlist.Given as goal

abbrev pub invariant-loop-lit : goal.invariant-loop-lit
invariant-loop-lit l =
    (length l.rows.items ≡ length l.fn.rows.items)
    × ((base : Lit → List ℕ) (number : ℕ) → ((one : Lit) → row_of l.fn.rows.items one ≡ base one ++ replicate (occurs one l.lits) number)
    → (one : Lit) → row_of l.rows.items one ≡ base one ++ replicate (occurs one (drop l.lit-index l.lits)) number)

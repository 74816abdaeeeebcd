-- How what is derived grows with the start and with the clauses.
use Rattle.std.proofs.Common.{List}
use Rattle.std.specs.List.{All, Contains}
use Rattle.std.proofs.lemmas.List.Elements.{All-contains}
use Rattle.gp_clause.specs.declared.lit.Lit.{Lit}
use Rattle.gp_clause.specs.Closure.{Derived}
use Rattle.gp_clause.specs.Closure.Derived.{given, forced}
use Rattle.gp_clause.specs.Lit.{opposite}

-- more clauses derive more from more
pub derived_more : (start : List Lit) (clauses : List (List Lit)) (longer : List Lit) (more : List (List Lit)) → All (Contains longer) start → All (Contains more) clauses
    → (lit : Lit) → Derived start clauses lit → Derived longer more lit
derived_more start clauses longer more starts among lit (given l is) = given l (All-contains (Contains longer) start l starts is)
derived_more start clauses longer more starts among lit (forced clause l one within others) =
    forced clause l (All-contains (Contains more) clauses clause among one) within
    (λ other is apart. derived_more start clauses longer more starts among (opposite other) (others other is apart))

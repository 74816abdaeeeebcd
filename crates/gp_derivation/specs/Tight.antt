-- A clause that passes and would not with any one literal left out.
use Rattle.std.specs.Prelude.{not, List, Contains}
use Rattle.std.specs.List.{filter}
use Rattle.gp_clause.specs.declared.edge.Edge.{Edge}
use Rattle.gp_clause.specs.declared.kind.Kind.{Kind}
use Rattle.gp_clause.specs.declared.lit.Lit.{Lit}
use Rattle.gp_clause.specs.Lit.{lit_eq}
use Rattle.gp_certificate.specs.Step.{Passes}

-- a clause without a literal
abbrev pub left_out : Lit → List Lit → List Lit
left_out lit clause = filter (λ other. not (lit_eq other lit)) clause

-- with any one literal left out a clause does not pass with some clauses
abbrev pub IsTight : List Edge → List Kind → List (List Lit) → List Lit → Type 0
IsTight edges kinds clauses clause = (lit : Lit) → Contains clause lit → Passes edges kinds clauses (left_out lit clause) → ⊥

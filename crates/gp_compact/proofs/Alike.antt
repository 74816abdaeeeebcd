-- A clause of base variables passes with base variables alone as it does with those of a query too.
use Rattle.std.proofs.Common.{List, ◌++◌, length, All, sym, arith}
use Rattle.std.proofs.lemmas.List.{length-append}
use Rattle.gp_clause.specs.declared.edge.Edge.{Edge}
use Rattle.gp_clause.specs.declared.kind.Kind.{Kind}
use Rattle.gp_clause.specs.declared.lit.Lit.{Lit}
use Rattle.gp_clause.specs.Clause.{NamesBelow}
use Rattle.gp_certificate.specs.Step.{Passes}
use Rattle.gp_base.specs.ListLaws.{slice_get_front}
use Rattle.gp_certificate.specs.PassingLaws.{passes_alike}

-- locals may be left out
pub passes_bare : (edges : List Edge) (kinds locals : List Kind) (clauses : List (List Lit)) (clause : List Lit) → All (NamesBelow (length kinds)) clauses → NamesBelow (length kinds) clause
    → Passes edges (kinds ++ locals) clauses clause → Passes edges kinds clauses clause
passes_bare edges kinds locals clauses clause below names =
    passes_alike edges (kinds ++ locals) kinds (length kinds) clauses clause (omega arith) (λ variable within. sym (slice_get_front kinds locals variable within)) below names

-- and put in
pub passes_local : (edges : List Edge) (kinds locals : List Kind) (clauses : List (List Lit)) (clause : List Lit) → All (NamesBelow (length kinds)) clauses
    → Passes edges kinds clauses clause → Passes edges (kinds ++ locals) clauses clause
passes_local edges kinds locals clauses clause below passes =
    passes_alike edges kinds (kinds ++ locals) (length kinds) clauses clause (omega (arith, length-append kinds locals)) (λ variable within. slice_get_front kinds locals variable within) below passes.in_range passes

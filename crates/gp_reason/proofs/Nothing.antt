-- Clauses that force nothing are not needed.
use Rattle.std.proofs.Common.{ℕ, zero, suc, ◌≡◌, refl, ap, sym, ◌∙◌, inl, inr, arith, Bool, true, false, List, [], ◌∷◌, ◌++◌, append-nil, append_assoc, length}
use Rattle.std.specs.Prelude.{if◌then◌else◌, Option, None, Some}
use Rattle.std.specs.List.{list_any}
use Rattle.std.proofs.lemmas.Bool.{eqb-true}
use Rattle.std.proofs.lemmas.List.{length-append}
use Rattle.std.proofs.lemmas.List.Elements.{All-contains}
use Rattle.std.proofs.lemmas.Option.{none-some, same_Some}
use Rattle.gp_base.specs.ListLaws.{all_from_contains}
use Rattle.gp_certificate.specs.declared.step.Step.{Step}
use Rattle.gp_certificate.specs.Step.{IsDerivedBound, LeadsToConflict, Passes}
use Rattle.gp_clause.specs.declared.edge.Edge.{Edge}
use Rattle.gp_clause.specs.declared.kind.Kind.{Kind}
use Rattle.gp_clause.specs.declared.lit.Lit.{Lit}
use Rattle.gp_clause.specs.Closure.Derived.{given}
use Rattle.gp_clause.specs.Lit.{negations}
use Rattle.gp_cycle.specs.Forced.{forced, forced_by, forced_from, is_false, sweep, sweeps, with_forced}
use Rattle.gp_cycle.specs.Laws.{ForcedIsDerived}
use Rattle.gp_reason.specs.Cycles.{adds_nothing, forced_in, forces_nothing, hinted}

-- what is known stays as clauses force more
with_forced_grows : (known : List Lit) (found : Option Lit) → (more : List Lit) × (with_forced known found ≡ known ++ more)
with_forced_grows known None = ([], sym (append-nil known))
with_forced_grows known (Some lit) = (lit ∷ [], refl)

sweep_grows : (known : List Lit) (clauses : List (List Lit)) → (more : List Lit) × (sweep known clauses ≡ known ++ more)
sweep_grows known [] = ([], sym (append-nil known))
sweep_grows known (clause ∷ clauses) =
    let first = with_forced_grows known (forced_by known clause) in
    let rest = sweep_grows (with_forced known (forced_by known clause)) clauses in
    (first.0 ++ rest.0, rest.1 ∙ ap (λ (list : List Lit). list ++ rest.0) first.1 ∙ append_assoc known first.0 rest.0)

sweeps_grow : (rounds : ℕ) (known : List Lit) (clauses : List (List Lit)) → (more : List Lit) × (sweeps rounds known clauses ≡ known ++ more)
sweeps_grow zero known clauses = ([], sym (append-nil known))
sweeps_grow (suc rounds) known clauses =
    let first = sweep_grows known clauses in
    let rest = sweeps_grow rounds (sweep known clauses) clauses in
    (first.0 ++ rest.0, rest.1 ∙ ap (λ (list : List Lit). list ++ rest.0) first.1 ∙ append_assoc known first.0 rest.0)

told_known : (known lits : List Lit) (b : Bool) → ◌≡◌ {A = Option (List Lit)} (if b then None else Some known) (Some lits) → known ≡ lits
told_known known lits true is = absurd (none-some lits is)
told_known known lits false is = same_Some known lits is

-- what is told begins with the start
begins : (start : List Lit) (clauses : List (List Lit)) (lits : List Lit) → forced start clauses ≡ Some lits → (more : List Lit) × (lits ≡ start ++ more)
begins start clauses lits is =
    let grown = sweeps_grow (length clauses) start clauses in
    (grown.0, sym (told_known (forced_from start clauses) lits (list_any (is_false (forced_from start clauses)) clauses) is) ∙ grown.1)

-- a list that is no longer than its beginning
no_more : (start more : List Lit) → length (start ++ more) ≡ length start → start ++ more ≡ start
no_more start [] same = append-nil start
no_more start (lit ∷ more) same = absurd (omega (arith, same, length-append start (lit ∷ more)))

-- from where nothing is added, just the start is told
start_told : (start : List Lit) (clauses : List (List Lit)) (lits : Option (List Lit)) → forced start clauses ≡ lits → adds_nothing start lits ≡ true
    → forced start clauses ≡ Some start
start_told start clauses None is added = cc
start_told start clauses (Some lits) is added =
    let grown = begins start clauses lits is in
    let as_many : length (start ++ grown.0) ≡ length start = ap (λ (list : List Lit). length list) (sym grown.1) ∙ eqb-true (length lits) (length start) added in
    is ∙ ap Some (grown.1 ∙ no_more start grown.0 as_many)

-- then what is derived is given, and no clause is false
alone : ForcedIsDerived → (edges : List Edge) (kinds : List Kind) (start : List Lit) (clauses : List (List Lit)) → forced start clauses ≡ Some start
    → LeadsToConflict edges kinds clauses start → LeadsToConflict edges kinds [] start
alone law edges kinds start clauses told (inl conflict) =
    absurd (none-some start (sym ((law.conflicts start clauses).1 conflict) ∙ told))
alone law edges kinds start clauses told (inr (bounds, derived, cycle)) =
    inr (bounds, all_from_contains (IsDerivedBound kinds [] start) bounds (λ edge i. given_bound edge (All-contains (IsDerivedBound kinds clauses start) bounds edge derived i)), cycle)
  where
    given_bound : (edge : Edge) → IsDerivedBound kinds clauses start edge → IsDerivedBound kinds [] start edge
    given_bound edge (lit, kind, from, at, is) = (lit, kind, given lit ((law.derived start clauses start told lit).1 from), at, is)

pub enough_alone : ForcedIsDerived → (edges : List Edge) (kinds : List Kind) (clauses : List (List Lit)) (number : ℕ) (step : Step) → forces_nothing clauses number step ≡ true
    → Passes edges kinds (hinted clauses number step.hints) step.clause → Passes edges kinds [] step.clause
unfolding forces_nothing
enough_alone law edges kinds clauses number step nothing passes = record {
  in_range = passes.in_range;
  refuted = alone law edges kinds (negations step.clause) (hinted clauses number step.hints)
      (start_told (negations step.clause) (hinted clauses number step.hints) (forced_in clauses number step) refl nothing) passes.refuted;
}

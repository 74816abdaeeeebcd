-- Hints that name the same clauses in another list.
use Rattle.std.proofs.Common.{◌≡◌, refl, sym, ◌∙◌, subst, ℕ, ◌<◌, List, [], ◌∷◌, length, get_or, map, All, arith}
use Rattle.std.specs.List.{slice_get}
use Rattle.std.proofs.lemmas.List.Elements.{All-head, All-tail, All-map, All-weaker}
use Rattle.std.proofs.lemmas.Option.{slice_get-get_or, slice_get_within}
use Rattle.gp_clause.specs.declared.edge.Edge.{Edge}
use Rattle.gp_clause.specs.declared.kind.Kind.{Kind}
use Rattle.gp_clause.specs.declared.lit.Lit.{Lit}
use Rattle.gp_certificate.specs.declared.step.Step.{Step}
use Rattle.gp_derivation.specs.Numbering.{with_hints}
use Rattle.gp_certificate.specs.Certificate.{usable, StepPasses}
use Rattle.gp_certificate.specs.Step.{Passes, named}

-- a hint names a clause in a first list, and its new number the same in a second
pub record NamesSame (first second : List (List Lit)) (f : ℕ → ℕ) (hint : ℕ) : Type 0 where
  pub within : hint < length first
  pub same : slice_get second (f hint) ≡ slice_get first hint

-- so the new number is one of the second list
pub still_within : (first second : List (List Lit)) (f : ℕ → ℕ) (hint : ℕ) → NamesSame first second f hint → f hint < length second
still_within first second f hint is = slice_get_within second (f hint) (get_or first hint []) (is.same ∙ slice_get-get_or first hint [] is.within)

pub all_still_within : (first second : List (List Lit)) (f : ℕ → ℕ) (hints : List ℕ) → All (NamesSame first second f) hints → All (λ hint. hint < length second) (map f hints)
all_still_within first second f hints all =
    All-map (λ hint. hint < length second) f hints (All-weaker (NamesSame first second f) (λ hint. f hint < length second) (still_within first second f) hints all)

pub all_within : (first second : List (List Lit)) (f : ℕ → ℕ) (hints : List ℕ) → All (NamesSame first second f) hints → All (λ hint. hint < length first) hints
all_within first second f hints all = All-weaker (NamesSame first second f) (λ hint. hint < length first) (λ hint is. is.within) hints all

-- all hints together name the same clauses
pub named_same : (first second : List (List Lit)) (f : ℕ → ℕ) (hints : List ℕ) → All (NamesSame first second f) hints → named second (map f hints) ≡ named first hints
named_same first second f [] all = refl
named_same first second f (hint ∷ hints) all =
    let here : slice_get second (f hint) ≡ slice_get first hint = (All-head (NamesSame first second f) hint hints all).same in
    rw (here, named_same first second f hints (All-tail (NamesSame first second f) hint hints all)) refl

-- a step has a hint
abbrev pub HasHint : Step → Type 0
HasHint step = 0 < length step.hints

module _ (edges : List Edge) (kinds : List Kind) (first second : List (List Lit)) (f : ℕ → ℕ) where
  abbrev PassesBy : List Lit → List (List Lit) → Type 0
  PassesBy clause clauses = Passes edges kinds clauses clause

  usable_same : (free other : List (List Lit)) (hints : List ℕ) → 0 < length hints → All (NamesSame first second f) hints → usable second other (map f hints) ≡ usable first free hints
  usable_same free other [] some all = absurd (omega arith)
  usable_same free other (hint ∷ hints) some all = named_same first second f (hint ∷ hints) all

  -- a step with hints passes with its new hints exactly where it passes
  pub renamed_passes : (free other : List (List Lit)) (step : Step) → HasHint step → All (NamesSame first second f) step.hints
      → StepPasses edges kinds first free step → StepPasses edges kinds second other (with_hints f step)
  renamed_passes free other step some all passes = record {
    hints = all_still_within first second f step.hints all;
    passes = subst (PassesBy step.clause) (sym (usable_same free other step.hints some all)) passes.passes;
  }

  pub passes_renamed : (free other : List (List Lit)) (step : Step) → HasHint step → All (NamesSame first second f) step.hints
      → StepPasses edges kinds second other (with_hints f step) → StepPasses edges kinds first free step
  passes_renamed free other step some all passes = record {
    hints = all_within first second f step.hints all;
    passes = subst (PassesBy step.clause) (usable_same free other step.hints some all) passes.passes;
  }

  -- what a step with hints uses
  pub usable_named : (free : List (List Lit)) (hints : List ℕ) → 0 < length hints → usable first free hints ≡ named first hints
  usable_named free [] some = absurd (omega arith)
  usable_named free (hint ∷ hints) some = refl

-- and in a list without others
pub hinted_named : (earlier : List (List Lit)) (hints : List ℕ) → 0 < length hints → usable earlier earlier hints ≡ named earlier hints
hinted_named earlier [] some = absurd (omega arith)
hinted_named earlier (hint ∷ hints) some = refl

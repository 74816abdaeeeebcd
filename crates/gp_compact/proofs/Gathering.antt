-- A step that moves passes in the shared list where it passes in its certificate, and the reverse.
use Rattle.std.proofs.Common.{◌≡◌, refl, ap, sym, ◌∙◌, subst, ℕ, ◌+◌, ◌-◌, ◌<◌, ◌≤◌, Bool, true, false, nat_lt, List, [], ◌++◌, Option, Some, None, length, map, All, is_some, arith}
use Rattle.std.specs.List.{list_all, slice_get}
use Rattle.std.proofs.lemmas.Bool.{false≢true}
use Rattle.std.proofs.lemmas.List.{append-nil, length-append, length-map}
use Rattle.std.proofs.lemmas.List.Elements.{All-append, All-contains, All-weaker}
use Rattle.gp_clause.specs.declared.edge.Edge.{Edge}
use Rattle.gp_clause.specs.declared.kind.Kind.{Kind}
use Rattle.gp_clause.specs.declared.lit.Lit.{Lit}
use Rattle.gp_clause.specs.Clause.{NamesBelow}
use Rattle.gp_certificate.specs.declared.step.Step.{Step}
use Rattle.gp_certificate.specs.Certificate.{StepChecks, StepsCheck, clauses_of, StepPasses}
use Rattle.gp_base.specs.ListLaws.{contains_got}
use Rattle.gp_certificate.specs.CheckingLaws.{steps_within}
use Rattle.gp_certificate.specs.NamedLaws.{named_all}
use Rattle.gp_certificate.specs.Step.{Passes, named}
use Rattle.gp_sharing.specs.declared.sizes.Sizes.{Sizes}
use Rattle.gp_sharing.specs.Moving.{first_own, moved_step, moves, names_shared, place_at, shared_number}
use Rattle.gp_compact.proofs.Alike.{passes_bare}
use Rattle.gp_sharing.specs.FoundLaws.{both, each_passes, is_less, is_not_less}
use Rattle.gp_compact.proofs.Renamed.{HasHint, NamesSame, all_still_within, hinted_named, named_same, usable_named}
use Rattle.gp_sharing.specs.GrownLaws.{BeginsWith}
use Rattle.gp_compact.proofs.Sized.{IsSized, front_over, front_same, own_follow, own_named, shared_named}

-- the clauses at the places of own steps are the clauses of those steps
abbrev pub ArePlaced : List Step → List (Option ℕ) → List (List Lit) → Type 0
ArePlaced list places own =
    (k place : ℕ) → place_at places k ≡ Some place → (place < length list) × (k < length own) × (slice_get (clauses_of list) place ≡ slice_get own k)

module _ (kinds : List Kind) (base : List (List Lit)) (old : List Step) (sizes : Sizes) (is : IsSized kinds base old sizes)
    (list : List Step) (begins : BeginsWith old list) (places : List (Option ℕ)) (own rest : List (List Lit)) (placed : ArePlaced list places own) where
  number_before : (hint : ℕ) → nat_lt hint (first_own sizes) ≡ true → shared_number sizes places hint ≡ hint
  number_before hint before = rw before refl

  number_after : (hint place : ℕ) → nat_lt hint (first_own sizes) ≡ false → place_at places (hint - first_own sizes) ≡ Some place → shared_number sizes places hint ≡ sizes.clauses + place
  number_after hint place after at = rw (after, at) refl

  -- a hint that names what is shared names it by its number there
  pub shared_same : (hint : ℕ) → names_shared sizes places hint ≡ true
      → NamesSame (base ++ clauses_of old ++ own) (base ++ clauses_of list ++ rest) (shared_number sizes places) hint
  shared_same hint names = by (nat_lt hint (first_own sizes)) refl
    where
      Names : Type 0
      Names = NamesSame (base ++ clauses_of old ++ own) (base ++ clauses_of list ++ rest) (shared_number sizes places) hint

      size : length (base ++ clauses_of old ++ own) ≡ first_own sizes + length own
      size = length-append (base ++ clauses_of old) own ∙ ap (λ (n : ℕ). n + length own) (own_follow kinds base old sizes is)

      of : (o : Option ℕ) → nat_lt hint (first_own sizes) ≡ false → place_at places (hint - first_own sizes) ≡ o → is_some o ≡ true → Names
      of None after at some = absurd (false≢true some)
      of (Some place) after at some =
          let past : first_own sizes ≤ hint = is_not_less hint (first_own sizes) after in
          let here = placed (hint - first_own sizes) place at in
          record {
            within = omega (arith, size, past, here.1);
            same = ap (λ (n : ℕ). slice_get (base ++ clauses_of list ++ rest) n) (number_after hint place after at)
                ∙ shared_named kinds base old sizes is list rest place here.0 ∙ here.2 ∙ sym (own_named kinds base old sizes is own hint past);
          }

      by : (b : Bool) → nat_lt hint (first_own sizes) ≡ b → Names
      by true before =
          let below : hint < first_own sizes = is_less hint (first_own sizes) before in
          record {
            within = omega (arith, size, below);
            same = ap (λ (n : ℕ). slice_get (base ++ clauses_of list ++ rest) n) (number_before hint before)
                ∙ front_over kinds base old sizes is list begins rest hint below ∙ sym (front_same kinds base old sizes is own hint below);
          }
      by false after = of (place_at places (hint - first_own sizes)) after refl (rw after at names)

  -- and so do all hints of a step that moves
  pub moved_same : (step : Step) → moves sizes places step ≡ true
      → All (NamesSame (base ++ clauses_of old ++ own) (base ++ clauses_of list ++ rest) (shared_number sizes places)) step.hints
  moved_same step moved =
      All-weaker (λ hint. names_shared sizes places hint ≡ true) (NamesSame (base ++ clauses_of old ++ own) (base ++ clauses_of list ++ rest) (shared_number sizes places)) shared_same
      step.hints (each_passes (names_shared sizes places) step.hints (both (list_all (λ (lit : Lit). nat_lt lit.variable sizes.variables) step.clause) (list_all (names_shared sizes places) step.hints) moved).1)

  -- its clause has base variables
  pub moved_below : (step : Step) → moves sizes places step ≡ true → NamesBelow (length kinds) step.clause
  moved_below step moved =
      All-weaker (λ (lit : Lit). nat_lt lit.variable sizes.variables ≡ true) (λ (lit : Lit). lit.variable < length kinds)
      (λ lit h. let below : lit.variable < sizes.variables = is_less lit.variable sizes.variables h in omega (arith, below, is.variables))
      step.clause (each_passes (λ (lit : Lit). nat_lt lit.variable sizes.variables) step.clause (both (list_all (λ (lit : Lit). nat_lt lit.variable sizes.variables) step.clause) (list_all (names_shared sizes places) step.hints) moved).0)

-- what hints name of clauses with base variables has base variables
pub named_below : (n : ℕ) (clauses : List (List Lit)) (hints : List ℕ) → All (NamesBelow n) clauses → All (NamesBelow n) (named clauses hints)
named_below n clauses hints below =
    named_all (NamesBelow n) clauses hints (λ hint clause within got. All-contains (NamesBelow n) clauses clause below (contains_got clauses hint clause got))

pub map_length : (f : ℕ → ℕ) (hints : List ℕ) → 0 < length hints → 0 < length (map f hints)
map_length f hints some = omega (arith, length-map hints f)

module _ (edges : List Edge) (kinds locals : List Kind) (base : List (List Lit)) (old : List Step) (sizes : Sizes) (is : IsSized kinds base old sizes) where
  abbrev ByKinds : List Kind → List Lit → List (List Lit) → Type 0
  ByKinds ks clause clauses = Passes edges ks clauses clause

  -- a step that passes in its certificate, moved to the end of a list that checks, checks there
  pub moved_checks : (list : List Step) → BeginsWith old list → (places : List (Option ℕ)) (own free : List (List Lit)) → ArePlaced list places own → (step : Step) → HasHint step
      → moves sizes places step ≡ true → StepsCheck edges kinds base list → StepPasses edges (kinds ++ locals) (base ++ clauses_of old ++ own) free step
      → StepChecks edges kinds (base ++ clauses_of list) (moved_step sizes places step)
  moved_checks list begins places own free placed step some moved checks passes =
      let first = base ++ clauses_of old ++ own in
      let second = base ++ clauses_of list in
      let f = shared_number sizes places in
      let alone : base ++ clauses_of list ++ [] ≡ second = append-nil second in
      let names : All (NamesSame first second f) step.hints =
      subst (λ (cs : List (List Lit)). All (NamesSame first cs f) step.hints) alone (moved_same kinds base old sizes is list begins places own [] placed step moved) in
      let by_names : Passes edges (kinds ++ locals) (named first step.hints) step.clause =
      subst (ByKinds (kinds ++ locals) step.clause) (usable_named edges (kinds ++ locals) first second f free step.hints some) passes.passes in
      let renamed : Passes edges (kinds ++ locals) (named second (map f step.hints)) step.clause =
      subst (ByKinds (kinds ++ locals) step.clause) (sym (named_same first second f step.hints names)) by_names in
      let below : All (NamesBelow (length kinds)) second = All-append (NamesBelow (length kinds)) base (clauses_of list) is.below (steps_within edges kinds (λ clauses. clauses) (λ clauses. clauses) base list checks) in
      let bare : Passes edges kinds (named second (map f step.hints)) step.clause =
      passes_bare edges kinds locals (named second (map f step.hints)) step.clause (named_below (length kinds) second (map f step.hints) below) (moved_below kinds base old sizes is list begins places own [] placed step moved) renamed in
      record {
        hints = all_still_within first second f step.hints names;
        passes = subst (ByKinds kinds step.clause) (sym (hinted_named second (map f step.hints) (map_length f step.hints some))) bare;
      }

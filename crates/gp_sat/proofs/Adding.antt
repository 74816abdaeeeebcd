-- One more literal at the end of the trail.
use Rattle.std.proofs.Common.{◌≡◌, refl, sym, ◌∙◌, ap, subst, ℕ, ◌+◌, ◌<◌, ◌≤◌, Option, Some, None, List, [], ◌∷◌, ◌++◌, length, get_or, inl, inr, arith}
use Rattle.std.specs.Prelude.{slice_set}
use Rattle.std.proofs.lemmas.List.{length-set, length_push, get_or_push, get_or_append_left}
use Rattle.std.proofs.lemmas.Bool.{cases_eq, cases_lt}
use Rattle.gp_clause.specs.declared.lit.Lit.{Lit}
use Rattle.gp_sat.specs.declared.assigned.Assigned.{Assigned}
use Rattle.gp_sat.specs.Stored.{Stored}
use Rattle.gp_sat.specs.State.{SolverForm, assigned, clause_at, IsAttached, with_literal}
use Rattle.gp_sat.specs.Standing.{IsFalse, IsFalseTo, IsFalseBefore, IsFreeTo, IsQuiet, IsClosed, IsForcing}
use Rattle.gp_sat.specs.Sound.{IsOrdered, IsExplained, IsSound, true_lit}
use Rattle.gp_sat.specs.Changes.{MayAdd, Propagates}
use Rattle.gp_sat.specs.Looking.{IsUnit}
use Rattle.gp_sat.specs.SolverLaws.{attached_within, added_stays, added, adds_literal, Adds, added_cases}

place_is : {a b : Assigned} → a ≡ b → a.place ≡ b.place
place_is e = ap (λ (x : Assigned). x.place) e

level_is : {a b : Assigned} → a ≡ b → a.level ≡ b.level
level_is e = ap (λ (x : Assigned). x.level) e

-- the trail is in order with the literal at its end
pub ordered_more : (f g : ℕ → Option Assigned) (trail : List Lit) (lit : Lit) (new : Assigned) (level : ℕ) → Adds f g lit.variable new
    → new.positive ≡ lit.positive → new.place ≡ length trail → level ≤ new.level → new.level ≤ level + 1
    → IsOrdered f trail level → IsOrdered g (trail ++ lit ∷ []) new.level
ordered_more f g trail lit new level adds sign place above few old = record {
  within = λ v a is. elim (added_cases adds v a is) [
    | inl here ↦ omega (arith, longer, place, place_is here.1)
    | inr was ↦ omega (arith, longer, old.within v a was)
  ];
  on_trail = λ v a d is. elim (added_cases adds v a is) [
    | inl here ↦ get_or_push trail lit d a.place (sym (place_is here.1 ∙ place)) ∙ lit_is v a here.0 here.1
    | inr was ↦ get_or_append_left trail (lit ∷ []) d a.place (old.within v a was) ∙ old.on_trail v a d was
  ];
  off_trail = λ p d below. elim (cases_lt p (length trail)) [
    | inl before ↦
        let is : get_or (trail ++ lit ∷ []) p d ≡ get_or trail p d = get_or_append_left trail (lit ∷ []) d p before in
        let was : (a : Assigned) × (f (get_or trail p d).variable ≡ Some a) × (a.place ≡ p) = old.off_trail p d before in
        (was.0, ap (λ (l : Lit). g l.variable) is ∙ added_stays adds _ was.0 was.1, was.2)
    | inr past ↦
        let last : length trail ≡ p = omega (arith, longer, below, past) in
        (new, ap (λ (l : Lit). g l.variable) (get_or_push trail lit d p last) ∙ adds.here, place ∙ last)
  ];
  rising = λ v w a b va wb before. elim (added_cases adds v a va) [
    | inl here ↦ elim (added_cases adds w b wb) [
      | inl there ↦ absurd (omega (arith, before, place_is here.1, place_is there.1))
      | inr old_b ↦ absurd (omega (arith, before, place_is here.1, place, old.within w b old_b))
    ]
    | inr old_a ↦ elim (added_cases adds w b wb) [
      | inl there ↦ omega (arith, (old.present v a old_a).0, above, level_is there.1)
      | inr old_b ↦ old.rising v w a b old_a old_b before
    ]
  ];
  present = λ v a is. elim (added_cases adds v a is) [
    | inl here ↦ (omega (arith, level_is here.1), omega (arith, level_is here.1, place_is here.1, place, few, old.few))
    | inr was ↦ (omega (arith, (old.present v a was).0, above), (old.present v a was).1)
  ];
  few = omega (arith, longer, few, old.few);
}
  where
    longer : length (trail ++ lit ∷ []) ≡ length trail + 1
    longer = length_push trail lit

    lit_is : (v : ℕ) (a : Assigned) → v ≡ lit.variable → a ≡ new → lit ≡ true_lit v a
    lit_is v a same is = λ i. record { variable = (sym same) i; positive = (sym (ap (λ (x : Assigned). x.positive) is ∙ sign)) i }

-- a clause that forces a literal goes on forcing it
pub forcing_more : (f g : ℕ → Option Assigned) (clause : List Lit) (lit : Lit) (place : ℕ) → ((v : ℕ) (a : Assigned) → f v ≡ Some a → g v ≡ Some a)
    → IsForcing f clause lit place → IsForcing g clause lit place
forcing_more f g clause lit place stays old = record {
  within = old.within;
  others = λ other is apart. let was : IsFalseBefore place f other = old.others other is apart in (was.0, stays other.variable was.0 was.1, was.2, was.3);
}

-- each assignment keeps its reason, and the new one has one
pub explained_more : (f g : ℕ → Option Assigned) (clauses : List Stored) (lit : Lit) (new : Assigned) → Adds f g lit.variable new
    → new.positive ≡ lit.positive
    → ((v : ℕ) (a : Assigned) → f v ≡ Some a → a.place < new.place)
    → (new.reason ≡ None → (0 < new.level) × ((v : ℕ) (a : Assigned) → f v ≡ Some a → a.level < new.level))
    → ((number : ℕ) → new.reason ≡ Some number → (number < length clauses) × IsForcing f (clause_at clauses number) lit new.place)
    → IsExplained f clauses → IsExplained g clauses
explained_more f g clauses lit new adds sign places decided forced old = record {
  first = λ v a is none. elim (added_cases adds v a is) [
    | inl here ↦
        let begins : (0 < new.level) × ((v : ℕ) (a : Assigned) → f v ≡ Some a → a.level < new.level) = decided (sym (reason_is here.1) ∙ none) in (
          omega (arith, begins.0, level_is here.1),
          λ w b wb before. elim (added_cases adds w b wb) [
            | inl there ↦ absurd (omega (arith, before, place_is here.1, place_is there.1))
            | inr was ↦ omega (arith, begins.1 w b was, level_is here.1)
          ],
        )
    | inr was ↦ (
      (old.first v a was none).0,
      λ w b wb before. elim (added_cases adds w b wb) [
        | inl there ↦ absurd (omega (arith, before, places v a was, place_is there.1))
        | inr old_b ↦ (old.first v a was none).1 w b old_b before
      ],
    )
  ];
  forced = λ v a number is reason. elim (added_cases adds v a is) [
    | inl here ↦
        let why : (number < length clauses) × IsForcing f (clause_at clauses number) lit new.place = forced number (sym (reason_is here.1) ∙ reason) in
        let more : IsForcing g (clause_at clauses number) lit new.place = forcing_more f g (clause_at clauses number) lit new.place (added_stays adds) why.1 in (
          why.0,
          subst (λ (p : ℕ). IsForcing g (clause_at clauses number) (true_lit v a) p) (sym (place_is here.1))
              (subst (λ (l : Lit). IsForcing g (clause_at clauses number) l new.place) (lit_is v a here.0 here.1) more),
        )
    | inr was ↦ let why : (number < length clauses) × IsForcing f (clause_at clauses number) (true_lit v a) a.place = old.forced v a number was reason in
        (why.0, forcing_more f g (clause_at clauses number) (true_lit v a) a.place (added_stays adds) why.1)
  ];
}
  where
    reason_is : {a b : Assigned} → a ≡ b → a.reason ≡ b.reason
    reason_is e = ap (λ (x : Assigned). x.reason) e

    lit_is : (v : ℕ) (a : Assigned) → v ≡ lit.variable → a ≡ new → lit ≡ true_lit v a
    lit_is v a same is = λ i. record { variable = (sym same) i; positive = (sym (ap (λ (x : Assigned). x.positive) is ∙ sign)) i }

-- a clause is as quiet at a level where the assignments up to it are the same
pub quiet_same : (f g : ℕ → Option Assigned) (level : ℕ) (clause : List Lit)
    → ((v : ℕ) (a : Assigned) → f v ≡ Some a → a.level ≤ level → g v ≡ Some a)
    → ((v : ℕ) (a : Assigned) → g v ≡ Some a → a.level ≤ level → f v ≡ Some a)
    → IsQuiet level f clause → IsQuiet level g clause
quiet_same f g level clause there back quiet = record {
  not_false = λ all. quiet.not_false (λ lit is. false_back lit (all lit is));
  not_unit = λ lit is free others. quiet.not_unit lit is (free_back lit free) (λ other among apart. false_back other (others other among apart));
}
  where
    false_back : (lit : Lit) → IsFalseTo level g lit → IsFalseTo level f lit
    false_back lit (a, is, sign, low) = (a, back lit.variable a is low, sign, low)

    free_back : (lit : Lit) → IsFreeTo level g lit → IsFreeTo level f lit
    free_back lit free = λ a is. elim (cases_lt level a.level) [
      | inl above ↦ above
      | inr low ↦ free a (there lit.variable a is low)
    ]

-- a solver stays sound with one more literal
pub sound_more : (s : SolverForm) (lit : Lit) (level : ℕ) (reason : Option ℕ) → MayAdd s lit level reason → IsSound s → IsSound (with_literal s lit level reason)
sound_more s lit level reason may old =
    let adds : Adds (assigned s) (assigned (with_literal s lit level reason)) lit.variable (added s lit level reason) = adds_literal s lit level reason may.within may.free in
    record {
      ordered = ordered_more (assigned s) (assigned (with_literal s lit level reason)) s.trail lit (added s lit level reason) s.level adds refl refl may.above may.few old.ordered;
      explained = explained_more (assigned s) (assigned (with_literal s lit level reason)) s.clauses lit (added s lit level reason) adds refl old.ordered.within
          (λ none. (omega (arith, may.decided none), λ v a is. omega (arith, may.decided none, (old.ordered.present v a is).0))) may.forced old.explained;
      closed = λ low below number attached. quiet_same (assigned s) (assigned (with_literal s lit level reason)) low (clause_at s.clauses number)
          (λ v a is _. added_stays adds v a is)
          (λ v a is small. elim (added_cases adds v a is) [ inl here ↦ absurd (omega (arith, small, below, level_is here.1)) | inr was ↦ was ])
          (may.closed low below number attached);
      named = λ number other is. omega (arith, old.named number other is, length-set s.values lit.variable (Some (added s lit level reason)));
      small = (omega (arith, old.small.0, length-set s.values lit.variable (Some (added s lit level reason))), old.small.1);
    }

-- a literal that is written at the end of the trail is added
pub laid_is : (s : SolverForm) (lit : Lit) (level : ℕ) (reason : Option ℕ) (place : ℕ) (values : List (Option Assigned)) (trail : List Lit) → place ≡ length s.trail
    → values ≡ slice_set s.values lit.variable (Some (record { positive = lit.positive; level = level; place = place; reason = reason })) → trail ≡ s.trail ++ lit ∷ []
    → record s { values = values; trail = trail; level = level } ≡ with_literal s lit level reason
laid_is s lit level reason place values trail at_end written longer =
    let there : values ≡ slice_set s.values lit.variable (Some (added s lit level reason)) = written ∙ ap (λ (n : ℕ). slice_set s.values lit.variable (Some (record { positive = lit.positive; level = level; place = n; reason = reason }))) at_end in
    λ i. record s { values = there i; trail = longer i; level = level }

-- a decision may be added at the next level
pub may_decide : (s : SolverForm) (lit : Lit) (level : ℕ) → level ≡ s.level + 1 → lit.variable < length s.values → assigned s lit.variable ≡ None → IsClosed s s.level → IsSound s
    → MayAdd s lit level None
may_decide s lit level next within free closed sound = record {
  within = within;
  free = free;
  above = omega (arith, next);
  few = omega (arith, next);
  decided = λ _. omega (arith, next);
  forced = λ number none. let clash : ⊥ = cc in absurd clash;
  closed = λ low below. elim (cases_eq low s.level) [
    | inl same ↦ subst (λ (n : ℕ). IsClosed s n) (sym same) closed
    | inr differ ↦ sound.closed low (omega (arith, below, next, differ))
  ];
}

-- the last literal of a unit clause may be added at the present level
pub may_force : (s : SolverForm) (lit : Lit) (number level : ℕ) → level ≡ s.level → lit.variable < length s.values → IsAttached s.clauses number
    → IsUnit (assigned s) (clause_at s.clauses number) lit → IsSound s → MayAdd s lit level (Some number)
may_force s lit number level present within attached unit sound = record {
  within = within;
  free = unit.free;
  above = omega (arith, present);
  few = omega (arith, present);
  decided = λ none. let clash : ⊥ = cc in absurd clash;
  forced = λ n is. subst (λ (m : ℕ). (m < length s.clauses) × IsForcing (assigned s) (clause_at s.clauses m) lit (length s.trail)) (let e : number ≡ n = cc in e) (attached_within s.clauses number attached, forcing);
  closed = λ low below. sound.closed low (omega (arith, below, present));
}
  where
    forcing : IsForcing (assigned s) (clause_at s.clauses number) lit (length s.trail)
    forcing = record {
      within = unit.within;
      others = λ other is apart. let was : IsFalse (assigned s) other = unit.others other is apart in (was.0, was.1, was.2, sound.ordered.within other.variable was.0 was.1);
    }

-- so one literal is propagated
pub propagates_one : (s : SolverForm) (lit : Lit) (number level : ℕ) → level ≡ s.level → IsAttached s.clauses number → MayAdd s lit level (Some number) → IsSound s
    → Propagates s (with_literal s lit level (Some number))
propagates_one s lit number level present attached may sound =
    let new : SolverForm = with_literal s lit level (Some number) in
    let adds : Adds (assigned s) (assigned new) lit.variable (added s lit level (Some number)) = adds_literal s lit level (Some number) may.within may.free in
    let after : IsSound new = sound_more s lit level (Some number) may sound in
    record {
      level = present;
      clauses = refl;
      order = refl;
      used = refl;
      variables = length-set s.values lit.variable (Some (added s lit level (Some number)));
      added = (lit ∷ [], refl);
      stays = added_stays adds;
      forced = λ v a is. elim (added_cases adds v a is) [
        | inl here ↦
            let why : a.reason ≡ Some number = ap (λ (x : Assigned). x.reason) here.1 in
            inr (record {
              later = omega (arith, place_is here.1);
              present = level_is here.1;
              number = number;
              reason = why;
              attached = attached;
              forcing = (after.explained.forced v a number is why).1;
            })
        | inr was ↦ inl was
      ];
    }

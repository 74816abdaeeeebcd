-- Propagation step by step.
use Rattle.std.proofs.Common.{◌≡◌, refl, sym, ◌∙◌, ap, subst, ℕ, ◌+◌, ◌≤◌, false, Option, Some, None, List, [], ◌∷◌, ◌++◌, length, get_or, ◌⊎◌, inl, inr, arith}
use Rattle.std.proofs.lemmas.List.{length-append, append-nil, append_assoc, ext_get_or}
use Rattle.gp_clause.specs.declared.lit.Lit.{Lit}
use Rattle.gp_sat.specs.declared.assigned.Assigned.{Assigned}
use Rattle.gp_sat.specs.Stored.{Stored}
use Rattle.gp_sat.specs.State.{SolverForm, assigned, clause_at, IsAttached}
use Rattle.gp_sat.specs.Standing.{IsForcing, IsFalseBefore, IsClosed}
use Rattle.gp_sat.specs.Sound.{IsSound, true_lit}
use Rattle.gp_sat.specs.Changes.{Propagates, IsForced}
use Rattle.gp_sat.proofs.Adding.{forcing_more}

-- nothing is propagated
pub propagates_none : (s : SolverForm) → Propagates s s
propagates_none s = record {
  level = refl;
  clauses = refl;
  order = refl;
  used = refl;
  variables = refl;
  added = ([], sym (append-nil s.trail));
  stays = λ v a is. is;
  forced = λ v a is. inl is;
}

-- the trail does not get shorter
pub longer : (old new : SolverForm) → Propagates old new → length old.trail ≤ length new.trail
longer old new moved = omega (arith, ap (λ (lits : List Lit). length lits) moved.added.1, length-append old.trail moved.added.0)

-- what was forced stays forced
still_forced : (old mid new : SolverForm) (v : ℕ) (a : Assigned) → Propagates mid new → IsForced old mid v a → IsForced old new v a
still_forced old mid new v a moved forced = record {
  later = forced.later;
  present = forced.present ∙ sym moved.level;
  number = forced.number;
  reason = forced.reason;
  attached = subst (λ (clauses : List Stored). IsAttached clauses forced.number) (sym moved.clauses) forced.attached;
  forcing = subst (λ (clauses : List Stored). IsForcing (assigned new) (clause_at clauses forced.number) (true_lit v a) a.place) (sym moved.clauses)
      (forcing_more (assigned mid) (assigned new) (clause_at mid.clauses forced.number) (true_lit v a) a.place moved.stays forced.forcing);
}

-- one propagation after another
pub propagates_more : (old mid new : SolverForm) → Propagates old mid → Propagates mid new → Propagates old new
propagates_more old mid new first second = record {
  level = second.level ∙ first.level;
  clauses = second.clauses ∙ first.clauses;
  order = second.order ∙ first.order;
  used = second.used ∙ first.used;
  variables = second.variables ∙ first.variables;
  added = (first.added.0 ++ second.added.0, second.added.1 ∙ ap (λ (lits : List Lit). lits ++ second.added.0) first.added.1 ∙ append_assoc old.trail first.added.0 second.added.0);
  stays = λ v a is. second.stays v a (first.stays v a is);
  forced = λ v a is. elim (second.forced v a is) [
    | inl before ↦ elim (first.forced v a before) [
      | inl start ↦ inl start
      | inr forced ↦ inr (still_forced old mid new v a second forced)
    ]
    | inr forced ↦ inr (record {
      later = omega (arith, forced.later, longer old mid first);
      present = forced.present;
      number = forced.number;
      reason = forced.reason;
      attached = forced.attached;
      forcing = forced.forcing;
    })
  ];
}

-- where the trail is closed, nothing is propagated
pub closed_adds_none : (s t : SolverForm) → IsSound s → IsSound t → IsClosed s s.level → Propagates s t → t ≡ s
closed_adds_none s t sound sound_then closed moved = at moved.added.0 moved.added.1
  where
    d : Lit
    d = record { variable = 0; positive = false }

    same_assigned : length t.trail ≡ length s.trail → (v : ℕ) (a : Assigned) → assigned t v ≡ Some a → assigned s v ≡ Some a
    same_assigned size v a is = elim (moved.forced v a is) [
      | inl was ↦ was
      | inr forced ↦ absurd (omega (arith, forced.later, size, sound_then.ordered.within v a is))
    ]

    at : (lits : List Lit) → t.trail ≡ s.trail ++ lits → t ≡ s
    at [] is =
        let trail : t.trail ≡ s.trail = is ∙ append-nil s.trail in
        let values : t.values ≡ s.values = ext_get_or None t.values s.values moved.variables (λ v below. same_value v (assigned t v) refl (ap (λ (ts : List Lit). length ts) trail)) in
        λ i. record { values = values i; trail = trail i; clauses = moved.clauses i; level = moved.level i; order = moved.order i; used = moved.used i }
      where
        same_value : (v : ℕ) (value : Option Assigned) → assigned t v ≡ value → length t.trail ≡ length s.trail → assigned t v ≡ assigned s v
        same_value v (Some a) is_some size = is_some ∙ sym (same_assigned size v a is_some)
        same_value v None is_none size = none (assigned s v) refl
          where
            none : (value : Option Assigned) → assigned s v ≡ value → assigned t v ≡ assigned s v
            none None free = is_none ∙ sym free
            none (Some a) some = let stays : assigned t v ≡ Some a = moved.stays v a some in let clash : ⊥ = cc in absurd clash
    at (lit ∷ lits) is =
        let size : length t.trail ≡ length s.trail + length (lit ∷ lits) = ap (λ (ts : List Lit). length ts) is ∙ length-append s.trail (lit ∷ lits) in
        let first : (a : Assigned) × (assigned t (get_or t.trail (length s.trail) d).variable ≡ Some a) × (a.place ≡ length s.trail) = sound_then.ordered.off_trail (length s.trail) d (omega (arith, size)) in
        absurd (clash (get_or t.trail (length s.trail) d).variable first.0 first.1 first.2 (moved.forced (get_or t.trail (length s.trail) d).variable first.0 first.1))
      where
        clash : (v : ℕ) (a : Assigned) → assigned t v ≡ Some a → a.place ≡ length s.trail → ((assigned s v ≡ Some a) ⊎ IsForced s t v a) → ⊥
        clash v a there place (inl was) = omega (arith, sound.ordered.within v a was, place)
        clash v a there place (inr forced) =
            let attached : IsAttached s.clauses forced.number = subst (λ (cs : List Stored). IsAttached cs forced.number) moved.clauses forced.attached in
            let forcing : IsForcing (assigned t) (clause_at s.clauses forced.number) (true_lit v a) a.place = subst (λ (cs : List Stored). IsForcing (assigned t) (clause_at cs forced.number) (true_lit v a) a.place) moved.clauses forced.forcing in
            (closed forced.number attached).not_unit (true_lit v a) forcing.within
            (λ b is_b. absurd (omega (arith, sound.ordered.within v b is_b, place, ap (λ (x : Assigned). x.place) (one_value v a b there (moved.stays v b is_b)))))
            (λ other among apart.
            let fell : IsFalseBefore a.place (assigned t) other = forcing.others other among apart in
            elim (moved.forced other.variable fell.0 fell.1) [
              | inl was ↦ (fell.0, was, fell.2, (sound.ordered.present other.variable fell.0 was).0)
              | inr new ↦ absurd (omega (arith, new.later, fell.3, place))
            ])
          where
            one_value : (w : ℕ) (x y : Assigned) → assigned t w ≡ Some x → assigned t w ≡ Some y → x ≡ y
            one_value w x y p q = cc

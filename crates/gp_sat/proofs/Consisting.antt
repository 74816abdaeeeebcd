-- What holds of the parts of a solver goes on holding.
use Rattle.std.proofs.Common.{◌≡◌, ◌≢◌, refl, sym, ◌∙◌, ap, subst, ℕ, ◌+◌, ◌-◌, ◌<◌, ◌≤◌, false, Option, Some, None, List, [], ◌∷◌, ◌++◌, length, get_or, take, drop, map, MatchOption, IfSome, ◌⊎◌, inl, inr, arith}
use Rattle.std.specs.Prelude.{Contains, slice_set, slice_get, replicate}
use Rattle.std.proofs.lemmas.Bool.{cases_eq, cases_lt}
use Rattle.std.proofs.lemmas.List.{length-set, length_push, length-map, length-take-le, get_or-take, get_or_push, get_or_append_left, length-replicate, length-append, append_assoc, append-nil, take-append-drop}
use Rattle.std.proofs.lemmas.List.FromFn.{length-range_with_len, get_or-range_with_len}
use Rattle.std.proofs.lemmas.List.Elements.{Contains-push_cases, Contains-append_right}
use Rattle.std.proofs.lemmas.List.Sorted.{Contains-permutation, IsPermutation-sym}
use Rattle.gp_clause.specs.declared.lit.Lit.{Lit}
use Rattle.gp_queue.specs.Order.{IsOrder, numbers_between}
use Rattle.gp_sat.specs.declared.assigned.Assigned.{Assigned}
use Rattle.gp_sat.specs.Stored.{Stored}
use Rattle.gp_sat.specs.State.{SolverForm, assigned, clause_at, kept_to, with_literal, cleared}
use Rattle.gp_sat.specs.Sound.{IsSound, true_lit}
use Rattle.gp_sat.specs.Standing.{Each}
use Rattle.gp_sat.specs.Changes.{MayAdd, Backjumps, IsUpTo}
use Rattle.gp_sat.specs.Levels.{IsEndOf}
use Rattle.gp_sat.specs.Deciding.{IsPassed, IsPlaced, IsNextFree, IsFull}
use Rattle.gp_sat.specs.Consistent.{IsConsistent}
use Rattle.gp_sat.proofs.Adding.{sound_more, laid_is}
use Rattle.gp_sat.proofs.Cutting.{Cuts, cuts_at, kept_all, sound_cut, front_low, rest_high}
use Rattle.gp_sat.proofs.Storing.{sound_empty, all_unassigned}
use Rattle.gp_sat.specs.SolverLaws.{Adds, added, added_cases, added_stays, adds_literal, kept_was, kept_stays, free_at, room_left, within_values}
use Rattle.gp_base.specs.ListLaws.{here, nothing_in}

-- the front of the order is a place in it
pub placed_front : (values : ℕ → Option Assigned) (used : ℕ) (order : List ℕ) (place : Option ℕ) → place ≡ slice_get order 0 → IsPlaced values used order place
placed_front values used order place is = record {
  front = [];
  rest = order;
  parts = refl;
  there = is;
  passed = λ variable among. absurd (nothing_in variable among);
}

-- a place stays one while more is assigned
pub placed_more : (f g : ℕ → Option Assigned) (used : ℕ) (order : List ℕ) (place : Option ℕ) → ((v : ℕ) (a : Assigned) → f v ≡ Some a → g v ≡ Some a) → IsPlaced f used order place → IsPlaced g used order place
placed_more f g used order place stays old = record {
  front = old.front;
  rest = old.rest;
  parts = old.parts;
  there = old.there;
  passed = λ variable among. elim (old.passed variable among) [
    | inl unused ↦ inl unused
    | inr some ↦ inr (some.0, stays variable some.0 some.1)
  ];
}

-- at a place that is not the end its variable stands
placed_parts : (f : ℕ → Option Assigned) (used : ℕ) (order : List ℕ) (place : Option ℕ) (variable : ℕ) → place ≡ Some variable → (old : IsPlaced f used order place)
    → (back : List ℕ) × (order ≡ old.front ++ variable ∷ back)
placed_parts f used order place variable has old = at old.rest refl
  where
    at : (rest : List ℕ) → old.rest ≡ rest → (back : List ℕ) × (order ≡ old.front ++ variable ∷ back)
    at [] none =
        let gone : Some variable ≡ None = sym has ∙ old.there ∙ ap (λ (xs : List ℕ). slice_get xs 0) none in
        let clash : ⊥ = cc in absurd clash
    at (x ∷ back) some =
        let here : Some variable ≡ Some x = sym has ∙ old.there ∙ ap (λ (xs : List ℕ). slice_get xs 0) some in
        let same : variable ≡ x = cc in
        (back, old.parts ∙ ap (λ (xs : List ℕ). old.front ++ xs) some ∙ ap (λ (y : ℕ). old.front ++ y ∷ back) (sym same))

-- the next place, where the variable at this one needs no decision
pub placed_next : (f : ℕ → Option Assigned) (used : ℕ) (order : List ℕ) (place : Option ℕ) (variable : ℕ) (next : Option ℕ) → place ≡ Some variable → (old : IsPlaced f used order place)
    → ((front back : List ℕ) → order ≡ front ++ variable ∷ back → next ≡ slice_get back 0)
    → IsPassed f used variable → (new : IsPlaced f used order next) × (length new.front ≡ length old.front + 1)
placed_next f used order place variable next has old after is =
    let parts = placed_parts f used order place variable has old in (
      record {
        front = old.front ++ variable ∷ [];
        rest = parts.0;
        parts = parts.1 ∙ sym (append_assoc old.front (variable ∷ []) parts.0);
        there = after old.front parts.0 parts.1;
        passed = λ v among. elim (Contains-push_cases old.front variable v among) [
          | inl before ↦ old.passed v before
          | inr last ↦ subst (λ (n : ℕ). IsPassed f used n) last is
        ];
      },
      length_push old.front variable,
    )

-- a place that is not the end has a variable
pub next_at : (s : SolverForm) (variable : ℕ) → IsPlaced (assigned s) s.used s.order (Some variable) → variable < s.used → assigned s variable ≡ None → IsNextFree s variable
next_at s variable placed within free =
    let parts = placed_parts (assigned s) s.used s.order (Some variable) variable refl placed in
    record { within = within; free = free; front = placed.front; back = parts.0; parts = parts.1; passed = placed.passed }

-- where a level ends goes on ending it with one more literal of a higher level
end_more : (f g : ℕ → Option Assigned) (variable : ℕ) (new : Assigned) (size level end : ℕ) → Adds f g variable new → new.place ≡ size → level < new.level → IsEndOf f size level end → IsEndOf g (size + 1) level end
end_more f g variable new size level end adds place above old = record {
  within = omega (arith, old.within);
  low = λ v a is before. elim (added_cases adds v a is) [
    | inl here ↦ absurd (omega (arith, before, old.within, place, ap (λ (x : Assigned). x.place) here.1))
    | inr was ↦ old.low v a was before
  ];
  high = λ v a is past. elim (added_cases adds v a is) [
    | inl here ↦ omega (arith, above, ap (λ (x : Assigned). x.level) here.1)
    | inr was ↦ old.high v a was past
  ];
}

-- one more literal at the present level, or one that begins the next
pub consistent_more : (s : SolverForm) (lit : Lit) (level : ℕ) (reason : Option ℕ) (starts more : List ℕ) (place : Option ℕ) (trail_room starts_room : ℕ)
    → ((level ≡ s.level) × (more ≡ starts)) ⊎ ((level ≡ s.level + 1) × (more ≡ starts ++ length s.trail ∷ [])) → MayAdd s lit level reason → IsConsistent s starts place trail_room starts_room
    → IsConsistent (with_literal s lit level reason) more place trail_room starts_room
consistent_more s lit level reason starts more place trail_room starts_room either may old = record {
  sound = sound_more s lit level reason may old.sound;
  starts_at = record {
    count = elim either [
      | inl same ↦ ap (λ (xs : List ℕ). length xs) same.1 ∙ old.starts_at.count ∙ sym same.0
      | inr next ↦ omega (arith, ap (λ (xs : List ℕ). length xs) next.1, length_push starts (length s.trail), old.starts_at.count, next.0)
    ];
    ends = λ l below. subst (λ (n : ℕ). IsEndOf g n l (get_or more l 0)) (sym (length_push s.trail lit)) (elim either [
      | inl same ↦ subst (λ (xs : List ℕ). IsEndOf g (length s.trail + 1) l (get_or xs l 0)) (sym same.1) (end_more f g lit.variable new (length s.trail) l (get_or starts l 0) adds refl below (old.starts_at.ends l (omega (arith, below, same.0))))
      | inr next ↦ subst (λ (xs : List ℕ). IsEndOf g (length s.trail + 1) l (get_or xs l 0)) (sym next.1) (elim (cases_eq l s.level) [
        | inl here ↦ subst (λ (n : ℕ). IsEndOf g (length s.trail + 1) l n) (sym (get_or_push starts (length s.trail) 0 l (old.starts_at.count ∙ sym here))) (record {
          within = omega arith;
          low = λ v a is before. elim (added_cases adds v a is) [
            | inl mine ↦ absurd (omega (arith, before, ap (λ (x : Assigned). x.place) mine.1))
            | inr was ↦ omega (arith, (old.sound.ordered.present v a was).0, here)
          ];
          high = λ v a is past. elim (added_cases adds v a is) [
            | inl mine ↦ omega (arith, next.0, here, ap (λ (x : Assigned). x.level) mine.1)
            | inr was ↦ absurd (omega (arith, past, old.sound.ordered.within v a was))
          ];
        })
        | inr differ ↦
            let inside : l < s.level = omega (arith, below, next.0, differ) in
            subst (λ (n : ℕ). IsEndOf g (length s.trail + 1) l n) (sym (get_or_append_left starts (length s.trail ∷ []) 0 l (omega (arith, inside, old.starts_at.count))))
            (end_more f g lit.variable new (length s.trail) l (get_or starts l 0) adds refl below (old.starts_at.ends l inside))
      ])
    ]);
  };
  placed = placed_more f g s.used s.order place (λ v a is. added_stays adds v a is) old.placed;
  ordered = old.ordered ∙ sym size;
  used_in = omega (arith, old.used_in, size);
  trail_has = omega (arith, old.trail_has, size);
  starts_has = omega (arith, old.starts_has, size);
}
  where
    new : Assigned
    new = added s lit level reason

    f : ℕ → Option Assigned
    f = assigned s

    g : ℕ → Option Assigned
    g = assigned (with_literal s lit level reason)

    adds : Adds f g lit.variable new
    adds = adds_literal s lit level reason may.within may.free

    size : length (slice_set s.values lit.variable (Some new)) ≡ length s.values
    size = length-set s.values lit.variable (Some new)

-- where the levels end that stay after a backjump
end_cut : (s : SolverForm) (f g : ℕ → Option Assigned) (size level end low at : ℕ) → ((p : ℕ) → p < size → (v : ℕ) × (a : Assigned) × (f v ≡ Some a) × (a.place ≡ p)) → Cuts f g level end → IsEndOf f size level end → low < level → IsEndOf f size low at → IsEndOf g end low at
end_cut s f g size level end low at there cuts ends below old = record {
  within = elim (cases_lt end at) [
    | inl past ↦
        let one : (v : ℕ) × (a : Assigned) × (f v ≡ Some a) × (a.place ≡ end) = there end (omega (arith, past, old.within)) in
        absurd (omega (arith, old.low one.0 one.1 one.2 (omega (arith, one.3, past)), ends.high one.0 one.1 one.2 (omega (arith, one.3)), below))
    | inr within ↦ within
  ];
  low = λ v a is before. old.low v a (cuts.was v a is).0 before;
  high = λ v a is past. old.high v a (cuts.was v a is).0 past;
}

-- a backjump
pub consistent_cut : (s : SolverForm) (level end : ℕ) (starts : List ℕ) (place next : Option ℕ) (trail_room starts_room : ℕ) → level ≤ s.level → IsEndOf (assigned s) (length s.trail) level end → next ≡ slice_get s.order 0 → IsConsistent s starts place trail_room starts_room
    → IsConsistent (record s { values = map (kept_to level) s.values; trail = take end s.trail; level = level }) (take level starts) next trail_room starts_room
consistent_cut s level end starts place next trail_room starts_room below ends front old = record {
  sound = sound_cut s level end below ends old.sound;
  starts_at = record {
    count = length-take-le level starts (omega (arith, old.starts_at.count, below));
    ends = λ l inside. subst (λ (n : ℕ). IsEndOf g n l (get_or (take level starts) l 0)) (sym (length-take-le end s.trail ends.within))
        (subst (λ (n : ℕ). IsEndOf g end l n) (sym (get_or-take level starts l 0 inside))
        (end_cut s (assigned s) g (length s.trail) level end l (get_or starts l 0) (λ p within. let one : (a : Assigned) × (assigned s (get_or s.trail p d).variable ≡ Some a) × (a.place ≡ p) = old.sound.ordered.off_trail p d within in ((get_or s.trail p d).variable, one.0, one.1, one.2))
        (cuts_at s.values (length s.trail) level end ends) ends inside (old.starts_at.ends l (omega (arith, inside, below)))));
  };
  placed = placed_front g s.used s.order next front;
  ordered = old.ordered ∙ sym size;
  used_in = omega (arith, old.used_in, size);
  trail_has = omega (arith, old.trail_has, size);
  starts_has = omega (arith, old.starts_has, size);
}
  where
    d : Lit
    d = record { variable = 0; positive = false }

    g : ℕ → Option Assigned
    g = λ v. get_or (map (kept_to level) s.values) v None

    size : length (map (kept_to level) s.values) ≡ length s.values
    size = length-map s.values (kept_to level)

-- what is written over the literals of the trail from a place on
pub record IsTakenBack (s : SolverForm) (end : ℕ) (values : List (Option Assigned)) : Type 0 where
  pub size : length values ≡ length s.values
  pub gone : (place : ℕ) (d : Lit) → end ≤ place → place < length s.trail → get_or values (get_or s.trail place d).variable None ≡ None
  pub kept : (v : ℕ) → ((place : ℕ) (d : Lit) → end ≤ place → place < length s.trail → (get_or s.trail place d).variable ≢ v) → get_or values v None ≡ get_or s.values v None

-- the same by the trail that was lent
pub taken_back : (s : SolverForm) (end : ℕ) (values : List (Option Assigned)) (trail : List Lit) → trail ≡ s.trail → length values ≡ length s.values
    → ((place : ℕ) (d : Lit) → end ≤ place → place < length trail → get_or values (get_or trail place d).variable None ≡ None)
    → ((v : ℕ) → ((place : ℕ) (d : Lit) → end ≤ place → place < length trail → (get_or trail place d).variable ≢ v) → get_or values v None ≡ get_or s.values v None)
    → IsTakenBack s end values
taken_back s end values trail trail_is size gone kept = record {
  size = size;
  gone = subst (λ (ts : List Lit). (place : ℕ) (d : Lit) → end ≤ place → place < length ts → get_or values (get_or ts place d).variable None ≡ None) trail_is gone;
  kept = subst (λ (ts : List Lit). (v : ℕ) → ((place : ℕ) (d : Lit) → end ≤ place → place < length ts → (get_or ts place d).variable ≢ v) → get_or values v None ≡ get_or s.values v None) trail_is kept;
}

-- what it leaves of one variable
taken_one : (s : SolverForm) (end : ℕ) (values : List (Option Assigned)) → IsSound s → IsTakenBack s end values → (v : ℕ)
    → ((assigned s v ≡ None) × (get_or values v None ≡ None)) ⊎ ((a : Assigned) × (assigned s v ≡ Some a) × ((end ≤ a.place) × (get_or values v None ≡ None) ⊎ ((a.place < end) × (get_or values v None ≡ Some a))))
taken_one s end values sound taken v = at (assigned s v) refl
  where
    -- the variable at a place of the trail is assigned there
    there : (place : ℕ) (d : Lit) → place < length s.trail → (get_or s.trail place d).variable ≡ v → (a : Assigned) × (assigned s v ≡ Some a) × (a.place ≡ place)
    there place d within same = let one : (a : Assigned) × (assigned s (get_or s.trail place d).variable ≡ Some a) × (a.place ≡ place) = sound.ordered.off_trail place d within in
        (one.0, ap (assigned s) (sym same) ∙ one.1, one.2)

    at : (value : Option Assigned) → assigned s v ≡ value → ((assigned s v ≡ None) × (get_or values v None ≡ None)) ⊎ ((a : Assigned) × (assigned s v ≡ Some a) × ((end ≤ a.place) × (get_or values v None ≡ None) ⊎ ((a.place < end) × (get_or values v None ≡ Some a))))
    at None free = inl (free, taken.kept v (λ place d from within same. let one : (a : Assigned) × (assigned s v ≡ Some a) × (a.place ≡ place) = there place d within same in let is : assigned s v ≡ Some one.0 = one.1 in let clash : ⊥ = cc in clash) ∙ free)
    at (Some a) is = inr (
      a,
      is,
      elim (cases_lt a.place end) [
        | inl before ↦ inr (
          before,
          taken.kept v (λ place d from within same.
              let one : (b : Assigned) × (assigned s v ≡ Some b) × (b.place ≡ place) = there place d within same in
              let other : assigned s v ≡ Some one.0 = one.1 in
              let equal : one.0 ≡ a = cc in
              omega (arith, from, before, one.2, ap (λ (x : Assigned). x.place) equal)) ∙ is,
        )
        | inr past ↦
            let d : Lit = record { variable = 0; positive = false } in
            let on : get_or s.trail a.place d ≡ true_lit v a = sound.ordered.on_trail v a d is in
            inl (past, ap (λ (l : Lit). get_or values l.variable None) (sym on) ∙ taken.gone a.place d past (sound.ordered.within v a is))
      ],
    )

-- taken back from where a level ends, the assignments up to it are kept
pub taken_kept : (s : SolverForm) (level end : ℕ) (values : List (Option Assigned)) → IsSound s → IsEndOf (assigned s) (length s.trail) level end → IsTakenBack s end values → values ≡ map (kept_to level) s.values
taken_kept s level end values sound ends taken = kept_all level s.values values taken.size (λ v below. elim (taken_one s end values sound taken v) [
  | inl none ↦ none.1 ∙ sym (ap (kept_to level) none.0)
  | inr some ↦ elim some.2 [
    | inl gone ↦ gone.1 ∙ sym (kept_none v some.0 some.1 (ends.high v some.0 some.1 gone.0))
    | inr stays ↦ stays.1 ∙ sym (kept_stays level (assigned s v) some.0 some.1 (ends.low v some.0 some.1 stays.0))
  ]
])
  where
    kept_none : (v : ℕ) (a : Assigned) → assigned s v ≡ Some a → level < a.level → kept_to level (assigned s v) ≡ None
    kept_none v a is above = at (kept_to level (assigned s v)) refl
      where
        at : (value : Option Assigned) → kept_to level (assigned s v) ≡ value → kept_to level (assigned s v) ≡ None
        at None is_none = is_none
        at (Some b) is_some =
            let was : (assigned s v ≡ Some b) × (b.level ≤ level) = kept_was level (assigned s v) b is_some in
            let there : assigned s v ≡ Some b = was.0 in
            let same : b ≡ a = cc in
            absurd (omega (arith, above, was.1, ap (λ (x : Assigned). x.level) same))

-- taken back from the begin of the trail, nothing is assigned
pub taken_all : (s : SolverForm) (values : List (Option Assigned)) → IsSound s → IsTakenBack s 0 values → values ≡ replicate (length s.values) None
taken_all s values sound taken = all_unassigned values (λ v below. elim (taken_one s 0 values sound taken v) [
  | inl none ↦ none.1
  | inr some ↦ elim some.2 [
    | inl gone ↦ gone.1
    | inr stays ↦ absurd (omega (arith, stays.0))
  ]
]) ∙ ap (λ (n : ℕ). replicate {A = Option Assigned} n None) taken.size

-- the same solver with other clauses
pub consistent_clauses : (s : SolverForm) (clauses : List Stored) (starts : List ℕ) (place : Option ℕ) (trail_room starts_room : ℕ) → IsSound (record s { clauses = clauses }) → IsConsistent s starts place trail_room starts_room
    → IsConsistent (record s { clauses = clauses }) starts place trail_room starts_room
consistent_clauses s clauses starts place trail_room starts_room sound old = record {
  sound = sound;
  starts_at = record { count = old.starts_at.count; ends = old.starts_at.ends };
  placed = old.placed;
  ordered = old.ordered;
  used_in = old.used_in;
  trail_has = old.trail_has;
  starts_has = old.starts_has;
}

-- another place
pub consistent_placed : (s : SolverForm) (starts : List ℕ) (place next : Option ℕ) (trail_room starts_room : ℕ) → IsPlaced (assigned s) s.used s.order next → IsConsistent s starts place trail_room starts_room → IsConsistent s starts next trail_room starts_room
consistent_placed s starts place next trail_room starts_room placed old = record {
  sound = old.sound;
  starts_at = old.starts_at;
  placed = placed;
  ordered = old.ordered;
  used_in = old.used_in;
  trail_has = old.trail_has;
  starts_has = old.starts_has;
}

-- a solver with no assignment
pub consistent_empty : (s : SolverForm) (next : Option ℕ) (starts : List ℕ) (trail_room starts_room : ℕ) → IsSound s → s.level ≡ 0 → starts ≡ [] → next ≡ slice_get s.order 0 → length s.order ≡ length s.values → s.used ≤ length s.values → length s.values ≤ trail_room → length s.values ≤ starts_room
    → IsConsistent s starts next trail_room starts_room
consistent_empty s next starts trail_room starts_room sound bottom none front size used trail_has starts_has = record {
  sound = sound;
  starts_at = record { count = ap (λ (xs : List ℕ). length xs) none ∙ sym bottom; ends = λ l below. absurd (omega (arith, below, bottom)) };
  placed = placed_front (assigned s) s.used s.order next front;
  ordered = size;
  used_in = used;
  trail_has = trail_has;
  starts_has = starts_has;
}

-- more variables
pub consistent_grown : (s : SolverForm) (values : List (Option Assigned)) (order : List ℕ) (used : ℕ) (starts : List ℕ) (place next : Option ℕ) (trail_room starts_room more_trail more_starts : ℕ)
    → IsSound (record s { values = values; order = order; used = used }) → ((v : ℕ) → get_or values v None ≡ get_or s.values v None) → next ≡ slice_get order 0 → length order ≡ length values → used ≤ length values → length values ≤ more_trail → length values ≤ more_starts
    → IsConsistent s starts place trail_room starts_room → IsConsistent (record s { values = values; order = order; used = used }) starts next more_trail more_starts
consistent_grown s values order used starts place next trail_room starts_room more_trail more_starts sound same front size few trail_has starts_has old = record {
  sound = sound;
  starts_at = record {
    count = old.starts_at.count;
    ends = λ l below. let was : IsEndOf (assigned s) (length s.trail) l (get_or starts l 0) = old.starts_at.ends l below in record {
      within = was.within;
      low = λ v a is. was.low v a (sym (same v) ∙ is);
      high = λ v a is. was.high v a (sym (same v) ∙ is);
    };
  };
  placed = placed_front (λ v. get_or values v None) used order next front;
  ordered = size;
  used_in = few;
  trail_has = trail_has;
  starts_has = starts_has;
}

-- a literal that was written at the end of the trail, with the room that there was
pub consistent_laid : (s : SolverForm) (lit : Lit) (level : ℕ) (reason : Option ℕ) (at : ℕ) (values : List (Option Assigned)) (trail : List Lit) (starts more : List ℕ) (place : Option ℕ) (trail_room starts_room more_trail more_starts : ℕ)
    → at ≡ length s.trail → values ≡ slice_set s.values lit.variable (Some (record { positive = lit.positive; level = level; place = at; reason = reason })) → trail ≡ s.trail ++ lit ∷ [] → more_trail ≡ trail_room → more_starts ≡ starts_room
    → ((level ≡ s.level) × (more ≡ starts)) ⊎ ((level ≡ s.level + 1) × (more ≡ starts ++ length s.trail ∷ [])) → MayAdd s lit level reason → IsConsistent s starts place trail_room starts_room
    → IsConsistent (record s { values = values; trail = trail; level = level }) more place more_trail more_starts
consistent_laid s lit level reason at values trail starts more place trail_room starts_room more_trail more_starts there written longer trail_is starts_is either may old =
    subst (λ (t : SolverForm). IsConsistent t more place more_trail more_starts) (sym (laid_is s lit level reason at values trail there written longer))
    (subst (λ (n : ℕ). IsConsistent (with_literal s lit level reason) more place n more_starts) (sym trail_is)
    (subst (λ (n : ℕ). IsConsistent (with_literal s lit level reason) more place trail_room n) (sym starts_is)
    (consistent_more s lit level reason starts more place trail_room starts_room either may old)))

-- where a variable is unassigned there is room for its literal
pub record HasRoom (s : SolverForm) (starts : List ℕ) (trail_room starts_room : ℕ) : Type 0 where
  pub trail : length s.trail < trail_room
  pub starts_in : length starts < starts_room
  pub few : length s.trail + 1 < 4294967296
  pub next : s.level + 1 < 4294967296
  pub within : length s.trail < length s.values

pub has_room : (s : SolverForm) (variable : ℕ) (starts : List ℕ) (place : Option ℕ) (trail_room starts_room : ℕ) → variable < length s.values → assigned s variable ≡ None → IsConsistent s starts place trail_room starts_room → HasRoom s starts trail_room starts_room
has_room s variable starts place trail_room starts_room within free old =
    let shorter : length s.trail < length s.values = room_left s.values s.trail s.level variable old.sound.ordered within free in
    record {
      trail = omega (arith, shorter, old.trail_has);
      starts_in = omega (arith, shorter, old.starts_at.count, old.sound.ordered.few, old.starts_has);
      few = omega (arith, shorter, old.sound.small.0);
      next = omega (arith, shorter, old.sound.ordered.few, old.sound.small.0);
      within = shorter;
    }

-- a new solver
pub consistent_new : (values : List (Option Assigned)) (trail : List Lit) (clauses : List Stored) (order : List ℕ) (used : ℕ) (starts : List ℕ) (next : Option ℕ) (trail_room starts_room : ℕ) → values ≡ replicate used None → trail ≡ [] → clauses ≡ [] → order ≡ numbers_between 0 used
    → starts ≡ [] → next ≡ slice_get order 0 → used ≤ trail_room → used ≤ starts_room → used < 4294967296
    → IsConsistent (record { values = values; trail = trail; clauses = clauses; level = 0; order = order; used = used }) starts next trail_room starts_room
consistent_new values trail clauses order used starts next trail_room starts_room values_are none no_clauses order_is no_starts front trail_has starts_has few =
    subst (λ (ts : List Lit). IsConsistent (record { values = values; trail = ts; clauses = clauses; level = 0; order = order; used = used }) starts next trail_room starts_room) (sym none)
    (subst (λ (cs : List Stored). IsConsistent (record { values = values; trail = []; clauses = cs; level = 0; order = order; used = used }) starts next trail_room starts_room) (sym no_clauses)
    (consistent_empty (record { values = values; trail = []; clauses = []; level = 0; order = order; used = used }) next starts trail_room starts_room
    (sound_empty values [] order used (λ v. ap (λ (vs : List (Option Assigned)). get_or vs v None) values_are ∙ free_at used v) (λ number lit among. absurd (no_lit number lit among)) (omega (arith, size, few)) (omega arith))
    refl no_starts front (ap (λ (xs : List ℕ). length xs) order_is ∙ length-range_with_len 0 (used - 0) ∙ omega (arith, size)) (omega (arith, size)) (omega (arith, size, trail_has)) (omega (arith, size, starts_has))))
  where
    size : length values ≡ used
    size = ap (λ (vs : List (Option Assigned)). length vs) values_are ∙ length-replicate {A = Option Assigned} used None

    no_lit : (number : ℕ) (lit : Lit) → Contains (clause_at [] number) lit → ⊥
    no_lit number lit (k, below, is) = omega (arith, below)

-- an order has exactly the numbers below its length
pub in_order : (order : List ℕ) (variable : ℕ) → IsOrder order → variable < length order → Contains order variable
in_order order variable is below = Contains-permutation (numbers_between 0 (length order)) order variable is
    (variable, omega (arith, length-range_with_len 0 (length order - 0), below), get_or-range_with_len 0 (length order - 0) variable variable (omega (arith, below)) ∙ omega arith)

pub below_order : (order : List ℕ) (variable : ℕ) → IsOrder order → Contains order variable → variable < length order
below_order order variable is among = at (Contains-permutation order (numbers_between 0 (length order)) variable (IsPermutation-sym (numbers_between 0 (length order)) order is) among)
  where
    at : Contains (numbers_between 0 (length order)) variable → variable < length order
    at (k, below, read) =
        let inside : k < length order = omega (arith, below, length-range_with_len 0 (length order - 0)) in
        omega (arith, inside, sym read ∙ get_or-range_with_len 0 (length order - 0) k variable (omega (arith, inside)))

-- at the end of the order no variable needs a decision
pub placed_end : (f : ℕ → Option Assigned) (used : ℕ) (order : List ℕ) → IsOrder order → (placed : IsPlaced f used order None) → (v : ℕ) → v < length order → IsPassed f used v
placed_end f used order is placed v below = at placed.rest refl
  where
    at : (rest : List ℕ) → placed.rest ≡ rest → IsPassed f used v
    at [] none = placed.passed v (subst (λ (xs : List ℕ). Contains xs v) (placed.parts ∙ ap (λ (xs : List ℕ). placed.front ++ xs) none ∙ append-nil placed.front) (in_order order v is below))
    at (x ∷ back) some =
        let gone : None ≡ Some x = placed.there ∙ ap (λ (xs : List ℕ). slice_get xs 0) some in
        let clash : ⊥ = cc in absurd clash

-- so is a place that as many variables stand before as there are
pub placed_far : (f : ℕ → Option Assigned) (used : ℕ) (order : List ℕ) (place : Option ℕ) → (placed : IsPlaced f used order place) → length order ≤ length placed.front → place ≡ None
placed_far f used order place placed far = at placed.rest refl
  where
    at : (rest : List ℕ) → placed.rest ≡ rest → place ≡ None
    at [] none = placed.there ∙ ap (λ (xs : List ℕ). slice_get xs 0) none
    at (x ∷ back) some =
        let size : length order ≡ length placed.front + length (x ∷ back) = ap (λ (xs : List ℕ). length xs) (placed.parts ∙ ap (λ (xs : List ℕ). placed.front ++ xs) some) ∙ length-append placed.front (x ∷ back) in
        absurd (omega (arith, size, far))

-- the variable at a place is one of the order
pub placed_in : (f : ℕ → Option Assigned) (used : ℕ) (order : List ℕ) (variable : ℕ) → IsPlaced f used order (Some variable) → Contains order variable
placed_in f used order variable placed =
    let parts = placed_parts f used order (Some variable) variable refl placed in
    subst (λ (xs : List ℕ). Contains xs variable) (sym parts.1) (Contains-append_right placed.front (variable ∷ parts.0) variable (here variable parts.0))

-- what the place says of the next variable
pub free_at_place : (s : SolverForm) (place : Option ℕ) → s.used ≤ length s.values → IsPlaced (assigned s) s.used s.order place → IfSome place (λ v. (v < s.used) × (assigned s v ≡ None)) → (place ≡ None → (v : ℕ) → v < length s.values → IsPassed (assigned s) s.used v)
    → MatchOption place (IsFull s) (IsNextFree s)
free_at_place s None used placed unassigned full = λ v below. elim (full refl v (omega (arith, below, used))) [
  | inl unused ↦ absurd (omega (arith, unused, below))
  | inr some ↦ some
]
free_at_place s (Some v) used placed unassigned full = next_at s v placed unassigned.0 unassigned.1

-- the variables of the trail are those of the solver
pub trail_named : (s : SolverForm) → IsSound s → (place : ℕ) (d : Lit) → place < length s.trail → (get_or s.trail place d).variable < length s.values
trail_named s sound place d below =
    let there : (a : Assigned) × (assigned s (get_or s.trail place d).variable ≡ Some a) × (a.place ≡ place) = sound.ordered.off_trail place d below in
    within_values s.values (get_or s.trail place d).variable there.0 there.1

-- and so are those of a trail that was lent
pub lent_named : (s : SolverForm) (trail : List Lit) → trail ≡ s.trail → IsSound s → (place : ℕ) (d : Lit) → place < length trail → (get_or trail place d).variable < length s.values
lent_named s trail trail_is sound =
    subst (λ (ts : List Lit). (place : ℕ) (d : Lit) → place < length ts → (get_or ts place d).variable < length s.values) (sym trail_is) (trail_named s sound)

-- a solver after a backjump, by its parts
pub cut_parts : (s : SolverForm) (level end : ℕ) (values : List (Option Assigned)) (trail : List Lit) (starts less : List ℕ) (place next : Option ℕ) (trail_room starts_room more_trail more_starts : ℕ) → level ≤ s.level → IsEndOf (assigned s) (length s.trail) level end
    → IsTakenBack s end values → trail ≡ take end s.trail → less ≡ take level starts → next ≡ slice_get s.order 0 → more_trail ≡ trail_room → more_starts ≡ starts_room → IsConsistent s starts place trail_room starts_room
    → IsConsistent (record s { values = values; trail = trail; level = level }) less next more_trail more_starts
cut_parts s level end values trail starts less place next trail_room starts_room more_trail more_starts below ends taken trail_is less_is front trail_same starts_same old =
    let kept : values ≡ map (kept_to level) s.values = taken_kept s level end values old.sound ends taken in
    let form : record s { values = values; trail = trail; level = level } ≡ record s { values = map (kept_to level) s.values; trail = take end s.trail; level = level } = λ i. record s { values = kept i; trail = trail_is i; level = level } in
    subst (λ (t : SolverForm). IsConsistent t less next more_trail more_starts) (sym form)
    (subst (λ (xs : List ℕ). IsConsistent (record s { values = map (kept_to level) s.values; trail = take end s.trail; level = level }) xs next more_trail more_starts) (sym less_is)
    (subst (λ (n : ℕ). IsConsistent (record s { values = map (kept_to level) s.values; trail = take end s.trail; level = level }) (take level starts) next n more_starts) (sym trail_same)
    (subst (λ (n : ℕ). IsConsistent (record s { values = map (kept_to level) s.values; trail = take end s.trail; level = level }) (take level starts) next trail_room n) (sym starts_same)
    (consistent_cut s level end starts place next trail_room starts_room below ends front old))))

pub back_parts : (s view : SolverForm) (level end : ℕ) (values : List (Option Assigned)) (trail : List Lit) → s ≡ view → IsSound s → IsEndOf (assigned s) (length s.trail) level end → IsTakenBack s end values → trail ≡ take end s.trail
    → Backjumps view (record s { values = values; trail = trail; level = level }) level
back_parts s view level end values trail same sound ends taken trail_is = subst (λ (t : SolverForm). Backjumps t (record s { values = values; trail = trail; level = level }) level) same (record {
  reached = refl;
  clauses = refl;
  order = refl;
  used = refl;
  values = taken_kept s level end values sound ends taken;
  rest = drop end s.trail;
  trail = ap (λ (ts : List Lit). ts ++ drop end s.trail) trail_is ∙ take-append-drop end s.trail;
  stays = subst (λ (ts : List Lit). Each (IsUpTo s level) ts) (sym trail_is) (front_low s level end sound ends);
  goes = rest_high s level end sound ends;
})

-- a solver without assignments, by its parts
pub clear_parts : (s : SolverForm) (values : List (Option Assigned)) (trail : List Lit) (starts none : List ℕ) (place next : Option ℕ) (trail_room starts_room more_trail more_starts : ℕ) → IsTakenBack s 0 values → trail ≡ [] → none ≡ [] → next ≡ slice_get s.order 0 → more_trail ≡ trail_room → more_starts ≡ starts_room
    → IsConsistent s starts place trail_room starts_room → IsConsistent (record s { values = values; trail = trail; level = 0 }) none next more_trail more_starts × (record s { values = values; trail = trail; level = 0 } ≡ cleared s)
clear_parts s values trail starts none place next trail_room starts_room more_trail more_starts taken empty no_starts front trail_same starts_same old =
    let blank_values : values ≡ replicate (length s.values) None = taken_all s values old.sound taken in
    let size : length (replicate {A = Option Assigned} (length s.values) None) ≡ length s.values = length-replicate {A = Option Assigned} (length s.values) None in
    let form : record s { values = values; trail = trail; level = 0 } ≡ cleared s = λ i. record s { values = blank_values i; trail = empty i; level = 0 } in
    let sound : IsSound (cleared s) = sound_empty (replicate (length s.values) None) s.clauses s.order s.used (λ v. free_at (length s.values) v) (λ number lit among. let below : lit.variable < length s.values = old.sound.named number lit among in omega (arith, below, size)) (omega (arith, size, old.sound.small.0)) old.sound.small.1 in (
      subst (λ (t : SolverForm). IsConsistent t none next more_trail more_starts) (sym form)
          (consistent_empty (cleared s) next none more_trail more_starts sound refl no_starts front (old.ordered ∙ sym size) (omega (arith, old.used_in, size)) (omega (arith, size, old.trail_has, trail_same)) (omega (arith, size, old.starts_has, starts_same))),
      form,
    )

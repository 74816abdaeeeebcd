-- One more clause is linked.
use Rattle.std.proofs.Common.{◌≡◌, ◌≢◌, refl, sym, ◌∙◌, ap, subst, ℕ, ◌+◌, ◌*◌, ◌<◌, ◌≤◌, zero, suc, Option, Some, None, List, [], ◌∷◌, length, get_or, inl, inr, arith}
use Rattle.std.specs.Prelude.{Contains, slice_index, slice_get}
use Rattle.std.specs.List.{swap_remove}
use Rattle.std.proofs.lemmas.Bool.{cases_eq, cases_lt}
use Rattle.std.proofs.lemmas.List.{get_or-set_same, get_or-set_other, length-set, length_push, get_or_default}
use Rattle.std.proofs.lemmas.List.Elements.{Contains-get_or}
use Rattle.gp_base.specs.ListLaws.{here, there}
use Rattle.gp_clause.specs.declared.lit.Lit.{Lit}
use Rattle.gp_sat.specs.declared.assigned.Assigned.{Assigned}
use Rattle.gp_sat.specs.Stored.{Stored}
use Rattle.gp_sat.specs.Slot.{Slot}
use Rattle.gp_sat.specs.State.{SolverForm, assigned, clause_at, IsAttached, with_literal}
use Rattle.gp_sat.specs.Sound.{IsSound}
use Rattle.gp_sat.specs.Standing.{IsFalse, EachOther}
use Rattle.gp_sat.specs.Links.{put, AreLinked, IsLoose}
use Rattle.gp_sat.specs.WatchesForm.{WatchesForm}
use Rattle.gp_sat.specs.Watching.{ArePartners, IsSafe, IsHeld, IsLong, IsSettled, Watches, AreLooked, AreWatched, code, link_at, next_at, watch_at, no_slot}
use Rattle.gp_sat.specs.Linked.{IsMember, IsOf, IsLinked, at_front, passed, adopted}
use Rattle.gp_sat.specs.Changes.{Propagates}
use Rattle.gp_sat.specs.Looking.{IsTrueLit, IsUnit}
use Rattle.gp_sat.specs.Stepping.{IsPick, IsIdle, IsReady, KeepsShorts}
use Rattle.gp_sat.specs.Choosing.{IsHighest, IsOpen, Holds, IsMore, IsShorter, level_of}
use Rattle.gp_sat.proofs.Linking.{put_here, put_other, pushed, pushed_cases}
use Rattle.gp_sat.proofs.Relinking.{code_not_work, code_below, partner_back, partner_within}
use Rattle.gp_sat.proofs.Watched.{watched_more}
use Rattle.gp_sat.proofs.Stepping.{safe_open}
use Rattle.gp_sat.proofs.Choosing.{unit_safe, lone_settled}
use Rattle.gp_sat.proofs.Shorts.{looked_over, looked_dropped, looked_passed}
use Rattle.gp_sat.specs.SolverLaws.{added, added_stays, adds_literal, true_not_false}

-- a literal is forced between walks
pub idle_more : (s t : SolverForm) (w : WatchesForm) (lit : Lit) (reason : Option ℕ) → t ≡ with_literal s lit s.level reason → IsSound t → lit.variable < length s.values → assigned s lit.variable ≡ None
    → IsIdle s w → IsIdle t w
idle_more s t w lit reason is sound named free idle = record {
  sound = sound;
  lists = idle.lists;
  fallen = idle.fallen;
  empty = idle.empty;
  linked = subst (λ (u : SolverForm). IsLinked u.clauses (length u.values) w idle.fallen idle.lists) (sym is)
      (subst (λ (n : ℕ). IsLinked s.clauses n w idle.fallen idle.lists) (sym (length-set s.values lit.variable (Some (added s lit s.level reason)))) idle.linked);
  watched = subst (λ (u : SolverForm). AreWatched u (watch_at w.slots) w.linked w.cursor (λ x. ⊥)) (sym is)
      (watched_more s lit s.level reason (watch_at w.slots) w.linked w.cursor (λ x. ⊥) named free (inl refl) idle.sound (length_push s.trail lit) idle.watched);
}

pub idle_holds : (s t : SolverForm) (w : WatchesForm) (lit : Lit) (number : ℕ) → lit.variable < length s.values → Holds s t lit number → IsIdle s w → IsIdle t w
idle_holds s t w lit number named holds idle = elim holds.how [
  | inl same ↦ subst (λ (u : SolverForm). IsIdle u w) (sym same) idle
  | inr new ↦ idle_more s t w lit (Some number) new.1 holds.sound named new.0 idle
]

-- where the next clause is not attached, or has fewer than two literals, it is passed by
pub idle_passed : (s : SolverForm) (w : WatchesForm) → w.linked < length s.clauses → (IsAttached s.clauses w.linked → length (clause_at s.clauses w.linked) < 2) → IsIdle s w → IsIdle s (passed w)
idle_passed s w within few idle = record {
  sound = idle.sound;
  lists = idle.lists;
  fallen = idle.fallen;
  empty = idle.empty;
  linked = record {
    heads_size = idle.linked.heads_size;
    slots_size = idle.linked.slots_size;
    within = omega (arith, within);
    links = idle.linked.links;
    listed = λ number x y held long partners. idle.linked.listed number x y (before number held long) long partners;
    members = λ l x among.
        let was : IsMember s.clauses w.linked x × IsOf l (watch_at w.slots x) idle.fallen = idle.linked.members l x among in
        (record { number = was.0.number; other = was.0.other; partners = was.0.partners; before = omega (arith, was.0.before); long = was.0.long }, was.1);
  };
  watched = record {
    long = λ number x y held long partners. idle.watched.long number x y (before number held long) long partners;
    fresh = idle.watched.fresh;
    cursor_in = idle.watched.cursor_in;
    linked_in = omega (arith, within);
  };
}
  where
    before : (number : ℕ) → IsHeld s.clauses (w.linked + 1) number → IsLong s.clauses number → IsHeld s.clauses w.linked number
    before number held long = elim (cases_eq number w.linked) [
      | inl same ↦ absurd (omega (arith, few (subst (λ (n : ℕ). IsAttached s.clauses n) same held.0), subst (λ (n : ℕ). IsLong s.clauses n) same long))
      | inr differ ↦ (held.0, omega (arith, held.1, differ))
    ]

-- two literals of a clause make it long
pub two_long : (clause : List Lit) (one two : Lit) → Contains clause one → Contains clause two → one ≢ two → 2 ≤ length clause
two_long clause one two (k, below, is) (j, under, at) apart = elim (cases_lt (length clause) 2) [
  | inl short ↦
      let same : k ≡ j = omega (arith, short, below, under) in
      absurd (apart (sym is ∙ get_or_default clause k one two below ∙ ap (λ (n : ℕ). get_or clause n two) same ∙ at))
  | inr long ↦ long
]

-- what is in a list stays in it where one list has one more
push_keeps : (lists : ℕ → List ℕ) (m x l z : ℕ) → Contains (lists l) z → Contains (put lists m (x ∷ lists m) l) z
push_keeps lists m x l z among = elim (cases_eq l m) [
  | inl same ↦ subst (λ (ys : List ℕ). Contains ys z) (sym (put_here lists m (x ∷ lists m) l same)) (there _ _ _ (subst (λ (n : ℕ). Contains (lists n) z) same among))
  | inr differ ↦ subst (λ (ys : List ℕ). Contains ys z) (sym (put_other lists m (x ∷ lists m) l differ)) among
]

push_first : (lists : ℕ → List ℕ) (m x : ℕ) → Contains (put lists m (x ∷ lists m) m) x
push_first lists m x = subst (λ (ys : List ℕ). Contains ys x) (sym (put_here lists m (x ∷ lists m) m refl)) (here _ _)

front_watch : (w : WatchesForm) (x : ℕ) (lit : Lit) → x < length w.slots → watch_at (at_front w x lit).slots x ≡ lit
front_watch w x lit within = ap (λ (s : Slot). s.lit) (get_or-set_same w.slots x (record { lit = lit; next = link_at w.heads (code lit) }) no_slot within)

front_other : (w : WatchesForm) (x : ℕ) (lit : Lit) (z : ℕ) → z ≢ x → watch_at (at_front w x lit).slots z ≡ watch_at w.slots z
front_other w x lit z differ = ap (λ (s : Slot). s.lit) (get_or-set_other w.slots x z (record { lit = lit; next = link_at w.heads (code lit) }) no_slot differ)

-- a slot that stands in no list is linked to a literal
front_links : (w : WatchesForm) (lists : ℕ → List ℕ) (x : ℕ) (lit : Lit) → x < length w.slots → code lit < length w.heads → IsLoose x lists → AreLinked (link_at w.heads) (next_at w.slots) lists
    → AreLinked (link_at (at_front w x lit).heads) (next_at (at_front w x lit).slots) (put lists (code lit) (x ∷ lists (code lit)))
front_links w lists x lit within below loose links = pushed (link_at w.heads) (link_at (at_front w x lit).heads) (next_at w.slots) (next_at (at_front w x lit).slots) lists (code lit) x links loose
    (get_or-set_same w.heads (code lit) (x + 1) 0 below)
    (λ k differ. get_or-set_other w.heads (code lit) k (x + 1) 0 differ)
    (ap (λ (s : Slot). s.next) (get_or-set_same w.slots x (record { lit = lit; next = link_at w.heads (code lit) }) no_slot within))
    (λ y differ. ap (λ (s : Slot). s.next) (get_or-set_other w.slots x y (record { lit = lit; next = link_at w.heads (code lit) }) no_slot differ))

-- the two slots of the next clause are linked
abbrev adopted_lists : (ℕ → List ℕ) → ℕ → Lit → Lit → ℕ → List ℕ
adopted_lists lists number one two = put (put lists (code one) (2 * number ∷ lists (code one))) (code two) ((2 * number + 1) ∷ put lists (code one) (2 * number ∷ lists (code one)) (code two))

adopted_links : (clauses : List Stored) (variables : ℕ) (w : WatchesForm) (fallen : Lit) (lists : ℕ → List ℕ) (one two : Lit) → w.linked < length clauses → one.variable < variables → two.variable < variables → IsLong clauses w.linked
    → IsLinked clauses variables w fallen lists → IsLinked clauses variables (adopted w one two) fallen (adopted_lists lists w.linked one two)
adopted_links clauses variables w fallen lists one two within named_one named_two long old = record {
  heads_size = length-set w1.heads (code two) (y + 1) ∙ length-set w.heads (code one) (x + 1) ∙ old.heads_size;
  slots_size = length-set w1.slots y (record { lit = two; next = link_at w1.heads (code two) }) ∙ length-set w.slots x (record { lit = one; next = link_at w.heads (code one) }) ∙ old.slots_size;
  within = omega (arith, within);
  links = front_links w1 lists1 y two y_in (omega (arith, code_below two variables named_two, length-set w.heads (code one) (x + 1), old.heads_size)) loose_y
      (front_links w lists x one x_in (omega (arith, code_below one variables named_one, old.heads_size)) loose_x old.links);
  listed = λ number z v held long_z partners. elim (cases_eq number w.linked) [
    | inl same ↦ elim partners [
      | inl first ↦ inr (at_x z (omega (arith, first.0, same)))
      | inr second ↦ inr (at_y z (omega (arith, second.0, same)))
    ]
    | inr differ ↦
        let below : z < 2 * w.linked = partner_within number z v w.linked partners (omega (arith, held.1, differ)) in
        elim (old.listed number z v (held.0, omega (arith, held.1, differ)) long_z partners) [
          | inl work ↦ inl (grows 0 z work)
          | inr there ↦ inr (subst (λ (l : Lit). Contains (adopted_lists lists w.linked one two (code l)) z) (sym (same_watch z below)) (grows (code (watch_at w.slots z)) z there))
        ]
  ];
  members = λ l z among. elim (pushed_cases lists1 (code two) y l z among) [
    | inl new ↦ (
      record { number = w.linked; other = x; partners = inr (new.1, let e : x ≡ 2 * w.linked = refl in e); before = omega arith; long = long },
      inr (ap code (ap (λ (n : ℕ). watch_at (adopted w one two).slots n) new.1 ∙ watch_y) ∙ sym new.0),
    )
    | inr was ↦ elim (pushed_cases lists (code one) x l z was) [
      | inl new ↦ (
        record { number = w.linked; other = y; partners = inl (new.1, let e : y ≡ 2 * w.linked + 1 = refl in e); before = omega arith; long = long },
        inr (ap code (ap (λ (n : ℕ). watch_at (adopted w one two).slots n) new.1 ∙ watch_x) ∙ sym new.0),
      )
      | inr before ↦
          let there : IsMember clauses w.linked z × IsOf l (watch_at w.slots z) fallen = old.members l z before in
          let below : z < 2 * w.linked = partner_within there.0.number z there.0.other w.linked there.0.partners there.0.before in (
            record { number = there.0.number; other = there.0.other; partners = there.0.partners; before = omega (arith, there.0.before); long = there.0.long },
            subst (λ (k : Lit). IsOf l k fallen) (sym (same_watch z below)) there.1,
          )
    ]
  ];
}
  where
    x : ℕ
    x = 2 * w.linked

    y : ℕ
    y = 2 * w.linked + 1

    w1 : WatchesForm
    w1 = at_front w x one

    lists1 : ℕ → List ℕ
    lists1 = put lists (code one) (x ∷ lists (code one))

    x_in : x < length w.slots
    x_in = omega (arith, old.slots_size, within)

    y_in : y < length w1.slots
    y_in = omega (arith, length-set w.slots x (record { lit = one; next = link_at w.heads (code one) }), old.slots_size, within)

    loose_x : IsLoose x lists
    loose_x l among = let member : IsMember clauses w.linked x = (old.members l x among).0 in
        omega (arith, partner_within member.number x member.other w.linked member.partners member.before)

    loose_y : IsLoose y lists1
    loose_y l among = elim (pushed_cases lists (code one) x l y among) [
      | inl new ↦ omega (arith, new.1)
      | inr was ↦ let member : IsMember clauses w.linked y = (old.members l y was).0 in
          omega (arith, partner_within member.number y member.other w.linked member.partners member.before)
    ]

    watch_y : watch_at (adopted w one two).slots y ≡ two
    watch_y = front_watch w1 y two y_in

    watch_x : watch_at (adopted w one two).slots x ≡ one
    watch_x = front_other w1 y two x (λ e. omega (arith, e)) ∙ front_watch w x one x_in

    same_watch : (z : ℕ) → z < 2 * w.linked → watch_at (adopted w one two).slots z ≡ watch_at w.slots z
    same_watch z below = front_other w1 y two z (λ e. omega (arith, e, below)) ∙ front_other w x one z (λ e. omega (arith, e, below))

    grows : (l z : ℕ) → Contains (lists l) z → Contains (adopted_lists lists w.linked one two l) z
    grows l z among = push_keeps lists1 (code two) y l z (push_keeps lists (code one) x l z among)

    at_x : (z : ℕ) → z ≡ x → Contains (adopted_lists lists w.linked one two (code (watch_at (adopted w one two).slots z))) z
    at_x z same = subst (λ (n : ℕ). Contains (adopted_lists lists w.linked one two (code (watch_at (adopted w one two).slots n))) n) (sym same)
        (subst (λ (l : Lit). Contains (adopted_lists lists w.linked one two (code l)) x) (sym watch_x) (push_keeps lists1 (code two) y (code one) x (push_first lists (code one) x)))

    at_y : (z : ℕ) → z ≡ y → Contains (adopted_lists lists w.linked one two (code (watch_at (adopted w one two).slots z))) z
    at_y z same = subst (λ (n : ℕ). Contains (adopted_lists lists w.linked one two (code (watch_at (adopted w one two).slots n))) n) (sym same)
        (subst (λ (l : Lit). Contains (adopted_lists lists w.linked one two (code l)) y) (sym watch_y) (push_first lists1 (code two) y))

-- a pair to watch
pub record IsGoodPair (s : SolverForm) (number cursor : ℕ) (one two : Lit) : Type 0 where
  pub first : Contains (clause_at s.clauses number) one
  pub second : Contains (clause_at s.clauses number) two
  pub differ : one ≢ two
  pub there : IsSafe (assigned s) cursor one two
  pub back : IsSafe (assigned s) cursor two one

pub idle_adopted : (s : SolverForm) (w : WatchesForm) (one two : Lit) → w.linked < length s.clauses → IsGoodPair s w.linked w.cursor one two → IsIdle s w → IsIdle s (adopted w one two)
idle_adopted s w one two within pair idle = record {
  sound = idle.sound;
  lists = adopted_lists idle.lists w.linked one two;
  fallen = idle.fallen;
  empty = put_other (put idle.lists (code one) (2 * w.linked ∷ idle.lists (code one))) (code two) ((2 * w.linked + 1) ∷ put idle.lists (code one) (2 * w.linked ∷ idle.lists (code one)) (code two)) 0 (λ e. code_not_work two (sym e))
      ∙ put_other idle.lists (code one) (2 * w.linked ∷ idle.lists (code one)) 0 (λ e. code_not_work one (sym e)) ∙ idle.empty;
  linked = adopted_links s.clauses (length s.values) w idle.fallen idle.lists one two within (idle.sound.named w.linked one pair.first) (idle.sound.named w.linked two pair.second) long idle.linked;
  watched = record {
    long = λ number z v held long_z partners. elim (cases_eq number w.linked) [
      | inl same ↦ subst (λ (n : ℕ). Watches (assigned s) w.cursor (λ k. ⊥) (clause_at s.clauses n) watch z v) (sym same) (elim (let at : ArePartners w.linked z v = subst (λ (n : ℕ). ArePartners n z v) same partners in at) [
        | inl forth ↦
            let z_is : watch z ≡ one = ap watch forth.0 ∙ watch_x in
            let v_is : watch v ≡ two = ap watch forth.1 ∙ watch_y in
            made z v one two z_is v_is pair.first pair.differ pair.there
        | inr turned ↦
            let z_is : watch z ≡ two = ap watch turned.0 ∙ watch_y in
            let v_is : watch v ≡ one = ap watch turned.1 ∙ watch_x in
            made z v two one z_is v_is pair.second (λ e. pair.differ (sym e)) pair.back
      ])
      | inr differ ↦
          let was : Watches (assigned s) w.cursor (λ k. ⊥) (clause_at s.clauses number) (watch_at w.slots) z v = idle.watched.long number z v (held.0, omega (arith, held.1, differ)) long_z partners in
          let z_is : watch z ≡ watch_at w.slots z = same_watch z (partner_within number z v w.linked partners (omega (arith, held.1, differ))) in
          let v_is : watch v ≡ watch_at w.slots v = same_watch v (partner_within number v z w.linked (partner_back number z v partners) (omega (arith, held.1, differ))) in
          record {
            within = subst (λ (l : Lit). Contains (clause_at s.clauses number) l) (sym z_is) was.within;
            differs = λ e. was.differs (sym z_is ∙ e ∙ v_is);
            safe = elim was.safe [
              | inl never ↦ absurd never
              | inr safe ↦ inr (subst (λ (l : Lit). IsSafe (assigned s) w.cursor l (watch v)) (sym z_is) (subst (λ (l : Lit). IsSafe (assigned s) w.cursor (watch_at w.slots z) l) (sym v_is) safe))
            ];
          }
    ];
    fresh = idle.watched.fresh;
    cursor_in = idle.watched.cursor_in;
    linked_in = omega (arith, within);
  };
}
  where
    watch : ℕ → Lit
    watch = watch_at (adopted w one two).slots

    long : IsLong s.clauses w.linked
    long = two_long (clause_at s.clauses w.linked) one two pair.first pair.second pair.differ

    x_in : 2 * w.linked < length w.slots
    x_in = omega (arith, idle.linked.slots_size, within)

    y_in : 2 * w.linked + 1 < length (at_front w (2 * w.linked) one).slots
    y_in = omega (arith, length-set w.slots (2 * w.linked) (record { lit = one; next = link_at w.heads (code one) }), idle.linked.slots_size, within)

    watch_y : watch (2 * w.linked + 1) ≡ two
    watch_y = front_watch (at_front w (2 * w.linked) one) (2 * w.linked + 1) two y_in

    watch_x : watch (2 * w.linked) ≡ one
    watch_x = front_other (at_front w (2 * w.linked) one) (2 * w.linked + 1) two (2 * w.linked) (λ e. omega (arith, e)) ∙ front_watch w (2 * w.linked) one x_in

    same_watch : (z : ℕ) → z < 2 * w.linked → watch z ≡ watch_at w.slots z
    same_watch z below = front_other (at_front w (2 * w.linked) one) (2 * w.linked + 1) two z (λ e. omega (arith, e, below)) ∙ front_other w (2 * w.linked) one z (λ e. omega (arith, e, below))

    made : (z v : ℕ) (p q : Lit) → watch z ≡ p → watch v ≡ q → Contains (clause_at s.clauses w.linked) p → p ≢ q → IsSafe (assigned s) w.cursor p q → Watches (assigned s) w.cursor (λ k. ⊥) (clause_at s.clauses w.linked) watch z v
    made z v p q z_is v_is among apart safe = record {
      within = subst (λ (l : Lit). Contains (clause_at s.clauses w.linked) l) (sym z_is) among;
      differs = λ e. apart (sym z_is ∙ e ∙ v_is);
      safe = inr (subst (λ (l : Lit). IsSafe (assigned s) w.cursor l (watch v)) (sym z_is) (subst (λ (l : Lit). IsSafe (assigned s) w.cursor p l) (sym v_is) safe));
    }

pub open_pair : (s : SolverForm) (number cursor : ℕ) (one two : Lit) → IsOpen (assigned s) (clause_at s.clauses number) one → IsPick (assigned s) (clause_at s.clauses number) one two → IsGoodPair s number cursor one two
open_pair s number cursor one two open_one picked = record {
  first = open_one.0;
  second = picked.0;
  differ = λ e. picked.1 (sym e);
  there = safe_open (assigned s) cursor one two open_one.1;
  back = safe_open (assigned s) cursor two one picked.2;
}

-- what a forced literal leaves as it was
pub record Stays (s t : SolverForm) : Type 0 where
  pub clauses : t.clauses ≡ s.clauses
  pub values : length t.values ≡ length s.values
  pub assigned_too : (v : ℕ) (a : Assigned) → assigned s v ≡ Some a → assigned t v ≡ Some a

pub holds_stays : (s t : SolverForm) (lit : Lit) (number : ℕ) → lit.variable < length s.values → Holds s t lit number → Stays s t
holds_stays s t lit number named holds = elim holds.how [
  | inl same ↦ record {
    clauses = ap (λ (u : SolverForm). u.clauses) same;
    values = ap (λ (u : SolverForm). length u.values) same;
    assigned_too = λ v a is. ap (λ (u : SolverForm). assigned u v) same ∙ is;
  }
  | inr new ↦ record {
    clauses = ap (λ (u : SolverForm). u.clauses) new.1;
    values = ap (λ (u : SolverForm). length u.values) new.1 ∙ length-set s.values lit.variable (Some (added s lit s.level (Some number)));
    assigned_too = λ v a is. ap (λ (u : SolverForm). assigned u v) new.1 ∙ added_stays (adds_literal s lit s.level (Some number) named new.0) v a is;
  }
]

-- the pair of a clause whose one literal is true then, where the others are false
pub unit_pair : (s t : SolverForm) (number cursor : ℕ) (one two : Lit) → Holds s t one number → one.variable < length s.values → IsAttached s.clauses number → IsOpen (assigned s) (clause_at s.clauses number) one
    → EachOther (IsFalse (assigned s)) (clause_at s.clauses number) one → IsHighest (assigned s) (clause_at s.clauses number) one two → IsGoodPair t number cursor one two
unit_pair s t number cursor one two holds named attached open_one others highest =
    let stays : Stays s t = holds_stays s t one number named holds in
    let clause : clause_at t.clauses number ≡ clause_at s.clauses number = ap (λ (cs : List Stored). clause_at cs number) stays.clauses in
    let kept : IsAttached t.clauses number = subst (λ (cs : List Stored). IsAttached cs number) (sym stays.clauses) attached in
    let first : Contains (clause_at t.clauses number) one = subst (λ (ls : List Lit). Contains ls one) (sym clause) open_one.0 in
    let false_too : EachOther (IsFalse (assigned t)) (clause_at t.clauses number) one = λ other among apart.
    let fell : IsFalse (assigned s) other = others other (subst (λ (ls : List Lit). Contains ls other) clause among) apart in
    (fell.0, stays.assigned_too other.variable fell.0 fell.1, fell.2) in
    let same_level : (other : Lit) → Contains (clause_at s.clauses number) other → other ≢ one → assigned t other.variable ≡ assigned s other.variable = λ other among apart.
    let fell : IsFalse (assigned s) other = others other among apart in
    stays.assigned_too other.variable fell.0 fell.1 ∙ sym fell.1 in
    let best : IsHighest (assigned t) (clause_at t.clauses number) one two = record {
      within = subst (λ (ls : List Lit). Contains ls two) (sym clause) highest.within;
      apart = highest.apart;
      highest = λ other among apart.
          let there : Contains (clause_at s.clauses number) other = subst (λ (ls : List Lit). Contains ls other) clause among in
          omega (arith, highest.highest other there apart, ap level_of (same_level other there apart), ap level_of (same_level two highest.within highest.apart));
    } in
    record {
      first = first;
      second = best.within;
      differ = λ e. highest.apart (sym e);
      there = safe_open (assigned t) cursor one two (λ fell. true_not_false (assigned t) one holds.holds fell);
      back = unit_safe t number cursor one two holds.sound kept first holds.holds false_too best;
    }

pub more_passed : (s : SolverForm) (w left : WatchesForm) → left ≡ passed w → IsIdle s (passed w) → IsMore s w left
more_passed s w left is idle = record {
  idle = subst (λ (l : WatchesForm). IsIdle s l) (sym is) idle;
  linked = ap (λ (l : WatchesForm). l.linked) is;
  cursor = ap (λ (l : WatchesForm). l.cursor) is;
  kept = record { shorts = ap (λ (l : WatchesForm). l.shorts) is; looked = ap (λ (l : WatchesForm). l.looked) is };
}

pub more_adopted : (s : SolverForm) (w left : WatchesForm) (one two : Lit) → left ≡ adopted w one two → IsIdle s (adopted w one two) → IsMore s w left
more_adopted s w left one two is idle = record {
  idle = subst (λ (l : WatchesForm). IsIdle s l) (sym is) idle;
  linked = ap (λ (l : WatchesForm). l.linked) is;
  cursor = ap (λ (l : WatchesForm). l.cursor) is;
  kept = record { shorts = ap (λ (l : WatchesForm). l.shorts) is; looked = ap (λ (l : WatchesForm). l.looked) is };
}

pub code_in : (s : SolverForm) (w : WatchesForm) (number : ℕ) (lit : Lit) → IsIdle s w → Contains (clause_at s.clauses number) lit → code lit < length w.heads
code_in s w number lit idle among = omega (arith, idle.linked.heads_size, code_below lit (length s.values) (idle.sound.named number lit among))

-- the true literal of a clause was forced, where the others are false, and two are linked
pub unit_more : (s t : SolverForm) (w left : WatchesForm) (number : ℕ) (one two : Lit) → number ≡ w.linked → w.linked < length s.clauses → Holds s t one number → IsAttached s.clauses number → IsOpen (assigned s) (clause_at s.clauses number) one
    → EachOther (IsFalse (assigned s)) (clause_at s.clauses number) one → IsHighest (assigned s) (clause_at s.clauses number) one two → left ≡ adopted w one two → IsIdle s w → IsMore t w left
unit_more s t w left number one two is within holds attached open_one others highest left_is idle =
    let named : one.variable < length s.values = idle.sound.named number one open_one.0 in
    let stays : Stays s t = holds_stays s t one number named holds in
    let pair : IsGoodPair t number w.cursor one two = unit_pair s t number w.cursor one two holds named attached open_one others highest in
    more_adopted t w left one two left_is (idle_adopted t w one two (subst (λ (cs : List Stored). w.linked < length cs) (sym stays.clauses) within)
    (subst (λ (n : ℕ). IsGoodPair t n w.cursor one two) is pair) (idle_holds s t w one number named holds idle))

-- what is done about the watches is done where nothing else changes
pub ready_more : (s t : SolverForm) (w left : WatchesForm) → Propagates s t → KeepsShorts w left → IsIdle t left → IsReady s w → IsReady t left
ready_more s t w left moved kept idle old = record {
  idle = idle;
  short = subst (λ (xs : List ℕ). AreLooked t xs left.looked) (sym kept.shorts)
      (subst (λ (n : ℕ). AreLooked t w.shorts n) (sym kept.looked) (looked_over s t w.shorts w.looked moved.clauses (λ v a is low. moved.stays v a is) old.short));
}

-- the short clauses are no part of the lists
pub idle_apart : (s : SolverForm) (w : WatchesForm) (shorts : List ℕ) (looked heads_room slots_room shorts_room : ℕ) → IsIdle s w
    → IsIdle s (record w { shorts = shorts; looked = looked; heads_room = heads_room; slots_room = slots_room; shorts_room = shorts_room })
idle_apart s w shorts looked heads_room slots_room shorts_room idle = record {
  sound = idle.sound;
  lists = idle.lists;
  fallen = idle.fallen;
  empty = idle.empty;
  linked = record {
    heads_size = idle.linked.heads_size;
    slots_size = idle.linked.slots_size;
    within = idle.linked.within;
    links = idle.linked.links;
    listed = idle.linked.listed;
    members = idle.linked.members;
  };
  watched = idle.watched;
}

-- the next short clause is not attached, and is dropped
pub short_dropped : (s : SolverForm) (w left : WatchesForm) (number : ℕ) → w.looked < length w.shorts → number ≡ slice_index w.shorts w.looked → (IsAttached s.clauses number → ⊥)
    → left ≡ record w { shorts = swap_remove w.shorts w.looked (slice_index w.shorts w.looked) } → IsReady s w → IsShorter s w left
short_dropped s w left number within is off left_is ready =
    let gone : AreLooked s (swap_remove w.shorts w.looked (slice_index w.shorts w.looked)) w.looked × (length (swap_remove w.shorts w.looked (slice_index w.shorts w.looked)) + 1 ≡ length w.shorts) =
    looked_dropped s w.shorts w.looked (slice_index w.shorts w.looked) within refl (subst (λ (n : ℕ). IsAttached s.clauses n → ⊥) is off) ready.short in
    subst (λ (l : WatchesForm). IsShorter s w l) (sym left_is) (record {
      ready = record { idle = idle_apart s w (swap_remove w.shorts w.looked (slice_index w.shorts w.looked)) w.looked w.heads_room w.slots_room w.shorts_room ready.idle; short = gone.0 };
      linked = refl;
      cursor = refl;
      fewer = omega (arith, gone.1, within);
    })

-- the only literal of a short clause
pub only_is : (clause : List Lit) (one : Lit) → length clause < 2 → slice_get clause 0 ≡ Some one → clause ≡ one ∷ []
only_is [] one few is = let clash : ⊥ = cc in absurd clash
only_is (x ∷ []) one few is = let same : x ≡ one = cc in ap (λ (l : Lit). l ∷ []) same
only_is (x ∷ y ∷ rest) one few is = absurd (omega (arith, few))

pub none_is : (clause : List Lit) → slice_get clause 0 ≡ None → clause ≡ []
none_is [] is = refl
none_is (x ∷ rest) is = let clash : ⊥ = cc in absurd clash

pub in_one : (one lit : Lit) → Contains (one ∷ []) lit → one ≡ lit
in_one one lit (zero, below, is) = is
in_one one lit (suc k, below, is) = absurd (omega (arith, below))

pub in_none : (lit : Lit) → Contains {X = Lit} [] lit → ⊥
in_none lit (k, below, is) = omega (arith, below)

-- the next short clause has a literal that is true then
pub short_passed : (s t : SolverForm) (w left : WatchesForm) (number : ℕ) (one : Lit) → w.looked < length w.shorts → number ≡ slice_index w.shorts w.looked → IsAttached t.clauses number → clause_at t.clauses number ≡ one ∷ []
    → IsTrueLit (assigned t) one → IsIdle t w → Propagates s t → left ≡ record w { looked = w.looked + 1 } → IsReady s w → IsShorter t w left
short_passed s t w left number one within is attached only holds idle moved left_is ready =
    let settled : IsSettled (assigned t) (clause_at t.clauses number) = lone_settled t number one idle.sound attached (subst (λ (ls : List Lit). Contains ls one) (sym only) (0, omega arith, refl)) holds
    (λ lit among. sym (in_one one lit (subst (λ (ls : List Lit). Contains ls lit) only among))) in
    let ready_then : IsReady t w = ready_more s t w w moved (record { shorts = refl; looked = refl }) idle ready in
    subst (λ (l : WatchesForm). IsShorter t w l) (sym left_is) (record {
      ready = record {
        idle = idle_apart t w w.shorts (w.looked + 1) w.heads_room w.slots_room w.shorts_room idle;
        short = looked_passed t w.shorts w.looked within (subst (λ (n : ℕ). IsSettled (assigned t) (clause_at t.clauses n)) is settled) ready_then.short;
      };
      linked = refl;
      cursor = refl;
      fewer = omega (arith, within);
    })

-- the next short clause is one of the solver's, and short
pub short_few : (s : SolverForm) (w : WatchesForm) (number : ℕ) → w.looked < length w.shorts → number ≡ slice_index w.shorts w.looked → IsReady s w → (number < length s.clauses) × (length (clause_at s.clauses number) < 2)
short_few s w number within is ready = ready.short.real number (subst (λ (n : ℕ). Contains w.shorts n) (sym is) (Contains-get_or w.shorts w.looked 0 within))

-- its only literal
pub short_only : (s : SolverForm) (w : WatchesForm) (number : ℕ) (one : Lit) → w.looked < length w.shorts → number ≡ slice_index w.shorts w.looked → IsReady s w → Some one ≡ slice_get (clause_at s.clauses number) 0 → clause_at s.clauses number ≡ one ∷ []
short_only s w number one within is ready first = only_is (clause_at s.clauses number) one (short_few s w number within is ready).1 (sym first)

-- so it is unit where this one is unassigned
pub short_unit : (s : SolverForm) (number : ℕ) (one : Lit) → clause_at s.clauses number ≡ one ∷ [] → assigned s one.variable ≡ None → IsUnit (assigned s) (clause_at s.clauses number) one
short_unit s number one only free = record {
  within = subst (λ (ls : List Lit). Contains ls one) (sym only) (0, omega arith, refl);
  free = free;
  others = λ other among apart. absurd (apart (sym (in_one one other (subst (λ (ls : List Lit). Contains ls other) only among))));
}

-- Marks, and the queue of the places that a walk has still to visit.
use Rattle.std.proofs.Common.{count_by, ◌≡◌, ◌≢◌, refl, sym, ◌∙◌, ap, subst, ℕ, ◌+◌, ◌<◌, ◌≤◌, ◌==◌, Bool, true, false, cond, Some, List, [], ◌∷◌, ◌++◌, length, get_or, ◌⊎◌, inl, inr, arith}
use Rattle.std.specs.Prelude.{slice_set, Contains, All, IsPermutation}
use Rattle.std.specs.BinaryHeap.{IsHeap, PopsGreatest, KeepsHeap}
use Rattle.std.specs.Ordering.{nat_cmp}
use Rattle.std.proofs.lemmas.Bool.{cases_eq, cases_lt, eq-eqb, ne_eqb}
use Rattle.std.proofs.lemmas.List.{length-set, get_or-set_same, get_or-set_other, get_or_default, get_or_past}
use Rattle.std.proofs.lemmas.List.Elements.{All-head, All-tail, Contains-push, Contains-push_cases, Contains-append_left}
use Rattle.std.proofs.lemmas.List.Sums.{sum_by-cons}
use Rattle.std.proofs.lemmas.List.Sorted.{sum_by_pushed, sum_by_popped, le_from_greatest}
use Rattle.gp_clause.specs.declared.lit.Lit.{Lit}
use Rattle.gp_sat.specs.declared.assigned.Assigned.{Assigned}
use Rattle.gp_sat.specs.State.{SolverForm, assigned}
use Rattle.gp_sat.specs.Sound.{IsSound}
use Rattle.gp_sat.specs.Marking.{IsMarked, Marks}
use Rattle.gp_sat.specs.Queueing.{AreListed, AreQueued, IsAdded, IsMarkedAt}
use Rattle.gp_sat.proofs.Marked.{one_at, marks_more}
use Rattle.gp_base.specs.ListLaws.{nothing_in}

-- one, where a number is a place
abbrev one_at_place : ℕ → ℕ → ℕ
one_at_place place p = cond (p == place) 1 0

place_same : (place p : ℕ) → p ≡ place → one_at_place place p ≡ 1
place_same place p same = ap (λ (b : Bool). cond b 1 0) (eq-eqb p place same)

place_other : (place p : ℕ) → p ≢ place → one_at_place place p ≡ 0
place_other place p differ = ap (λ (b : Bool). cond b 1 0) (ne_eqb p place differ)

-- what holds of each place holds of one that stands in a queue
all_times : (P : ℕ → Type 0) (places : List ℕ) (place : ℕ) → All P places → 0 < count_by (λ q. q == place) places → P place
all_times P [] place all some = absurd (omega (arith, some))
all_times P (p ∷ places) place all some = elim (cases_eq p place) [
  | inl same ↦ subst P same (All-head P p places all)
  | inr differ ↦ all_times P places place (All-tail P p places all) (omega (arith, some, place_other place p differ, sum_by-cons (one_at_place place) p places))
]

-- a mark stays when another one is set
pub stays_marked : (marks : List Bool) (v w : ℕ) → v < length marks → IsMarked marks w → IsMarked (slice_set marks v true) w
stays_marked marks v w within is = elim (cases_eq w v) [
  | inl same ↦ subst (λ (n : ℕ). IsMarked (slice_set marks v true) n) (sym same) (get_or-set_same marks v true false within)
  | inr differ ↦ get_or-set_other marks v w true false differ ∙ is
]

-- one variable more is listed and marked
pub listed_more : (marks : List Bool) (marked : List ℕ) (v : ℕ) → v < length marks → AreListed marks marked → AreListed (slice_set marks v true) (marked ++ v ∷ [])
listed_more marks marked v within old = record {
  all = λ w is. elim (cases_eq w v) [
    | inl same ↦ subst (λ (n : ℕ). Contains (marked ++ v ∷ []) n) (sym same) (Contains-push marked v)
    | inr differ ↦ Contains-append_left marked (v ∷ []) w (old.all w (sym (get_or-set_other marks v w true false differ) ∙ is))
  ];
  within = λ w is. let size : length (slice_set marks v true) ≡ length marks = length-set marks v true in
      elim (Contains-push_cases marked v w is) [
        | inl before ↦ omega (arith, size, old.within w before)
        | inr here ↦ omega (arith, size, within, here)
      ];
}

-- one variable more is listed, and not marked
pub listed_only : (marks : List Bool) (marked : List ℕ) (v : ℕ) → v < length marks → AreListed marks marked → AreListed marks (marked ++ v ∷ [])
listed_only marks marked v within old = record {
  all = λ w is. Contains-append_left marked (v ∷ []) w (old.all w is);
  within = λ w is. elim (Contains-push_cases marked v w is) [
    | inl before ↦ old.within w before
    | inr here ↦ omega (arith, within, here)
  ];
}

-- nothing is queued
pub times_none : (place : ℕ) (places : List ℕ) → places ≡ [] → count_by (λ q. q == place) places ≡ 0
times_none place places none = ap (count_by (λ q. q == place)) none

pub queued_none : (s : SolverForm) (bound : ℕ) (marks : List Bool) (places : List ℕ) → places ≡ [] → IsHeap nat_cmp places → ((variable : ℕ) → IsMarked marks variable → ⊥) → AreQueued s bound marks places
queued_none s bound marks places empty heap none = record {
  ordered = heap;
  once = λ p. omega (arith, times_none p places empty);
  before = λ p some. absurd (omega (arith, some, times_none p places empty));
  all = λ v a is marked below. absurd (none v marked);
}

-- one place more is queued
pub queued_more : (s : SolverForm) (bound : ℕ) (marks : List Bool) (places after : List ℕ) (v : ℕ) (a : Assigned) → IsSound s → v < length marks → assigned s v ≡ Some a → a.place < bound → (IsMarked marks v → ⊥)
    → IsPermutation (a.place ∷ places) after → KeepsHeap nat_cmp places after → AreQueued s bound marks places → AreQueued s bound (slice_set marks v true) after
queued_more s bound marks places after v a sound within is below unmarked moves keeps old = record {
  ordered = keeps old.ordered;
  once = λ p. elim (cases_eq a.place p) [
    | inl same ↦ elim (cases_lt 0 (count_by (λ q. q == p) places)) [
      | inl some ↦ absurd (was_not p same some)
      | inr none ↦ omega (arith, none, count p, place_same p a.place same)
    ]
    | inr differ ↦ omega (arith, old.once p, count p, place_other p a.place differ)
  ];
  before = λ p some. elim (cases_eq a.place p) [
    | inl same ↦ (omega (arith, below, same), (v, a, is, same, get_or-set_same marks v true false within))
    | inr differ ↦
        let there : (p < bound) × IsMarkedAt s marks p = old.before p (omega (arith, some, count p, place_other p a.place differ)) in
        (there.0, (there.1.0, there.1.1, there.1.2, there.1.3, stays_marked marks v there.1.0 within there.1.4))
  ];
  all = λ w b wb marked low. elim (cases_eq w v) [
    | inl same ↦
        let here : assigned s v ≡ Some b = ap (assigned s) (sym same) ∙ wb in
        let equal : a ≡ b = cc in
        omega (arith, count b.place, place_same b.place a.place (ap (λ (x : Assigned). x.place) equal))
    | inr differ ↦ omega (arith, count b.place, old.all w b wb (sym (get_or-set_other marks v w true false differ) ∙ marked) low)
  ];
}
  where
    count : (p : ℕ) → count_by (λ q. q == p) after ≡ one_at_place p a.place + count_by (λ q. q == p) places
    count p = sum_by_pushed (one_at_place p) a.place places after moves

    was_not : (p : ℕ) → a.place ≡ p → 0 < count_by (λ q. q == p) places → ⊥
    was_not p same some =
        let there : (p < bound) × IsMarkedAt s marks p = old.before p some in
        unmarked (subst (λ (n : ℕ). IsMarked marks n) (one_at s sound v there.1.0 a there.1.1 is there.1.2 (there.1.3 ∙ sym same)).1 there.1.4)

-- what an added mark changes
pub added_marks : (old new : List Bool) (before after : List ℕ) (lit : Lit) (place : ℕ) → lit.variable < length old → IsAdded old new before after lit.variable place → Marks old new (lit ∷ [])
added_marks old new before after lit place within (inl was) = record {
  size = ap (λ (ms : List Bool). length ms) was.1;
  kept = λ v is. subst (λ (ms : List Bool). IsMarked ms v) (sym was.1) is;
  all = λ other is. elim (Contains-push_cases [] lit other is) [
    | inl none ↦ absurd (nothing_in other none)
    | inr here ↦ subst (λ (ms : List Bool). IsMarked ms other.variable) (sym was.1) (subst (λ (l : Lit). IsMarked old l.variable) here was.0)
  ];
  only = λ v is. inl (subst (λ (ms : List Bool). IsMarked ms v) was.1 is);
}
added_marks old new before after lit place within (inr more) = subst (λ (ms : List Bool). Marks old ms (lit ∷ [])) (sym more.1) (marks_more old old [] lit within (record {
  size = refl;
  kept = λ v is. is;
  all = λ other is. absurd (nothing_in other is);
  only = λ v is. inl is;
}))

pub added_queued : (s : SolverForm) (old new : List Bool) (before after : List ℕ) (v : ℕ) (a : Assigned) → IsSound s → v < length old → assigned s v ≡ Some a → IsAdded old new before after v a.place
    → (bound : ℕ) → IsMarked old v ⊎ ((b : Assigned) × (assigned s v ≡ Some b) × (b.place < bound)) → AreQueued s bound old before → AreQueued s bound new after
added_queued s old new before after v a sound within is (inl was) bound either queued =
    subst (λ (ms : List Bool). AreQueued s bound ms after) (sym was.1) (subst (λ (ps : List ℕ). AreQueued s bound old ps) (sym was.2) queued)
added_queued s old new before after v a sound within is (inr more) bound either queued = subst (λ (ms : List Bool). AreQueued s bound ms after) (sym more.1)
    (queued_more s bound old before after v a sound within is (low either) more.0 more.2 more.3 queued)
  where
    low : IsMarked old v ⊎ ((b : Assigned) × (assigned s v ≡ Some b) × (b.place < bound)) → a.place < bound
    low (inl was) = absurd (more.0 was)
    low (inr there) =
        let here : assigned s v ≡ Some there.0 = there.1 in
        let equal : there.0 ≡ a = cc in
        omega (arith, there.2, ap (λ (x : Assigned). x.place) equal)

-- marks after marks
pub marks_join : (old mid new : List Bool) (lits : List Lit) (lit : Lit) → Marks old mid lits → Marks mid new (lit ∷ []) → Marks old new (lits ++ lit ∷ [])
marks_join old mid new lits lit first next = record {
  size = next.size ∙ first.size;
  kept = λ v is. next.kept v (first.kept v is);
  all = λ other is. elim (Contains-push_cases lits lit other is) [
    | inl before ↦ next.kept other.variable (first.all other before)
    | inr here ↦ next.all other (subst (λ (l : Lit). Contains (lit ∷ []) l) here (Contains-push [] lit))
  ];
  only = λ v is. elim (next.only v is) [
    | inl was ↦ elim (first.only v was) [
      | inl old_one ↦ inl old_one
      | inr there ↦ inr (there.0, Contains-append_left lits (lit ∷ []) there.0 there.1, there.2)
    ]
    | inr there ↦ elim (Contains-push_cases [] lit there.0 there.1) [
      | inl none ↦ absurd (nothing_in there.0 none)
      | inr here ↦ inr (lit, Contains-push lits lit, ap (λ (l : Lit). l.variable) here ∙ there.2)
    ]
  ];
}

-- the greatest place is taken from the queue
pub record IsTaken (s : SolverForm) (bound : ℕ) (marks : List Bool) (place : ℕ) (rest : List ℕ) : Type 0 where
  pub below : place < bound
  pub marked : IsMarkedAt s marks place
  pub queued : AreQueued s place marks rest
  pub greatest : (variable : ℕ) (a : Assigned) → assigned s variable ≡ Some a → IsMarked marks variable → a.place < bound → a.place < place + 1

pub queued_taken : (s : SolverForm) (bound : ℕ) (marks : List Bool) (places rest : List ℕ) (place : ℕ) → IsPermutation places (place ∷ rest) → PopsGreatest nat_cmp places place rest → AreQueued s bound marks places → IsTaken s bound marks place rest
queued_taken s bound marks places rest place moves pops old = record {
  below = here.0;
  marked = here.1;
  queued = record {
    ordered = (pops old.ordered).0;
    once = λ p. omega (arith, old.once p, count p);
    before = λ p some.
        let there : (p < bound) × IsMarkedAt s marks p = old.before p (omega (arith, some, count p)) in
        (low p some, there.1);
    all = λ v a is marked below. omega (arith, old.all v a is marked (omega (arith, below, here.0)), count a.place, place_other a.place place (λ same. omega (arith, same, below)));
  };
  greatest = λ v a is marked below. let most : a.place ≤ place = at_most a.place (old.all v a is marked below) in omega (arith, most);
}
  where
    count : (p : ℕ) → count_by (λ q. q == p) rest + one_at_place p place ≡ count_by (λ q. q == p) places
    count p = sum_by_popped (one_at_place p) place places rest moves

    here : (place < bound) × IsMarkedAt s marks place
    here = old.before place (omega (arith, count place, place_same place place refl))

    at_most : (p : ℕ) → 0 < count_by (λ q. q == p) places → p ≤ place
    at_most p some = all_times (λ y. y ≤ place) places p (le_from_greatest place places (pops old.ordered).1) some

    low : (p : ℕ) → 0 < count_by (λ q. q == p) rest → p < place
    low p some = elim (cases_eq p place) [
      | inl same ↦ absurd (omega (arith, old.once p, count p, place_same p place (sym same), some))
      | inr differ ↦ omega (arith, differ, at_most p (omega (arith, some, count p)))
    ]

-- where nothing is queued, nothing is marked below
pub queued_over : (s : SolverForm) (bound : ℕ) (marks : List Bool) (places : List ℕ) → places ≡ [] → AreQueued s bound marks places
    → (variable : ℕ) (a : Assigned) → assigned s variable ≡ Some a → IsMarked marks variable → a.place < bound → a.place < 0
queued_over s bound marks places empty old v a is marked below = absurd (omega (arith, old.all v a is marked below, times_none a.place places empty))

pub nil_of : (xs : List ℕ) → length xs ≡ 0 → xs ≡ []
nil_of [] none = refl
nil_of (x ∷ xs) none = absurd (omega (arith, none))

-- the mark of one variable is taken back
pub unmarked_one : (marks : List Bool) (v : ℕ) → IsMarked (slice_set marks v false) v → ⊥
unmarked_one marks v is = elim (cases_lt v (length marks)) [
  | inl within ↦ let off : get_or (slice_set marks v false) v false ≡ false = get_or-set_same marks v false false within in let clash : ⊥ = cc in clash
  | inr past ↦ let off : get_or (slice_set marks v false) v false ≡ false = get_or_past (slice_set marks v false) v false (omega (arith, past, length-set marks v false)) in let clash : ⊥ = cc in clash
]

-- and the others stay as they were
pub unmarked_kept : (marks : List Bool) (v w : ℕ) → IsMarked (slice_set marks v false) w → IsMarked marks w
unmarked_kept marks v w is = elim (cases_eq w v) [
  | inl same ↦ absurd (unmarked_one marks v (subst (λ (n : ℕ). IsMarked (slice_set marks v false) n) same is))
  | inr differ ↦ sym (get_or-set_other marks v w false false differ) ∙ is
]

-- the marks of all listed variables were taken back
pub all_unmarked : (old new : List Bool) (marked : List ℕ) → AreListed old marked → ((k : ℕ) → k < length marked → IsMarked new (get_or marked k 0) → ⊥) → ((v : ℕ) → IsMarked new v → IsMarked old v) → (v : ℕ) → IsMarked new v → ⊥
all_unmarked old new marked listed gone kept v is =
    let there : Contains marked v = listed.all v (kept v is) in
    gone there.0 there.1 (subst (λ (n : ℕ). IsMarked new n) (sym (get_or_default marked there.0 0 v there.1 ∙ there.2)) is)

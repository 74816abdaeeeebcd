-- The executed events of an answer, sorted, are in the order of their places.
use Rattle.std.proofs.Common.{◌≡◌, ◌≢◌, ◌⊎◌, ◌≤◌, All, ℕ, ℤ, ◌<◌, ◌<ℤ◌, pos, Bool, true, false, List, [], ◌∷◌, length, get_or, map, Contains, IsPermutation, arith, refl, sym, ap, subst, ◌∙◌, inl, inr}
use Rattle.std.specs.Prelude.{flat_map, if◌then◌else◌}
use Rattle.std.specs.List.{AllByRecursion}
use Rattle.std.specs.Cmp.{IsTotalOrder}
use Rattle.std.specs.Fn.{Called, ComputesKey}
use Rattle.std.proofs.lemmas.Fn.{always_returns_same}
use denote.Param.Members.{Mut}
use denote.Ref.{Bor}
use Rattle.std.specs.List.Sorted.{IsSortedByKey}
use Rattle.std.specs.Ordering.{MatchOrdering, int_cmp, is_lt, nat_cmp, ordering_then}
use Rattle.std.specs.declared.cmp.Ordering.{Ordering}
use Rattle.std.specs.declared.cmp.Ordering.TheVariants.{Less, Equal, Greater}
use Rattle.std.proofs.lemmas.Cmp.{int_ranked, ranked}
use Rattle.std.proofs.lemmas.List.{get_or-map, length-map}
use Rattle.std.proofs.lemmas.List.Elements.{All-contains, All-map, All-from_recursion}
use Rattle.std.proofs.lemmas.List.Sorted.{All-permutation, Contains-permutation, ranks_by, sorted_far}
use Rattle.std.proofs.lemmas.Cmp.{int_cmp_total, nat_cmp_total, on_total, then_total}
use Rattle.gp_clause.specs.declared.valuation.Valuation.{Valuation}
use Rattle.gp_clause.specs.Valuation.{place_of, truth_of}
use Rattle.gp_constraint.specs.declared.point.Point.{Point}
use Rattle.gp_base.specs.ListLaws.{contains_flat_map, contains_map, first_or_rest, here, nothing_in, Pairwise, pairwise_flat_map, recursion_flat_map, recursion_from_each}
use Rattle.gp_constraint.specs.PointLaws.{HasLesserNumber, event_id, point_for, points_named, points_rise}
use Rattle.gp_constraint.specs.Points.{number_in, points_of}
use Rattle.gp_window.specs.declared.schedule.EventId.{EventId}
use Rattle.gp_window.specs.WindowForm.{WindowForm}
use Rattle.gp_witness.specs.declared.executed.Placed.{Placed}
use Rattle.gp_witness.specs.Placed.{placed_of}
use Rattle.gp_witness.specs.Witness.{ComesBefore, IsByPlace, IsExecuted, place_in}
use Rattle.gp_witness.proofs.Counting.{apart}

-- what stands where a test passes
if_back : {X : Type 0} (b : Bool) (x y : X) → Contains (if b then x ∷ [] else []) y → (b ≡ true) × (x ≡ y)
if_back true x y i =
    elim (first_or_rest _ [] _ i) [
      | inl same ↦ (refl, same)
      | inr none ↦ absurd (nothing_in _ none)
    ]
if_back false x y i = absurd (nothing_in _ i)

has_if : {X : Type 0} (b : Bool) (x : X) → b ≡ true → Contains (if b then x ∷ [] else []) x
has_if true x passes = here _ []
has_if false x passes = cc

pairs_if : {X : Type 0} (R : X → X → Type 0) (b : Bool) (x : X) → Pairwise R (if b then x ∷ [] else [])
pairs_if R true x = (tt, tt)
pairs_if R false x = tt

-- an event is executed, and stands at its place
record IsTold (window : WindowForm) (valuation : Valuation) (event : Placed) : Type 0 where
  executed : IsExecuted window valuation event.id
  place : event.place ≡ place_in window valuation event.id

-- the executed events, by thread and index
abbrev all_placed : WindowForm → Valuation → List Placed
all_placed window valuation = flat_map (placed_of valuation) (points_of window)

told : (window : WindowForm) (valuation : Valuation) (p : Point) (event : Placed) → Contains (points_of window) p → Contains (placed_of valuation p) event → IsTold window valuation event
told window valuation p event i j =
    let own = (points_named window).own p i in
    let at : Placed = record { place = place_of valuation p.number; id = p.id } in
    let back = if_back (truth_of valuation p.number) at event j in
    let here : IsTold window valuation at = record {
      executed = ((own.0, own.1), subst (λ (n : ℕ). truth_of valuation n ≡ true) own.3 back.0);
      place = ap (place_of valuation) own.3;
    } in
    subst (IsTold window valuation) back.1 here

all_told : (window : WindowForm) (valuation : Valuation) → AllByRecursion (IsTold window valuation) (all_placed window valuation)
all_told window valuation =
    recursion_flat_map (IsTold window valuation) (placed_of valuation) (points_of window)
    (λ p i. recursion_from_each (IsTold window valuation) (placed_of valuation p) (λ event j. told window valuation p event i j))

-- the number of an executed event is that of its point
number_told : (window : WindowForm) (valuation : Valuation) (p : Point) (event : Placed) → Contains (points_of window) p → Contains (placed_of valuation p) event
    → p.number ≡ number_in window event.id
number_told window valuation p event i j =
    let own = (points_named window).own p i in
    let back = if_back (truth_of valuation p.number) (record { place = place_of valuation p.number; id = p.id }) event j in
    own.3 ∙ ap (λ (e : Placed). number_in window e.id) back.1

-- the numbers of the executed events rise
numbers_rise : (window : WindowForm) (valuation : Valuation)
    → Pairwise (λ (one other : Placed). number_in window one.id < number_in window other.id) (all_placed window valuation)
numbers_rise window valuation =
    pairwise_flat_map HasLesserNumber (λ (one other : Placed). number_in window one.id < number_in window other.id) (placed_of valuation) (points_of window) (points_rise window)
    (λ p i. pairs_if (λ (one other : Placed). number_in window one.id < number_in window other.id) (truth_of valuation p.number) (record { place = place_of valuation p.number; id = p.id }))
    (λ p q i j less one other k l.
    let before : p.number < q.number = less in
    omega (arith, before, number_told window valuation p one i k, number_told window valuation q other j l))

-- each executed event is there
placed_there : (window : WindowForm) (valuation : Valuation) (id : EventId) → IsExecuted window valuation id
    → (event : Placed) × Contains (all_placed window valuation) event × (event.id ≡ id)
placed_there window valuation id (there, executed) =
    let p = point_for window id there in
    let at : Placed = record { place = place_of valuation p.0.number; id = p.0.id } in
    let true_there : truth_of valuation p.0.number ≡ true = subst (λ (n : ℕ). truth_of valuation n ≡ true) (sym p.2) executed in
    (at, contains_flat_map (placed_of valuation) (points_of window) p.0 at p.1 (has_if (truth_of valuation p.0.number) at true_there), p.3)

-- what three comparisons, one after another, say where the second is not before the first
not_after : (p q : ℤ) (t u i j : ℕ) (a b c : Ordering) → MatchOrdering a (q <ℤ p) (q ≡ p) (p <ℤ q) → MatchOrdering b (u < t) (u ≡ t) (t < u)
    → MatchOrdering c (j < i) (j ≡ i) (i < j) → is_lt (ordering_then (ordering_then a b) c) ≡ false
    → (p <ℤ q) ⊎ ((p ≡ q) × ((t < u) ⊎ ((t ≡ u) × ((i < j) ⊎ (i ≡ j)))))
not_after p q t u i j Less b c x y z sorted = absurd cc
not_after p q t u i j Equal Less c x y z sorted = absurd cc
not_after p q t u i j Equal Equal Less x y z sorted = absurd cc
not_after p q t u i j Equal Equal Equal x y z sorted = inr (sym x, inr (sym y, inr (sym z)))
not_after p q t u i j Equal Equal Greater x y z sorted = inr (sym x, inr (sym y, inl z))
not_after p q t u i j Equal Greater c x y z sorted = inr (sym x, inl y)
not_after p q t u i j Greater b c x y z sorted = inl x

-- one place is not after another
abbrev pub is_before : Placed → Placed → Bool
is_before one other =
    is_lt (ordering_then (ordering_then (int_cmp one.place other.place) (nat_cmp one.id.thread other.id.thread)) (nat_cmp one.id.index other.id.index))

in_order : (window : WindowForm) (valuation : Valuation) (one other : Placed) → IsTold window valuation one → IsTold window valuation other
    → is_before other one ≡ false → number_in window one.id ≢ number_in window other.id → ComesBefore window valuation one.id other.id
in_order window valuation one other first second sorted differ =
    elim (not_after one.place other.place one.id.thread other.id.thread one.id.index other.id.index _ _ _
    (int_ranked other.place one.place _ refl) (ranked other.id.thread one.id.thread _ refl) (ranked other.id.index one.id.index _ refl) sorted) [
      | inl less ↦ inl (subst (λ (p : ℤ). p <ℤ place_in window valuation other.id) first.place (subst (λ (q : ℤ). one.place <ℤ q) second.place less))
      | inr (tie, inl less) ↦ inr (sym first.place ∙ tie ∙ second.place, inl less)
      | inr (tie, inr (same, inl less)) ↦ inr (sym first.place ∙ tie ∙ second.place, inr (same, less))
      | inr (tie, inr (same, inr too)) ↦
          let one_event : one.id ≡ other.id =
          ap (λ (t : ℕ). event_id t one.id.index) same ∙ ap (event_id other.id.thread) too in
          absurd (differ (ap (number_in window) one_event))
    ]

-- what the sort goes by is an order
abbrev pub place_cmp : ℤ × ℕ × ℕ → ℤ × ℕ × ℕ → Ordering
place_cmp one other = ordering_then (ordering_then (int_cmp one.0 other.0) (nat_cmp one.1 other.1)) (nat_cmp one.2 other.2)

-- by place, then by thread, then by index
abbrev pub place_key : Placed → ℤ × ℕ × ℕ
place_key event = (event.place, event.id.thread, event.id.index)

place_cmp_total : IsTotalOrder place_cmp
place_cmp_total =
    then_total (then_total (on_total (λ (k : ℤ × ℕ × ℕ). k.0) int_cmp_total) (on_total (λ (k : ℤ × ℕ × ℕ). k.1) nat_cmp_total)) (on_total (λ (k : ℤ × ℕ × ℕ). k.2) nat_cmp_total)

-- the executed events, sorted, are in the order of their places
pub by_place : (window : WindowForm) (valuation : Valuation) (placed sorted : List Placed) → placed ≡ all_placed window valuation → IsPermutation placed sorted
    → IsSortedByKey place_key place_cmp sorted → IsByPlace window valuation (map (λ (event : Placed). event.id) sorted)
by_place window valuation placed sorted are moved order =
    let P : Placed → Type 0 = IsTold window valuation in
    let told_all : AllByRecursion P placed = subst (AllByRecursion P) (sym are) (all_told window valuation) in
    let told_sorted : All P sorted = All-permutation P placed sorted moved (All-from_recursion P placed told_all) in
    let R : Placed → Placed → Type 0 = λ one other. number_in window one.id < number_in window other.id in
    let rising : Pairwise R placed = subst (Pairwise R) (sym are) (numbers_rise window valuation) in
    record {
      sorted = λ i j d before within.
          let inside : j < length sorted = omega (arith, length-map sorted (λ (event : Placed). event.id)) in
          let none : Placed = record { place = pos 0; id = d } in
          let one : Placed = get_or sorted i none in
          let other : Placed = get_or sorted j none in
          let lower : i < length sorted = omega (arith, inside) in
          let upto : i ≤ j = omega arith in
          let far : is_before other one ≡ false = sorted_far (λ (x y : Placed). is_lt (place_cmp (place_key x) (place_key y))) (ranks_by place_cmp_total place_key) sorted order i j none upto inside in
          let ordered : ComesBefore window valuation one.id other.id = in_order window valuation one other (told_sorted i none lower) (told_sorted j none inside) far
          (apart (λ (event : Placed). number_in window event.id) placed sorted rising moved i j none before inside) in
          rw (get_or-map (λ (event : Placed). event.id) sorted i none d lower, get_or-map (λ (event : Placed). event.id) sorted j none d inside) ordered;
      only = λ id there. All-contains (IsExecuted window valuation) (map (λ (event : Placed). event.id) sorted) id
          (All-map (IsExecuted window valuation) (λ (event : Placed). event.id) sorted (λ k d within. (told_sorted k d within).executed)) there;
      all = λ id executed.
          let found = placed_there window valuation id executed in
          let in_placed : Contains placed found.0 = subst (λ xs. Contains xs found.0) (sym are) found.1 in
          let in_sorted = Contains-permutation placed sorted found.0 moved in_placed in
          subst (Contains (map (λ (event : Placed). event.id) sorted)) found.2
          (contains_map (λ (event : Placed). event.id) sorted found.0 in_sorted);
    }

-- the same from what the sort says
pub by_sort : (window : WindowForm) (valuation : Valuation) (placed sorted : List Placed) {F : Type 0} {g : Mut F (Bor Placed × Unit {0}) (ℤ × ℕ × ℕ)} {f : F}
    → placed ≡ all_placed window valuation → IsPermutation placed sorted
    → ((key : Placed → ℤ × ℕ × ℕ) → ComputesKey g key f → IsSortedByKey key place_cmp sorted)
    → ((a : Bor Placed × Unit {0}) (r : ℤ × ℕ × ℕ) (f' : F) → Called g f a r f' → (r ≡ place_key a.0.now) × (f' ≡ f))
    → IsByPlace window valuation (map (λ (event : Placed). event.id) sorted)
by_sort window valuation placed sorted {g = g} {f = f} are moved sorts answers =
    by_place window valuation placed sorted are moved (sorts place_key (always_returns_same g (λ a r. r ≡ place_key a.0.now) f answers))

-- a list of just the executed events
pub executed_ids : (window : WindowForm) (valuation : Valuation)
    → (ids : List EventId) × ((id : EventId) → Contains ids id → IsExecuted window valuation id) × ((id : EventId) → IsExecuted window valuation id → Contains ids id)
executed_ids window valuation =
    let placed : List Placed = all_placed window valuation in
    let ids : List EventId = map (λ (event : Placed). event.id) placed in
    let told : All (IsTold window valuation) placed = All-from_recursion (IsTold window valuation) placed (all_told window valuation) in (
      ids,
      λ id there. All-contains (IsExecuted window valuation) ids id
          (All-map (IsExecuted window valuation) (λ (event : Placed). event.id) placed (λ k d within. (told k d within).executed)) there,
      λ id executed.
          let found = placed_there window valuation id executed in
          subst (Contains ids) found.2 (contains_map (λ (event : Placed). event.id) placed found.0 found.1),
    )

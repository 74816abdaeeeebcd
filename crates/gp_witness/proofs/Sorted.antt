-- What stands before an event in a schedule that is in order.
use Rattle.std.proofs.Common.{◌≡◌, sym, refl, subst, inl, inr, List, [], ◌∷◌, ◌++◌, arith}
use Rattle.std.specs.Prelude.{◌<ℤ◌, ◌≢◌, true, Contains}
use Rattle.std.proofs.lemmas.Int.{ints}
use Rattle.std.proofs.lemmas.List.Elements.{Contains-append_left}
use Rattle.gp_window.specs.declared.schedule.EventId.{EventId}
use Rattle.gp_base.specs.ListLaws.{contains_middle, contains_parts, first_or_rest, nothing_in, Pairwise, recursion_at, recursion_parts}
use Rattle.gp_witness.specs.Meaning.{Truth}

-- the event is executed
abbrev pub Does : Truth → EventId → Type 0
Does t id = t.executed id ≡ true

-- one event has a lesser place than another
abbrev pub Before : Truth → EventId → EventId → Type 0
Before t one other = t.place one <ℤ t.place other

-- one event may come before another in a schedule: they differ, and the other does not stand before it
abbrev pub MayPrecede : Truth → EventId → EventId → Type 0
MayPrecede t one other = (one ≢ other) × (Before t other one → ⊥)

-- each event may come before all those after it
abbrev pub IsSorted : Truth → List EventId → Type 0
IsSorted t ids = Pairwise (MayPrecede t) ids

-- the schedule has just the events that are executed, each once and in the order of their places
pub record IsScheduleOf (t : Truth) (ids : List EventId) : Type 0 where
  pub sorted : IsSorted t ids
  pub only : (id : EventId) → Contains ids id → Does t id
  pub all : (id : EventId) → Does t id → Contains ids id

pub before_middle : (t : Truth) (id middle : EventId) (front back : List EventId)
    → IsSorted t (front ++ middle ∷ back) → Contains front id → MayPrecede t id middle
before_middle t id middle [] back sorted i = absurd (nothing_in _ i)
before_middle t id middle (first ∷ front) back sorted i =
    elim (first_or_rest _ _ _ i) [
      | inl same ↦
          subst (λ e. MayPrecede t e middle) same (recursion_at (MayPrecede t first) (front ++ middle ∷ back) middle sorted.0 (contains_middle middle front back))
      | inr i ↦ before_middle t id middle front back sorted.1 i
    ]

pub after_middle : (t : Truth) (id middle : EventId) (front back : List EventId)
    → IsSorted t (front ++ middle ∷ back) → Contains back id → MayPrecede t middle id
after_middle t id middle [] back sorted i = recursion_at (MayPrecede t middle) back id sorted.0 i
after_middle t id middle (first ∷ front) back sorted i = after_middle t id middle front back sorted.1 i

sorted_front : (t : Truth) (front more : List EventId) → IsSorted t (front ++ more) → IsSorted t front
sorted_front t [] more sorted = tt
sorted_front t (first ∷ front) more sorted = ((recursion_parts (MayPrecede t first) front more sorted.0).0, sorted_front t front more sorted.1)

-- no event stands before itself
pub not_itself : (t : Truth) (id : EventId) → Before t id id → ⊥
not_itself t id before = absurd (omega (arith, ints))

-- an executed event of a schedule, and the events before it
pub record Stands (t : Truth) (done : List EventId) (id : EventId) : Type 0 where
  pub does : Does t id
  pub came : (other : EventId) → Contains done other → Does t other
  pub kept : (other : EventId) → Contains done other → Before t id other → ⊥
  pub comes : (other : EventId) → Does t other → Before t other id → Contains done other
  pub fresh : Contains done id → ⊥
  pub later : (front : List EventId) (middle : EventId) (back : List EventId) (other : EventId)
      → done ≡ front ++ middle ∷ back → Contains done other → Before t middle other → Contains back other

later_in : (t : Truth) (front : List EventId) (middle : EventId) (back : List EventId) (other : EventId)
    → IsSorted t (front ++ middle ∷ back) → Contains (front ++ middle ∷ back) other → Before t middle other → Contains back other
later_in t front middle back other sorted i before =
    elim (contains_parts other middle front back i) [
      | inl early ↦ absurd ((before_middle t other middle front back sorted early).1 before)
      | inr (inl same) ↦ absurd (not_itself t middle (subst (λ e. Before t middle e) (sym same) before))
      | inr (inr late) ↦ late
    ]

comes_in : (t : Truth) (done : List EventId) (id : EventId) (todo : List EventId) (other : EventId)
    → IsSorted t (done ++ id ∷ todo) → Contains (done ++ id ∷ todo) other → Before t other id → Contains done other
comes_in t done id todo other sorted i before =
    elim (contains_parts other id done todo i) [
      | inl early ↦ early
      | inr (inl same) ↦ absurd (not_itself t id (subst (λ e. Before t e id) (sym same) before))
      | inr (inr late) ↦ absurd ((after_middle t other id done todo sorted late).1 before)
    ]

pub stands : (t : Truth) (ids done : List EventId) (id : EventId) (todo : List EventId)
    → IsScheduleOf t ids → ids ≡ done ++ id ∷ todo → Stands t done id
stands t ids done id todo s is =
    let sorted : IsSorted t (done ++ id ∷ todo) = subst (IsSorted t) is s.sorted in
    let only : (other : EventId) → Contains (done ++ id ∷ todo) other → Does t other = λ other i. s.only other (subst (λ xs. Contains xs other) (sym is) i) in
    record {
      does = only id (contains_middle id done todo);
      came = λ other i. only other (Contains-append_left done (id ∷ todo) other i);
      kept = λ other i. (before_middle t other id done todo sorted i).1;
      comes = λ other does. comes_in t done id todo other sorted (subst (λ xs. Contains xs other) is (s.all other does));
      fresh = λ i. (before_middle t id id done todo sorted i).0 refl;
      later = λ front middle back other parts i.
          later_in t front middle back other (subst (IsSorted t) parts (sorted_front t done (id ∷ todo) sorted)) (subst (λ xs. Contains xs other) parts i);
    }

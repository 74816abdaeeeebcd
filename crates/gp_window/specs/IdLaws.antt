-- Laws: the tests of ids say what they are to say.
use Rattle.std.specs.Prelude.{◌≡◌, ◌↔◌, ◌⊎◌, ◌==◌, ◌&&◌, ◌||◌, ◌++◌, nat_lt, zero, suc, Bool, true, false, List, [], ◌∷◌, Contains}
use Rattle.std.proofs.Common.{refl, sym, ap, subst, ◌∙◌, inl, inr, arith, eqb-true, eq-eqb}
use Rattle.std.proofs.lemmas.Bool.{and_parts, false≢true, lt-ltb, ltb-true, or_cases, or_left, or_right}
use Rattle.std.proofs.lemmas.List.Folds.{list_any-append}
use Rattle.gp_base.specs.ListLaws.{here, there}
use Rattle.gp_window.specs.declared.schedule.EventId.{EventId}
use Rattle.gp_window.specs.Ids.{contains_event, IsLess, is_less, is_same}

-- ids that name one event are one
pub same_id : (one other : EventId) → is_same one other ≡ true → one ≡ other
same_id one other same =
    let parts = and_parts (one.thread == other.thread) (one.index == other.index) same in
    ap (λ t. record { thread = t; index = one.index }) (eqb-true one.thread other.thread parts.0)
    ∙ ap (λ i. record { thread = other.thread; index = i }) (eqb-true one.index other.index parts.1)

-- an id and itself name one event
pub same_itself : (id : EventId) → is_same id id ≡ true
same_itself id = rw (eq-eqb id.thread id.thread refl, eq-eqb id.index id.index refl) refl

-- the test of the order of events and the order are one
pub less_means : (one other : EventId) → (is_less one other ≡ true) ↔ IsLess one other
less_means one other = (forth, back)
  where
    forth : is_less one other ≡ true → IsLess one other
    forth e =
        elim (or_cases (nat_lt one.thread other.thread) (one.thread == other.thread && nat_lt one.index other.index) e) [
          | inl thread ↦ inl (ltb-true one.thread other.thread thread)
          | inr index ↦ (let parts = and_parts (one.thread == other.thread) (nat_lt one.index other.index) index in
              inr (eqb-true one.thread other.thread parts.0, ltb-true one.index other.index parts.1))
        ]

    back : IsLess one other → is_less one other ≡ true
    back (inl thread) = rw (lt-ltb one.thread other.thread thread) refl
    back (inr index) =
        or_right (nat_lt one.thread other.thread) (one.thread == other.thread && nat_lt one.index other.index)
        (rw (eq-eqb one.thread other.thread index.0, lt-ltb one.index other.index index.1) refl)

first_held : (first id : EventId) (events : List EventId) (b : Bool) → is_same first id ≡ b → (b || contains_event events id) ≡ true
    → (contains_event events id ≡ true → Contains events id) → Contains (first ∷ events) id
first_held first id events true same e rest = subst (Contains (first ∷ events)) (same_id first id same) (here first events)
first_held first id events false apart e rest = there first events id (rest e)

contained : (events : List EventId) (id : EventId) → contains_event events id ≡ true → Contains events id
contained [] id e = absurd (false≢true e)
contained (first ∷ events) id e = first_held first id events (is_same first id) refl e (contained events id)

contained_back : (events : List EventId) (id : EventId) → Contains events id → contains_event events id ≡ true
contained_back [] id holds = absurd (omega (arith, holds.1))
contained_back (first ∷ events) id (zero, below, is) =
    let same : is_same first id ≡ true = subst (λ other. is_same other id ≡ true) (sym is) (same_itself id) in rw same refl
contained_back (first ∷ events) id (suc k, below, is) =
    or_right (is_same first id) (contains_event events id) (contained_back events id (k, omega (arith, below), is))

-- the test of an event among others says that it is one of them
pub contains_means : (events : List EventId) (id : EventId) → (contains_event events id ≡ true) ↔ Contains events id
contains_means events id = (contained events id, contained_back events id)

-- an event is among those that it stands before, and is still among them where others stand before these
pub is_head : (events : List EventId) (id : EventId) → contains_event (id ∷ events) id ≡ true
is_head events id = or_left (is_same id id) (contains_event events id) (same_itself id)

pub is_later : (first : EventId) (events : List EventId) (id : EventId) → contains_event events id ≡ true → contains_event (first ∷ events) id ≡ true
is_later first events id is = or_right (is_same first id) (contains_event events id) is

pub in_back : (front back : List EventId) (id : EventId) → contains_event back id ≡ true → contains_event (front ++ back) id ≡ true
in_back front back id is =
    list_any-append (λ other. is_same other id) front back ∙ or_right (contains_event front id) (contains_event back id) is

pub in_middle : (front back : List EventId) (id : EventId) → contains_event (front ++ id ∷ back) id ≡ true
in_middle front back id = in_back front (id ∷ back) id (is_head back id)

-- an event among some is the first of them, or among the rest; of two lists it is among one
pub in_cases : (first : EventId) (events : List EventId) (id : EventId) → contains_event (first ∷ events) id ≡ true → (first ≡ id) ⊎ (contains_event events id ≡ true)
in_cases first events id is =
    elim (or_cases (is_same first id) (contains_event events id) is) [
      | inl same ↦ inl (same_id first id same)
      | inr rest ↦ inr rest
    ]

pub in_parts : (front back : List EventId) (id : EventId) → contains_event (front ++ back) id ≡ true → (contains_event front id ≡ true) ⊎ (contains_event back id ≡ true)
in_parts front back id is =
    or_cases (contains_event front id) (contains_event back id) (sym (list_any-append (λ other. is_same other id) front back) ∙ is)

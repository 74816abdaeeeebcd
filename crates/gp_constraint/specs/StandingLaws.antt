-- Laws: what stands before an event in a list of events.
use Rattle.std.proofs.Common.{◌≡◌, ◌<◌, ap, sym, ◌∙◌, refl, subst, inl, inr, List, [], ◌∷◌, ◌++◌, length, true, false, arith}
use Rattle.std.specs.Prelude.{if◌then◌else◌}
use Rattle.std.proofs.lemmas.Bool.{cases_Bool}
use Rattle.gp_window.specs.declared.schedule.EventId.{EventId}
use Rattle.gp_window.specs.IdLaws.{in_cases, is_head, is_later, same_id, same_itself}
use Rattle.gp_window.specs.Ids.{contains_event, is_same}

-- what stands before the event; all, where it is not there
abbrev pub before_of : List EventId → EventId → List EventId
before_of [] e = []
before_of (id ∷ ids) e = if is_same id e then [] else id ∷ before_of ids e

-- an event that is there stands behind what is before it
pub found : (ids : List EventId) (e : EventId) → contains_event ids e ≡ true → (back : List EventId) × (ids ≡ before_of ids e ++ e ∷ back)
found [] e is = cc
found (id ∷ ids) e is =
    elim (cases_Bool (is_same id e)) [
      | inl same ↦ (ids, rw same (ap (λ x. x ∷ ids) (same_id id e same)))
      | inr differ ↦ let rest = found ids e (rw differ at is) in (rest.0, rw differ (ap (λ r. id ∷ r) rest.1))
    ]

-- an event that is not in the front stands right behind it
pub before_is : (front back : List EventId) (e : EventId) → (contains_event front e ≡ true → ⊥) → before_of (front ++ e ∷ back) e ≡ front
before_is [] back e apart = let same = same_itself e in rw same refl
before_is (id ∷ front) back e apart =
    elim (cases_Bool (is_same id e)) [
      | inl same ↦ absurd (apart (rw same refl))
      | inr differ ↦ rw differ (ap (λ r. id ∷ r) (before_is front back e (λ is. apart (is_later id front e is))))
    ]

-- what stands before an event stands in the list
pub before_in : (ids : List EventId) (e f : EventId) → contains_event (before_of ids f) e ≡ true → contains_event ids e ≡ true
before_in [] e f is = cc
before_in (id ∷ ids) e f is =
    elim (cases_Bool (is_same id f)) [
      | inl same ↦ let bad = rw same at is in cc
      | inr differ ↦ elim (in_cases id (before_of ids f) e (rw differ at is)) [
        | inl head ↦ subst (λ x. contains_event (x ∷ ids) e ≡ true) (sym head) (is_head ids e)
        | inr rest ↦ is_later id ids e (before_in ids e f rest)
      ]
    ]

-- before an event stand exactly the events with fewer before them
pub before_shorter : (ids : List EventId) (e f : EventId) → contains_event (before_of ids f) e ≡ true → length (before_of ids e) < length (before_of ids f)
before_shorter [] e f is = cc
before_shorter (id ∷ ids) e f is =
    elim (cases_Bool (is_same id f)) [
      | inl same ↦ let bad = rw same at is in cc
      | inr differ ↦ elim (cases_Bool (is_same id e)) [
        | inl head ↦ rw (differ, head) (omega arith)
        | inr other ↦
            let among = rw differ at is in
            let rest = before_shorter ids e f (rw other at among) in
            rw (differ, other) (omega (arith, rest))
      ]
    ]

pub shorter_before : (ids : List EventId) (e f : EventId) → length (before_of ids e) < length (before_of ids f) → contains_event (before_of ids f) e ≡ true
shorter_before [] e f less = absurd (omega arith)
shorter_before (id ∷ ids) e f less =
    elim (cases_Bool (is_same id f)) [
      | inl same ↦ let none = rw same at less in absurd (omega (arith, none))
      | inr differ ↦ elim (cases_Bool (is_same id e)) [
        | inl head ↦ rw (differ, head) refl
        | inr other ↦
            let among = rw (differ, other) at less in
            rw (differ, other) (shorter_before ids e f (omega (arith, among)))
      ]
    ]

-- an event that is there has fewer before it than there are
pub before_within : (ids : List EventId) (e : EventId) → contains_event ids e ≡ true → length (before_of ids e) < length ids
before_within [] e is = cc
before_within (id ∷ ids) e is =
    elim (cases_Bool (is_same id e)) [
      | inl same ↦ rw same (omega arith)
      | inr differ ↦ let rest = before_within ids e (rw differ at is) in rw differ (omega (arith, rest))
    ]

-- all stand before an event that is not there
pub before_absent : (ids : List EventId) (e : EventId) → contains_event ids e ≡ false → before_of ids e ≡ ids
before_absent [] e is = refl
before_absent (id ∷ ids) e is =
    elim (cases_Bool (is_same id e)) [
      | inl same ↦ let bad = rw same at is in cc
      | inr differ ↦ rw differ (ap (λ r. id ∷ r) (before_absent ids e (rw differ at is)))
    ]

-- events with as many before them are the same
pub before_apart : (ids : List EventId) (e f : EventId) → contains_event ids e ≡ true → contains_event ids f ≡ true → length (before_of ids e) ≡ length (before_of ids f) → e ≡ f
before_apart [] e f is_e is_f same = cc
before_apart (id ∷ ids) e f is_e is_f same =
    elim (cases_Bool (is_same id e)) [
      | inl head ↦ elim (cases_Bool (is_same id f)) [
        | inl too ↦ sym (same_id id e head) ∙ same_id id f too
        | inr other ↦ let counts = rw (head, other) at same in absurd (omega (arith, counts))
      ]
      | inr differ ↦ elim (cases_Bool (is_same id f)) [
        | inl head ↦ let counts = rw (differ, head) at same in absurd (omega (arith, counts))
        | inr other ↦
            let counts = rw (differ, other) at same in
            before_apart ids e f (rw differ at is_e) (rw other at is_f) (omega (arith, counts))
      ]
    ]

-- A group stands together in the schedule.
use Rattle.std.proofs.Common.{ℕ, zero, suc, ◌≡◌, ◌<◌, ◌≤◌, ap, sym, ◌∙◌, refl, subst, inl, inr, List, [], ◌∷◌, ◌++◌, append_assoc, length, length-append, take, Bool, true, arith}
use Rattle.std.specs.Prelude.{◌==◌, Contains}
use Rattle.std.specs.List.{list_all}
use Rattle.std.proofs.lemmas.Bool.{and_from, cases_Bool, eq-eqb, false≢true}
use Rattle.std.proofs.lemmas.List.{append-nil, length-take-le}
use Rattle.std.proofs.lemmas.List.Elements.{Contains-append_left, Contains-append_right}
use Rattle.gp_window.specs.declared.schedule.EventId.{EventId}
use Rattle.gp_window.specs.IdLaws.{contains_means}
use Rattle.gp_window.specs.Ids.{contains_event}
use Rattle.gp_instance.specs.Matches.{begins_with_group, stands_together}
use Rattle.gp_base.specs.ListLaws.{AreDifferent, contains_middle, contains_parts, first_or_rest, here, nothing_in, recursion_at, there}
use Rattle.gp_witness.specs.Meaning.{Truth}
use Rattle.gp_witness.proofs.Group.{group_holds, IsGroup}
use Rattle.gp_witness.proofs.Sorted.{after_middle, Before, before_middle, Does, IsScheduleOf, IsSorted}

splits : (id : EventId) (ids : List EventId) → Contains ids id → (front : List EventId) × (back : List EventId) × (ids ≡ front ++ id ∷ back)
splits id [] i = absurd (nothing_in _ i)
splits id (first ∷ ids) i =
    elim (first_or_rest _ _ _ i) [
      | inl same ↦ ([], ids, ap (λ o. o ∷ ids) same)
      | inr i ↦ let rest = splits id ids i in (first ∷ rest.0, rest.1, ap (λ more. first ∷ more) rest.2)
    ]

-- different events that are all among some are no more than these
fewer : (xs ys : List EventId) → AreDifferent xs → ((id : EventId) → Contains xs id → Contains ys id) → length xs ≤ length ys
fewer [] ys different inside = omega arith
fewer (x ∷ xs) ys different inside =
    let s = splits x ys (inside x (here _ _)) in
    let rest = fewer xs (s.0 ++ s.1) different.1 (λ id i.
    elim (contains_parts id x s.0 s.1 (subst (λ xs. Contains xs id) s.2 (inside id (there _ _ _ i)))) [
      | inl early ↦ Contains-append_left s.0 s.1 id early
      | inr (inl same) ↦ absurd (recursion_at (λ o. x ≡ o → ⊥) xs id different.0 i same)
      | inr (inr late) ↦ Contains-append_right s.0 s.1 id late
    ]) in
    let whole = ap length s.2 ∙ length-append s.0 (x ∷ s.1) in
    let part = length-append s.0 s.1 in
    omega (arith, rest, whole, part)

all_taken : (p : EventId → Bool) (n : ℕ) (ids : List EventId)
    → ((front : List EventId) (id : EventId) (back : List EventId) → ids ≡ front ++ id ∷ back → length front < n → p id ≡ true) → list_all p (take n ids) ≡ true
all_taken p zero ids h = refl
all_taken p (suc n) [] h = refl
all_taken p (suc n) (id ∷ ids) h =
    let first : p id ≡ true = h [] id ids refl (omega arith) in
    let rest = all_taken p n ids (λ front other back is less. h (id ∷ front) other back (ap (λ more. id ∷ more) is) (omega arith)) in
    rw first rest

sorted_back : (t : Truth) (front back : List EventId) → IsSorted t (front ++ back) → IsSorted t back
sorted_back t [] back sorted = sorted
sorted_back t (first ∷ front) back sorted = sorted_back t front back sorted.1

head_of : (x y : EventId) (xs ys : List EventId) → ◌≡◌ {A = List EventId} (x ∷ xs) (y ∷ ys) → x ≡ y
head_of x y xs ys e = cc

-- an event that stands before as many as the group has is one of it
taken_among : (t : Truth) (group : List EventId) (x : EventId) (rest front : List EventId) (y : EventId) (back : List EventId)
    → IsGroup t group → IsSorted t (x ∷ rest) → Contains group x → Does t y → ((g : EventId) → Contains group g → Contains (x ∷ rest) g)
    → x ∷ rest ≡ front ++ y ∷ back → length front < length group → (Contains group y → ⊥) → ⊥
taken_among t group x rest [] y back g sorted begins does there parts less outside =
    outside (subst (λ o. Contains group o) (head_of x y rest back parts) begins)
taken_among t group x rest (first ∷ front) y back g sorted begins does there parts less outside =
    let is : x ≡ first = head_of x first rest (front ++ y ∷ back) parts in
    let order : IsSorted t ((first ∷ front) ++ y ∷ back) = subst (IsSorted t) parts sorted in
    let early = before_middle t x y (first ∷ front) back order (0, omega arith, sym is) in
    let few = fewer group (first ∷ front) g.different (λ id i.
    elim (contains_parts id y (first ∷ front) back (subst (λ xs. Contains xs id) parts (there id i))) [
      | inl inside ↦ inside
      | inr (inl same) ↦ absurd (outside (subst (λ o. Contains group o) (sym same) i))
      | inr (inr later) ↦
          let late = after_middle t id y (first ∷ front) back order later in
          let one : Before t x y = elim (g.ordered x y begins does early.0) [
            | inl before ↦ before
            | inr after ↦ absurd (early.1 after)
          ] in
          let two : Before t y id = elim (g.ordered id y i does (λ e. late.0 (sym e))) [
            | inl before ↦ absurd (late.1 before)
            | inr after ↦ after
          ] in
          absurd (group_holds t group x id y g begins i does one two outside)
    ]) in
    absurd (omega (arith, few, less))

begins_together : (t : Truth) (group : List EventId) (x : EventId) (rest : List EventId) → IsGroup t group → IsSorted t (x ∷ rest) → Contains group x
    → ((y : EventId) → Contains (x ∷ rest) y → Does t y) → ((g : EventId) → Contains group g → Contains (x ∷ rest) g) → begins_with_group group (x ∷ rest) ≡ true
begins_together t group x rest g sorted begins does there =
    let few = fewer group (x ∷ rest) g.different there in
    let long : length (take (length group) (x ∷ rest)) ≡ length group = length-take-le (length group) (x ∷ rest) few in
    let all = all_taken (contains_event group) (length group) (x ∷ rest) (λ front y back parts less.
    elim (cases_Bool (contains_event group y)) [
      | inl among ↦ among
      | inr outside ↦ absurd (taken_among t group x rest front y back g sorted begins
          (does y (subst (λ xs. Contains xs y) (sym parts) (contains_middle y front back))) there parts less (λ i. false≢true (sym outside ∙ (contains_means group y).1 i)))
    ]) in
    and_from (length (take (length group) (x ∷ rest)) == length group) (list_all (contains_event group) (take (length group) (x ∷ rest)))
    (eq-eqb (length (take (length group) (x ∷ rest))) (length group) long) all

none_left : (group : List EventId) → ((g : EventId) → Contains group g → ⊥) → stands_together group [] ≡ true
none_left [] none = refl
none_left (g ∷ group) none = absurd (none g (here _ _))

together_from : (t : Truth) (ids group done todo : List EventId) → IsScheduleOf t ids → IsGroup t group → ids ≡ done ++ todo
    → ((g : EventId) → Contains group g → Contains done g → ⊥) → stands_together group todo ≡ true
together_from t ids group done [] s g parts none =
    none_left group (λ id i. none id i (subst (λ xs. Contains xs id) (parts ∙ append-nil done) (s.all id (g.does id i))))
together_from t ids group done (x ∷ rest) s g parts none =
    let stays : (id : EventId) → Contains group id → Contains (x ∷ rest) id = (λ id i.
    elim (contains_parts id x done rest (subst (λ xs. Contains xs id) parts (s.all id (g.does id i)))) [
      | inl early ↦ absurd (none id i early)
      | inr (inl same) ↦ (0, omega arith, same)
      | inr (inr later) ↦ there _ _ _ later
    ]) in
    elim (cases_Bool (contains_event group x)) [
      | inl among ↦
          let begun = begins_together t group x rest g (sorted_back t done (x ∷ rest) (subst (IsSorted t) parts s.sorted)) ((contains_means group x).0 among)
          (λ y i. s.only y (subst (λ xs. Contains xs y) (sym parts) (Contains-append_right done (x ∷ rest) y i))) stays in
          rw begun refl
      | inr outside ↦
          let later = together_from t ids group (done ++ x ∷ []) rest s g (parts ∙ sym (append_assoc done (x ∷ []) rest)) (λ id i early.
          elim (contains_parts id x done [] early) [
            | inl before ↦ none id i before
            | inr (inl same) ↦ false≢true (sym outside ∙ (contains_means group x).1 (subst (λ o. Contains group o) (sym same) i))
            | inr (inr none_more) ↦ nothing_in _ none_more
          ]) in
          elim (cases_Bool (begins_with_group group (x ∷ rest))) [
            | inl begun ↦ rw begun refl
            | inr not ↦ rw not later
          ]
    ]

pub groups_together : (t : Truth) (ids group : List EventId) → IsScheduleOf t ids → IsGroup t group → stands_together group ids ≡ true
groups_together t ids group s g = together_from t ids group [] ids s g refl (λ id i early. nothing_in id early)

-- A group that stands together stands in a row.
use Rattle.std.proofs.Common.{◌≡◌, ◌≢◌, refl, ap, ◌∙◌, sym, subst, ◌⊎◌, inl, inr, Bool, true, false, List, [], ◌∷◌, ◌++◌, length, length-append, take, drop, arith, eqb-true, eq-eqb}
use Rattle.std.specs.Prelude.{◌||◌, Contains}
use Rattle.std.specs.List.{AllByRecursion, list_all}
use Rattle.std.proofs.lemmas.Bool.{and_parts, or_right}
use Rattle.std.proofs.lemmas.List.{take-append-drop}
use Rattle.std.proofs.lemmas.List.Elements.{Contains-append_cases, Contains-append_left, Contains-append_right}
use Rattle.std.proofs.Math.Seq.{take-append_seam}
use Rattle.gp_base.specs.ListLaws.{AreDifferent, different_taken, first_or_rest, here, recursion_at, there}
use Rattle.gp_window.specs.declared.schedule.EventId.{EventId}
use Rattle.gp_window.specs.Ids.{contains_event}
use Rattle.gp_window.specs.IdLaws.{contains_means}
use Rattle.gp_instance.specs.Matches.{begins_with_group, stands_together}
use Rattle.gp_instance.specs.Rows.{IsRow, StandsInRow}

-- an element and what stands on its two sides
sides : {A : Type 0} (xs : List A) (x : A) → Contains xs x → (before : List A) × (after : List A) × (xs ≡ before ++ x ∷ after)
sides [] x holds = absurd (omega (arith, holds.1))
sides (y ∷ xs) x holds =
    elim (first_or_rest y xs x holds) [
      | inl is ↦ ([], xs, ap (λ z. z ∷ xs) is)
      | inr rest ↦ let found = sides xs x rest in (y ∷ found.0, found.1, ap (λ zs. y ∷ zs) found.2)
    ]

-- an element is the one in the middle, or on one of its sides
middle_or_side : {A : Type 0} (before after : List A) (x z : A) → Contains (before ++ x ∷ after) z → (x ≡ z) ⊎ Contains (before ++ after) z
middle_or_side before after x z holds =
    elim (Contains-append_cases before (x ∷ after) z holds) [
      | inl front ↦ inr (Contains-append_left before after z front)
      | inr back ↦ elim (first_or_rest x after z back) [ inl is ↦ inl is | inr rest ↦ inr (Contains-append_right before after z rest) ]
    ]

-- other elements of a list are on the sides of one
on_sides : {A : Type 0} (before after all : List A) (x : A) (xs : List A) → all ≡ before ++ x ∷ after
    → AllByRecursion (λ y. x ≢ y) xs → AllByRecursion (Contains all) xs → AllByRecursion (Contains (before ++ after)) xs
on_sides before after all x [] is apart held = tt
on_sides before after all x (y ∷ xs) is apart held = (
  elim (middle_or_side before after x y (subst (λ zs. Contains zs y) is held.0)) [ inl same ↦ absurd (apart.0 same) | inr side ↦ side ],
  on_sides before after all x xs is apart.1 held.1,
)

-- as many different elements of a list as it has are all of it
all_of : {A : Type 0} (row group : List A) → AreDifferent row → AllByRecursion (Contains group) row → length row ≡ length group
    → (z : A) → Contains group z → Contains row z
all_of [] group apart held long z holds = absurd (omega (arith, holds.1))
all_of (x ∷ row) group apart held long z holds =
    let found = sides group x held.0 in
    let shorter : length row ≡ length (found.0 ++ found.1) = omega (arith, ap length found.2, length-append found.0 (x ∷ found.1), length-append found.0 found.1) in
    elim (middle_or_side found.0 found.1 x z (subst (λ zs. Contains zs z) found.2 holds)) [
      | inl is ↦ subst (Contains (x ∷ row)) is (here x row)
      | inr side ↦ there x row z (all_of row (found.0 ++ found.1) apart.1 (on_sides found.0 found.1 group x row found.2 apart.0 held.1) shorter z side)
    ]

-- events that are all among others
all_among_held : (group row : List EventId) → list_all (contains_event group) row ≡ true → AllByRecursion (Contains group) row
all_among_held group [] all = tt
all_among_held group (id ∷ row) all = let pass = and_parts _ _ all in ((contains_means group id).0 pass.0, all_among_held group row pass.1)

-- events each of which is one of others
all_held_among : (group row : List EventId) → ((id : EventId) → Contains row id → Contains group id) → list_all (contains_event group) row ≡ true
all_held_among group [] all = refl
all_held_among group (id ∷ row) all = rw ((contains_means group id).1 (all id (here id row))) (all_held_among group row (λ other holds. all other (there id row other holds)))

-- a schedule that begins with a group begins with a row of it
begins_in_row : (group schedule : List EventId) → AreDifferent schedule → begins_with_group group schedule ≡ true → IsRow group (take (length group) schedule)
begins_in_row group schedule apart begins =
    let pass = and_parts _ _ begins in
    let long : length (take (length group) schedule) ≡ length group = eqb-true _ _ pass.0 in
    let held = all_among_held group (take (length group) schedule) pass.1 in
    record {
      long = long;
      all = all_of (take (length group) schedule) group (different_taken (length group) schedule apart) held long;
      none_else = λ id holds. recursion_at (Contains group) (take (length group) schedule) id held holds;
    }

-- a group that stands together stands in a row
pub in_row : (group schedule : List EventId) → AreDifferent schedule → stands_together group schedule ≡ true → StandsInRow group schedule
in_row group [] apart stands =
    ([], take (length group) [], drop (length group) [], sym (take-append-drop (length group) []), begins_in_row group [] apart stands)
in_row group (first ∷ rest) apart stands =
    let by_cases : (b : Bool) → begins_with_group group (first ∷ rest) ≡ b → (b || stands_together group rest) ≡ true → StandsInRow group (first ∷ rest) = λ b. elim b as (λ v. begins_with_group group (first ∷ rest) ≡ v → (v || stands_together group rest) ≡ true → StandsInRow group (first ∷ rest)) [
      | true ↦ λ begins start. ([], take (length group) (first ∷ rest), drop (length group) (first ∷ rest), sym (take-append-drop (length group) (first ∷ rest)), begins_in_row group (first ∷ rest) apart begins)
      | false ↦ λ other later. let found = in_row group rest apart.1 later in (first ∷ found.0, found.1, found.2, ap (λ ids. first ∷ ids) found.3, found.4)
    ] in
    by_cases (begins_with_group group (first ∷ rest)) refl stands

-- a group at the beginning stands together
begins_stands : (group schedule : List EventId) → begins_with_group group schedule ≡ true → stands_together group schedule ≡ true
begins_stands group [] begins = begins
begins_stands group (first ∷ rest) begins = ap (λ b. b || stands_together group rest) begins

-- a row of a group, and what follows
row_stands : (group front row back : List EventId) → IsRow group row → stands_together group (front ++ (row ++ back)) ≡ true
row_stands group [] row back is =
    let same : take (length group) (row ++ back) ≡ row = ap (λ n. take n (row ++ back)) (sym is.long) ∙ take-append_seam row back in
    begins_stands group (row ++ back) (rw same (rw (eq-eqb (length row) (length group) is.long) (all_held_among group row is.none_else)))
row_stands group (first ∷ front) row back is = or_right (begins_with_group group (first ∷ (front ++ (row ++ back)))) (stands_together group (front ++ (row ++ back))) (row_stands group front row back is)

-- a group that stands in a row stands together
pub from_row : (group schedule : List EventId) → StandsInRow group schedule → stands_together group schedule ≡ true
from_row group schedule found = rw found.3 (row_stands group found.0 found.1 found.2 found.4)

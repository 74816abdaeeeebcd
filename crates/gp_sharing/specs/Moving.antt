-- Which steps of a certificate move into the shared list of its window, and what numbers the hints get by that.
use Rattle.std.specs.Prelude.{ℕ, ◌+◌, ◌-◌, ◌^◌, ◌<◌, ◌≤◌, ◌==◌, Bool, true, not, ◌&&◌, ◌||◌, List, [], ◌∷◌, ◌++◌, Option, Some, None, if◌then◌else◌, count_by, fold, is_none, is_some, length, map, nat_eq, nat_lt, position, slice_get, slice_index_or, take, unwrap_or}
use Rattle.std.specs.Cmp.Lexicographic.{pointwise}
use Rattle.std.specs.List.{list_all, list_any}
use Rattle.std.specs.Option.{option_map_or}
use Rattle.gp_clause.specs.Lit.{lit_eq}
use Rattle.gp_certificate.specs.declared.step.Step.{Step}
use Rattle.gp_derivation.specs.Numbering.{with_hints}
use Rattle.gp_sharing.specs.declared.sizes.Sizes.{Sizes}

-- the number of a certificate's first own step: it follows the base clauses and the shared steps
abbrev pub first_own : Sizes → ℕ
first_own sizes = sizes.clauses + sizes.shared

-- whether a step, which has this number, has hints, all below its number
abbrev pub rests_on_earlier : ℕ → Step → Bool
rests_on_earlier number step = not (length step.hints == 0) && list_all (λ hint. nat_lt hint number) step.hints

-- whether each step of a certificate does, the first of which has this number: then its steps may move
abbrev pub are_movable : ℕ → List Step → Bool
are_movable number [] = true
are_movable number (step ∷ steps) = rests_on_earlier number step && are_movable (number + 1) steps

-- the steps of a certificate that may move: all but the last
abbrev pub front_of : List Step → List Step
front_of steps = take (length steps - 1) steps

-- the place in the shared list to which an own step moved, by the places of those that come first in its certificate
abbrev pub place_at : List (Option ℕ) → ℕ → Option ℕ
place_at places own = unwrap_or (slice_get places own) None

-- whether a hint names a base clause, a shared step or a step that moved
abbrev pub names_shared : Sizes → List (Option ℕ) → ℕ → Bool
names_shared sizes places hint = nat_lt hint (first_own sizes) || is_some (place_at places (hint - first_own sizes))

-- whether a step moves, where the steps before it have these places: its variables are those of the base, and each of
-- its hints names a base clause, a shared step or a step that moved
abbrev pub moves : Sizes → List (Option ℕ) → Step → Bool
moves sizes places step = list_all (λ lit. nat_lt lit.variable sizes.variables) step.clause && list_all (names_shared sizes places) step.hints

-- the number in the shared list of what such a hint names
abbrev pub shared_number : Sizes → List (Option ℕ) → ℕ → ℕ
shared_number sizes places hint =
    if nat_lt hint (first_own sizes) then hint else (sizes.clauses + unwrap_or (place_at places (hint - first_own sizes)) 0)

-- a step that moves, as it stands in the shared list
abbrev pub moved_step : Sizes → List (Option ℕ) → Step → Step
moved_step sizes places step = with_hints (shared_number sizes places) step

-- whether two steps have the same clause and the same hints
abbrev pub step_eq : Step → Step → Bool
step_eq one other = pointwise lit_eq one.clause other.clause && pointwise nat_eq one.hints other.hints

-- the place of an own step: where it moves, that of the first shared step that is equal to it
abbrev pub place_of : Sizes → List Step → List (Option ℕ) → Step → Option ℕ
place_of sizes shared places step = if moves sizes places step then position (step_eq (moved_step sizes places step)) shared else None

-- a shared list with a step at its end, unless an equal one stands in it
abbrev pub with_step : List Step → Step → List Step
with_step shared step = if list_any (step_eq step) shared then shared else (shared ++ step ∷ [])

-- a shared list with an own step, where it moves
abbrev pub with_moved : Sizes → List Step → List (Option ℕ) → Step → List Step
with_moved sizes shared places step = if moves sizes places step then with_step shared (moved_step sizes places step) else shared

-- a shared list with those of some own steps that move, where the steps before them have these places
abbrev pub with_steps : Sizes → List Step → List (Option ℕ) → List Step → List Step
with_steps sizes shared places [] = shared
with_steps sizes shared places (step ∷ steps) =
    let more = with_moved sizes shared places step in
    with_steps sizes more (places ++ place_of sizes more places step ∷ []) steps

-- a shared list with those steps of a certificate that move
abbrev pub with_certificate : Sizes → List Step → List Step → List Step
with_certificate sizes shared steps = if are_movable (first_own sizes) steps then with_steps sizes shared [] (front_of steps) else shared

-- the places of some own steps in the whole shared list, after those of the steps before them
abbrev pub places_after : Sizes → List Step → List (Option ℕ) → List Step → List (Option ℕ)
places_after sizes shared places steps = fold (λ before step. before ++ place_of sizes shared before step ∷ []) places steps

-- the places of the steps of a certificate
abbrev pub places_of : Sizes → List Step → List Step → List (Option ℕ)
places_of sizes shared steps = places_after sizes shared [] (front_of steps)

-- the new number of an own step, where the shared list is so long: that of its place in the list, or that of the next
-- step that stays
abbrev pub own_number : Sizes → ℕ → List (Option ℕ) → ℕ → ℕ
own_number sizes size places own =
    option_map_or (λ place. sizes.clauses + place) (place_at places own) (sizes.clauses + size + count_by is_none (take own places))

-- a hint of a certificate whose steps moved to these places
abbrev pub new_number : Sizes → ℕ → List (Option ℕ) → ℕ → ℕ
new_number sizes size places hint = if nat_lt hint (first_own sizes) then hint else own_number sizes size places (hint - first_own sizes)

-- a hint by a list of the own steps' numbers
abbrev pub by_numbers : Sizes → List ℕ → ℕ → ℕ
by_numbers sizes numbers hint = if nat_lt hint (first_own sizes) then hint else slice_index_or numbers (hint - first_own sizes) 0

-- the steps that stay, where the first ones have these places
abbrev pub staying : List (Option ℕ) → List Step → List Step
staying (Some place ∷ places) (step ∷ steps) = staying places steps
staying (None ∷ places) (step ∷ steps) = step ∷ staying places steps
staying [] steps = steps
staying (place ∷ places) [] = []

-- a hint of a certificate that is not movable, where the shared list gained so many steps: one past the shared steps
-- follows its step, unless it would not fit
abbrev pub raised : Sizes → ℕ → ℕ → ℕ
raised sizes gained hint = if nat_lt hint (first_own sizes) || not (nat_lt (hint + gained) (2 ^ 32)) then hint else (hint + gained)

-- the steps of a certificate over the whole new shared list
abbrev pub compacted_steps : Sizes → List Step → List Step → List Step
compacted_steps sizes shared steps =
    if are_movable (first_own sizes) steps then map (with_hints (new_number sizes (length shared) (places_of sizes shared steps))) (staying (places_of sizes shared steps) steps)
    else map (with_hints (raised sizes (length shared - sizes.shared))) steps

-- the numbers of the places to which steps moved fit
abbrev pub PlacesFit : Sizes → List (Option ℕ) → Type 0
PlacesFit sizes places = (own : ℕ) → sizes.clauses + unwrap_or (place_at places own) 0 < 2 ^ 32

-- certificates of so many steps over this list can be numbered, and the list is no shorter than the shared steps were
pub record RoomFor (sizes : Sizes) (list : List Step) (count : ℕ) : Type 0 where
  pub few : sizes.clauses + length list + count < 2 ^ 32
  pub more : sizes.shared ≤ length list

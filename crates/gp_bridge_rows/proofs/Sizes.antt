-- The points of a window are variables of its problem.
use Rattle.std.proofs.Common.{◌≡◌, refl, ℕ, zero, suc, ◌≤◌, ◌<◌, Bool, true, false, List, [], ◌∷◌, ◌++◌, length, map, if◌then◌else◌, length-append, arith}
use Rattle.std.specs.List.{list_any}
use Rattle.std.specs.Prelude.{Some, slice_get, unwrap_or, nat_lt}
use Rattle.std.proofs.lemmas.Bool.Decides.{nat_tests}
use Rattle.std.proofs.lemmas.List.{length-map}
use Rattle.std.proofs.lemmas.Option.{slice_get_within}
use Rattle.gp_constraint.specs.declared.symbol.Symbol.{Symbol}
use Rattle.gp_constraint.specs.declared.symbol.Symbol.TheVariants.{Executed}
use Rattle.gp_constraint.specs.declared.symbol.SymbolicLit.{SymbolicLit}
use Rattle.gp_constraint.specs.Base.{base_of, clauses_of, first_names, names_in}
use Rattle.gp_constraint.specs.Encoded.{point_in, size_at}
use Rattle.gp_constraint.specs.Numbering.{names_after, names_of, point_names, with_mention}
use Rattle.gp_constraint.specs.PointLaws.{IsEventOf, event_below}
use Rattle.gp_constraint.specs.Points.{number_in, points_of, sizes_of}
use Rattle.gp_constraint.specs.Symbols.{kind_of, symbol_eq}
use Rattle.gp_trace.specs.declared.event.Event.{Event}
use Rattle.gp_window.specs.declared.schedule.EventId.{EventId}
use Rattle.gp_window.specs.Events.{segment_of, size_of}
use Rattle.gp_window.specs.WindowForm.{WindowForm}

-- names grow alone
mention_if : (names : List Symbol) (symbol : Symbol) (there : Bool) → length names ≤ length (if there then names else names ++ symbol ∷ [])
mention_if names symbol true = omega arith
mention_if names symbol false = let joined = length-append names (symbol ∷ []) in omega (arith, joined)

after_grows : (names : List Symbol) (lits : List SymbolicLit) → length names ≤ length (names_after names lits)
after_grows names [] = omega arith
after_grows names (lit ∷ lits) =
    let first : length names ≤ length (with_mention names lit.symbol) = mention_if names lit.symbol (list_any (symbol_eq lit.symbol) names) in
    let rest = after_grows (with_mention names lit.symbol) lits in
    omega (arith, first, rest)

all_grow : (names : List Symbol) (clauses : List (List SymbolicLit)) → length names ≤ length (names_of names clauses)
all_grow names [] = omega arith
all_grow names (clause ∷ clauses) =
    let first = after_grows names clause in
    let rest = all_grow (names_after names clause) clauses in
    omega (arith, first, rest)

size_names : (n : ℕ) → length (point_names n) ≡ n
size_names zero = refl
size_names (suc n) =
    let joined = length-append (point_names n) (Executed n ∷ []) in
    let rest = size_names n in
    omega (arith, joined, rest)

-- so there are at least as many variables as points
variables_enough : (window : WindowForm) → length (points_of window) ≤ length (base_of window).kinds
variables_enough window =
    let first = size_names (length (points_of window)) in
    let all = all_grow (first_names window) (clauses_of window) in
    let kinds = length-map (names_in window) kind_of in
    omega (arith, first, all, kinds)

-- the number of an event is a variable
pub is_variable : (window : WindowForm) (id : EventId) → IsEventOf window id → number_in window id < length (base_of window).kinds
is_variable window id there =
    let below = event_below window id there in
    let enough = variables_enough window in
    omega (arith, below, enough)

-- the size of a thread
size_there : (segments : List (List Event)) (place : ℕ)
    → unwrap_or (slice_get (map (λ (segment : List Event). length segment) segments) place) 0 ≡ length (unwrap_or (slice_get segments place) [])
size_there [] place = refl
size_there (segment ∷ segments) zero = refl
size_there (segment ∷ segments) (suc place) = size_there segments place

size_is : (window : WindowForm) (thread : ℕ) → size_at (sizes_of window) thread ≡ size_of window thread
size_is window zero = refl
size_is window (suc place) = size_there window.segments place

-- an event has a point
pub point_is : (window : WindowForm) (id : EventId) → IsEventOf window id → point_in (sizes_of window) id ≡ Some (number_in window id)
point_is window id (event, there) =
    let within = slice_get_within (segment_of window id.thread) id.index event there in
    let size = size_is window id.thread in
    let test : nat_lt id.index (size_at (sizes_of window) id.thread) ≡ true = grind (arith, nat_tests) in
    rw test refl

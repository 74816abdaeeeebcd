-- What a query assumes is true where the events meet what it asks.
use Rattle.std.proofs.Common.{ℕ, ℤ, pos, ◌≡◌, ◌-◌, ◌-ℤ◌, ◌≤ℤ◌, ◌<ℤ◌, ap, sym, ◌∙◌, refl, inl, inr, List, [], ◌∷◌, ◌++◌, Bool, true, false, not, arith, length}
use Rattle.std.specs.Prelude.{Contains, ◌==◌, flat_map, if◌then◌else◌, int_le, int_lt, nat_lt}
use Rattle.std.specs.List.{AllByRecursion}
use Rattle.std.proofs.lemmas.Bool.{cases_Bool}
use Rattle.std.proofs.lemmas.Int.{ints}
use Rattle.gp_property.specs.PropertyForm.{PropertyForm}
use Rattle.gp_property.specs.declared.property.PatternStep.{PatternStep}
use Rattle.gp_instance.specs.Matches.{groups_of}
use Rattle.gp_window.specs.declared.schedule.EventId.{EventId}
use Rattle.gp_window.specs.WindowForm.{WindowForm}
use Rattle.gp_window.specs.Ids.{is_same}
use Rattle.gp_constraint.specs.declared.symbol.Symbol.{Symbol}
use Rattle.gp_constraint.specs.declared.symbol.Symbol.TheVariants.{Executed, Span}
use Rattle.gp_constraint.specs.declared.symbol.SymbolicLit.{SymbolicLit}
use Rattle.gp_base.specs.ListLaws.{contains_from_drop, contains_from_take, nothing_in, recursion_append, recursion_flat_map, recursion_map}
use Rattle.gp_constraint.specs.PointLaws.{IsEventOf, point_for}
use Rattle.gp_constraint.specs.Points.{number_in, points_of}
use Rattle.gp_constraint.specs.Query.{executed_lits, holds, order_lit, ordered, orders_from, pattern_lits, span_lit, spans_in}
use Rattle.gp_constraint.specs.Truths.{AreTrueLits, lit_true}
use Rattle.gp_witness.specs.Asked.{IsNear, MeetsQuery, StepsFollow}
use Rattle.gp_witness.specs.Meaning.{Truth}
use Rattle.gp_witness.specs.TruthOfSymbols.{id_at}
use Rattle.gp_witness.proofs.Located.{at_point, int_lt_not, int_lt_to, says}

-- the event of the number of an event
pub at_event : (window : WindowForm) (e : EventId) → IsEventOf window e → id_at (points_of window) (number_in window e) ≡ e
at_event window e is =
    let p = point_for window e is in
    ap (λ n. id_at (points_of window) n) (sym p.2) ∙ at_point window p.0 p.1 ∙ p.3

pub int_le_to : (a b : ℤ) → a ≤ℤ b → int_le a b ≡ true
int_le_to a b most =
    elim (cases_Bool (int_le a b)) [
      | inl is ↦ is
      | inr fails ↦ absurd (omega (arith, ints, most, fails))
    ]

-- each event of the list is one of the window
abbrev pub AreEvents : WindowForm → List EventId → Type 0
AreEvents window ids = (id : EventId) → Contains ids id → IsEventOf window id

groups_events : (window : WindowForm) (pattern : List PatternStep) (ids : List EventId) → AreEvents window ids → AllByRecursion (AreEvents window) (groups_of pattern ids)
groups_events window [] ids events = tt
groups_events window (step ∷ pattern) ids events = (
  (λ id i. events id (contains_from_take (length step.atoms) ids id i)),
  groups_events window pattern _ (λ id i. events id (contains_from_drop (length step.atoms) ids id i)),
)

-- the literal for the order of two events is true where the places are so
if_true : (window : WindowForm) (t : Truth) (b : Bool) (one other : SymbolicLit) → (b ≡ true → lit_true (says window t) one ≡ true) → (b ≡ false → lit_true (says window t) other ≡ true)
    → lit_true (says window t) (if b then one else other) ≡ true
if_true window t true one other first second = first refl
if_true window t false one other first second = second refl

unless_true : (truth : Symbol → Bool) (b : Bool) (lit : SymbolicLit) → (b ≡ false → lit_true truth lit ≡ true) → AreTrueLits truth (if b then [] else lit ∷ [])
unless_true truth true lit holds = tt
unless_true truth false lit holds = (holds refl, tt)

ordered_true : (window : WindowForm) (t : Truth) (one other : EventId) → IsEventOf window one → IsEventOf window other → t.place one <ℤ t.place other
    → lit_true (says window t) (ordered window one other) ≡ true
ordered_true window t one other is_one is_other less =
    let at : ℕ → EventId = id_at (points_of window) in
    let place_one : t.place (at (number_in window one)) ≡ t.place one = ap t.place (at_event window one is_one) in
    let place_other : t.place (at (number_in window other)) ≡ t.place other = ap t.place (at_event window other is_other) in
    if_true window t (nat_lt (number_in window one) (number_in window other)) _ _
    (λ low. ap (λ x. int_lt x (t.place (at (number_in window other)))) place_one ∙ ap (λ x. int_lt (t.place one) x) place_other ∙ int_lt_to (t.place one) (t.place other) less)
    (λ high.
    let test : int_lt (t.place (at (number_in window other))) (t.place (at (number_in window one))) ≡ false =
    ap (λ x. int_lt x (t.place (at (number_in window one)))) place_other ∙ ap (λ x. int_lt (t.place other) x) place_one ∙ int_lt_not (t.place other) (t.place one) less in
    ap (λ b. not b) test)

orders_true : (window : WindowForm) (t : Truth) (before : List EventId) (groups : List (List EventId)) → AreEvents window before → AllByRecursion (AreEvents window) groups
    → StepsFollow t before groups → AreTrueLits (says window t) (orders_from window before groups)
orders_true window t before [] events all follows = tt
orders_true window t before (group ∷ groups) events all follows =
    let P : SymbolicLit → Type 0 = λ lit. lit_true (says window t) lit ≡ true in
    recursion_append P (flat_map (λ one. flat_map (order_lit window one) group) before) (orders_from window group groups)
    (recursion_flat_map P (λ one. flat_map (order_lit window one) group) before (λ one in_one.
    recursion_flat_map P (order_lit window one) group (λ other in_other.
    unless_true (says window t) (one.thread == other.thread) (ordered window one other) (λ differ.
    ordered_true window t one other (events one in_one) (all.0 other in_other)
    (follows.0 one other in_one in_other)))))
    (orders_true window t group groups all.0 all.1 follows.1)

spans_true : (window : WindowForm) (t : Truth) (group : List EventId) → AreEvents window group → IsNear t group → AreTrueLits (says window t) (spans_in window group)
spans_true window t group events near =
    let P : SymbolicLit → Type 0 = λ lit. lit_true (says window t) lit ≡ true in
    let at : ℕ → EventId = id_at (points_of window) in
    recursion_flat_map P (λ one. flat_map (span_lit window (length group - 1) one) group) group (λ one in_one.
    recursion_flat_map P (span_lit window (length group - 1) one) group (λ other in_other.
    unless_true (says window t) (is_same one other) (holds (Span (number_in window one) (number_in window other) (length group - 1))) (λ differ.
    let place_one : t.place (at (number_in window one)) ≡ t.place one = ap t.place (at_event window one (events one in_one)) in
    let place_other : t.place (at (number_in window other)) ≡ t.place other = ap t.place (at_event window other (events other in_other)) in
    ap (λ x. int_le (x -ℤ t.place (at (number_in window other))) (pos (length group - 1))) place_one
    ∙ ap (λ x. int_le (t.place one -ℤ x) (pos (length group - 1))) place_other
    ∙ int_le_to (t.place one -ℤ t.place other) (pos (length group - 1)) (near one other in_one in_other))))

all_spans_true : (window : WindowForm) (t : Truth) (groups : List (List EventId)) → AllByRecursion (AreEvents window) groups → AllByRecursion (IsNear t) groups
    → AreTrueLits (says window t) (flat_map (spans_in window) groups)
all_spans_true window t [] events near = tt
all_spans_true window t (group ∷ groups) events near =
    recursion_append (λ (lit : SymbolicLit). lit_true (says window t) lit ≡ true) (spans_in window group) (flat_map (spans_in window) groups)
    (spans_true window t group events.0 near.0) (all_spans_true window t groups events.1 near.1)

-- all that a query assumes is true
pub assumed_true : (window : WindowForm) (t : Truth) (property : PropertyForm) (ids : List EventId) → AreEvents window ids → MeetsQuery window t property ids
    → AreTrueLits (says window t) (executed_lits window ids ++ pattern_lits window property ids)
assumed_true window t property ids events meets =
    let P : SymbolicLit → Type 0 = λ lit. lit_true (says window t) lit ≡ true in
    let groups : List (List EventId) = groups_of property.pattern ids in
    let all = groups_events window property.pattern ids events in
    recursion_append P (executed_lits window ids) (pattern_lits window property ids)
    (recursion_map P (λ id. holds (Executed (number_in window id))) ids (λ id in_ids.
    ap t.executed (at_event window id (events id in_ids)) ∙ meets.executed id in_ids))
    (recursion_append P (orders_from window [] groups) (flat_map (spans_in window) groups)
    (orders_true window t [] groups (λ id none. absurd (nothing_in _ none)) all meets.follow) (all_spans_true window t groups all meets.near))

-- What a true query says of the events, and that then the instance stands in the schedule.
use Rattle.std.proofs.Common.{ℕ, ◌≡◌, ◌⊎◌, ap, sym, ◌∙◌, refl, subst, inl, inr, List, [], ◌∷◌, true, false, arith, length, take, drop}
use Rattle.std.specs.Prelude.{◌≢◌, ◌-◌, ◌<ℤ◌, ◌==◌, nat_lt, flat_map, Contains}
use Rattle.std.specs.List.{AllByRecursion}
use Rattle.std.proofs.lemmas.Bool.{cases_Bool, cases_eq, cases_order, ne_eqb}
use Rattle.std.proofs.lemmas.Int.{ints}
use Rattle.std.proofs.lemmas.List.Elements.{Contains-append_left, Contains-append_right}
use Rattle.gp_property.specs.declared.property.PatternStep.{PatternStep}
use Rattle.gp_property.specs.Checks.{are_defined}
use Rattle.gp_property.specs.PropertyForm.{PropertyForm}
use Rattle.gp_instance.specs.Matches.{groups_of}
use Rattle.gp_window.specs.declared.schedule.EventId.{EventId}
use Rattle.gp_window.specs.WindowForm.{WindowForm}
use Rattle.gp_window.specs.IdLaws.{same_id}
use Rattle.gp_window.specs.Ids.{is_same}
use Rattle.gp_constraint.specs.declared.symbol.Symbol.{Symbol}
use Rattle.gp_constraint.specs.declared.symbol.Symbol.TheVariants.{Order, Span}
use Rattle.gp_constraint.specs.declared.symbol.SymbolicLit.{SymbolicLit}
use Rattle.gp_base.specs.ListLaws.{AreDifferent, contains_flat_map, contains_from_drop, contains_from_take, contains_unless, different_dropped, different_taken, nothing_in}
use Rattle.gp_constraint.specs.InstanceLaws.{InstanceMeans, RiseAlong}
use Rattle.gp_constraint.specs.Laws.{QueryMeans}
use Rattle.gp_constraint.specs.PointLaws.{IsEventOf, point_for}
use Rattle.gp_constraint.specs.Points.{number_in, points_of}
use Rattle.gp_constraint.specs.Query.{holds, order_lit, ordered, orders_from, side, sides_of, span_lit, spans_in}
use Rattle.gp_constraint.specs.SymbolTruth.{Bound, IsTrueLit, SymbolTruth}
use Rattle.gp_witness.specs.AnswerTruth.{truth_in}
use Rattle.gp_witness.specs.Asked.{IsDecided, IsNear, MeetsQuery, StepsFollow}
use Rattle.gp_witness.specs.Meaning.{PlacesRise, Truth}
use Rattle.gp_witness.proofs.Clauses.{does_from}
use Rattle.gp_witness.proofs.Feasible.{same_parts}
use Rattle.gp_witness.proofs.Match.{InstanceStands, IsStep, StepsStand}
use Rattle.gp_witness.proofs.Sorted.{Before, Does}

-- these literals are true, and these symbols keep what they say
abbrev AreTrue : SymbolTruth → List SymbolicLit → Type 0
AreTrue t lits = (lit : SymbolicLit) → Contains lits lit → IsTrueLit t lit

abbrev AreBound : SymbolTruth → List Symbol → Type 0
AreBound t symbols = (symbol : Symbol) → Contains symbols symbol → Bound t symbol (t.symbols symbol)

abbrev AreEvents : WindowForm → List EventId → Type 0
AreEvents window ids = (id : EventId) → Contains ids id → IsEventOf window id

-- a true order is one of places
order_means : (window : WindowForm) (t : SymbolTruth) (one other : EventId) → IsTrueLit t (ordered window one other) → Before (truth_in window t) one other
order_means window t one other h =
    let a : ℕ = number_in window one in
    let b : ℕ = number_in window other in
    elim (cases_Bool (nat_lt a b)) [
      | inl less ↦ let up : IsTrueLit t (holds (Order a b)) = rw less at h in up.1
      | inr more ↦ let down : IsTrueLit t (record { symbol = Order b a; positive = false }) = rw more at h in down.1
    ]

-- an order that keeps what it says decides
order_decides : (t : SymbolTruth) (a b : ℕ) → Bound t (Order a b) (t.symbols (Order a b)) → (t.places a <ℤ t.places b) ⊎ (t.places b <ℤ t.places a)
order_decides t a b h =
    elim (cases_Bool (t.symbols (Order a b))) [
      | inl is ↦ let up : Bound t (Order a b) true = rw is at h in inl up
      | inr not ↦ let down : Bound t (Order a b) false = rw not at h in inr down
    ]

turned : (A B : Type 0) → A ⊎ B → B ⊎ A
turned A B (inl a) = inr a
turned A B (inr b) = inl b

side_decides : (window : WindowForm) (t : SymbolTruth) (one other : EventId) → Bound t (ordered window one other).symbol (t.symbols (ordered window one other).symbol)
    → Before (truth_in window t) one other ⊎ Before (truth_in window t) other one
side_decides window t one other h =
    let a : ℕ = number_in window one in
    let b : ℕ = number_in window other in
    elim (cases_Bool (nat_lt a b)) [
      | inl less ↦ let up : Bound t (Order a b) (t.symbols (Order a b)) = rw less at h in order_decides t a b up
      | inr more ↦
          let down : Bound t (Order b a) (t.symbols (Order b a)) = rw more at h in
          turned (t.places b <ℤ t.places a) (t.places a <ℤ t.places b) (order_decides t b a down)
    ]

-- the steps follow one another: in different threads by the orders, in one thread since its places rise
follow_means : (window : WindowForm) (t : SymbolTruth) (before : List EventId) (pattern : List PatternStep) (ids : List EventId) → PlacesRise window (truth_in window t)
    → AreEvents window before → AreEvents window ids → AreTrue t (orders_from window before (groups_of pattern ids)) → RiseAlong before (groups_of pattern ids)
    → StepsFollow (truth_in window t) before (groups_of pattern ids)
follow_means window t before [] ids rise first later all along = tt
follow_means window t before (step ∷ steps) ids rise first later all along =
    let n : ℕ = length step.atoms in
    let group : List EventId = take n ids in
    let rest : List EventId = drop n ids in
    let here : List SymbolicLit = flat_map (λ one. flat_map (order_lit window one) group) before in
    let more : List SymbolicLit = orders_from window group (groups_of steps rest) in (
      (λ one other i j.
          elim (cases_eq one.thread other.thread) [
            | inl same ↦ rise one other (first one i) (later other (contains_from_take n ids other j)) same (along.0 one other i j same)
            | inr differ ↦
                let lit : SymbolicLit = ordered window one other in
                let own = contains_unless (one.thread == other.thread) lit (ne_eqb one.thread other.thread differ) in
                let inner = contains_flat_map (order_lit window one) group other lit j own in
                let outer = contains_flat_map (λ e. flat_map (order_lit window e) group) before one lit i inner in
                order_means window t one other (all lit (Contains-append_left here more lit outer))
          ]),
      follow_means window t group steps rest rise (λ id i. later id (contains_from_take n ids id i)) (λ id i. later id (contains_from_drop n ids id i))
          (λ lit i. all lit (Contains-append_right here more lit i)) along.1,
    )

-- the events of a group are near each other
near_means : (window : WindowForm) (t : SymbolTruth) (group : List EventId) → AreTrue t (spans_in window group) → IsNear (truth_in window t) group
near_means window t group all one other i j =
    let width : ℕ = length group - 1 in
    elim (cases_Bool (is_same one other)) [
      | inl same ↦ let places = ap (λ id. t.places (number_in window id)) (same_id one other same) in omega (arith, ints, places)
      | inr differ ↦
          let lit : SymbolicLit = holds (Span (number_in window one) (number_in window other) width) in
          let own = contains_unless (is_same one other) lit differ in
          let inner = contains_flat_map (span_lit window width one) group other lit j own in
          let outer = contains_flat_map (λ e. flat_map (span_lit window width e) group) group one lit i inner in
          (all lit outer).1
    ]

all_near : (window : WindowForm) (t : SymbolTruth) (groups : List (List EventId)) → AreTrue t (flat_map (spans_in window) groups)
    → AllByRecursion (IsNear (truth_in window t)) groups
all_near window t [] all = tt
all_near window t (group ∷ groups) all = (
  near_means window t group (λ lit i. all lit (Contains-append_left (spans_in window group) (flat_map (spans_in window) groups) lit i)),
  all_near window t groups (λ lit i. all lit (Contains-append_right (spans_in window group) (flat_map (spans_in window) groups) lit i)),
)

-- each event of a group stands before or after each other event
decided_means : (window : WindowForm) (t : SymbolTruth) (group : List EventId) → PlacesRise window (truth_in window t) → AreEvents window group
    → AreBound t (sides_of window group) → IsDecided window (truth_in window t) group
decided_means window t [] rise events all large one other i is differ = absurd (omega (arith, large))
decided_means window t (single ∷ []) rise events all large one other i is differ = absurd (omega (arith, large))
decided_means window t (first ∷ second ∷ rest) rise events all large one other i is differ =
    let group : List EventId = first ∷ second ∷ rest in
    elim (cases_eq one.thread other.thread) [
      | inl same ↦ elim (cases_order one.index other.index) [
        | inl alike ↦ absurd (differ (same_parts one other same alike))
        | inr (inl less) ↦ inl (rise one other (events one i) is same less)
        | inr (inr more) ↦ inr (rise other one is (events one i) (sym same) more)
      ]
      | inr threads ↦
          let p = point_for window other is in
          let apart : one.thread ≢ p.0.id.thread = λ e. threads (e ∙ ap (λ (x : EventId). x.thread) p.3) in
          let symbol : Symbol = (ordered window one p.0.id).symbol in
          let own = contains_unless (one.thread == p.0.id.thread) symbol (ne_eqb one.thread p.0.id.thread apart) in
          let inner = contains_flat_map (side window one) (points_of window) p.0 symbol p.1 own in
          let outer = contains_flat_map (λ e. flat_map (side window e) (points_of window)) group one symbol i inner in
          let told = side_decides window t one p.0.id (all symbol outer) in
          subst (λ id. Before (truth_in window t) one id ⊎ Before (truth_in window t) id one) p.3 told
    ]

all_decided : (window : WindowForm) (t : SymbolTruth) (pattern : List PatternStep) (ids : List EventId) → PlacesRise window (truth_in window t) → AreEvents window ids
    → AreBound t (flat_map (sides_of window) (groups_of pattern ids)) → AllByRecursion (IsDecided window (truth_in window t)) (groups_of pattern ids)
all_decided window t [] ids rise events all = tt
all_decided window t (step ∷ steps) ids rise events all =
    let n : ℕ = length step.atoms in
    let here : List Symbol = sides_of window (take n ids) in
    let more : List Symbol = flat_map (sides_of window) (groups_of steps (drop n ids)) in (
      decided_means window t (take n ids) rise (λ id i. events id (contains_from_take n ids id i)) (λ symbol i. all symbol (Contains-append_left here more symbol i)),
      all_decided window t steps (drop n ids) rise (λ id i. events id (contains_from_drop n ids id i)) (λ symbol i. all symbol (Contains-append_right here more symbol i)),
    )

-- a true query makes its meaning true
pub query_told : (window : WindowForm) (property : PropertyForm) (ids : List EventId) (t : SymbolTruth) → PlacesRise window (truth_in window t)
    → InstanceMeans window property ids → are_defined property.events property.pattern ≡ true → QueryMeans window property ids t
    → MeetsQuery window (truth_in window t) property ids
query_told window property ids t rise told known q =
    let groups : List (List EventId) = groups_of property.pattern ids in
    let orders : List SymbolicLit = orders_from window [] groups in
    let spans : List SymbolicLit = flat_map (spans_in window) groups in
    let sides : List Symbol = flat_map (sides_of window) groups in
    record {
      executed = λ id has. does_from window t id (told.there id has) (q.executed id has);
      follow = follow_means window t [] property.pattern ids rise (λ id i. absurd (nothing_in _ i)) told.there (λ lit i. q.pattern lit (Contains-append_left orders spans lit i)) (told.rises known);
      near = all_near window t groups (λ lit i. q.pattern lit (Contains-append_right orders spans lit i));
      decided = all_decided window t property.pattern ids rise told.there (λ symbol i. q.mentioned symbol (Contains-append_right _ sides symbol i));
    }

-- what a query means makes an instance stand in the schedule
steps_stand : (t : Truth) (before : List EventId) (groups : List (List EventId)) → StepsFollow t before groups → StepsStand t before groups
steps_stand t before [] h = tt
steps_stand t before (group ∷ groups) h =
    (h.0, steps_stand t group groups h.1)

group_stands : (window : WindowForm) (t : Truth) (group : List EventId) → ((id : EventId) → Does t id → IsEventOf window id) → ((id : EventId) → Contains group id → Does t id)
    → AreDifferent group → IsNear t group → IsDecided window t group → IsStep t group
group_stands window t [] there does different near decided =
    inr (record { does = does; different = tt; near = λ one other i j. absurd (nothing_in _ i); ordered = λ id other i happens apart. absurd (nothing_in _ i) })
group_stands window t (single ∷ []) there does different near decided = inl (single, refl)
group_stands window t (first ∷ second ∷ rest) there does different near decided =
    let group : List EventId = first ∷ second ∷ rest in
    inr (record {
      does = does;
      different = different;
      near = near;
      ordered = λ id other i happens apart. decided (omega arith) id other i (there other happens) apart;
    })

groups_stand : (window : WindowForm) (t : Truth) (pattern : List PatternStep) (ids : List EventId) → ((id : EventId) → Does t id → IsEventOf window id)
    → ((id : EventId) → Contains ids id → Does t id) → AreDifferent ids → AllByRecursion (IsNear t) (groups_of pattern ids)
    → AllByRecursion (IsDecided window t) (groups_of pattern ids) → AllByRecursion (IsStep t) (groups_of pattern ids)
groups_stand window t [] ids there does different near decided = tt
groups_stand window t (step ∷ steps) ids there does different near decided =
    let n : ℕ = length step.atoms in (
      group_stands window t (take n ids) there (λ id i. does id (contains_from_take n ids id i)) (different_taken n ids different) near.0 decided.0,
      groups_stand window t steps (drop n ids) there (λ id i. does id (contains_from_drop n ids id i)) (different_dropped n ids different) near.1 decided.1,
    )

pub query_stands : (window : WindowForm) (t : Truth) (property : PropertyForm) (ids : List EventId) → ((id : EventId) → Does t id → IsEventOf window id)
    → AreDifferent ids → MeetsQuery window t property ids → InstanceStands t property ids
query_stands window t property ids there different q =
    let does : (id : EventId) → Contains ids id → Does t id = λ id i. q.executed id i in
    record {
      does = does;
      follow = steps_stand t [] (groups_of property.pattern ids) q.follow;
      steps = groups_stand window t property.pattern ids there does different q.near q.decided;
    }

-- The symbols of an instance's query are valid, and few.
use Rattle.std.proofs.Common.{ℕ, zero, suc, ◌≡◌, ◌≤◌, ◌+◌, ◌*◌, ap, sym, ◌∙◌, subst, inl, inr, List, [], ◌∷◌, ◌++◌, Bool, true, false, arith, eq-eqb, length, length-append, take, drop}
use Rattle.std.specs.Prelude.{◌==◌, ◌-◌, ◌≢◌, map, flat_map, if◌then◌else◌, nat_lt, Contains}
use Rattle.std.proofs.lemmas.Bool.{false≢true}
use Rattle.std.proofs.lemmas.List.{length-map}
use Rattle.std.proofs.lemmas.List.Elements.{Contains-append_left, Contains-append_right, Contains-append_cases}
use native.Mathlib.Nat.{suc-mul}
use Rattle.gp_property.specs.declared.property.PatternStep.{PatternStep}
use Rattle.gp_property.specs.PropertyForm.{PropertyForm}
use Rattle.gp_instance.specs.Matches.{groups_of}
use Rattle.gp_window.specs.WindowForm.{WindowForm}
use Rattle.gp_window.specs.declared.schedule.EventId.{EventId}
use Rattle.gp_window.specs.Ids.{is_same}
use Rattle.gp_constraint.specs.declared.point.Point.{Point}
use Rattle.gp_constraint.specs.declared.symbol.Symbol.{Symbol}
use Rattle.gp_constraint.specs.declared.symbol.Symbol.TheVariants.{Order, Span}
use Rattle.gp_constraint.specs.declared.symbol.SymbolicLit.{SymbolicLit}
use Rattle.gp_base.specs.ListLaws.{contains_from_cut, contains_from_drop, contains_from_flat_map, contains_from_take, contains_from_unless, nothing_in, recursion_append, recursion_from_each, recursion_map}
use Rattle.gp_constraint.specs.PointLaws.{event_below, IsEventOf, points_named, same_event}
use Rattle.gp_constraint.specs.Points.{number_in, points_of}
use Rattle.gp_constraint.specs.Query.{holds, mentioned, order_lit, ordered, orders_from, side, sides_of, span_lit, spans_in}
use Rattle.gp_constraint.proofs.Good.{IsValidSymbol}
use Rattle.gp_constraint.proofs.Valid.{AreValidNames}

-- each of these is an event of the window
abbrev pub AreEvents : WindowForm → List EventId → Type 0
AreEvents window ids = (id : EventId) → Contains ids id → IsEventOf window id

cut_size : (n : ℕ) (ids : List EventId) → length (take n ids) + length (drop n ids) ≡ length ids
cut_size zero ids = omega arith
cut_size (suc n) [] = omega arith
cut_size (suc n) (id ∷ ids) = let rest = cut_size n ids in omega (arith, rest)

-- an order of two of these events, in different threads
pub record OrderOf (window : WindowForm) (ones others : List EventId) (lit : SymbolicLit) : Type 0 where
  pub one : EventId
  pub other : EventId
  pub first : Contains ones one
  pub second : Contains others other
  pub threads : (one.thread == other.thread) ≡ false
  pub is : ordered window one other ≡ lit

pub between_back : (window : WindowForm) (before group : List EventId) (lit : SymbolicLit) → Contains (flat_map (λ one. flat_map (order_lit window one) group) before) lit
    → OrderOf window before group lit
between_back window before group lit i =
    let outer = contains_from_flat_map (λ one. flat_map (order_lit window one) group) before lit i in
    let inner = contains_from_flat_map (order_lit window outer.0) group lit outer.2 in
    let own = contains_from_unless (outer.0.thread == inner.0.thread) (ordered window outer.0 inner.0) lit inner.2 in
    record { one = outer.0; other = inner.0; first = outer.1; second = inner.1; threads = own.0; is = own.1 }

pub orders_back : (window : WindowForm) (before : List EventId) (pattern : List PatternStep) (ids : List EventId) (lit : SymbolicLit)
    → Contains (orders_from window before (groups_of pattern ids)) lit → OrderOf window (before ++ ids) (before ++ ids) lit
orders_back window before [] ids lit i = absurd (nothing_in _ i)
orders_back window before (step ∷ steps) ids lit i =
    let n : ℕ = length step.atoms in
    let group : List EventId = take n ids in
    let rest : List EventId = drop n ids in
    elim (Contains-append_cases (flat_map (λ one. flat_map (order_lit window one) group) before) (orders_from window group (groups_of steps rest)) lit i) [
      | inl here ↦
          let o = between_back window before group lit here in
          record {
            one = o.one;
            other = o.other;
            first = Contains-append_left before ids o.one o.first;
            second = Contains-append_right before ids o.other (contains_from_take n ids o.other o.second);
            threads = o.threads;
            is = o.is;
          }
      | inr there ↦
          let o = orders_back window group steps rest lit there in
          record {
            one = o.one;
            other = o.other;
            first = Contains-append_right before ids o.one (contains_from_cut n ids o.one o.first);
            second = Contains-append_right before ids o.other (contains_from_cut n ids o.other o.second);
            threads = o.threads;
            is = o.is;
          }
    ]

-- a span of two of these events
pub record SpanOf (window : WindowForm) (ids : List EventId) (lit : SymbolicLit) : Type 0 where
  pub one : EventId
  pub other : EventId
  pub width : ℕ
  pub first : Contains ids one
  pub second : Contains ids other
  pub narrow : width ≤ length ids
  pub is : holds (Span (number_in window one) (number_in window other) width) ≡ lit

pub spans_in_back : (window : WindowForm) (group : List EventId) (lit : SymbolicLit) → Contains (spans_in window group) lit → SpanOf window group lit
spans_in_back window group lit i =
    let outer = contains_from_flat_map (λ one. flat_map (span_lit window (length group - 1) one) group) group lit i in
    let inner = contains_from_flat_map (span_lit window (length group - 1) outer.0) group lit outer.2 in
    let own = contains_from_unless (is_same outer.0 inner.0) (holds (Span (number_in window outer.0) (number_in window inner.0) (length group - 1))) lit inner.2 in
    record { one = outer.0; other = inner.0; width = length group - 1; first = outer.1; second = inner.1; narrow = omega arith; is = own.1 }

pub spans_back : (window : WindowForm) (pattern : List PatternStep) (ids : List EventId) (lit : SymbolicLit)
    → Contains (flat_map (spans_in window) (groups_of pattern ids)) lit → SpanOf window ids lit
spans_back window [] ids lit i = absurd (nothing_in _ i)
spans_back window (step ∷ steps) ids lit i =
    let n : ℕ = length step.atoms in
    let size = cut_size n ids in
    elim (Contains-append_cases (spans_in window (take n ids)) (flat_map (spans_in window) (groups_of steps (drop n ids))) lit i) [
      | inl here ↦
          let s = spans_in_back window (take n ids) lit here in
          let narrow = s.narrow in
          record {
            one = s.one;
            other = s.other;
            width = s.width;
            first = contains_from_take n ids s.one s.first;
            second = contains_from_take n ids s.other s.second;
            narrow = omega (arith, narrow, size);
            is = s.is;
          }
      | inr there ↦
          let s = spans_back window steps (drop n ids) lit there in
          let narrow = s.narrow in
          record {
            one = s.one;
            other = s.other;
            width = s.width;
            first = contains_from_drop n ids s.one s.first;
            second = contains_from_drop n ids s.other s.second;
            narrow = omega (arith, narrow, size);
            is = s.is;
          }
    ]

-- a side of one of these events and a point
record SideOf (window : WindowForm) (ids : List EventId) (symbol : Symbol) : Type 0 where
  one : EventId
  point : Point
  first : Contains ids one
  second : Contains (points_of window) point
  threads : (one.thread == point.id.thread) ≡ false
  is : (ordered window one point.id).symbol ≡ symbol

sides_in_back : (window : WindowForm) (group : List EventId) (symbol : Symbol) → Contains (sides_of window group) symbol → SideOf window group symbol
sides_in_back window [] symbol i = absurd (nothing_in _ i)
sides_in_back window (single ∷ []) symbol i = absurd (nothing_in _ i)
sides_in_back window (first ∷ second ∷ rest) symbol i =
    let outer = contains_from_flat_map (λ id. flat_map (side window id) (points_of window)) (first ∷ second ∷ rest) symbol i in
    let inner = contains_from_flat_map (side window outer.0) (points_of window) symbol outer.2 in
    let own = contains_from_unless (outer.0.thread == inner.0.id.thread) (ordered window outer.0 inner.0.id).symbol symbol inner.2 in
    record { one = outer.0; point = inner.0; first = outer.1; second = inner.1; threads = own.0; is = own.1 }

sides_back : (window : WindowForm) (pattern : List PatternStep) (ids : List EventId) (symbol : Symbol)
    → Contains (flat_map (sides_of window) (groups_of pattern ids)) symbol → SideOf window ids symbol
sides_back window [] ids symbol i = absurd (nothing_in _ i)
sides_back window (step ∷ steps) ids symbol i =
    let n : ℕ = length step.atoms in
    elim (Contains-append_cases (sides_of window (take n ids)) (flat_map (sides_of window) (groups_of steps (drop n ids))) symbol i) [
      | inl here ↦
          let s = sides_in_back window (take n ids) symbol here in
          record { one = s.one; point = s.point; first = contains_from_take n ids s.one s.first; second = s.second; threads = s.threads; is = s.is }
      | inr there ↦
          let s = sides_back window steps (drop n ids) symbol there in
          record { one = s.one; point = s.point; first = contains_from_drop n ids s.one s.first; second = s.second; threads = s.threads; is = s.is }
    ]

-- the symbols of a query are valid
thread_apart : (a b : EventId) → (a.thread == b.thread) ≡ false → a ≡ b → ⊥
thread_apart a b other same = absurd (false≢true (sym other ∙ eq-eqb a.thread b.thread (ap (λ (e : EventId). e.thread) same)))

valid_if : (n : ℕ) (b : Bool) (x y : SymbolicLit) → IsValidSymbol n x.symbol → IsValidSymbol n y.symbol → IsValidSymbol n (if b then x else y).symbol
valid_if n true x y h k = h
valid_if n false x y h k = k

valid_apart : (window : WindowForm) (a b : EventId) → IsEventOf window a → IsEventOf window b
    → (a.thread == b.thread) ≡ false → IsValidSymbol (length (points_of window)) (ordered window a b).symbol
valid_apart window a b one other threads =
    let differ : number_in window a ≢ number_in window b = λ same. thread_apart a b threads (same_event window a b one other same) in
    let low = event_below window a one in
    let high = event_below window b other in
    valid_if (length (points_of window)) (nat_lt (number_in window a) (number_in window b)) (holds (Order (number_in window a) (number_in window b)))
    (record { symbol = Order (number_in window b) (number_in window a); positive = false }) (low, high, differ) (high, low, λ same. differ (sym same))

pub mentioned_valid : (window : WindowForm) (property : PropertyForm) (ids : List EventId) → AreEvents window ids → length ids ≤ 6
    → AreValidNames (length (points_of window)) (mentioned window property ids)
mentioned_valid window property ids events few =
    let n : ℕ = length (points_of window) in
    let groups : List (List EventId) = groups_of property.pattern ids in
    let orders : List SymbolicLit = orders_from window [] groups in
    let spans : List SymbolicLit = flat_map (spans_in window) groups in
    recursion_append (IsValidSymbol n) (map (λ (lit : SymbolicLit). lit.symbol) (orders ++ spans)) (flat_map (sides_of window) groups)
    (recursion_map (IsValidSymbol n) (λ (lit : SymbolicLit). lit.symbol) (orders ++ spans) (λ lit i. elim (Contains-append_cases orders spans lit i) [
      | inl order ↦
          let o = orders_back window [] property.pattern ids lit order in
          subst (λ (l : SymbolicLit). IsValidSymbol n l.symbol) o.is (valid_apart window o.one o.other (events o.one o.first) (events o.other o.second) o.threads)
      | inr span ↦
          let s = spans_back window property.pattern ids lit span in
          let narrow = s.narrow in
          subst (λ (l : SymbolicLit). IsValidSymbol n l.symbol) s.is
          (event_below window s.one (events s.one s.first), event_below window s.other (events s.other s.second), omega (arith, narrow, few))
    ]))
    (recursion_from_each (IsValidSymbol n) (flat_map (sides_of window) groups) (λ symbol i.
    let s = sides_back window property.pattern ids symbol i in
    let own = (points_named window).own s.point s.second in
    subst (IsValidSymbol n) s.is (valid_apart window s.one s.point.id (events s.one s.first) (own.0, own.1) s.threads)))

-- how many symbols a query mentions
flat_few : {X Y : Type 0} (c : ℕ) (f : X → List Y) (xs : List X) → ((x : X) → length (f x) ≤ c) → length (flat_map f xs) ≤ length xs * c
flat_few c f [] h = omega arith
flat_few c f (x ∷ xs) h =
    let one = h x in
    let rest = flat_few c f xs h in
    let joined = length-append (f x) (flat_map f xs) in
    let step = suc-mul (length xs) c in
    omega (arith, one, rest, joined, step)

at_most : {X : Type 0} (b : Bool) (x : X) → length (if b then [] else x ∷ []) ≤ 1
at_most true x = omega arith
at_most false x = omega arith

orders_few : (window : WindowForm) (before : List EventId) (pattern : List PatternStep) (ids : List EventId) → length ids ≤ 6
    → length (orders_from window before (groups_of pattern ids)) ≤ 6 * (length before + length ids)
orders_few window before [] ids few = omega arith
orders_few window before (step ∷ steps) ids few =
    let n : ℕ = length step.atoms in
    let group : List EventId = take n ids in
    let size = cut_size n ids in
    let inner : (one : EventId) → length (flat_map (order_lit window one) group) ≤ 6 = λ one.
    let all = flat_few 1 (order_lit window one) group (λ other. at_most (one.thread == other.thread) (ordered window one other)) in
    omega (arith, all, size, few) in
    let outer = flat_few 6 (λ one. flat_map (order_lit window one) group) before inner in
    let rest = orders_few window group steps (drop n ids) (omega (arith, size, few)) in
    let joined = length-append (flat_map (λ one. flat_map (order_lit window one) group) before) (orders_from window group (groups_of steps (drop n ids))) in
    omega (arith, outer, rest, joined, size)

spans_few : (window : WindowForm) (pattern : List PatternStep) (ids : List EventId) → length ids ≤ 6
    → length (flat_map (spans_in window) (groups_of pattern ids)) ≤ 6 * length ids
spans_few window [] ids few = omega arith
spans_few window (step ∷ steps) ids few =
    let n : ℕ = length step.atoms in
    let group : List EventId = take n ids in
    let width : ℕ = length group - 1 in
    let size = cut_size n ids in
    let inner : (one : EventId) → length (flat_map (span_lit window width one) group) ≤ 6 = λ one.
    let all = flat_few 1 (span_lit window width one) group (λ other. span_most one other width) in
    omega (arith, all, size, few) in
    let outer = flat_few 6 (λ one. flat_map (span_lit window width one) group) group inner in
    let rest = spans_few window steps (drop n ids) (omega (arith, size, few)) in
    let joined = length-append (spans_in window group) (flat_map (spans_in window) (groups_of steps (drop n ids))) in
    omega (arith, outer, rest, joined, size)
  where
    span_most : (one other : EventId) (width : ℕ) → length (span_lit window width one other) ≤ 1
    span_most one other width = at_most {X = SymbolicLit} (is_same one other) (holds (Span (number_in window one) (number_in window other) width))

sides_in_few : (window : WindowForm) (group : List EventId) → length (points_of window) ≤ 2048 → length (sides_of window group) ≤ length group * 2048
sides_in_few window [] few = omega arith
sides_in_few window (single ∷ []) few = omega arith
sides_in_few window (first ∷ second ∷ rest) few =
    flat_few 2048 (λ id. flat_map (side window id) (points_of window)) (first ∷ second ∷ rest) (λ id.
    let all = flat_few 1 (side window id) (points_of window) (λ p. at_most (id.thread == p.id.thread) (ordered window id p.id).symbol) in
    omega (arith, all, few))

sides_few : (window : WindowForm) (pattern : List PatternStep) (ids : List EventId) → length (points_of window) ≤ 2048
    → length (flat_map (sides_of window) (groups_of pattern ids)) ≤ length ids * 2048
sides_few window [] ids few = omega arith
sides_few window (step ∷ steps) ids few =
    let n : ℕ = length step.atoms in
    let size = cut_size n ids in
    let one = sides_in_few window (take n ids) few in
    let rest = sides_few window steps (drop n ids) few in
    let joined = length-append (sides_of window (take n ids)) (flat_map (sides_of window) (groups_of steps (drop n ids))) in
    omega (arith, one, rest, joined, size)

pub mentioned_few : (window : WindowForm) (property : PropertyForm) (ids : List EventId) → length (points_of window) ≤ 2048 → length ids ≤ 6
    → length (mentioned window property ids) ≤ 20000
mentioned_few window property ids few some =
    let groups : List (List EventId) = groups_of property.pattern ids in
    let orders : List SymbolicLit = orders_from window [] groups in
    let spans : List SymbolicLit = flat_map (spans_in window) groups in
    let sides : List Symbol = flat_map (sides_of window) groups in
    let o = orders_few window [] property.pattern ids some in
    let s = spans_few window property.pattern ids some in
    let d = sides_few window property.pattern ids few in
    let both = length-append orders spans in
    let firsts : List Symbol = map (λ (lit : SymbolicLit). lit.symbol) (orders ++ spans) in
    let mapped = length-map (orders ++ spans) (λ (lit : SymbolicLit). lit.symbol) in
    let all = length-append firsts sides in
    omega (arith, o, s, d, both, mapped, all, some)

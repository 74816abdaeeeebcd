-- A query assumes no variable twice, and is valid.
use Rattle.std.proofs.Common.{ℕ, ◌≡◌, ◌⊎◌, ◌<◌, ◌≤◌, ◌+◌, ap, sym, ◌∙◌, refl, subst, inl, inr, List, [], ◌∷◌, ◌++◌, Bool, false, cond, arith, eqb-true, length, length-append, length-drop, take, drop}
use Rattle.std.specs.Prelude.{Some, Option, slice_get, ◌==◌, ◌-◌, ◌≢◌, map, flat_map, nat_lt, count_by, Contains}
use Rattle.std.specs.List.{AllByRecursion}
use Rattle.std.proofs.lemmas.Bool.{cases_Bool, ne_eqb}
use Rattle.std.proofs.lemmas.List.{length-map}
use Rattle.std.proofs.lemmas.List.Sums.{sum_by-cons}
use Rattle.std.proofs.lemmas.List.Elements.{Contains-append_left, Contains-append_right, Contains-append_cases, All-from_recursion}
use Rattle.gp_clause.specs.declared.lit.Lit.{Lit}
use Rattle.gp_clause.specs.Clause.{NamesBelow, NamesOnce}
use Rattle.gp_clause.specs.Problem.{IsValidKind, IsValidQuery}
use Rattle.gp_property.specs.declared.property.PatternStep.{PatternStep}
use Rattle.gp_property.specs.PropertyForm.{PropertyForm}
use Rattle.gp_instance.specs.Matches.{groups_of}
use Rattle.gp_window.specs.WindowForm.{WindowForm}
use Rattle.gp_window.specs.declared.schedule.EventId.{EventId}
use Rattle.gp_window.specs.Ids.{is_same}
use Rattle.gp_constraint.specs.declared.symbol.Symbol.{Symbol}
use Rattle.gp_constraint.specs.declared.symbol.Symbol.TheVariants.{Executed, Order, Span}
use Rattle.gp_constraint.specs.declared.symbol.SymbolicLit.{SymbolicLit}
use Rattle.gp_base.specs.ListLaws.{AreDifferent, contains_from_cut, contains_from_drop, contains_from_flat_map, contains_from_map, contains_from_take, contains_from_unless, contains_map, different_dropped, different_taken, here, nothing_in, Pairwise, pairwise_append, pairwise_flat_map, pairwise_map, pairwise_unless, recursion_at, recursion_map, split_apart, there}
use Rattle.gp_constraint.specs.Base.{base_of, clauses_of, names_in}
use Rattle.gp_constraint.specs.Numbering.{number_of, numbered_lit, point_names}
use Rattle.gp_constraint.specs.PointLaws.{event_below, IsEventOf, same_event}
use Rattle.gp_constraint.specs.Points.{number_in, points_of}
use Rattle.gp_constraint.specs.Query.{executed_lits, holds, mentioned, order_lit, ordered, orders_from, pattern_lits, query_names, query_of, sides_of, span_lit, spans_in}
use Rattle.gp_constraint.specs.Symbols.{kind_of}
use Rattle.gp_constraint.specs.InstanceLaws.{InstanceMeans}
use Rattle.gp_constraint.proofs.Good.{IsValidSymbol, valid_kind}
use Rattle.gp_constraint.proofs.Names.{Grows, has_kept, mentions_grow, mentions_have, name_there, number_within, of_grows, point_named}
use Rattle.gp_constraint.proofs.Valid.{few_mentions, names_valid, valid_mentions}
use Rattle.gp_constraint.proofs.ValidQuery.{AreEvents, between_back, mentioned_few, mentioned_valid, orders_back, spans_back, spans_in_back}

abbrev Differ : EventId → EventId → Type 0
Differ a b = a ≢ b

abbrev Unlike : SymbolicLit → SymbolicLit → Type 0
Unlike l m = l.symbol ≢ m.symbol

-- orders
abbrev pub first_named : Symbol → ℕ
first_named (Order a b) = a
first_named (Span a b c) = a
first_named (Executed a) = a
first_named _ = 0

abbrev pub second_named : Symbol → ℕ
second_named (Order a b) = b
second_named (Span a b c) = b
second_named _ = 0

abbrev pub tag_of : Symbol → ℕ
tag_of (Executed a) = 1
tag_of (Order a b) = 2
tag_of (Span a b c) = 3
tag_of _ = 0

apart_is : (window : WindowForm) (a b : EventId)
    → ((ordered window a b).symbol ≡ Order (number_in window a) (number_in window b)) ⊎ ((ordered window a b).symbol ≡ Order (number_in window b) (number_in window a))
apart_is window a b =
    elim (cases_Bool (nat_lt (number_in window a) (number_in window b))) [
      | inl less ↦ inl (rw less refl)
      | inr more ↦ inr (rw more refl)
    ]

order_same : (x y z w : ℕ) → Order x y ≡ Order z w → (x ≡ z) × (y ≡ w)
order_same x y z w e = (ap first_named e, ap second_named e)

pair_same : (window : WindowForm) (a b c d : EventId) (ids : List EventId) → AreEvents window ids → Contains ids a → Contains ids b → Contains ids c → Contains ids d
    → (ordered window a b).symbol ≡ (ordered window c d).symbol → ((a ≡ c) × (b ≡ d)) ⊎ ((a ≡ d) × (b ≡ c))
pair_same window a b c d ids events ia ib ic id e =
    let na : ℕ = number_in window a in
    let nb : ℕ = number_in window b in
    let nc : ℕ = number_in window c in
    let nd : ℕ = number_in window d in
    elim (apart_is window a b) [
      | inl up ↦ elim (apart_is window c d) [
        | inl also ↦ let s = order_same na nb nc nd (sym up ∙ e ∙ also) in inl (same_event window a c (events a ia) (events c ic) s.0, same_event window b d (events b ib) (events d id) s.1)
        | inr not ↦ let s = order_same na nb nd nc (sym up ∙ e ∙ not) in inr (same_event window a d (events a ia) (events d id) s.0, same_event window b c (events b ib) (events c ic) s.1)
      ]
      | inr down ↦ elim (apart_is window c d) [
        | inl also ↦ let s = order_same nb na nc nd (sym down ∙ e ∙ also) in inr (same_event window a d (events a ia) (events d id) s.1, same_event window b c (events b ib) (events c ic) s.0)
        | inr not ↦ let s = order_same nb na nd nc (sym down ∙ e ∙ not) in inl (same_event window a c (events a ia) (events c ic) s.1, same_event window b d (events b ib) (events d id) s.0)
      ]
    ]

orders_unlike : (window : WindowForm) (before : List EventId) (pattern : List PatternStep) (ids : List EventId) → AreEvents window (before ++ ids)
    → AreDifferent before → AreDifferent ids → ((a b : EventId) → Contains before a → Contains ids b → a ≢ b) → Pairwise Unlike (orders_from window before (groups_of pattern ids))
orders_unlike window before [] ids events db di cross = tt
orders_unlike window before (step ∷ steps) ids events db di cross =
    let n : ℕ = length step.atoms in
    let group : List EventId = take n ids in
    let rest : List EventId = drop n ids in
    let whole : List EventId = before ++ ids in
    let left : (a : EventId) → Contains before a → Contains whole a = λ a i. Contains-append_left before ids a i in
    let right : (a : EventId) → Contains group a → Contains whole a = λ a i. Contains-append_right before ids a (contains_from_take n ids a i) in
    let late : (a : EventId) → Contains (group ++ rest) a → Contains ids a = λ a i. contains_from_cut n ids a i in
    let here : List SymbolicLit = flat_map (λ one. flat_map (order_lit window one) group) before in
    let one_event : (one : EventId) → Contains before one → Pairwise Unlike (flat_map (order_lit window one) group) = λ one i.
    pairwise_flat_map Differ Unlike (order_lit window one) group (different_taken n ids di)
    (λ other j. pairwise_unless Unlike (one.thread == other.thread) (ordered window one other))
    (λ other another j k differ y w p q same.
    let l = contains_from_unless (one.thread == other.thread) (ordered window one other) y p in
    let r = contains_from_unless (one.thread == another.thread) (ordered window one another) w q in
    let e : (ordered window one other).symbol ≡ (ordered window one another).symbol = ap (λ (m : SymbolicLit). m.symbol) l.1 ∙ same ∙ sym (ap (λ (m : SymbolicLit). m.symbol) r.1) in
    elim (pair_same window one other one another whole events (left one i) (right other j) (left one i) (right another k) e) [
      | inl s ↦ differ s.1
      | inr s ↦ cross one another i (contains_from_take n ids another k) s.0
    ]) in
    let first = pairwise_flat_map Differ Unlike (λ one. flat_map (order_lit window one) group) before db one_event
    (λ one two i j differ y w p q same.
    let a = contains_from_flat_map (order_lit window one) group y p in
    let b = contains_from_flat_map (order_lit window two) group w q in
    let l = contains_from_unless (one.thread == a.0.thread) (ordered window one a.0) y a.2 in
    let r = contains_from_unless (two.thread == b.0.thread) (ordered window two b.0) w b.2 in
    let e : (ordered window one a.0).symbol ≡ (ordered window two b.0).symbol = ap (λ (m : SymbolicLit). m.symbol) l.1 ∙ same ∙ sym (ap (λ (m : SymbolicLit). m.symbol) r.1) in
    elim (pair_same window one a.0 two b.0 whole events (left one i) (right a.0 a.1) (left two j) (right b.0 b.1) e) [
      | inl s ↦ differ s.0
      | inr s ↦ cross one b.0 i (contains_from_take n ids b.0 b.1) s.0
    ]) in
    let second = orders_unlike window group steps rest (λ a i. events a (Contains-append_right before ids a (late a i))) (different_taken n ids di) (different_dropped n ids di)
    (split_apart n ids di) in
    pairwise_append Unlike here (orders_from window group (groups_of steps rest)) first second
    (λ y w p q same.
    let o = between_back window before group y p in
    let r = orders_back window group steps rest w q in
    let e : (ordered window o.one o.other).symbol ≡ (ordered window r.one r.other).symbol = ap (λ (m : SymbolicLit). m.symbol) o.is ∙ same ∙ sym (ap (λ (m : SymbolicLit). m.symbol) r.is) in
    let one_late = late r.one r.first in
    let other_late = late r.other r.second in
    elim (pair_same window o.one o.other r.one r.other whole events (left o.one o.first) (right o.other o.second) (Contains-append_right before ids r.one one_late) (Contains-append_right before ids r.other other_late) e) [
      | inl s ↦ cross o.one r.one o.first one_late s.0
      | inr s ↦ cross o.one r.other o.first other_late s.0
    ])

-- spans
spans_unlike : (window : WindowForm) (pattern : List PatternStep) (ids : List EventId) → AreEvents window ids → AreDifferent ids
    → Pairwise Unlike (flat_map (spans_in window) (groups_of pattern ids))
spans_unlike window [] ids events di = tt
spans_unlike window (step ∷ steps) ids events di =
    let n : ℕ = length step.atoms in
    let group : List EventId = take n ids in
    let rest : List EventId = drop n ids in
    let width : ℕ = length group - 1 in
    let event : (a : EventId) → Contains group a → IsEventOf window a = λ a i. events a (contains_from_take n ids a i) in
    let pairs = different_taken n ids di in
    let first = pairwise_flat_map Differ Unlike (λ one. flat_map (span_lit window width one) group) group pairs
    (λ one i. pairwise_flat_map Differ Unlike (span_lit window width one) group pairs
    (λ other j. pairwise_unless Unlike (is_same one other) (holds (Span (number_in window one) (number_in window other) width)))
    (λ other another j k differ y w p q same.
    let l = contains_from_unless (is_same one other) (holds (Span (number_in window one) (number_in window other) width)) y p in
    let r = contains_from_unless (is_same one another) (holds (Span (number_in window one) (number_in window another) width)) w q in
    let e : number_in window other ≡ number_in window another =
    ap (λ (m : SymbolicLit). second_named m.symbol) l.1 ∙ ap second_named same ∙ sym (ap (λ (m : SymbolicLit). second_named m.symbol) r.1) in
    differ (same_event window other another (event other j) (event another k) e)))
    (λ one two i j differ y w p q same.
    let a = contains_from_flat_map (span_lit window width one) group y p in
    let b = contains_from_flat_map (span_lit window width two) group w q in
    let l = contains_from_unless (is_same one a.0) (holds (Span (number_in window one) (number_in window a.0) width)) y a.2 in
    let r = contains_from_unless (is_same two b.0) (holds (Span (number_in window two) (number_in window b.0) width)) w b.2 in
    let e : number_in window one ≡ number_in window two =
    ap (λ (m : SymbolicLit). first_named m.symbol) l.1 ∙ ap first_named same ∙ sym (ap (λ (m : SymbolicLit). first_named m.symbol) r.1) in
    differ (same_event window one two (event one i) (event two j) e)) in
    let second = spans_unlike window steps rest (λ a i. events a (contains_from_drop n ids a i)) (different_dropped n ids di) in
    pairwise_append Unlike (spans_in window group) (flat_map (spans_in window) (groups_of steps rest)) first second
    (λ y w p q same.
    let s = spans_in_back window group y p in
    let r = spans_back window steps rest w q in
    let e : number_in window s.one ≡ number_in window r.one =
    ap (λ (m : SymbolicLit). first_named m.symbol) s.is ∙ ap first_named same ∙ sym (ap (λ (m : SymbolicLit). first_named m.symbol) r.is) in
    split_apart n ids di s.one r.one s.first r.first (same_event window s.one r.one (event s.one s.first) (events r.one (contains_from_drop n ids r.one r.first)) e))

-- all that is assumed
executed_unlike : (window : WindowForm) (ids : List EventId) → AreEvents window ids → AreDifferent ids → Pairwise Unlike (executed_lits window ids)
executed_unlike window ids events di =
    pairwise_map Differ Unlike (λ id. holds (Executed (number_in window id))) ids di
    (λ a b i j differ same. differ (same_event window a b (events a i) (events b j) (ap first_named same)))

order_tag : (window : WindowForm) (a b : EventId) → tag_of (ordered window a b).symbol ≡ 2
order_tag window a b =
    elim (apart_is window a b) [
      | inl up ↦ ap tag_of up
      | inr down ↦ ap tag_of down
    ]

pub assumed_unlike : (window : WindowForm) (property : PropertyForm) (ids : List EventId) → AreEvents window ids → AreDifferent ids
    → Pairwise Unlike (executed_lits window ids ++ pattern_lits window property ids)
assumed_unlike window property ids events di =
    let groups : List (List EventId) = groups_of property.pattern ids in
    let orders : List SymbolicLit = orders_from window [] groups in
    let spans : List SymbolicLit = flat_map (spans_in window) groups in
    let order_is : (lit : SymbolicLit) → Contains orders lit → tag_of lit.symbol ≡ 2 = λ lit i.
    let o = orders_back window [] property.pattern ids lit i in
    sym (ap (λ (m : SymbolicLit). tag_of m.symbol) o.is) ∙ order_tag window o.one o.other in
    let span_is : (lit : SymbolicLit) → Contains spans lit → tag_of lit.symbol ≡ 3 = λ lit i.
    let s = spans_back window property.pattern ids lit i in
    sym (ap (λ (m : SymbolicLit). tag_of m.symbol) s.is) in
    let executed_is : (lit : SymbolicLit) → Contains (executed_lits window ids) lit → tag_of lit.symbol ≡ 1 = λ lit i.
    let back = contains_from_map (λ (id : EventId). holds (Executed (number_in window id))) ids lit i in
    sym (ap (λ (m : SymbolicLit). tag_of m.symbol) back.2) in
    let locals = pairwise_append Unlike orders spans
    (orders_unlike window [] property.pattern ids events tt di (λ a b i j. absurd (nothing_in _ i))) (spans_unlike window property.pattern ids events di)
    (λ y w p q same.
    let one = order_is y p in
    let two = span_is w q in
    let tags : tag_of y.symbol ≡ tag_of w.symbol = ap tag_of same in
    absurd (omega (arith, one, two, tags))) in
    pairwise_append Unlike (executed_lits window ids) (orders ++ spans) (executed_unlike window ids events di) locals
    (λ y w p q same.
    let one = executed_is y p in
    let tags : tag_of y.symbol ≡ tag_of w.symbol = ap tag_of same in
    elim (Contains-append_cases orders spans w q) [
      | inl order ↦ let two = order_is w order in absurd (omega (arith, one, two, tags))
      | inr span ↦ let three = span_is w span in absurd (omega (arith, one, three, tags))
    ])

-- unlike symbols have different numbers
abbrev stands : ℕ → Lit → Bool
stands variable lit = lit.variable == variable

pub number_apart : (final : List Symbol) (a b : Symbol) → Contains final a → Contains final b → number_of final a ≡ number_of final b → a ≡ b
number_apart final a b i j same =
    let one = name_there a final i in
    let two = name_there b final j in
    let both : ◌≡◌ {A = Option Symbol} (Some a) (Some b) = sym one ∙ ap (slice_get final) same ∙ two in
    cc

none_there : (final : List Symbol) (lit : SymbolicLit) (lits : List SymbolicLit) (variable : ℕ) → Contains final lit.symbol
    → ((other : SymbolicLit) → Contains lits other → Contains final other.symbol) → AllByRecursion (Unlike lit) lits → number_of final lit.symbol ≡ variable
    → count_by (stands variable) (map (numbered_lit final) lits) ≡ 0
none_there final lit [] variable own named unlike is = refl
none_there final lit (other ∷ lits) variable own named unlike is =
    let rest = none_there final lit lits variable own (λ o i. named o (there _ _ _ i)) unlike.1 is in
    let apart : (number_of final other.symbol == variable) ≡ false =
    ne_eqb (number_of final other.symbol) variable (λ e. unlike.0 (number_apart final lit.symbol other.symbol own (named other (here _ _)) (is ∙ sym e))) in
    let step = sum_by-cons (λ (l : Lit). cond (stands variable l) 1 0) (numbered_lit final other) (map (numbered_lit final) lits) in
    let zero_here : ◌≡◌ {A = ℕ} (cond (number_of final other.symbol == variable) 1 0) 0 = rw apart refl in
    step ∙ omega (arith, zero_here, rest)

pub once_from : (final : List Symbol) (lits : List SymbolicLit) → Pairwise Unlike lits → ((lit : SymbolicLit) → Contains lits lit → Contains final lit.symbol)
    → NamesOnce (map (numbered_lit final) lits)
once_from final [] unlike named variable = omega arith
once_from final (lit ∷ lits) unlike named variable =
    let step = sum_by-cons (λ (l : Lit). cond (stands variable l) 1 0) (numbered_lit final lit) (map (numbered_lit final) lits) in
    elim (cases_Bool (number_of final lit.symbol == variable)) [
      | inl same ↦
          let none = none_there final lit lits variable (named lit (here _ _)) (λ o i. named o (there _ _ _ i)) unlike.0 (eqb-true (number_of final lit.symbol) variable same) in
          let one : ◌≡◌ {A = ℕ} (cond (number_of final lit.symbol == variable) 1 0) 1 = rw same refl in
          omega (arith, step, none, one)
      | inr not ↦
          let rest = once_from final lits unlike.1 (λ o i. named o (there _ _ _ i)) variable in
          let zero_here : ◌≡◌ {A = ℕ} (cond (number_of final lit.symbol == variable) 1 0) 0 = rw not refl in
          omega (arith, step, rest, zero_here)
    ]

grows_size : (names more : List Symbol) → Grows names more → length names ≤ length more
grows_size names more g =
    let joined = length-append names g.rest in
    let same : length more ≡ length (names ++ g.rest) = ap length g.is in
    omega (arith, joined, same)

-- the query of an instance is valid
pub query_valid : (window : WindowForm) (property : PropertyForm) (ids : List EventId) → length (points_of window) ≤ 2048 → length ids ≤ 6
    → InstanceMeans window property ids → IsValidQuery (base_of window) (query_of window property ids)
query_valid window property ids few some told =
    let n : ℕ = length (points_of window) in
    let names : List Symbol = names_in window in
    let more : List Symbol = mentioned window property ids in
    let final : List Symbol = query_names window property ids in
    let locals : List SymbolicLit = pattern_lits window property ids in
    let sides : List Symbol = flat_map (sides_of window) (groups_of property.pattern ids) in
    let lits : List SymbolicLit = executed_lits window ids ++ locals in
    let rest : List Symbol = drop (length names) final in
    let events : AreEvents window ids = told.there in
    let mentions = mentioned_few window property ids few some in
    let grown = few_mentions names more in
    let left = length-drop (length names) final in
    let size = length-map rest kind_of in
    let base_size = length-map names kind_of in
    let grows = mentions_grow names more in
    let larger = grows_size names final grows in
    let all : length (map kind_of names) + length (map kind_of rest) ≡ length final = omega (arith, size, base_size, left, larger) in
    let named : (lit : SymbolicLit) → Contains lits lit → Contains final lit.symbol = λ lit i. elim (Contains-append_cases (executed_lits window ids) locals lit i) [
      | inl one ↦
          let back = contains_from_map (λ (id : EventId). holds (Executed (number_in window id))) ids lit one in
          let start = point_named (number_in window back.0) n (event_below window back.0 (events back.0 back.1)) in
          let kept = has_kept (Executed (number_in window back.0)) names final grows
          (has_kept (Executed (number_in window back.0)) (point_names n) names (of_grows (point_names n) (clauses_of window)) start) in
          subst (λ (m : SymbolicLit). Contains final m.symbol) back.2 kept
      | inr other ↦ mentions_have lit.symbol names more (Contains-append_left (map (λ (l : SymbolicLit). l.symbol) locals) sides lit.symbol (contains_map (λ (l : SymbolicLit). l.symbol) locals lit other))
    ] in
    let valid = valid_mentions n names more (names_valid window few) (mentioned_valid window property ids events some) in
    record {
      few_locals = omega (arith, size, left, grown, mentions);
      locals = All-from_recursion (IsValidKind n) (map kind_of rest) (recursion_map (IsValidKind n) kind_of rest (λ s i.
          valid_kind n s (recursion_at (IsValidSymbol n) final s valid (contains_from_drop (length names) final s i))));
      assumed = subst (λ (k : ℕ). NamesBelow k (map (numbered_lit final) lits)) (sym all)
          (All-from_recursion (λ (l : Lit). l.variable < length final) (map (numbered_lit final) lits)
          (recursion_map (λ (l : Lit). l.variable < length final) (numbered_lit final) lits (λ lit i. number_within lit.symbol final (named lit i))));
      once = once_from final lits (assumed_unlike window property ids events told.different) named;
    }

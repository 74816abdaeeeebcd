-- The query of a cycle is valid: its variables are those of events, and none stands twice.
use Rattle.std.proofs.Common.{ℕ, zero, suc, ◌≡◌, ◌<◌, ◌≤◌, ◌+◌, ap, sym, ◌∙◌, refl, inl, inr, List, [], ◌∷◌, ◌++◌, cond, false, true, arith, eqb-true, length, length-append}
use Rattle.std.specs.Prelude.{◌==◌, ◌≢◌, count_by, flat_map}
use Rattle.std.specs.List.{AllByRecursion, list_any}
use Rattle.std.proofs.lemmas.Bool.{cases_Bool, ne_eqb}
use Rattle.std.proofs.lemmas.List.{length-map}
use Rattle.std.proofs.lemmas.List.Sums.{sum_by-cons}
use Rattle.std.proofs.lemmas.List.Elements.{All-from_recursion}
use Rattle.gp_base.specs.ListLaws.{Pairwise, pairwise_flat_map, recursion_append, recursion_at, recursion_flat_map}
use Rattle.gp_clause.specs.declared.lit.Lit.{Lit}
use Rattle.gp_clause.specs.Clause.{NamesOnce}
use Rattle.gp_clause.specs.Problem.{IsValidQuery}
use Rattle.gp_window.specs.declared.schedule.EventId.{EventId}
use Rattle.gp_window.specs.WindowForm.{WindowForm}
use Rattle.gp_constraint.specs.declared.symbol.Symbol.{Symbol}
use Rattle.gp_constraint.specs.declared.symbol.Symbol.TheVariants.{Executed}
use Rattle.gp_constraint.specs.declared.symbol.SymbolicLit.{SymbolicLit}
use Rattle.gp_constraint.specs.Base.{base_of, clauses_of, first_names, names_in}
use Rattle.gp_constraint.specs.Numbering.{names_after, names_of, point_names, with_mention}
use Rattle.gp_constraint.specs.PointLaws.{event_below, event_id, IsEventOf, same_event}
use Rattle.gp_constraint.specs.Points.{number_in, points_of}
use Rattle.gp_constraint.specs.Symbols.{kind_of, symbol_eq}
use Rattle.gp_stuck.specs.Cycle.{is_cycle}
use Rattle.gp_stuck.specs.StuckQuery.{before_lits, executed_lit, stop_lits, stuck_query_of}
use Rattle.gp_stuck.proofs.Events.{cycle_apart, cycle_events, OfOther, there_before}

-- a problem has a variable for each point
mention_grows : (names : List Symbol) (symbol : Symbol) → length names ≤ length (with_mention names symbol)
mention_grows names symbol =
    elim (cases_Bool (list_any (symbol_eq symbol) names)) [
      | inl there ↦ rw there (omega arith)
      | inr new ↦ rw new (omega (arith, length-append names (symbol ∷ [])))
    ]

after_grows : (names : List Symbol) (lits : List SymbolicLit) → length names ≤ length (names_after names lits)
after_grows names [] = omega arith
after_grows names (lit ∷ lits) =
    let one = mention_grows names lit.symbol in
    let rest = after_grows (with_mention names lit.symbol) lits in
    omega (arith, one, rest)

of_grows : (names : List Symbol) (clauses : List (List SymbolicLit)) → length names ≤ length (names_of names clauses)
of_grows names [] = omega arith
of_grows names (clause ∷ clauses) =
    let one = after_grows names clause in
    let rest = of_grows (names_after names clause) clauses in
    omega (arith, one, rest)

point_count : (n : ℕ) → length (point_names n) ≡ n
point_count zero = refl
point_count (suc n) =
    let rest = point_count n in
    let more = length-append (point_names n) (Executed n ∷ []) in
    omega (arith, rest, more)

pub points_few : (window : WindowForm) → length (points_of window) ≤ length (base_of window).kinds
points_few window =
    let points = point_count (length (points_of window)) in
    let grows = of_grows (first_names window) (clauses_of window) in
    let size : length (base_of window).kinds ≡ length (names_in window) = length-map (names_in window) kind_of in
    omega (arith, points, grows, size)

-- a literal of the query of an event is that of an event of its thread
record IsStopLit (window : WindowForm) (thread : ℕ) (lit : Lit) : Type 0 where
  event : EventId
  there : IsEventOf window event
  own : event.thread ≡ thread
  is : lit.variable ≡ number_in window event

before_back : (window : WindowForm) (thread at : ℕ) → IsEventOf window (event_id thread at) → AllByRecursion (IsStopLit window thread) (before_lits window thread at)
before_back window thread zero there = tt
before_back window thread (suc n) there =
    (record { event = event_id thread n; there = there_before window thread n (suc n) (omega arith) there; own = refl; is = refl }, tt)

stop_back : (window : WindowForm) (id : EventId) → IsEventOf window id → AllByRecursion (IsStopLit window id.thread) (stop_lits window id)
stop_back window id there =
    recursion_append (IsStopLit window id.thread) (before_lits window id.thread id.index) (executed_lit window false id ∷ [])
    (before_back window id.thread id.index there) (record { event = id; there = there; own = refl; is = refl }, tt)

-- two literals of different variables
abbrev pub Unlike : Lit → Lit → Type 0
Unlike one other = one.variable ≢ other.variable

stop_pairs : (window : WindowForm) (thread at : ℕ) → IsEventOf window (event_id thread at)
    → Pairwise Unlike (before_lits window thread at ++ executed_lit window false (event_id thread at) ∷ [])
stop_pairs window thread zero there = (tt, tt)
stop_pairs window thread (suc n) there = (
  (
    (λ same.
        let before : IsEventOf window (event_id thread n) = there_before window thread n (suc n) (omega arith) there in
        let one = same_event window (event_id thread n) (event_id thread (suc n)) before there same in
        let index : n ≡ suc n = ap (λ (e : EventId). e.index) one in
        absurd (omega (arith, index))),
    tt,
  ),
  (tt, tt),
)

lits_unlike : (window : WindowForm) (ids : List EventId) → AllByRecursion (IsEventOf window) ids → Pairwise OfOther ids → Pairwise Unlike (flat_map (stop_lits window) ids)
lits_unlike window ids there apart =
    pairwise_flat_map OfOther Unlike (stop_lits window) ids apart
    (λ id i. stop_pairs window id.thread id.index (recursion_at (IsEventOf window) ids id there i))
    (λ one other i j differ l m at_l at_m same.
    let first = recursion_at (IsStopLit window one.thread) (stop_lits window one) l (stop_back window one (recursion_at (IsEventOf window) ids one there i)) at_l in
    let second = recursion_at (IsStopLit window other.thread) (stop_lits window other) m (stop_back window other (recursion_at (IsEventOf window) ids other there j)) at_m in
    let events = same_event window first.event second.event first.there second.there (sym first.is ∙ same ∙ second.is) in
    differ (sym first.own ∙ ap (λ (e : EventId). e.thread) events ∙ second.own))

-- where each two literals have different variables, none stands twice
none_there : (lit : Lit) (lits : List Lit) (variable : ℕ) → lit.variable ≡ variable → AllByRecursion (Unlike lit) lits
    → count_by (λ (l : Lit). l.variable == variable) lits ≡ 0
none_there lit [] variable own unlike = refl
none_there lit (other ∷ lits) variable own unlike =
    let rest = none_there lit lits variable own unlike.1 in
    let apart : (other.variable == variable) ≡ false = ne_eqb other.variable variable (λ e. unlike.0 (own ∙ sym e)) in
    let step = sum_by-cons (λ (l : Lit). cond (l.variable == variable) 1 0) other lits in
    let zero_here : ◌≡◌ {A = ℕ} (cond (other.variable == variable) 1 0) 0 = rw apart refl in
    step ∙ omega (arith, zero_here, rest)

once_from : (lits : List Lit) → Pairwise Unlike lits → NamesOnce lits
once_from [] unlike variable = omega arith
once_from (lit ∷ lits) unlike variable =
    let step = sum_by-cons (λ (l : Lit). cond (l.variable == variable) 1 0) lit lits in
    elim (cases_Bool (lit.variable == variable)) [
      | inl here ↦
          let none = none_there lit lits variable (eqb-true lit.variable variable here) unlike.0 in
          let one : ◌≡◌ {A = ℕ} (cond (lit.variable == variable) 1 0) 1 = rw here refl in
          omega (arith, step, none, one)
      | inr not ↦
          let rest = once_from lits unlike.1 variable in
          let zero_here : ◌≡◌ {A = ℕ} (cond (lit.variable == variable) 1 0) 0 = rw not refl in
          omega (arith, step, rest, zero_here)
    ]

pub stuck_valid : (window : WindowForm) (ids : List EventId) → is_cycle window ids ≡ true → IsValidQuery (base_of window) (stuck_query_of window ids)
stuck_valid window ids cycle =
    let there = cycle_events window ids cycle in
    let below : Lit → Type 0 = λ lit. lit.variable < length (base_of window).kinds + 0 in
    record {
      few_locals = omega arith;
      locals = λ k d within. absurd (omega (arith, within));
      assumed = All-from_recursion below (stuck_query_of window ids).assumed (recursion_flat_map below (stop_lits window) ids (λ id i.
          all_below id (stop_lits window id) (stop_back window id (recursion_at (IsEventOf window) ids id there i))));
      once = once_from (flat_map (stop_lits window) ids) (lits_unlike window ids there (cycle_apart window ids cycle));
    }
  where
    all_below : (id : EventId) (lits : List Lit) → AllByRecursion (IsStopLit window id.thread) lits
        → AllByRecursion (λ (lit : Lit). lit.variable < length (base_of window).kinds + 0) lits
    all_below id [] all = tt
    all_below id (lit ∷ lits) all =
        let s = all.0 in
        let is = s.is in
        let inside = event_below window s.event s.there in
        let few = points_few window in
        (omega (arith, is, inside, few), all_below id lits all.1)

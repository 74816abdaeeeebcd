-- Where the clauses hold, a feasible schedule of the executed events by their places links the two windows.
use Rattle.std.proofs.Common.{ℕ, suc, ◌≡◌, ◌≢◌, ap, sym, ◌∙◌, refl, subst, inl, inr, List, [], ◌∷◌, ◌++◌, Bool, true, false, arith, eq-eqb}
use Rattle.std.specs.Prelude.{ℤ, ◌<ℤ◌, ◌==◌, Contains, Some, flat_map, map}
use Rattle.std.specs.List.{list_any}
use Rattle.std.specs.Ordering.{int_eq}
use Rattle.std.proofs.lemmas.Bool.{cases_Bool, false_from_ne_true}
use Rattle.std.proofs.lemmas.Bool.Decides.{Decides-int_eq, not_from_Decides}
use Rattle.gp_base.specs.FilterLaws.{contains_from_filter}
use Rattle.gp_base.specs.ListLaws.{any_first_or_rest, any_nothing, contains_middle, contains_parts, first_or_rest, here, nothing_in, Pairwise, recursion_at, there}
use Rattle.gp_trace.specs.declared.event.Event.{Event}
use Rattle.gp_trace.specs.declared.event.Event.TheVariants as event
use Rattle.gp_window.specs.declared.schedule.EventId.{EventId}
use Rattle.gp_window.specs.Events.{event_at, size_of}
use Rattle.gp_window.specs.WindowForm.{start_value, value_in, WindowForm}
use Rattle.gp_replay.specs.CountedLaws.{in_from_counted}
use Rattle.gp_replay.specs.Feasible.{IsFeasible}
use Rattle.gp_replay.specs.SizeLaws.{event_inside}
use Rattle.gp_replay.specs.Step.{start_state, value_of}
use Rattle.gp_replay.specs.Value.{NoneWrites, ValuesAreLastWrites, Writes}
use Rattle.gp_constraint.specs.declared.point.Point.{Point}
use Rattle.gp_constraint.specs.declared.symbol.Symbol.TheVariants.{Executed, Last}
use Rattle.gp_constraint.specs.ClauseLaws.{AnyTerm, before_means, both, clause_means, each_holds, Holds, last_one, skip, unless, when, when_not}
use Rattle.gp_constraint.specs.Lasts.{is_last}
use Rattle.gp_constraint.specs.PointLaws.{IsEventOf, point_for}
use Rattle.gp_constraint.specs.Points.{number_in, points_of}
use Rattle.gp_constraint.specs.SymbolTruth.{HoldAll, IsTrueLit, KeepsEdges, SymbolTruth}
use Rattle.gp_constraint.specs.Tables.{writes_to}
use Rattle.gp_constraint.specs.Terms.{before, executed, simplified}
use Rattle.gp_whole.specs.Linked.{Links}
use Rattle.gp_whole.specs.WholeLaws.{counted_by_ends}
use Rattle.gp_link.specs.LinkClauses.{are_rivals, choices_in, comes_last, ended_of, ends_at, kept_before, last, link_clauses, linked_at, stays, writes_value}
use Rattle.gp_link.specs.Variables.{variables_of}
use Rattle.gp_link.proofs.Written.{any_back, any_from, differing_named, is_rival, is_written, one_value, point_writes, value_is, writer, writer_there, written_is, written_named}

before_middle : (R : EventId → EventId → Type 0) (id middle : EventId) (front back : List EventId) → Pairwise R (front ++ middle ∷ back) → Contains front id → R id middle
before_middle R id middle [] back sorted i = absurd (nothing_in _ i)
before_middle R id middle (first ∷ front) back sorted i =
    elim (first_or_rest _ _ _ i) [
      | inl same ↦ subst (λ e. R e middle) same (recursion_at (R first) (front ++ middle ∷ back) middle sorted.0 (contains_middle middle front back))
      | inr rest ↦ before_middle R id middle front back sorted.1 rest
    ]

-- one of the choices is true
any_choice : (t : SymbolTruth) (choices : List Point) → AnyTerm t (map (λ (w : Point). last w true) choices)
    → (w : Point) × Contains choices w × (t.symbols (Last w.number) ≡ true)
any_choice t [] any = absurd (any_nothing (Holds t) any)
any_choice t (w ∷ choices) any =
    elim (any_first_or_rest (Holds t) (last w true) (map (λ (w : Point). last w true) choices) any) [
      | inl own ↦ (w, here _ _, own.0)
      | inr rest ↦ let more = any_choice t choices rest in (more.0, there _ _ _ more.1, more.2)
    ]

-- the schedule has each executed event, and none of its events stands after one of a greater place
pub record FollowsPlaces (window : WindowForm) (t : SymbolTruth) (ids : List EventId) : Type 0 where
  pub all : (id : EventId) → IsEventOf window id → t.symbols (Executed (number_in window id)) ≡ true → Contains ids id
  pub sorted : Pairwise (λ one other. t.places (number_in window other) <ℤ t.places (number_in window one) → ⊥) ids

module _ (window next : WindowForm) (t : SymbolTruth) (ids : List EventId) (told : (start_state window).values ≡ window.start_values)
    (told_next : (start_state next).values ≡ next.start_values) (edges : KeepsEdges window (number_in window) t)
    (lasts : ValuesAreLastWrites) (holds : HoldAll t (link_clauses window next)) (follows : FollowsPlaces window t ids) (feasible : IsFeasible window ids) where
  abbrev points : List Point
  points = points_of window

  parts : HoldAll t (flat_map (ended_of window) points) × HoldAll t (flat_map (linked_at window next points) (variables_of window next points))
  parts = both t (flat_map (ended_of window) points) (flat_map (linked_at window next points) (variables_of window next points)) holds

  -- the last event of each thread is in the schedule
  ends : (id : EventId) (event : Event) → event_at window id ≡ Some event → suc id.index ≡ size_of window id.thread → Contains ids id
  ends id event there is =
      let p = point_for window id (event, there) in
      let test : is_last window p.0 ≡ true =
      subst (λ (e : EventId). (suc e.index == size_of window e.thread) ≡ true) (sym p.3) (eq-eqb (suc id.index) (size_of window id.thread) is) in
      let own = each_holds t (ended_of window) p.0 points parts.0 p.1 in
      let clause = when t (is_last window p.0) (simplified (executed p.0 true ∷ [])) [] test own in
      let does = (last_one t (executed p.0 true) (clause_means t (executed p.0 true ∷ []) clause)).0 in
      follows.all id (event, there) (subst (λ n. t.symbols (Executed n) ≡ true) p.2 does)

  in_ids : (id : EventId) (event : Event) → event_at window id ≡ Some event → Contains ids id
  in_ids id event there =
      let inside = event_inside window id event there in
      let all = counted_by_ends window feasible.0 ids feasible.1 ends id.thread in
      in_from_counted window feasible.0 ids id feasible.1 (omega (arith, inside, all))

  starts_with : (variable : List ℕ) → value_of (start_state window) variable ≡ start_value window variable
  starts_with variable = ap (λ values. value_in values variable) told

  next_with : (variable : List ℕ) → start_value next variable ≡ value_of (start_state next) variable
  next_with variable = ap (λ values. value_in values variable) (sym told_next)

  -- the clauses of a variable hold
  of_variable : (variable : List ℕ) → Contains (variables_of window next points) variable → HoldAll t (linked_at window next points variable)
  of_variable variable has = each_holds t (linked_at window next points) variable (variables_of window next points) parts.1 has

  abbrev is_written_in : List ℕ → Bool
  is_written_in variable = list_any (λ (p : Point). writes_to variable p.action) points

  -- a variable that no event of the schedule writes is not written
  unwritten : (variable : List ℕ) → NoneWrites window ids variable → is_written_in variable ≡ false
  unwritten variable none =
      false_from_ne_true (is_written_in variable) (λ e.
      let found = any_back (λ (p : Point). writes_to variable p.action) points e in
      let value = written_is variable found.0.action found.2 in
      let writes = point_writes window found.0 variable value.0 found.1 value.1 in
      recursion_at (λ id. (value : ℤ) → ¬ Writes window id variable value) ids found.0.id none (in_ids found.0.id (event.Write variable value.0) writes) value.0 writes)

  -- one that is not written begins both windows with one value
  stays_so : (variable : List ℕ) → is_written_in variable ≡ false → start_value window variable ≡ start_value next variable
  stays_so variable none =
      let tie = Decides-int_eq (start_value window variable) (start_value next variable) in
      elim (cases_Bool (int_eq (start_value window variable) (start_value next variable))) [
        | inl same ↦ tie.0 same
        | inr apart ↦
            let has = differing_named window next points variable (not_from_Decides _ tie apart) in
            let clauses = when_not t (is_written_in variable) (ends_at points variable (start_value next variable)) (stays window next variable) none (of_variable variable has) in
            absurd (any_nothing (IsTrueLit t) (unless t (int_eq (start_value window variable) (start_value next variable)) ([] ∷ []) apart clauses).0)
      ]

  -- the value of the last write is the next window's start value
  last_value : (variable : List ℕ) (value : ℤ) (front back : List EventId) (id : EventId) → ids ≡ front ++ id ∷ back → Writes window id variable value
      → NoneWrites window back variable → value ≡ start_value next variable
  last_value variable value front back id is writes none =
      let due : ℤ = start_value next variable in
      let own : Point = writer window id variable value in
      let own_has : Contains points own = writer_there window id variable value writes in
      let written : is_written_in variable ≡ true = any_from (λ (p : Point). writes_to variable p.action) own points own_has (is_written variable value) in
      let clauses = when t (is_written_in variable) (ends_at points variable due) (stays window next variable) written
      (of_variable variable (written_named window next points own variable value own_has refl)) in
      let choices : List Point = choices_in points variable due in
      let two = both t (simplified (map (λ (w : Point). last w true) choices)) (flat_map (comes_last points) choices) clauses in
      let chosen = any_choice t choices (clause_means t (map (λ (w : Point). last w true) choices) two.0) in
      let w : Point = chosen.0 in
      let own_choice = contains_from_filter (λ (w : Point). writes_value variable due w.action) points w chosen.1 in
      let w_is = value_is variable due w.action own_choice.1 in
      let w_writes : Writes window w.id variable due = point_writes window w variable due own_choice.0 w_is in
      let tie = Decides-int_eq value due in
      elim (cases_Bool (int_eq value due)) [
        | inl same ↦ tie.0 same
        | inr apart ↦
            let differ : value ≢ due = not_from_Decides (int_eq value due) tie apart in
            absurd (elim (contains_parts w.id id front back (subst (λ all. Contains all w.id) is (in_ids w.id (event.Write variable due) w_writes))) [
              | inr (inr late) ↦ recursion_at (λ other. (v : ℤ) → ¬ Writes window other variable v) back w.id none late due w_writes
              | inr (inl same) ↦ differ (one_value window w.id variable value due (subst (λ e. Writes window e variable value) same writes) w_writes)
              | inl early ↦
                  let rival : are_rivals w.action own.action ≡ true = subst (λ does. are_rivals does own.action ≡ true) (sym w_is) (is_rival variable due value differ) in
                  let of_own = when t (are_rivals w.action own.action) (simplified (last w false ∷ before own w ∷ [])) [] rival
                  (each_holds t (kept_before w) own points (each_holds t (comes_last points) w choices two.1 chosen.1) own_has) in
                  let order = last_one t (before own w) (skip t (Last w.number) (before own w ∷ []) chosen.2 (clause_means t (last w false ∷ before own w ∷ []) of_own)) in
                  let less = before_means window t own w edges own_has own_choice.0 order in
                  before_middle (λ one other. t.places (number_in window other) <ℤ t.places (number_in window one) → ⊥) w.id id front back
                  (subst (Pairwise (λ one other. t.places (number_in window other) <ℤ t.places (number_in window one) → ⊥)) is follows.sorted) early less
            ])
      ]

  values : (variable : List ℕ) → value_of feasible.0 variable ≡ value_of (start_state next) variable
  values variable =
      elim (lasts window ids feasible.0 feasible.1 variable) [
        | inl kept ↦ sym kept.0 ∙ starts_with variable ∙ stays_so variable (unwritten variable kept.1) ∙ next_with variable
        | inr w ↦ last_value variable (value_of feasible.0 variable) w.0 w.2 w.1 w.3 w.4 w.5 ∙ next_with variable
      ]

  -- the schedule links the two windows
  pub links : Links window next ids
  links = record {
    last = feasible.0;
    runs = feasible.1;
    whole = in_ids;
    values = values;
  }

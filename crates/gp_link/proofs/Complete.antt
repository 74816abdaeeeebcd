-- A schedule that links a window to the next makes the clauses true.
use Rattle.std.proofs.Common.{ℕ, suc, ◌≡◌, ◌<◌, ◌≤◌, ap, sym, ◌∙◌, refl, subst, inl, inr, List, [], ◌∷◌, ◌++◌, Bool, true, false, not, arith, eq-eqb, eqb-true, length}
use Rattle.std.specs.Prelude.{ℤ, pos, ◌-ℤ◌, ◌<ℤ◌, ◌≤ℤ◌, ◌==◌, ◌&&◌, ◌||◌, Contains, Some, flat_map, int_le, int_lt, map, nat_lt, slice_get}
use Rattle.std.specs.List.{list_any}
use Rattle.std.specs.Ordering.{int_eq}
use Rattle.std.proofs.lemmas.Bool.{and_from, and_parts, cases_Bool, cases_order, false_from_ne_true, true≢false}
use Rattle.std.proofs.lemmas.Bool.Decides.{Decides-int_eq, nat_tests}
use Rattle.std.proofs.lemmas.Int.{ints}
use Rattle.gp_base.specs.FilterLaws.{contains_filter, contains_from_filter}
use Rattle.gp_base.specs.ListLaws.{contains_map, contains_parts, first_or_rest, nothing_in, recursion_at}
use Rattle.gp_clause.specs.Clause.{HoldsAll}
use Rattle.gp_clause.specs.Kind.{FitsKind}
use Rattle.gp_clause.specs.Valuation.{IsValuation}
use Rattle.gp_trace.specs.declared.event.Event.TheVariants as event
use Rattle.gp_window.specs.declared.schedule.EventId.{EventId}
use Rattle.gp_window.specs.Events.{event_at}
use Rattle.gp_window.specs.WindowForm.{start_value, value_in, WindowForm}
use Rattle.gp_replay.specs.Step.{start_state, value_of}
use Rattle.gp_replay.specs.Value.{NoneWrites, ValuesAreLastWrites, Writes}
use Rattle.gp_constraint.specs.declared.point.Point.{Point}
use Rattle.gp_constraint.specs.declared.symbol.Symbol.{Symbol}
use Rattle.gp_constraint.specs.declared.symbol.Symbol.TheVariants.{Executed, Order, Choice, StartChoice, First, Last, Signal, Span}
use Rattle.gp_constraint.specs.Base.{base_of, names_in}
use Rattle.gp_constraint.specs.Extended.{extended_truth, IsExtendedModel, ModelsExtend, names_with, symbol_value}
use Rattle.gp_constraint.specs.ClauseLaws.{chain}
use Rattle.gp_constraint.specs.Lasts.{is_last}
use Rattle.gp_constraint.specs.PointLaws.{event_below, event_id, IsEventOf, one_point, points_named}
use Rattle.gp_constraint.specs.Points.{number_in, points_of}
use Rattle.gp_constraint.specs.SymbolTruth.{KeepsEdges}
use Rattle.gp_constraint.specs.Symbols.{kind_of}
use Rattle.gp_constraint.specs.Tables.{writes_to}
use Rattle.gp_constraint.specs.Terms.{before, executed, simplified}
use Rattle.gp_constraint.specs.TrueLaws.{all_append, all_either, all_flat, all_if, clause_true, or_here, term_true}
use Rattle.gp_constraint.specs.Truths.{AreTrue}
use Rattle.gp_whole.specs.Linked.{Links}
use Rattle.gp_link.proofs.LastWrites.{fresh_value, is_last_at, is_past}
use Rattle.gp_link.specs.LinkClauses.{are_rivals, choices_in, comes_last, ended_of, ends_at, kept_before, last, link_clauses, linked_at, stays, writes_value}
use Rattle.gp_link.specs.Variables.{variables_of}
use Rattle.gp_link.proofs.Written.{any_back, any_from, is_value, is_written, one_value, point_writes, rival_is, writer, writer_there, written_is}

int_lt_to : (a b : ℤ) → a <ℤ b → int_lt a b ≡ true
int_lt_to a b less =
    elim (cases_Bool (int_lt a b)) [
      | inl is ↦ is
      | inr fails ↦ absurd (omega (arith, ints, less, fails))
    ]

lt_back : (a b : ℤ) → int_lt a b ≡ true → a <ℤ b
lt_back a b is = omega (arith, ints, is)

int_le_to : (a b : ℤ) → a ≤ℤ b → int_le a b ≡ true
int_le_to a b most =
    elim (cases_Bool (int_le a b)) [
      | inl is ↦ is
      | inr fails ↦ absurd (omega (arith, ints, most, fails))
    ]

le_back : (a b : ℤ) → int_le a b ≡ true → a ≤ℤ b
le_back a b is = omega (arith, ints, is)

both_less : (a b : ℤ) → a <ℤ b → b <ℤ a → ⊥
both_less a b first second = omega (arith, ints, first, second)

less_itself : (a b : ℤ) → a ≡ b → a <ℤ b → ⊥
less_itself a b same less = omega (arith, ints, same, less)

-- the fresh values fit the places
pub fresh_fits : (points : List Point) (place : ℕ → ℤ) (s : Symbol) → FitsKind place (kind_of s) (fresh_value points place s)
fresh_fits points place (Executed e) = tt
fresh_fits points place (Choice r w) = tt
fresh_fits points place (StartChoice r) = tt
fresh_fits points place (First a c) = tt
fresh_fits points place (Last w) = tt
fresh_fits points place (Signal w g) = tt
fresh_fits points place (Order a b) = (lt_back (place a) (place b), int_lt_to (place a) (place b))
fresh_fits points place (Span a b c) = (le_back (place a -ℤ place b) (pos c), int_le_to (place a -ℤ place b) (pos c))

not_true : (a : Bool) → not a ≡ true → a ≡ false
not_true true e = cc
not_true false e = refl

or_rest : (a rest : Bool) → rest ≡ true → (a || rest) ≡ true
or_rest true rest is = refl
or_rest false rest is = is

-- where an event stands in a list
in_front : (id : EventId) (front back : List EventId) → Contains front id → (i : ℕ) × (i < length front) × (slice_get (front ++ back) i ≡ Some id)
in_front id [] back i = absurd (nothing_in _ i)
in_front id (first ∷ front) back i =
    elim (first_or_rest _ _ _ i) [
      | inl same ↦ (0, omega arith, ap Some same)
      | inr later ↦ let rest = in_front id front back later in let less = rest.1 in (suc rest.0, omega (arith, less), rest.2)
    ]

at_middle : (front back : List EventId) (id : EventId) → slice_get (front ++ id ∷ back) (length front) ≡ Some id
at_middle [] back id = refl
at_middle (first ∷ front) back id = at_middle front back id

pos_less : (j k : ℕ) → j < k → pos j <ℤ pos k
pos_less j k h = omega (arith, ints, h)

-- all events are executed, and the event at place i of the schedule has place i
pub record SaysWhole (window : WindowForm) (ids : List EventId) (truth : ℕ → Bool) (place : ℕ → ℤ) : Type 0 where
  pub executed : (id : EventId) → IsEventOf window id → truth (number_in window id) ≡ true
  pub placed : (i : ℕ) (id : EventId) → slice_get ids i ≡ Some id → place (number_in window id) ≡ pos i

module _ (window next : WindowForm) (ids : List EventId) (truth : ℕ → Bool) (place : ℕ → ℤ) (told : (start_state window).values ≡ window.start_values)
    (told_next : (start_state next).values ≡ next.start_values) (laws : ModelsExtend) (lasts : ValuesAreLastWrites) (few : length (points_of window) ≤ 2048)
    (valuation : IsValuation (base_of window).points (base_of window).edges (base_of window).kinds truth place)
    (says : SaysWhole window ids truth place) (links : Links window next ids) where
  abbrev points : List Point
  points = points_of window

  abbrev fresh : Symbol → Bool
  fresh s = fresh_value (points_of window) place s

  -- the truth of symbols
  abbrev value : Symbol → Bool
  value s = symbol_value (names_in window) truth (λ symbol. fresh_value (points_of window) place symbol) s

  fits : (s : Symbol) → FitsKind place (kind_of s) (value s)
  fits s = laws.fits window truth place (λ symbol. fresh_value (points_of window) place symbol) valuation (fresh_fits (points_of window) place) s

  edges : KeepsEdges window (number_in window) (record { symbols = λ symbol. false; places = place })
  edges = laws.rise window place valuation.keeps

  -- an order that the places keep is true
  before_true : (e f : Point) → Contains points e → Contains points f → place e.number <ℤ place f.number → term_true value (before e f) ≡ true
  before_true e f in_e in_f less =
      let own = (points_named window).own e in_e in
      let other = (points_named window).own f in_f in
      elim (cases_Bool (e.id.thread == f.id.thread)) [
        | inl same ↦
            let thread : e.id.thread ≡ f.id.thread = eqb-true e.id.thread f.id.thread same in
            let low : e.id.index < f.id.index = elim (cases_order e.id.index f.id.index) [
              | inl tie ↦
                  let number : e.number ≡ f.number =
                  own.3 ∙ ap (λ t. number_in window (event_id t e.id.index)) thread ∙ ap (λ i. number_in window (event_id f.id.thread i)) tie ∙ sym other.3 in
                  absurd (less_itself (place e.number) (place f.number) (ap place number) less)
              | inr (inl low) ↦ low
              | inr (inr high) ↦
                  let there : event_at window (event_id f.id.thread e.id.index) ≡ Some own.0 = subst (λ t. event_at window (event_id t e.id.index) ≡ Some own.0) thread own.1 in
                  let back = chain window (record { symbols = λ symbol. false; places = place }) edges f.id.thread f.id.index e.id.index own.0 high there in
                  let number_e : e.number ≡ number_in window (event_id f.id.thread e.id.index) = own.3 ∙ ap (λ t. number_in window (event_id t e.id.index)) thread in
                  absurd (both_less (place e.number) (place f.number) less
                  (subst (λ n. place f.number <ℤ place n) (sym number_e) (subst (λ n. place n <ℤ place (number_in window (event_id f.id.thread e.id.index))) (sym other.3) back)))
            ] in
            let test : nat_lt e.id.index f.id.index ≡ true = grind (arith, nat_tests) in
            rw (same, test) refl
        | inr differ ↦ elim (cases_Bool (nat_lt e.number f.number)) [
          | inl lesser ↦
              let holds : value (Order e.number f.number) ≡ true = (fits (Order e.number f.number)).1 less in
              rw (differ, lesser) holds
          | inr greater ↦
              let fails : value (Order f.number e.number) ≡ false =
              false_from_ne_true _ (λ is. both_less (place e.number) (place f.number) less ((fits (Order f.number e.number)).0 is)) in
              rw (differ, greater) (ap not fails)
        ]
      ]

  -- every event is executed
  point_executed : (p : Point) → Contains points p → value (Executed p.number) ≡ true
  point_executed p has =
      let own = (points_named window).own p has in
      let below : number_in window p.id < length points = event_below window p.id (own.0, own.1) in
      ap (λ n. value (Executed n)) own.3 ∙ laws.executed window truth (λ symbol. fresh_value (points_of window) place symbol) (number_in window p.id) below
      ∙ says.executed p.id (own.0, own.1)

  ended_true : (p : Point) → Contains points p → AreTrue value (ended_of window p)
  ended_true p has =
      all_if value (is_last window p) (simplified (executed p true ∷ [])) (λ _. clause_true value (executed p true ∷ []) (or_here (value (Executed p.number)) false (point_executed p has)))

  -- a write that is the last comes after each write of another value
  last_means : (w other : Point) → Contains points w → Contains points other → are_rivals w.action other.action ≡ true → value (Last w.number) ≡ true
      → place other.number <ℤ place w.number
  last_means w other in_w in_other rival is =
      let now : fresh_value points place (Last w.number) ≡ true = sym (laws.further window truth (λ symbol. fresh_value (points_of window) place symbol) (Last w.number) few tt) ∙ is in
      let found = any_back (λ (p : Point). p.number == w.number && is_last_at points place p) points now in
      let parts = and_parts (found.0.number == w.number) (is_last_at points place found.0) found.2 in
      let same : found.0 ≡ w = one_point window found.0 w found.1 in_w (eqb-true found.0.number w.number parts.0) in
      let own : is_last_at points place w ≡ true = subst (λ (p : Point). is_last_at points place p ≡ true) same parts.1 in
      let none : list_any (is_past place w) points ≡ false = not_true (list_any (is_past place w) points) own in
      elim (cases_Bool (int_lt (place other.number) (place w.number))) [
        | inl less ↦ lt_back (place other.number) (place w.number) less
        | inr past ↦
            let bad : is_past place w other ≡ true = and_from (are_rivals w.action other.action) (not (int_lt (place other.number) (place w.number))) rival (ap not past) in
            absurd (true≢false (sym (any_from (is_past place w) other points in_other bad) ∙ none))
      ]

  kept_true : (w other : Point) → Contains points w → Contains points other → AreTrue value (kept_before w other)
  kept_true w other in_w in_other =
      all_if value (are_rivals w.action other.action) (simplified (last w false ∷ before other w ∷ [])) (λ rival.
      clause_true value (last w false ∷ before other w ∷ []) (elim (cases_Bool (value (Last w.number))) [
        | inl is ↦
            let less = last_means w other in_w in_other rival is in
            or_rest (not (value (Last w.number))) (term_true value (before other w) || false) (or_here (term_true value (before other w)) false (before_true other w in_other in_w less))
        | inr fails ↦ or_here (not (value (Last w.number))) (term_true value (before other w) || false) (ap not fails)
      ]))

  starts_with : (variable : List ℕ) → value_of (start_state window) variable ≡ start_value window variable
  starts_with variable = ap (λ values. value_in values variable) told

  next_with : (variable : List ℕ) → value_of (start_state next) variable ≡ start_value next variable
  next_with variable = ap (λ values. value_in values variable) told_next

  abbrev is_written_in : List ℕ → Bool
  is_written_in variable = list_any (λ (p : Point). writes_to variable p.action) points

  -- the last write of the schedule is the last
  last_true : (variable : List ℕ) (found : ℤ) (front back : List EventId) (id : EventId) → ids ≡ front ++ id ∷ back → Writes window id variable found
      → NoneWrites window back variable → value (Last (number_in window id)) ≡ true
  last_true variable found front back id is writes none =
      let w : Point = writer window id variable found in
      let in_w : Contains points w = writer_there window id variable found writes in
      let at_w : place w.number ≡ pos (length front) =
      says.placed (length front) id (subst (λ all. slice_get all (length front) ≡ Some id) (sym is) (at_middle front back id)) in
      let before_w : (other : Point) → Contains points other → are_rivals w.action other.action ≡ true → place other.number <ℤ place w.number = (λ other in_other rival.
      let o = rival_is variable found other.action rival in
      let o_writes : Writes window other.id variable o.0 = point_writes window other variable o.0 in_other o.1 in
      let in_ids : Contains ids other.id = links.whole other.id (event.Write variable o.0) o_writes in
      elim (contains_parts other.id id front back (subst (λ all. Contains all other.id) is in_ids)) [
        | inl early ↦
            let at = in_front other.id front (id ∷ back) early in
            let at_o : place (number_in window other.id) ≡ pos at.0 = says.placed at.0 other.id (subst (λ all. slice_get all at.0 ≡ Some other.id) (sym is) at.2) in
            let number : other.number ≡ number_in window other.id = ((points_named window).own other in_other).3 in
            subst (λ x. x <ℤ place w.number) (sym (ap place number ∙ at_o)) (subst (λ x. pos at.0 <ℤ x) (sym at_w) (pos_less at.0 (length front) at.1))
        | inr (inl same) ↦ absurd (o.2 (one_value window other.id variable o.0 found o_writes (subst (λ e. Writes window e variable found) same writes)))
        | inr (inr late) ↦ absurd (recursion_at (λ e. (v : ℤ) → ¬ Writes window e variable v) back other.id none late o.0 o_writes)
      ]) in
      let no_past : list_any (is_past place w) points ≡ false = false_from_ne_true _ (λ e.
      let past = any_back (is_past place w) points e in
      let parts = and_parts (are_rivals w.action past.0.action) (not (int_lt (place past.0.number) (place w.number))) past.2 in
      let less = int_lt_to (place past.0.number) (place w.number) (before_w past.0 past.1 parts.0) in
      true≢false (sym less ∙ not_true (int_lt (place past.0.number) (place w.number)) parts.1)) in
      let last_at : is_last_at points place w ≡ true = ap not no_past in
      let now : fresh_value points place (Last w.number) ≡ true =
      any_from (λ (p : Point). p.number == w.number && is_last_at points place p) w points in_w
      (and_from (w.number == w.number) (is_last_at points place w) (eq-eqb w.number w.number refl) last_at) in
      laws.further window truth (λ symbol. fresh_value (points_of window) place symbol) (Last w.number) few tt ∙ now

  -- some write of the next window's start value is the last
  choice_true : (variable : List ℕ) → is_written_in variable ≡ true
      → list_any (term_true value) (map (λ (w : Point). last w true) (choices_in points variable (start_value next variable))) ≡ true
  choice_true variable written =
      let due : ℤ = start_value next variable in
      elim (lasts window ids links.last links.runs variable) [
        | inl kept ↦
            let found = any_back (λ (p : Point). writes_to variable p.action) points written in
            let wrote = written_is variable found.0.action found.2 in
            let writes = point_writes window found.0 variable wrote.0 found.1 wrote.1 in
            let in_ids : Contains ids found.0.id = links.whole found.0.id (event.Write variable wrote.0) writes in
            absurd (recursion_at (λ e. (v : ℤ) → ¬ Writes window e variable v) ids found.0.id kept.1 in_ids wrote.0 writes)
        | inr w ↦
            let last_due : value_of links.last variable ≡ due = links.values variable ∙ next_with variable in
            let writes : Writes window w.1 variable due = subst (λ v. Writes window w.1 variable v) last_due w.4 in
            let own : Point = writer window w.1 variable due in
            let in_own : Contains points own = writer_there window w.1 variable due writes in
            let is = last_true variable due w.0 w.2 w.1 w.3 writes w.5 in
            let choice = contains_filter (λ (w : Point). writes_value variable due w.action) points own in_own (is_value variable due) in
            any_from (term_true value) (last own true) (map (λ (w : Point). last w true) (choices_in points variable due))
            (contains_map (λ (w : Point). last w true) (choices_in points variable due) own choice) is
      ]

  -- a variable that is not written stays as it is
  stays_true : (variable : List ℕ) → is_written_in variable ≡ false → AreTrue value (stays window next variable)
  stays_true variable none =
      let same : start_value window variable ≡ start_value next variable =
      elim (lasts window ids links.last links.runs variable) [
        | inl kept ↦ sym (starts_with variable) ∙ kept.0 ∙ links.values variable ∙ next_with variable
        | inr w ↦
            let own : Point = writer window w.1 variable (value_of links.last variable) in
            let written : is_written_in variable ≡ true =
            any_from (λ (p : Point). writes_to variable p.action) own points (writer_there window w.1 variable (value_of links.last variable) w.4)
            (is_written variable (value_of links.last variable)) in
            absurd (true≢false (sym written ∙ none))
      ] in
      let tied : int_eq (start_value window variable) (start_value next variable) ≡ true = (Decides-int_eq (start_value window variable) (start_value next variable)).1 same in
      rw tied tt

  variable_true : (variable : List ℕ) → AreTrue value (linked_at window next points variable)
  variable_true variable =
      let due : ℤ = start_value next variable in
      let choices : List Point = choices_in points variable due in
      all_either value (is_written_in variable) (ends_at points variable due) (stays window next variable)
      (λ written. all_append value (simplified (map (λ (w : Point). last w true) choices)) (flat_map (comes_last points) choices)
      (clause_true value (map (λ (w : Point). last w true) choices) (choice_true variable written))
      (all_flat value (comes_last points) choices (λ w in_choices.
      let in_w = (contains_from_filter (λ (w : Point). writes_value variable due w.action) points w in_choices).0 in
      all_flat value (kept_before w) points (λ other in_other. kept_true w other in_w in_other))))
      (stays_true variable)

  -- all clauses are true
  pub clauses_true : AreTrue value (link_clauses window next)
  clauses_true =
      all_append value (flat_map (ended_of window) points) (flat_map (linked_at window next points) (variables_of window next points))
      (all_flat value (ended_of window) points (λ p has. ended_true p has))
      (all_flat value (linked_at window next points) (variables_of window next points) (λ variable has. variable_true variable))

  -- and so the valuation is one of the problem of both windows
  abbrev pub linked_truth : ℕ → Bool
  linked_truth = extended_truth (names_in window) (names_with window (link_clauses window next)) truth (λ symbol. fresh_value (points_of window) place symbol)

  pub completes : HoldsAll truth (base_of window).clauses → IsExtendedModel window (link_clauses window next) linked_truth place
  completes clauses =
      laws.models window (link_clauses window next) truth place (λ symbol. fresh_value (points_of window) place symbol) valuation clauses
      (fresh_fits (points_of window) place) clauses_true

-- A feasible schedule gives a model of its window.
use Rattle.std.proofs.Common.{ℕ, zero, suc, ◌≡◌, ◌+◌, ◌<◌, refl, ap, sym, ◌∙◌, subst, inl, inr, arith, append-nil, Bool, true, false, List, [], ◌∷◌, ◌++◌, length}
use Rattle.std.specs.Prelude.{ℤ, pos, negsuc, ◌-ℤ◌, ◌≤ℤ◌, ◌<ℤ◌, int_le, int_lt, Some, slice_get}
use Rattle.std.proofs.lemmas.Bool.{cases_Bool}
use Rattle.std.proofs.lemmas.Int.{ints}
use Rattle.std.proofs.lemmas.List.{length-append, length-map}
use Rattle.std.proofs.lemmas.List.Elements.{All-nil}
use Rattle.std.proofs.lemmas.Option.{none-some, same_Some}
use Rattle.gp_clause.specs.declared.kind.Kind.{Kind}
use Rattle.gp_clause.specs.declared.problem.Problem.{Problem}
use Rattle.gp_clause.specs.declared.problem.Query.{Query}
use Rattle.gp_clause.specs.declared.valuation.Valuation.{Valuation}
use Rattle.gp_clause.specs.Problem.{IsValidQuery}
use Rattle.gp_clause.specs.Valuation.{IsValuation, Meets, ValuationsMeet, WritesDown}
use Rattle.gp_constraint.specs.declared.symbol.Symbol.{Symbol}
use Rattle.gp_constraint.specs.declared.symbol.Symbol.TheVariants.{Executed, Order, Choice, StartChoice, First, Last, Signal, Span}
use Rattle.gp_constraint.specs.declared.symbol.SymbolicLit.{SymbolicLit}
use Rattle.gp_constraint.specs.Base.{base_of, clauses_of, first_names, names_in}
use Rattle.gp_constraint.specs.Encoded.{IsEncodable}
use Rattle.gp_constraint.specs.EncodedLaws.{is_valid}
use Rattle.gp_constraint.specs.GrowthLaws.{of_grows}
use Rattle.gp_constraint.specs.Laws.{AnswersMean, BaseMeans, ProblemsAreValid}
use Rattle.gp_constraint.specs.Numbering.{point_names}
use Rattle.gp_constraint.specs.PointLaws.{event_below, IsEventOf}
use Rattle.gp_constraint.specs.Points.{number_in, points_of}
use Rattle.gp_constraint.specs.ScheduleModels.{ScheduleModel}
use Rattle.gp_constraint.specs.SymbolTruth.{Bound, HoldAll, HoldsSymbolic, read_by, SymbolTruth}
use Rattle.gp_constraint.specs.Symbols.{kind_of}
use Rattle.gp_replay.specs.declared.state.State.{State}
use Rattle.gp_replay.specs.Feasible.{IsFeasible, Runs}
use Rattle.gp_replay.specs.Step.{start_state}
use Rattle.gp_replay.specs.StepLaws.{stepped}
use Rattle.gp_window.specs.declared.schedule.EventId.{EventId}
use Rattle.gp_window.specs.WindowForm.{IsWindow, WindowForm}
use Rattle.gp_witness.specs.Complete.{SchedulesAreComplete}
use Rattle.gp_reasoned.specs.Models.{IsModel, IsOfSchedule}
use Rattle.gp_reasoned.proofs.Truly.{le_back, lt_back}

-- tests of places
lt_to : (one other : ℤ) → one <ℤ other → int_lt one other ≡ true
lt_to one other less =
    elim (cases_Bool (int_lt one other)) [
      | inl is ↦ is
      | inr fails ↦ absurd (omega (arith, ints, less, fails))
    ]

lt_not : (one other : ℤ) → other <ℤ one → int_lt one other ≡ false
lt_not one other less =
    elim (cases_Bool (int_lt one other)) [
      | inl is ↦ absurd (omega (arith, ints, less, is))
      | inr fails ↦ fails
    ]

le_to : (one other : ℤ) → one ≤ℤ other → int_le one other ≡ true
le_to one other less =
    elim (cases_Bool (int_le one other)) [
      | inl is ↦ is
      | inr fails ↦ absurd (omega (arith, ints, less, fails))
    ]

le_not : (one other : ℤ) (width : ℕ) → (other -ℤ one) ≤ℤ negsuc width → int_le (one -ℤ other) (pos width) ≡ false
le_not one other width far =
    elim (cases_Bool (int_le (one -ℤ other) (pos width))) [
      | inl is ↦ absurd (omega (arith, ints, far, is))
      | inr fails ↦ fails
    ]

-- orders and distances by the places, and all else as it is
abbrev fitted_symbol : SymbolTruth → Symbol → Bool
fitted_symbol u (Executed p) = u.symbols (Executed p)
fitted_symbol u (Order a b) = int_lt (u.places a) (u.places b)
fitted_symbol u (Choice r w) = u.symbols (Choice r w)
fitted_symbol u (StartChoice r) = u.symbols (StartChoice r)
fitted_symbol u (First a c) = u.symbols (First a c)
fitted_symbol u (Last w) = u.symbols (Last w)
fitted_symbol u (Signal w g) = u.symbols (Signal w g)
fitted_symbol u (Span a b width) = int_le (u.places a -ℤ u.places b) (pos width)

abbrev fitted : SymbolTruth → SymbolTruth
fitted u = record { symbols = fitted_symbol u; places = u.places }

fitted_lit : (u : SymbolTruth) (symbol : Symbol) (positive : Bool) → u.symbols symbol ≡ positive → Bound u symbol positive
    → (fitted_symbol u symbol ≡ positive) × Bound (fitted u) symbol positive
fitted_lit u (Executed p) positive is bound = (is, tt)
fitted_lit u (Order a b) true is bound = (lt_to (u.places a) (u.places b) bound, bound)
fitted_lit u (Order a b) false is bound = (lt_not (u.places a) (u.places b) bound, bound)
fitted_lit u (Choice r w) positive is bound = (is, tt)
fitted_lit u (StartChoice r) positive is bound = (is, tt)
fitted_lit u (First a c) positive is bound = (is, tt)
fitted_lit u (Last w) positive is bound = (is, tt)
fitted_lit u (Signal w g) positive is bound = (is, tt)
fitted_lit u (Span a b width) true is bound = (le_to (u.places a -ℤ u.places b) (pos width) bound, bound)
fitted_lit u (Span a b width) false is bound = (le_not (u.places a) (u.places b) width bound, bound)

fitted_clause : (u : SymbolTruth) (lits : List SymbolicLit) → HoldsSymbolic u lits → HoldsSymbolic (fitted u) lits
fitted_clause u lits (at, lit, within, is, holds) = (at, lit, within, is, fitted_lit u lit.symbol lit.positive holds.0 holds.1)

fitted_all : (u : SymbolTruth) (clauses : List (List SymbolicLit)) → HoldAll u clauses → HoldAll (fitted u) clauses
fitted_all u [] all = tt
fitted_all u (clause ∷ clauses) all = (fitted_clause u clause all.0, fitted_all u clauses all.1)

-- nothing is asked
abbrev nothing_asked : Query
nothing_asked = record { locals = []; assumed = [] }

-- there are as many variables as points, and more
as_many : (count : ℕ) → length (point_names count) ≡ count
as_many zero = refl
as_many (suc count) = let rest = as_many count in let joined = length-append (point_names count) (Executed count ∷ []) in omega (arith, rest, joined)

variable_below : (window : WindowForm) (point : ℕ) → point < length (points_of window) → point < length (base_of window).kinds + length nothing_asked.locals
variable_below window point below =
    let grown = of_grows (first_names window) (clauses_of window) in
    let size : length (names_in window) ≡ length (first_names window ++ grown.rest) = ap length grown.is in
    let parts = length-append (first_names window) grown.rest in
    let points = as_many (length (points_of window)) in
    let kinds = length-map (names_in window) kind_of in
    omega (arith, below, size, parts, points, kinds)

-- each event of a feasible schedule is one of the window
run_event : (window : WindowForm) (state last : State) (ids : List EventId) → Runs window state ids last → (place : ℕ) (id : EventId) → slice_get ids place ≡ Some id → IsEventOf window id
run_event window state last [] runs place id got = absurd (none-some id got)
run_event window state last (first ∷ ids) (middle, is, rest) zero id got =
    let step = stepped window state middle first is in
    subst (IsEventOf window) (same_Some first id got) (step.event, step.there)
run_event window state last (first ∷ ids) (middle, is, rest) (suc place) id got = run_event window middle last ids rest place id got

valid_nothing : (problem : Problem) → IsValidQuery problem nothing_asked
valid_nothing problem = record { few_locals = omega arith; locals = All-nil _; assumed = All-nil _; once = λ variable. omega arith }

pub scheduled : SchedulesAreComplete → ValuationsMeet → AnswersMean → ProblemsAreValid → (window : WindowForm) (schedule : List EventId) → IsWindow window → IsEncodable window
    → IsFeasible window schedule → (t : SymbolTruth) × IsModel window t × IsOfSchedule window schedule t
scheduled complete meet answers valid window schedule recorded encodable feasible = (fitted u, is_model, is_of)
  where
    problem : Problem
    problem = base_of window

    model : ScheduleModel window schedule problem problem.kinds []
    model = complete.base window schedule recorded feasible

    written : (valuation : Valuation) × WritesDown (length problem.kinds + length nothing_asked.locals) problem.points model.truth model.place valuation
    written = meet.written (length problem.kinds + length nothing_asked.locals) problem.points model.truth model.place

    meets : Meets problem nothing_asked written.0
    meets =
        meet.meets problem nothing_asked model.truth model.place written.0 (is_valid valid window encodable) (valid_nothing problem)
        (subst (λ (kinds : List Kind). IsValuation problem.points problem.edges kinds model.truth model.place) (sym (append-nil problem.kinds)) model.valuation) model.clauses (All-nil _) written.1

    u : SymbolTruth
    u = read_by (names_in window) written.0

    base : BaseMeans window u
    base = answers.base window nothing_asked written.0 meets

    is_model : IsModel window (fitted u)
    is_model = record {
      base = record { edges = base.edges; clauses = fitted_all u (clauses_of window) base.clauses };
      apart = λ one other below within differ same. model.valuation.apart one other below within differ (sym (written.1.same_place one below) ∙ same ∙ written.1.same_place other within);
      orders = λ one other. (lt_back (u.places one) (u.places other), lt_to (u.places one) (u.places other));
      distances = λ one other width. (le_back (u.places one -ℤ u.places other) (pos width), le_to (u.places one -ℤ u.places other) (pos width));
    }

    is_of : IsOfSchedule window schedule (fitted u)
    is_of = record {
      executed = λ id there.
          let below = event_below window id there in
          answers.points window written.0 (number_in window id) below ∙ written.1.same_truth (number_in window id) (variable_below window (number_in window id) below) ∙ model.says.executed id there;
      placed = λ place id got.
          written.1.same_place (number_in window id) (event_below window id (run_event window (start_state window) feasible.0 schedule feasible.1 place id got)) ∙ model.says.placed place id got;
      later = λ id there out.
          subst (λ (place : ℤ). pos (length schedule) ≤ℤ place) (sym (written.1.same_place (number_in window id) (event_below window id there))) (model.says.later id there out);
    }

-- The problem of a window with its signals is that of the window, enlarged; so its answers, without the variables of signals, are
-- answers to the window, with the same schedule.
use Rattle.std.proofs.Common.{ℕ, List, [], ◌∷◌, zero, suc, ◌≡◌, ◌<◌, ◌≤◌, ◌+◌, ap, sym, ◌∙◌, refl, subst, ◌++◌, length, map, drop, arith, length-append}
use Rattle.std.proofs.Math.Seq.{drop-append_seam}
use Rattle.std.proofs.lemmas.List.{length-map, map-append}
use Rattle.gp_clause.specs.declared.kind.Kind.{Kind}
use Rattle.gp_clause.specs.declared.lit.Lit.{Lit}
use Rattle.gp_clause.specs.declared.problem.Problem.{Problem}
use Rattle.gp_clause.specs.declared.problem.Query.{Query}
use Rattle.gp_clause.specs.declared.valuation.Valuation.{Valuation}
use Rattle.gp_clause.specs.Valuation.{Meets, truth_of}
use Rattle.gp_window.specs.declared.schedule.EventId.{EventId}
use Rattle.gp_window.specs.WindowForm.{WindowForm}
use Rattle.gp_constraint.specs.declared.symbol.Symbol.TheVariants.{Executed}
use Rattle.gp_constraint.specs.Base.{base_of, clauses_of, first_names, names_in}
use Rattle.gp_constraint.specs.GrowthLaws.{of_grows}
use Rattle.gp_constraint.specs.Laws.{ProblemsAreValid}
use Rattle.gp_constraint.specs.Numbering.{numbered, point_names}
use Rattle.gp_constraint.specs.PointLaws.{event_below, IsEventOf}
use Rattle.gp_constraint.specs.Points.{number_in, points_of}
use Rattle.gp_constraint.specs.Symbols.{kind_of}
use Rattle.gp_notify.specs.Extended.{extended_names, extended_of, lift, lower, new_names, new_size, old_size}
use Rattle.gp_notify.specs.Laws.{AnswersAreLowered, NumbersLift}
use Rattle.gp_notify.specs.Lift.{enlarged, lifted, lowered}
use Rattle.gp_notify.specs.Signals.{signals_of}
use Rattle.gp_notify.proofs.Raising.{lowered_truth, raised_below}

-- the symbols of the window come first, and then those of signals
pub names_joined : (window : WindowForm) → extended_names window ≡ names_in window ++ new_names window
names_joined window =
    let g = of_grows (names_in window) (signals_of window) in
    g.is ∙ ap (λ more. names_in window ++ more) (sym (ap (drop (length (names_in window))) g.is ∙ drop-append_seam (names_in window) g.rest))

abbrev pub new_kinds : WindowForm → List Kind
new_kinds window = map kind_of (new_names window)

abbrev pub new_clauses : WindowForm → List (List Lit)
new_clauses window = numbered (names_in window) (signals_of window)

pub kinds_joined : (window : WindowForm) → (extended_of window).kinds ≡ (base_of window).kinds ++ new_kinds window
kinds_joined window = ap (map kind_of) (names_joined window) ∙ map-append kind_of (names_in window) (new_names window)

pub extended_is : (window : WindowForm) → extended_of window ≡ enlarged (base_of window) (new_kinds window) (new_clauses window)
extended_is window = λ i. record {
  points = (base_of window).points;
  kinds = kinds_joined window i;
  edges = (base_of window).edges;
  clauses = (base_of window).clauses ++ new_clauses window;
}

-- how many there are
pub old_is : (window : WindowForm) → length (base_of window).kinds ≡ old_size window
old_is window = length-map (names_in window) kind_of

pub new_is : (window : WindowForm) → length (new_kinds window) ≡ new_size window
new_is window = length-map (new_names window) kind_of

pub sizes_joined : (window : WindowForm) → length (extended_of window).kinds ≡ old_size window + new_size window
sizes_joined window =
    ap length (kinds_joined window) ∙ length-append (base_of window).kinds (new_kinds window)
    ∙ ap (λ n. n + length (new_kinds window)) (old_is window) ∙ ap (λ n. old_size window + n) (new_is window)

-- an answer to the problem with signals, lowered
answers_lowered : NumbersLift → ProblemsAreValid → (window : WindowForm) (query : Query) (valuation : Valuation) → length (points_of window) ≤ 2048 → length (clauses_of window) ≤ 500000
    → Meets (extended_of window) (lift window query) valuation → Meets (base_of window) query (lower window valuation)
answers_lowered lifts valid window query valuation few limit m =
    let base : Problem = base_of window in
    let kinds : List Kind = new_kinds window in
    let clauses : List (List Lit) = new_clauses window in
    let one : Meets (enlarged base kinds clauses) (lifted (old_size window) (new_size window) query) valuation =
    subst (λ (p : Problem). Meets p (lifted (old_size window) (new_size window) query) valuation) (extended_is window) m in
    let two : Meets (enlarged base kinds clauses) (lifted (length base.kinds) (new_size window) query) valuation =
    subst (λ n. Meets (enlarged base kinds clauses) (lifted n (new_size window) query) valuation) (sym (old_is window)) one in
    let three : Meets (enlarged base kinds clauses) (lifted (length base.kinds) (length kinds) query) valuation =
    subst (λ n. Meets (enlarged base kinds clauses) (lifted (length base.kinds) n query) valuation) (sym (new_is window)) two in
    let found : Meets base query (lowered (length base.kinds) (length kinds) valuation) =
    lifts.answers base kinds clauses query valuation (valid.base window few limit).clauses three in
    subst (λ n. Meets base query (lowered (old_size window) n valuation)) (new_is window)
    (subst (λ n. Meets base query (lowered n (length kinds) valuation)) (old_is window) found)

-- the variable of an event is one of the window
points_named : (n : ℕ) → length (point_names n) ≡ n
points_named zero = refl
points_named (suc n) = length-append (point_names n) (Executed n ∷ []) ∙ ap (λ k. k + 1) (points_named n) ∙ omega arith

pub point_old : (window : WindowForm) (point : ℕ) → point < length (points_of window) → point < old_size window
point_old window point below =
    let g = of_grows (first_names window) (clauses_of window) in
    let size = ap length g.is ∙ length-append (first_names window) g.rest in
    let first = points_named (length (points_of window)) in
    omega (arith, below, size, first)

executed_lower : (window : WindowForm) (query : Query) (v : Valuation) (id : EventId) → Meets (extended_of window) query v → IsEventOf window id
    → truth_of (lower window v) (number_in window id) ≡ truth_of v (number_in window id)
executed_lower window query v id m event =
    let few = m.truth in
    let sizes = sizes_joined window in
    let long : old_size window + new_size window ≤ length v.truth = omega (arith, few, sizes) in
    lowered_truth (old_size window) (new_size window) v (number_in window id) long
    ∙ ap (truth_of v) (raised_below (old_size window) (new_size window) (number_in window id) (point_old window (number_in window id) (event_below window id event)))

pub lowered_answers : NumbersLift → ProblemsAreValid → AnswersAreLowered
lowered_answers lifts valid = record {
  answers = answers_lowered lifts valid;
  schedules = λ window query v schedule m by. record {
    sorted = by.sorted;
    only = λ id i. let e = by.only id i in (e.0, sym (executed_lower window query v id m e.0) ∙ e.1);
    all = λ id e. by.all id (e.0, executed_lower window query v id m e.0 ∙ e.1);
  };
}

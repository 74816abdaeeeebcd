-- Something is assumed: the constraints of a window alone are met where nothing happens.
use Rattle.std.proofs.Common.{◌≡◌, ◌∙◌, refl, ap, sym, subst, List, [], ◌∷◌, ◌++◌, Contains}
use Rattle.std.proofs.lemmas.List.Elements.{All-contains, All-nil}
use Rattle.gp_base.specs.ListLaws.{any_nothing, contains_middle, here}
use Rattle.gp_certificate.specs.declared.certificate.Certificate.{Certificate}
use Rattle.gp_certificate.specs.declared.step.Step.{Step}
use Rattle.gp_certificate.specs.Shared.{RefutesOver, SharedFollows}
use Rattle.gp_clause.specs.declared.lit.Lit.{Lit}
use Rattle.gp_clause.specs.declared.problem.Problem.{Problem}
use Rattle.gp_clause.specs.declared.problem.Query.{Query}
use Rattle.gp_clause.specs.Follows.{Follows, LocalsChangeNothing}
use Rattle.gp_clause.specs.Lit.{HoldsLit, negations, opposite}
use Rattle.gp_constraint.specs.declared.symbol.Symbol.{Symbol}
use Rattle.gp_constraint.specs.Base.{base_of}
use Rattle.gp_constraint.specs.EncodedLaws.{is_valid, query_valid}
use Rattle.gp_constraint.specs.Laws.{ProblemsAreValid}
use Rattle.gp_constraint.specs.PointIds.{id_at}
use Rattle.gp_constraint.specs.Points.{points_of}
use Rattle.gp_constraint.specs.Query.{query_names, query_of}
use Rattle.gp_property.specs.PropertyForm.{PropertyForm}
use Rattle.gp_replay.specs.Step.{start_state}
use Rattle.gp_window.specs.WindowForm.{WindowForm}
use Rattle.gp_window.specs.declared.schedule.EventId.{EventId}
use Rattle.gp_witness.specs.Complete.{SchedulesAreComplete}
use Rattle.gp_reason.specs.declared.fact.Fact.{Fact}
use Rattle.gp_reason.specs.Facts.{fact_of, facts_of}
use Rattle.gp_reason.specs.Reasons.{assumed_of, reason_of}
use Rattle.gp_reasoned.specs.Laws.{IsPosed}

assumed_end : (window : WindowForm) (names : List Symbol) (front : List Step) (last : Step) → assumed_of window names (front ++ last ∷ []) ≡ facts_of window names (negations last.clause)
assumed_end window names [] last = refl
assumed_end window names (step ∷ []) last = refl
assumed_end window names (step ∷ next ∷ front) last = assumed_end window names (next ∷ front) last

-- a clause that follows from the constraints of a window has a literal
some_literal : LocalsChangeNothing → SchedulesAreComplete → ProblemsAreValid → (window : WindowForm) (property : PropertyForm) (ids : List EventId) → IsPosed window property ids
    → Follows (base_of window).points (base_of window).edges ((base_of window).kinds ++ (query_of window property ids).locals) (base_of window).clauses [] → ⊥
some_literal change complete valid window property ids posed follows =
    let problem : Problem = base_of window in
    let nothing = complete.base window [] posed.recorded (start_state window, refl) in
    let alone = change.left_out problem.points problem.edges problem.kinds (query_of window property ids).locals problem.clauses []
    (is_valid valid window posed.encodable).clauses (All-nil _) follows in
    any_nothing (HoldsLit nothing.truth) (alone nothing.truth nothing.place nothing.valuation nothing.clauses)

-- the first of what literals say
first_said : (window : WindowForm) (property : PropertyForm) (ids : List EventId) (clause : List Lit) → (clause ≡ [] → ⊥)
    → (fact : Fact) × Contains (facts_of window (query_names window property ids) (negations clause)) fact
first_said window property ids [] some = absurd (some refl)
first_said window property ids (lit ∷ clause) some = (fact_of (query_names window property ids) (id_at (points_of window)) (opposite lit), here _ _)

pub something : SharedFollows → LocalsChangeNothing → ProblemsAreValid → SchedulesAreComplete → (window : WindowForm) (property : PropertyForm) (ids : List EventId) (shared : List Step)
    (certificate : Certificate) → IsPosed window property ids → RefutesOver (base_of window) shared (query_of window property ids) certificate
    → (fact : Fact) × Contains (reason_of window property ids shared certificate).assumed fact
something shared_follow change valid complete window property ids shared certificate posed refutes =
    let last = refutes.ends.0 in
    let front = refutes.ends.1.0 in
    let is = refutes.ends.1.1 in
    let names = query_names window property ids in
    let told : assumed_of window names certificate.steps ≡ facts_of window names (negations last.clause) = ap (assumed_of window names) is ∙ assumed_end window names front last in
    let among : Contains certificate.steps last = subst (λ (list : List Step). Contains list last) (sym is) (contains_middle last front []) in
    let problem : Problem = base_of window in
    let query : Query = query_of window property ids in
    let follows = All-contains (λ (step : Step). Follows problem.points problem.edges (problem.kinds ++ query.locals) problem.clauses step.clause) certificate.steps last
    (shared_follow.own problem shared query certificate (is_valid valid window posed.encodable) (query_valid valid window posed.encodable property ids posed.few posed.instance) refutes.checks) among in
    let said = first_said window property ids last.clause (λ none. some_literal change complete valid window property ids posed
    (subst (Follows problem.points problem.edges (problem.kinds ++ query.locals) problem.clauses) none follows)) in
    (said.0, subst (λ (facts : List Fact). Contains facts said.0) (sym told) said.1)

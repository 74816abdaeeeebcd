-- What is assumed is read off the last step.
use Rattle.std.proofs.Common.{◌≡◌, ◌∙◌, refl, ap, sym, subst, suc, ◌-◌, List, [], ◌∷◌, ◌++◌, All, Contains, arith, length}
use Rattle.std.specs.Prelude.{MatchOption, slice_get}
use Rattle.std.proofs.lemmas.List.Elements.{All-contains}
use Rattle.gp_base.specs.ListLaws.{contains_from_map, contains_map}
use Rattle.gp_certificate.specs.declared.certificate.Certificate.{Certificate}
use Rattle.gp_certificate.specs.declared.step.Step.{Step}
use Rattle.gp_certificate.specs.Shared.{RefutesOver}
use Rattle.gp_clause.specs.declared.lit.Lit.{Lit}
use Rattle.gp_clause.specs.Lit.{negations, opposite}
use Rattle.gp_constraint.specs.declared.symbol.Symbol.{Symbol}
use Rattle.gp_constraint.specs.Base.{base_of}
use Rattle.gp_constraint.specs.PointIds.{id_at}
use Rattle.gp_constraint.specs.Points.{points_of}
use Rattle.gp_constraint.specs.Query.{query_names, query_of}
use Rattle.gp_property.specs.PropertyForm.{PropertyForm}
use Rattle.gp_window.specs.WindowForm.{WindowForm}
use Rattle.gp_window.specs.declared.schedule.EventId.{EventId}
use Rattle.gp_reason.specs.declared.fact.Fact.{Fact}
use Rattle.gp_reason.specs.Facts.{fact_of, facts_of}
use Rattle.gp_reason.specs.Reasons.{assumed_of, reason_of}

pub assumed_last : (window : WindowForm) (names : List Symbol) (own : List Step)
    → MatchOption (slice_get own (length own - 1)) (assumed_of window names own ≡ []) (λ (last : Step). assumed_of window names own ≡ facts_of window names (negations last.clause))
assumed_last window names [] = refl
assumed_last window names (last ∷ []) = refl
assumed_last window names (step ∷ next ∷ own) =
    let place : length (step ∷ next ∷ own) - 1 ≡ suc (length (next ∷ own) - 1) = omega arith in
    subst (λ n. MatchOption (slice_get (step ∷ next ∷ own) n) (assumed_of window names (next ∷ own) ≡ [])
    (λ (last : Step). assumed_of window names (next ∷ own) ≡ facts_of window names (negations last.clause)))
    (sym place) (assumed_last window names (next ∷ own))

assumed_end : (window : WindowForm) (names : List Symbol) (front : List Step) (last : Step) → assumed_of window names (front ++ last ∷ []) ≡ facts_of window names (negations last.clause)
assumed_end window names [] last = refl
assumed_end window names (step ∷ []) last = refl
assumed_end window names (step ∷ next ∷ front) last = assumed_end window names (next ∷ front) last

-- what negations say, where each is among some literals, is among what these say
said_among : (window : WindowForm) (names : List Symbol) (asked clause : List Lit) (fact : Fact) → All (λ lit. Contains asked (opposite lit)) clause
    → Contains (facts_of window names (negations clause)) fact → Contains (facts_of window names asked) fact
said_among window names asked clause fact all i =
    let denied = contains_from_map (fact_of names (id_at (points_of window))) (negations clause) fact i in
    let lit = contains_from_map opposite clause denied.0 denied.1 in
    let among : Contains asked denied.0 = subst (Contains asked) lit.2 (All-contains (λ one. Contains asked (opposite one)) clause lit.0 all lit.1) in
    subst (Contains (facts_of window names asked)) denied.2 (contains_map (fact_of names (id_at (points_of window))) asked denied.0 among)

-- what a reason assumes is asked, where its certificate refutes the query
pub asked : (window : WindowForm) (property : PropertyForm) (ids : List EventId) (shared : List Step) (certificate : Certificate)
    → RefutesOver (base_of window) shared (query_of window property ids) certificate → (fact : Fact) → Contains (reason_of window property ids shared certificate).assumed fact
    → Contains (facts_of window (query_names window property ids) (query_of window property ids).assumed) fact
asked window property ids shared certificate refutes fact i =
    let last = refutes.ends.0 in
    let is = refutes.ends.1.1 in
    let told : assumed_of window names certificate.steps ≡ facts_of window names (negations last.clause) =
    ap (assumed_of window names) is ∙ assumed_end window names refutes.ends.1.0 last in
    said_among window names (query_of window property ids).assumed last.clause fact refutes.ends.2 (subst (λ (facts : List Fact). Contains facts fact) told i)
  where
    names : List Symbol
    names = query_names window property ids

use Rattle.std.proofs.Common.{◌≡◌, ◌∙◌, [], ap, List, sym}
use Rattle.std.proofs.lemmas.Option.{MatchOption-at_some}
use Rattle.std.proofs.lemmas.Result.{IfOk-weaker}
use Rattle.gp_certificate.specs.declared.step.Step.{Step}
use Rattle.gp_clause.specs.declared.lit.Lit.{Lit}
use Rattle.gp_clause.specs.Lit.{negations}
use Rattle.gp_constraint.specs.declared.symbol.Symbol.{Symbol}
use Rattle.gp_window.specs.WindowForm.{WindowForm}
use Rattle.gp_reason.specs.declared.fact.Fact.{Fact}
use Rattle.gp_reason.specs.Facts.{facts_of}
use Rattle.gp_reason.specs.Reasons.{assumed_of}
use Rattle.gp_reason.proofs.Assumed.{assumed_last}
use Rattle.gp_reason.proofs.telling.assumed.Goals as goal

pub returns-in-Some : goal.returns-in-Some
returns-in-Some c =
    let window : WindowForm = c.args.vocabulary.now.window in
    let names : List Symbol = c.args.vocabulary.now.names in
    let own : List Step = c.args.own.now in
    let all : assumed_of window names own ≡ facts_of window names (negations c.in-Some.last.now.clause) =
    MatchOption-at_some (assumed_of window names own ≡ []) (λ (last : Step). assumed_of window names own ≡ facts_of window names (negations last.clause))
    c.in-Some.last.now (sym c.in-Some.ensures.value) (assumed_last window names own) in
    IfOk-weaker c.denied.result (λ (facts : List Fact). facts ≡ facts_of window names (negations c.lits.result.now)) (λ (facts : List Fact). facts ≡ assumed_of window names own)
    (λ facts is. is ∙ ap (λ (lits : List Lit). facts_of window names (negations lits)) c.lits.ensures.lits ∙ sym all) c.denied.ensures

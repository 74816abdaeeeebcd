use Rattle.std.proofs.Common.{ap, ◌∙◌, List}
use Rattle.std.specs.List.{position}
use Rattle.gp_certificate.specs.declared.step.Step.{Step}
use Rattle.gp_sharing.specs.Moving.{step_eq}
use Rattle.gp_sharing.proofs.Firstly.{looked_up}
use Rattle.gp_sharing.proofs.shared_list.SharedList.first_place.Goals as goal

pub returns : goal.returns
returns c =
    let step : Step = c.args.step.now in
    c.copied.ensures ∙ c.get.ensures.value
    ∙ looked_up c.self.inside.firsts.entries c.self.inside.steps.items c.args.step.now c.in_ok-key.key c.in_ok-key.ensures c.self.invariant
    ∙ ap (λ (steps : List Step). position (step_eq c.args.step.now) steps) c.self.view_is

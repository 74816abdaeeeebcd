use Rattle.std.proofs.Common.{◌≡◌, ap, sym, ◌∙◌, subst, ℕ, List, [], ◌∷◌, ◌++◌, length, arith}
use Rattle.std.specs.List.{position}
use Rattle.std.specs.Map.{lookup}
use Rattle.gp_certificate.specs.declared.step.Step.{Step}
use Rattle.gp_sharing.specs.declared.shared_list.StepKey.{StepKey}
use Rattle.gp_sharing.specs.Keys.{HasFirsts, is_key_of}
use Rattle.gp_sharing.specs.Moving.{step_eq}
use Rattle.gp_sharing.proofs.shared_list.SharedList.push.Goals as goal

pub invariant_of-self : goal.invariant_of-self
invariant_of-self c = λ step key is. c.self.invariant step key is ∙ ap (λ (steps : List Step). position (step_eq step) steps) (sym c.reserve.ensures.items)

pub invariant_of-self-in_err-put_first : goal.invariant_of-self-in_err-put_first
invariant_of-self-in_err-put_first c = λ step key is.
    ap (λ (firsts : List (StepKey × ℕ)). lookup (is_key_of step) firsts) c.in_err-put_first.ensures.err
    ∙ c.self.invariant step key is ∙ ap (λ (steps : List Step). position (step_eq step) steps) (sym c.reserve.ensures.items)

pub invariant_of-self-2 : goal.invariant_of-self-2
invariant_of-self-2 c =
    let size : length c.self.inside.steps.items ≡ c.len.result = omega (arith, ap length c.reserve.ensures.items) in
    let told : HasFirsts c.put_first.new.firsts.entries (c.self.inside.steps.items ++ c.args.step ∷ []) =
    c.in_ok-put_first.ensures.ok c.args.step c.self.inside.steps.items c.in_ok-key.ensures size c.self.invariant in
    subst (HasFirsts c.put_first.new.firsts.entries) (sym (c.push_reserved.ensures.items ∙ ap (λ (steps : List Step). steps ++ c.args.step ∷ []) c.reserve.ensures.items)) told

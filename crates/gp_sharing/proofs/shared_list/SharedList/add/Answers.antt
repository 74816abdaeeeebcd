use Rattle.std.proofs.Common.{◌≡◌, refl, ap, sym, ◌∙◌, true, false, List, Some, length, ℕ, arith}
use Rattle.std.specs.List.{list_any, position}
use Rattle.gp_certificate.specs.declared.step.Step.{Step}
use Rattle.gp_sharing.specs.Moving.{step_eq}
use Rattle.gp_sharing.proofs.Firstly.{found_any, found_new, missed_any}
use Rattle.gp_sharing.specs.FoundLaws.{same_step}
use Rattle.gp_sharing.proofs.shared_list.SharedList.add.Goals as goal

pub returns-in-Some-clause-list : goal.returns-in-Some-clause-list
returns-in-Some-clause-list c =
    let any : list_any (step_eq c.args.step) c.args.self.now ≡ true = found_any (step_eq c.args.step) c.args.self.now c.in-Some.first (sym c.in_ok-first.ensures ∙ c.in-Some.is) in
    rw any refl

pub returns-in_ok-push-in-None-clause-list : goal.returns-in_ok-push-in-None-clause-list
returns-in_ok-push-in-None-clause-list c =
    let any : list_any (step_eq c.args.step) c.args.self.now ≡ false = missed_any (step_eq c.args.step) c.args.self.now (sym c.in_ok-first.ensures ∙ c.in-None.is) in
    c.in_ok-push-in-None.ensures ∙ rw any refl

pub returns-in_ok-push-in-None-clause-place : goal.returns-in_ok-push-in-None-clause-place
returns-in_ok-push-in-None-clause-place c =
    let size : length c.args.self.now ≡ c.len-place.result = omega (arith, ap length c.self.view_is) in
    ap (λ (steps : List Step). position (step_eq c.args.step) steps) c.in_ok-push-in-None.ensures
    ∙ found_new (step_eq c.args.step) c.args.self.now c.args.step (sym c.in_ok-first.ensures ∙ c.in-None.is) (same_step c.args.step)
    ∙ ap (λ (n : ℕ). Some n) size

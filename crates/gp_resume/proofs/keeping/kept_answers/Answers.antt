use Rattle.std.proofs.Common.{◌≡◌, sym, ap, ◌∙◌, subst, List, Ok}
use Rattle.std.proofs.lemmas.Result.{IfOk-weaker}
use Rattle.gp_instance.specs.declared.instance.Instance.{Instance}
use Rattle.gp_instance.specs.Instances.{due_instances}
use Rattle.gp_instance.specs.ListedLaws.{AreInstances, are_instances}
use Rattle.gp_window.specs.WindowForm.{WindowForm}
use Rattle.gp_resume.specs.Keeping.{KeepsListed, KeepsStanding, Told}
use Rattle.gp_resume.specs.Old.{entries_named}
use Rattle.gp_resume.proofs.Listed.{listed_kept}
use Rattle.gp_resume.proofs.keeping.kept_answers.Goals as goal

pub standing-kept-requires : goal.standing-kept-requires
standing-kept-requires c =
    let window = c.args.test.now.window in
    let property = c.args.property.now in
    let due : Ok c.in-Ok.listed ≡ due_instances window property c.args.number =
    c.in-Ok.ensures (λ e. cc) ∙ ap (λ (w : WindowForm). due_instances w property c.args.number) c.window.ensures in
    subst (AreInstances window property) (sym c.as_slice.ensures) (are_instances window property c.args.number c.in-Ok.listed due)

pub returns-in-Ok-clause-kept : goal.returns-in-Ok-clause-kept
returns-in-Ok-clause-kept c =
    let test = c.args.test.now in
    let told = c.args.told.now in
    let property = c.args.property.now in
    let number = c.args.number in
    let listed = c.as_slice.result.now in
    let due : Ok c.in-Ok.listed ≡ due_instances test.window property number =
    c.in-Ok.ensures (λ e. cc) ∙ ap (λ (w : WindowForm). due_instances w property number) c.window.ensures in
    let due' : Ok listed ≡ due_instances test.window property number = ap (λ (xs : List Instance). Ok xs) c.as_slice.ensures ∙ due in
    let entries = c.entries_named-entries.ensures ∙ (λ i. entries_named (c.name.ensures.value i) (c.properties.ensures i)) in
    IfOk-weaker c.standing-kept.result (KeepsStanding test property listed c.in_ok-first.first) (KeepsListed told test property number)
    (λ (left : Told) keeps. listed_kept told test property number listed c.entries_named-entries.result.now c.in_ok-first.first left c.requires due' entries c.in_ok-first.ensures keeps) c.standing-kept.ensures.kept

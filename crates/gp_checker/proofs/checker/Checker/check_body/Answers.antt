use Rattle.std.proofs.Common.{◌≡◌, sym, subst, ◌≤◌, List, length, Result, Ok, Err}
use Rattle.std.proofs.lemmas.Result.{IfOk-weaker}
use Rattle.gp_instance.specs.declared.instance.Instance.{Instance}
use Rattle.gp_instance.specs.declared.instance.InstancesFault.{InstancesFault}
use Rattle.gp_instance.specs.declared.instance.InstancesFault.TheVariants.{TooMany}
use Rattle.gp_instance.specs.Instances.{due_instances}
use Rattle.gp_instance.specs.ListedLaws.{AreInstances, AreListed, are_instances, are_listed}
use Rattle.gp_window.specs.WindowForm.{WindowForm}
use Rattle.gp_checker.specs.Finds.{FindsListed}
use Rattle.gp_checker.proofs.Finds.{too_many_told}
use Rattle.gp_checker.proofs.checker.Checker.check_body.Goals as goal

pub check_listed-requires-clause-instances : goal.check_listed-requires-clause-instances
check_listed-requires-clause-instances c =
    let window = c.args.self.now.window in
    let property = c.args.property.now in
    let due : ◌≡◌ {A = Result (List Instance) InstancesFault} (Ok c.in-Ok.listed) (due_instances window property c.args.number) =
    subst (λ (w : WindowForm). ◌≡◌ {A = Result (List Instance) InstancesFault} (Ok c.in-Ok.listed) (due_instances w property c.args.number)) c.window.ensures (c.in-Ok.ensures (λ e. cc)) in
    subst (AreInstances window property) (sym c.as_slice.ensures) (are_instances window property c.args.number c.in-Ok.listed due)

pub check_listed-requires-clause-few : goal.check_listed-requires-clause-few
check_listed-requires-clause-few c =
    let window = c.args.self.now.window in
    let property = c.args.property.now in
    let due : ◌≡◌ {A = Result (List Instance) InstancesFault} (Ok c.in-Ok.listed) (due_instances window property c.args.number) =
    subst (λ (w : WindowForm). ◌≡◌ {A = Result (List Instance) InstancesFault} (Ok c.in-Ok.listed) (due_instances w property c.args.number)) c.window.ensures (c.in-Ok.ensures (λ e. cc)) in
    let all = subst (AreListed window property) (sym due) (are_listed c.laws.ensures.atoms window property c.args.number c.keeps_rules.ensures) in
    subst (λ (found : List Instance). length found ≤ 10000) (sym c.as_slice.ensures) all.0

pub returns-in-Ok-clause-found : goal.returns-in-Ok-clause-found
returns-in-Ok-clause-found c =
    let basis = c.args.self.now in
    let window = basis.window in
    let property = c.args.property.now in
    let body = c.args.body.now in
    let due : ◌≡◌ {A = Result (List Instance) InstancesFault} (Ok c.in-Ok.listed) (due_instances window property c.args.number) =
    subst (λ (w : WindowForm). ◌≡◌ {A = Result (List Instance) InstancesFault} (Ok c.in-Ok.listed) (due_instances w property c.args.number)) c.window.ensures (c.in-Ok.ensures (λ e. cc)) in
    let same : ◌≡◌ {A = Result (List Instance) InstancesFault} (Ok c.as_slice.result.now) (due_instances window property c.args.number) =
    subst (λ (found : List Instance). ◌≡◌ {A = Result (List Instance) InstancesFault} (Ok found) (due_instances window property c.args.number)) (sym c.as_slice.ensures) due in
    IfOk-weaker c.check_listed.result (FindsListed basis property (Ok c.as_slice.result.now) body) (FindsListed basis property (due_instances window property c.args.number) body)
    (λ found finds. subst (λ (listed : Result (List Instance) InstancesFault). FindsListed basis property listed body found) same finds) c.check_listed.ensures.found

pub returns-in-Err-TooMany-clause-found : goal.returns-in-Err-TooMany-clause-found
returns-in-Err-TooMany-clause-found c =
    let basis = c.args.self.now in
    let window = basis.window in
    let property = c.args.property.now in
    let body = c.args.body.now in
    let told = rw c.in-Err-TooMany.field-0-is at c.in-Err-TooMany.ensures in
    let due : ◌≡◌ {A = Result (List Instance) InstancesFault} (Err TooMany) (due_instances window property c.args.number) =
    subst (λ (w : WindowForm). ◌≡◌ {A = Result (List Instance) InstancesFault} (Err TooMany) (due_instances w property c.args.number)) c.window.ensures (told (λ e. cc)) in
    subst (λ (listed : Result (List Instance) InstancesFault). FindsListed basis property listed body c.check_too_many.result) due
    (too_many_told basis property body c.check_too_many.result c.check_too_many.ensures)

use Rattle.std.proofs.Common.{◌≡◌, sym, subst, ◌≤◌, List, length, Result, Ok, Err}
use Rattle.std.proofs.lemmas.Result.{IfOk-weaker}
use Rattle.gp_instance.specs.declared.instance.Instance.{Instance}
use Rattle.gp_instance.specs.declared.instance.InstancesFault.{InstancesFault}
use Rattle.gp_instance.specs.declared.instance.InstancesFault.TheVariants.{TooMany}
use Rattle.gp_stuck.specs.Cycles.{due_cycles}
use Rattle.gp_window.specs.WindowForm.{WindowForm}
use Rattle.gp_deadlock_checker.specs.Finds.{AreCycles, FindsListed}
use Rattle.gp_deadlock_checker.proofs.Finds.{too_many_told}
use Rattle.gp_deadlock_checker.proofs.Listed.{are_cycles, few_cycles}
use Rattle.gp_deadlock_checker.proofs.property.check_body.Goals as goal

pub check_listed-requires-clause-cycles : goal.check_listed-requires-clause-cycles
check_listed-requires-clause-cycles c =
    let window = c.args.checker.now.window in
    let due : ◌≡◌ {A = Result (List Instance) InstancesFault} (Ok c.in-Ok.listed) (due_cycles window) =
    subst (λ (w : WindowForm). ◌≡◌ {A = Result (List Instance) InstancesFault} (Ok c.in-Ok.listed) (due_cycles w)) c.window.ensures (c.in-Ok.ensures (λ e. cc)) in
    subst (AreCycles window) (sym c.as_slice.ensures) (are_cycles c.laws.ensures.listed window c.in-Ok.listed due)

pub check_listed-requires-clause-few : goal.check_listed-requires-clause-few
check_listed-requires-clause-few c =
    let window = c.args.checker.now.window in
    let due : ◌≡◌ {A = Result (List Instance) InstancesFault} (Ok c.in-Ok.listed) (due_cycles window) =
    subst (λ (w : WindowForm). ◌≡◌ {A = Result (List Instance) InstancesFault} (Ok c.in-Ok.listed) (due_cycles w)) c.window.ensures (c.in-Ok.ensures (λ e. cc)) in
    subst (λ (found : List Instance). length found ≤ 10000) (sym c.as_slice.ensures) (few_cycles c.laws.ensures.listed window c.in-Ok.listed due)

pub returns-in-Ok-clause-found : goal.returns-in-Ok-clause-found
returns-in-Ok-clause-found c =
    let basis = c.args.checker.now in
    let window = basis.window in
    let body = c.args.body.now in
    let due : ◌≡◌ {A = Result (List Instance) InstancesFault} (Ok c.in-Ok.listed) (due_cycles window) =
    subst (λ (w : WindowForm). ◌≡◌ {A = Result (List Instance) InstancesFault} (Ok c.in-Ok.listed) (due_cycles w)) c.window.ensures (c.in-Ok.ensures (λ e. cc)) in
    let same : ◌≡◌ {A = Result (List Instance) InstancesFault} (Ok c.as_slice.result.now) (due_cycles window) =
    subst (λ (found : List Instance). ◌≡◌ {A = Result (List Instance) InstancesFault} (Ok found) (due_cycles window)) (sym c.as_slice.ensures) due in
    IfOk-weaker c.check_listed.result (FindsListed basis (Ok c.as_slice.result.now) body) (FindsListed basis (due_cycles window) body)
    (λ found finds. subst (λ (listed : Result (List Instance) InstancesFault). FindsListed basis listed body found) same finds) c.check_listed.ensures.found

pub returns-in-Err-TooMany-clause-found : goal.returns-in-Err-TooMany-clause-found
returns-in-Err-TooMany-clause-found c =
    let basis = c.args.checker.now in
    let window = basis.window in
    let body = c.args.body.now in
    let told = rw c.in-Err-TooMany.field-0-is at c.in-Err-TooMany.ensures in
    let due : ◌≡◌ {A = Result (List Instance) InstancesFault} (Err TooMany) (due_cycles window) =
    subst (λ (w : WindowForm). ◌≡◌ {A = Result (List Instance) InstancesFault} (Err TooMany) (due_cycles w)) c.window.ensures (told (λ e. cc)) in
    subst (λ (listed : Result (List Instance) InstancesFault). FindsListed basis listed body c.check_too_many.result) due
    (too_many_told basis body c.check_too_many.result c.check_too_many.ensures)

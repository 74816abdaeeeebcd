use Rattle.std.proofs.Common.{◌≡◌, subst, true, List, length, get_or, arith}
use Rattle.gp_instance.specs.declared.instance.Instance.{Instance}
use Rattle.gp_instance.specs.Instance.{is_instance}
use Rattle.gp_window.specs.WindowForm.{WindowForm}
use Rattle.gp_cases.proofs.Told.{only}
use Rattle.gp_cases.proofs.evidence.instance.refutes_the_one.Goals as goal

pub refutes-requires-clause-instance : goal.refutes-requires-clause-instance
refutes-requires-clause-instance c =
    let listed : List Instance = c.in_ok-listed.listed in
    let instance : Instance = c.instance-item.result in
    let same : c.as_slice.result.now ≡ listed = c.as_slice.ensures in
    subst (λ (w : WindowForm). is_instance w c.args.property.now instance.events ≡ true) c.window-window.ensures.window
    (only c.lists_exactly.ensures c.window-window.result.now c.args.property.now 0 listed instance c.in_ok-listed.ensures
    (subst (λ (all : List Instance). length all ≡ 1) same (omega (arith, c.in-len1.len_at_least, c.in-len1.len_below)))
    (subst (λ (all : List Instance). instance ≡ get_or all 0 instance) same c.instance-item.is))

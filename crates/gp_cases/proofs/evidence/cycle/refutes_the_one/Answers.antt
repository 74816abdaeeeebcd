use Rattle.std.proofs.Common.{◌≡◌, subst, true, List, length, get_or, arith}
use Rattle.gp_instance.specs.declared.instance.Instance.{Instance}
use Rattle.gp_window.specs.WindowForm.{WindowForm}
use Rattle.gp_stuck.specs.Cycle.{is_cycle}
use Rattle.gp_cases.proofs.Told.{only_cycle}
use Rattle.gp_cases.proofs.evidence.cycle.refutes_the_one.Goals as goal

pub refutes-requires : goal.refutes-requires
refutes-requires c =
    let listed : List Instance = c.in_ok-listed.listed in
    let cycle : Instance = c.cycle-item.result in
    let same : c.as_slice.result.now ≡ listed = c.as_slice.ensures in
    subst (λ (w : WindowForm). is_cycle w cycle.events ≡ true) c.window-window.ensures.window
    (only_cycle c.cycles_are_listed.ensures c.window-window.result.now listed cycle c.in_ok-listed.ensures
    (subst (λ (all : List Instance). length all ≡ 1) same (omega (arith, c.in-len1.len_at_least, c.in-len1.len_below)))
    (subst (λ (all : List Instance). cycle ≡ get_or all 0 cycle) same c.cycle-item.is))

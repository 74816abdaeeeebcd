-- One window less is to be passed.
use Rattle.std.proofs.Common.{◌≡◌, ◌∙◌, ◌<◌, ◌∷◌, Option, Some, arith, subst}
use Rattle.gp_window.specs.Walk.{WalkForm}
use Rattle.gp_window.specs.WindowForm.{window_of}
use Rattle.gp_window.specs.Windows.{CanGoTo, windows_to}
use Rattle.gp_window.proofs.StillToCome.{one_passed}
use Rattle.gp_window.proofs.windows.past.Goals as goal

pub loop-passed-preserved : goal.loop-passed-preserved
loop-passed-preserved c =
    let here = c.loop-passed.here in
    let can : CanGoTo c.args.last (Some c.in-Some.next) = subst (CanGoTo c.args.last) c.in-Some.is c.in_ok-next.ensures.can in
    let first : windows_to c.args.last (Some here) ≡ window_of here.recording here.number ∷ windows_to c.args.last (Some c.in-Some.next) =
    subst (λ (left : Option WalkForm). windows_to c.args.last (Some here) ≡ window_of here.recording here.number ∷ windows_to c.args.last left) c.in-Some.is c.in_ok-next.ensures.first in
    let below : c.loop-passed.passed < c.args.count = omega arith in (
      can,
      one_passed (windows_to c.args.last (Some here)) (window_of here.recording here.number) (windows_to c.args.last (Some c.in-Some.next)) c.args.count c.loop-passed.passed below first
          ∙ c.loop-passed.invariant.1,
    )

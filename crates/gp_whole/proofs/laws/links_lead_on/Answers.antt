use Rattle.std.proofs.Common.{refl, suc, arith}
use Rattle.gp_window.specs.WindowForm.{IsWindow, window_of}
use Rattle.gp_whole.proofs.Carried.{leads_on}
use Rattle.gp_whole.proofs.laws.links_lead_on.Goals as goal

pub returns : goal.returns
returns c = λ r k ids rules first below links.
    let is : IsWindow (window_of r k) = record { recording = r; rules = rules; first = first; last = omega (arith, below); is = refl } in
    let is_next : IsWindow (window_of r (suc k)) = record { recording = r; rules = rules; first = omega arith; last = omega (arith, below); is = refl } in
    leads_on r.manifest.values (window_of r k) (window_of r (suc k)) c.states_begin_as_windows.ensures c.holds_are_traced.ensures is is_next
    (c.windows_follow.ensures r k rules first below) ids links

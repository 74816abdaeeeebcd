use Rattle.std.proofs.Common.{refl, arith}
use Rattle.gp_window.specs.WindowForm.{IsWindow, window_of}
use Rattle.gp_window.proofs.Followed.{window_passes_on}
use Rattle.gp_window.proofs.laws.windows_follow.Goals as goal

pub returns : goal.returns
returns c = λ r k rules first last.
    let is : IsWindow (window_of r k) = record { recording = r; rules = rules; first = first; last = omega (arith, last); is = refl } in
    window_passes_on r k rules (c.windows_are_formed.ensures (window_of r k) is) first

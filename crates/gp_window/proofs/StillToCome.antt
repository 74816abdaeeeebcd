-- How the windows that are still to come are taken.
use Rattle.std.proofs.Common.{◌≡◌, sym, ap, ◌∙◌, ℕ, suc, ◌+◌, ◌-◌, ◌<◌, List, ◌∷◌, drop, Option, Some, None, Result, Ok, Err, IfOk, arith}
use Rattle.std.specs.declared.alloc.AllocError.{AllocError}
use Rattle.gp_window.specs.RecordingForm.{RecordingForm}
use Rattle.gp_window.specs.Walk.{GoesOn, WalkForm}
use Rattle.gp_window.specs.WindowForm.{window_of, WindowForm}
use Rattle.gp_window.specs.Windows.{CanGoTo, windows_from, windows_to}
use Rattle.gp_window.specs.WindowsLaws.{first_window}

goes_on : (last : ℕ) (walk : WalkForm) (next : Option WalkForm) → CanGoTo last (Some walk) → walk.number < last → GoesOn walk next
    → windows_to last (Some walk) ≡ window_of walk.recording walk.number ∷ windows_to last next
goes_on last walk None can below stood = absurd (omega (arith, can.1, below, stood))
goes_on last walk (Some next) can below goes =
    first_window walk.recording walk.number (last + 1 - walk.number) (last + 1 - (walk.number + 1)) (omega (arith, below))
    ∙ ap (λ (n : ℕ). window_of walk.recording walk.number ∷ windows_from walk.recording n (last + 1 - n)) (sym goes.1)
    ∙ ap (λ (r : RecordingForm). window_of walk.recording walk.number ∷ windows_from r next.number (last + 1 - next.number)) (sym goes.0)

-- the window at which a walk stands comes first, and then those to which it goes on
pub next_taken : (last : ℕ) (walk : WalkForm) (result : Result (Option WalkForm) AllocError) → CanGoTo last (Some walk) → walk.number < last → IfOk result (GoesOn walk)
    → IfOk result (λ next. windows_to last (Some walk) ≡ window_of walk.recording walk.number ∷ windows_to last next)
next_taken last walk (Err fault) can below goes = tt
next_taken last walk (Ok next) can below goes = goes_on last walk next can below goes

-- one window less is to be passed
pub one_passed : (left : List WindowForm) (window : WindowForm) (more : List WindowForm) (count passed : ℕ) → passed < count → left ≡ window ∷ more
    → drop (count - (passed + 1)) more ≡ drop (count - passed) left
one_passed left window more count passed below is =
    let fewer : count - passed ≡ suc (count - (passed + 1)) = omega (arith, below) in
    sym (ap (λ n. drop n left) fewer ∙ ap (drop (suc (count - (passed + 1)))) is)

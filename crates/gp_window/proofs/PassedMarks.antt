-- The holders over the marks, one mark after another.
use Rattle.std.proofs.Common.{◌≡◌, refl, ℕ, ◌+◌, ◌-◌, ◌<◌, List, ◌∙◌, ap, sym, add-one, arith}
use Rattle.std.specs.Prelude.{Option, Some, None, Err}
use Rattle.gp_trace.specs.Trace.{LocalTraceForm}
use Rattle.gp_window.specs.declared.fault.RecordingFault.TheVariants.{TwoHolders}
use Rattle.gp_window.specs.Contested.{first_contested}
use Rattle.gp_window.specs.Holders.{Holdings, held_after_window, held_over}
use Rattle.gp_window.specs.Marks.{after_marks, after_marks_from, unless_contested}

-- the holders after one more segment of each trace
pub held_more : (traces : List LocalTraceForm) (before : ℕ) (held more : Holdings) → held ≡ held_over traces before
    → more ≡ held_after_window before held traces → more ≡ held_over traces (before + 1)
held_more traces before held more was is = is ∙ ap (λ held. held_after_window before held traces) was ∙ rw add-one refl

-- where a mark is left, it is looked at before those after it
unfolds : (traces : List LocalTraceForm) (before more rest : ℕ) → more ≡ rest + 1
    → after_marks_from traces before more
    ≡ unless_contested (before + 2) (first_contested (held_over traces (before + 1))) (after_marks_from traces (before + 1) rest)
unfolds traces before more rest is = rw (is, add-one) refl

one_mark : (traces : List LocalTraceForm) (before epochs : ℕ) (found : Option (List ℕ)) → before < epochs - 1
    → found ≡ first_contested (held_over traces (before + 1))
    → after_marks_from traces before (epochs - 1 - before) ≡ after_marks epochs traces
    → unless_contested (before + 2) found (after_marks_from traces (before + 1) (epochs - 1 - (before + 1))) ≡ after_marks epochs traces
one_mark traces before epochs found below is all =
    let left : epochs - 1 - before ≡ (epochs - 1 - (before + 1)) + 1 = omega arith in
    ap (λ found. unless_contested (before + 2) found (after_marks_from traces (before + 1) (epochs - 1 - (before + 1)))) is
    ∙ sym (unfolds traces before (epochs - 1 - before) (epochs - 1 - (before + 1)) left)
    ∙ all

-- a lock with two holders is told
pub mark_stops : (traces : List LocalTraceForm) (before epochs : ℕ) (lock : List ℕ) → before < epochs - 1
    → Some lock ≡ first_contested (held_over traces (before + 1))
    → after_marks_from traces before (epochs - 1 - before) ≡ after_marks epochs traces
    → Err (TwoHolders lock (before + 2)) ≡ after_marks epochs traces
mark_stops traces before epochs lock below is all = one_mark traces before epochs (Some lock) below is all

-- a mark over which a lock is contested is told with that lock
pub stops : (traces : List LocalTraceForm) (before epochs : ℕ) (held more : Holdings) (lock : List ℕ) → before < epochs - 1
    → held ≡ held_over traces before → more ≡ held_after_window before held traces → Some lock ≡ first_contested more
    → after_marks_from traces before (epochs - 1 - before) ≡ after_marks epochs traces
    → Err (TwoHolders lock (before + 2)) ≡ after_marks epochs traces
stops traces before epochs held more lock below was is found all =
    mark_stops traces before epochs lock below (found ∙ ap first_contested (held_more traces before held more was is)) all

-- a mark over which no lock is contested is passed
pub passes : (traces : List LocalTraceForm) (before epochs : ℕ) (held more : Holdings) → before < epochs - 1
    → held ≡ held_over traces before → more ≡ held_after_window before held traces → None ≡ first_contested more
    → after_marks_from traces before (epochs - 1 - before) ≡ after_marks epochs traces
    → after_marks_from traces (before + 1) (epochs - 1 - (before + 1)) ≡ after_marks epochs traces
passes traces before epochs held more below was is found all =
    one_mark traces before epochs None below (found ∙ ap first_contested (held_more traces before held more was is)) all

-- The locks that each thread holds by its own events, and that the holdings over a mark tell them.
use Rattle.std.proofs.Common.{◌≡◌, ◌∙◌, refl, ap, sym, subst, inl, inr, ℕ, zero, suc, ◌+◌, ◌<◌, List, [], ◌∷◌, map, arith}
use Rattle.std.specs.Prelude.{Option, Some, None, slice_get, unwrap_or}
use Rattle.std.specs.Cmp.Lexicographic.{slice_cmp}
use Rattle.std.specs.List.{AllByRecursion}
use Rattle.std.specs.Ordering.{nat_cmp}
use Rattle.gp_base.specs.Table.{value_at, with_entry, without_entry}
use Rattle.gp_base.specs.TableLaws.{dropped_apart, dropped_here, put_apart, put_here, same_or_apart}
use Rattle.gp_trace.specs.declared.event.Event.{Event}
use Rattle.gp_trace.specs.declared.lock_use.LockUse.{LockUse}
use Rattle.gp_trace.specs.declared.lock_use.LockUse.TheVariants.{Take, GiveBack}
use Rattle.gp_trace.specs.LockUse.{HeldLocks, held_after_all, held_after_use, lock_use_of, LocksAreUsedWell, mode_held}
use Rattle.gp_trace.specs.RulesLaws.{used_well_split}
use Rattle.gp_trace.specs.Trace.{in_order, LocalTraceForm}
use Rattle.gp_window.specs.Events.{segment_in}
use Rattle.gp_window.specs.Holders.{Holdings, held_after, held_after_events, held_after_window, held_over, holder_cmp, segment_after}
use Rattle.gp_window.specs.RecordingForm.{AreNumbered}
use Rattle.gp_window.proofs.HeldRising.{dropped_beside, dropped_found, put_beside, put_found}

-- the segments of a window
abbrev segments : ℕ → List LocalTraceForm → List (List Event)
segments before traces = map (segment_after before) traces

-- the locks that a thread holds by its own events after so many windows
abbrev pub held_by : List LocalTraceForm → ℕ → ℕ → HeldLocks
held_by traces zero thread = []
held_by traces (suc before) thread = held_after_all (held_by traces before thread) (segment_in (map (segment_after before) traces) thread)

-- the holdings tell of a thread that it holds these locks
abbrev pub Tells : Holdings → ℕ → HeldLocks → Type 0
Tells held thread own = (lock : List ℕ) → value_at holder_cmp held (lock, thread) ≡ mode_held own lock

-- a use of a lock by the thread itself
own_use : (thread : ℕ) (how : Option LockUse) (held : Holdings) (own : HeldLocks) → Tells held thread own → Tells (held_after thread held how) thread (held_after_use own how)
own_use thread None held own tells lock = tells lock
own_use thread (Some (Take mode name)) held own tells lock =
    elim (same_or_apart lock name) [
      | inl same ↦ subst (λ n. value_at holder_cmp (with_entry holder_cmp held (name, thread) mode) (n, thread) ≡ mode_held (with_entry (slice_cmp nat_cmp) own name mode) n) (sym same)
          (put_found held (name, thread) mode ∙ sym (put_here own name mode))
      | inr apart ↦ put_beside held lock thread (name, thread) mode (λ is _. apart is) ∙ tells lock ∙ sym (put_apart own name lock mode apart)
    ]
own_use thread (Some (GiveBack mode name)) held own tells lock =
    elim (same_or_apart lock name) [
      | inl same ↦ subst (λ n. value_at holder_cmp (without_entry holder_cmp held (name, thread)) (n, thread) ≡ mode_held (without_entry (slice_cmp nat_cmp) own name) n) (sym same)
          (dropped_found held (name, thread) ∙ sym (dropped_here own name))
      | inr apart ↦ dropped_beside held lock thread (name, thread) (λ is _. apart is) ∙ tells lock ∙ sym (dropped_apart own name lock apart)
    ]

own_events : (thread : ℕ) (events : List Event) (held : Holdings) (own : HeldLocks) → Tells held thread own
    → Tells (held_after_events thread held events) thread (held_after_all own events)
own_events thread [] held own tells = tells
own_events thread (event ∷ events) held own tells =
    own_events thread events (held_after thread held (lock_use_of event)) (held_after_use own (lock_use_of event)) (own_use thread (lock_use_of event) held own tells)

-- how a thread holds a lock is the same after another thread's use of one
other_use : (doer thread : ℕ) (how : Option LockUse) (held : Holdings) (lock : List ℕ) → (doer ≡ thread → ⊥)
    → value_at holder_cmp (held_after doer held how) (lock, thread) ≡ value_at holder_cmp held (lock, thread)
other_use doer thread None held lock apart = refl
other_use doer thread (Some (Take mode name)) held lock apart = put_beside held lock thread (name, doer) mode (λ _ is. apart (sym is))
other_use doer thread (Some (GiveBack mode name)) held lock apart = dropped_beside held lock thread (name, doer) (λ _ is. apart (sym is))

other_events : (doer thread : ℕ) (events : List Event) (held : Holdings) (lock : List ℕ) → (doer ≡ thread → ⊥)
    → value_at holder_cmp (held_after_events doer held events) (lock, thread) ≡ value_at holder_cmp held (lock, thread)
other_events doer thread [] held lock apart = refl
other_events doer thread (event ∷ events) held lock apart =
    other_events doer thread events (held_after doer held (lock_use_of event)) lock apart ∙ other_use doer thread (lock_use_of event) held lock apart

-- the traces of later threads
others_after : (before epochs n thread : ℕ) (traces : List LocalTraceForm) (held : Holdings) (lock : List ℕ) → thread < n → AreNumbered epochs n traces
    → value_at holder_cmp (held_after_window before held traces) (lock, thread) ≡ value_at holder_cmp held (lock, thread)
others_after before epochs n thread [] held lock less numbered = refl
others_after before epochs n thread (trace ∷ traces) held lock less numbered =
    let number : trace.thread ≡ n = numbered.0 in
    others_after before epochs (n + 1) thread traces (held_after_events trace.thread held (segment_after before trace)) lock (omega (arith, less)) numbered.2
    ∙ other_events trace.thread thread (segment_after before trace) held lock (λ same. absurd (omega (arith, same, number, less)))

-- one window more
window_tells : (before epochs n place thread : ℕ) (traces : List LocalTraceForm) (held : Holdings) (own : HeldLocks) → AreNumbered epochs n traces
    → thread ≡ n + place → Tells held thread own
    → Tells (held_after_window before held traces) thread (held_after_all own (unwrap_or (slice_get (segments before traces) place) []))
window_tells before epochs n place thread [] held own numbered is tells = tells
window_tells before epochs n zero thread (trace ∷ traces) held own numbered is tells = λ lock.
    let number : trace.thread ≡ n = numbered.0 in
    let same : thread ≡ trace.thread = omega (arith, is, number) in
    let now : Tells (held_after_events trace.thread held (segment_after before trace)) thread (held_after_all own (segment_after before trace)) =
    subst (λ t. Tells (held_after_events t held (segment_after before trace)) thread (held_after_all own (segment_after before trace))) same
    (own_events thread (segment_after before trace) held own tells) in
    others_after before epochs (n + 1) thread traces (held_after_events trace.thread held (segment_after before trace)) lock (omega (arith, same, number)) numbered.2
    ∙ now lock
window_tells before epochs n (suc place) thread (trace ∷ traces) held own numbered is tells =
    let number : trace.thread ≡ n = numbered.0 in
    window_tells before epochs (n + 1) place thread traces (held_after_events trace.thread held (segment_after before trace)) own numbered.2 (omega (arith, is))
    (λ lock. other_events trace.thread thread (segment_after before trace) held lock (λ same. absurd (omega (arith, same, number, is))) ∙ tells lock)

thread_tells : (before epochs thread : ℕ) (traces : List LocalTraceForm) (held : Holdings) (own : HeldLocks) → AreNumbered epochs 1 traces → Tells held thread own
    → Tells (held_after_window before held traces) thread (held_after_all own (segment_in (segments before traces) thread))
thread_tells before epochs zero traces held own numbered tells = λ lock. others_after before epochs 1 0 traces held lock (omega arith) numbered ∙ tells lock
thread_tells before epochs (suc place) traces held own numbered tells =
    window_tells before epochs 1 place (suc place) traces held own numbered (omega arith) tells

-- the holdings over each mark tell of each thread the locks that it holds by its own events
pub over_tells : (epochs before thread : ℕ) (traces : List LocalTraceForm) → AreNumbered epochs 1 traces → Tells (held_over traces before) thread (held_by traces before thread)
over_tells epochs zero thread traces numbered = λ lock. refl
over_tells epochs (suc before) thread traces numbered =
    thread_tells before epochs thread traces (held_over traces before) (held_by traces before thread) numbered (over_tells epochs before thread traces numbered)

-- the segments of the trace at a place, none where there is no trace
abbrev segments_at : List LocalTraceForm → ℕ → List (List Event)
segments_at [] place = []
segments_at (trace ∷ traces) zero = trace.segments
segments_at (trace ∷ traces) (suc place) = segments_at traces place

segment_there : (before : ℕ) (traces : List LocalTraceForm) (place : ℕ)
    → unwrap_or (slice_get (segments before traces) place) [] ≡ unwrap_or (slice_get (segments_at traces place) before) []
segment_there before [] place = refl
segment_there before (trace ∷ traces) zero = refl
segment_there before (trace ∷ traces) (suc place) = segment_there before traces place

-- the locks that are held after so many segments
held_from : HeldLocks → List (List Event) → ℕ → HeldLocks
held_from held rest zero = held
held_from held [] (suc before) = held
held_from held (segment ∷ rest) (suc before) = held_from (held_after_all held segment) rest before

one_further : (held : HeldLocks) (rest : List (List Event)) (before : ℕ)
    → held_from held rest (suc before) ≡ held_after_all (held_from held rest before) (unwrap_or (slice_get rest before) [])
unfolding held_from
one_further held [] zero = refl
one_further held [] (suc before) = refl
one_further held (segment ∷ rest) zero = refl
one_further held (segment ∷ rest) (suc before) = one_further (held_after_all held segment) rest before

used_from : (held : HeldLocks) (rest : List (List Event)) (before : ℕ) → LocksAreUsedWell held (in_order rest)
    → LocksAreUsedWell (held_from held rest before) (unwrap_or (slice_get rest before) [])
unfolding held_from
used_from held [] before well = tt
used_from held (segment ∷ rest) zero well = (used_well_split held segment (in_order rest) well).0
used_from held (segment ∷ rest) (suc before) well =
    used_from (held_after_all held segment) rest before (used_well_split held segment (in_order rest) well).1

held_is : (traces : List LocalTraceForm) (before place : ℕ) → held_by traces before (suc place) ≡ held_from [] (segments_at traces place) before
unfolding held_from
held_is traces zero place = refl
held_is traces (suc before) place =
    ap (λ own. held_after_all own (unwrap_or (slice_get (segments before traces) place) [])) (held_is traces before place)
    ∙ ap (λ segment. held_after_all (held_from [] (segments_at traces place) before) segment) (segment_there before traces place)
    ∙ sym (one_further [] (segments_at traces place) before)

well_at : (traces : List LocalTraceForm) (place : ℕ) → AllByRecursion (λ trace. LocksAreUsedWell [] (in_order trace.segments)) traces
    → LocksAreUsedWell [] (in_order (segments_at traces place))
well_at [] place all = tt
well_at (trace ∷ traces) zero all = all.0
well_at (trace ∷ traces) (suc place) all = well_at traces place all.1

-- the segment of a thread uses locks well, begun with those that the thread holds by its own events
pub segment_well : (before thread : ℕ) (traces : List LocalTraceForm) → AllByRecursion (λ trace. LocksAreUsedWell [] (in_order trace.segments)) traces
    → LocksAreUsedWell (held_by traces before thread) (segment_in (map (segment_after before) traces) thread)
segment_well before zero traces all = tt
segment_well before (suc place) traces all =
    subst (λ own. LocksAreUsedWell own (unwrap_or (slice_get (segments before traces) place) [])) (sym (held_is traces before place))
    (subst (λ segment. LocksAreUsedWell (held_from [] (segments_at traces place) before) segment) (sym (segment_there before traces place))
    (used_from [] (segments_at traces place) before (well_at traces place all)))

-- a thread without events in any window holds no lock by its own events
pub none_by : (before thread : ℕ) (traces : List LocalTraceForm) → ((k : ℕ) → segment_in (map (segment_after k) traces) thread ≡ []) → held_by traces before thread ≡ []
none_by zero thread traces none = refl
none_by (suc before) thread traces none =
    ap (λ segment. held_after_all (held_by traces before thread) segment) (none before) ∙ none_by before thread traces none

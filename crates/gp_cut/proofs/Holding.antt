-- Who holds which lock behind the stage, and over each later mark, is who holds it in the whole.
use Rattle.std.proofs.Common.{◌≡◌, ◌∙◌, refl, ap, sym, subst, inl, inr, Bool, true, false, ℕ, zero, suc, ◌+◌, ◌<◌, ◌≤◌, List, [], ◌∷◌, ◌++◌, map, take, arith, eq-eqb, append_assoc, append-nil}
use Rattle.std.specs.Prelude.{◌==◌, not, Option, Some, None, if◌then◌else◌, slice_get, unwrap_or}
use Rattle.std.specs.BTreeMap.{is_at}
use Rattle.std.specs.Cmp.Lexicographic.{slice_cmp}
use Rattle.std.specs.List.Sorted.{IsStrictlySortedBy}
use Rattle.std.specs.Ordering.{nat_cmp}
use Rattle.std.specs.Str.{bytes_eq}
use Rattle.std.proofs.lemmas.Bool.{cases_Bool, eqb-true, ne_eqb}
use Rattle.std.proofs.lemmas.Map.Lookups.{CmpEqualImpliesEq, exact_bytes, exact_pairs, exact_unsigned}
use Rattle.std.proofs.lemmas.Slice.Eq.{bytes_eq-Decides}
use Rattle.gp_base.specs.OrderLaws.{filter_rises, put_rises}
use Rattle.gp_base.specs.Table.{value_at, with_entry, without_entry}
use Rattle.gp_trace.specs.declared.event.Event.{Event}
use Rattle.gp_trace.specs.declared.lock_use.LockMode.{LockMode}
use Rattle.gp_trace.specs.declared.lock_use.LockUse.{LockUse}
use Rattle.gp_trace.specs.declared.lock_use.LockUse.TheVariants.{Take, GiveBack}
use Rattle.gp_trace.specs.declared.rules.Standing.{Standing}
use Rattle.gp_trace.specs.LockUse.{lock_use_of, mode_held}
use Rattle.gp_trace.specs.Rules.{after_all, at_first}
use Rattle.gp_trace.specs.RulesLaws.{held_along}
use Rattle.gp_trace.specs.Trace.{in_order, LocalTraceForm}
use Rattle.gp_window.specs.Holders.{AreOrdered, held_after, held_after_events, held_after_window, held_over, holder_cmp, Holdings, segment_after}
use Rattle.gp_window.specs.HoldersLaws.{holder_total}
use Rattle.gp_window.specs.Modes.{mode_after, mode_after_use}
use Rattle.gp_window.specs.ModesLaws.{modes_told}
use Rattle.gp_window.specs.RecordingForm.{AreNumbered}
use Rattle.gp_cut.specs.Cut.{cut_trace, staged, standing_behind}
use Rattle.gp_cut.proofs.Cutting.{cut_numbered, events_before, segment_kept, stands_in_order}
use Rattle.gp_cut.proofs.Staging.{staged_leads}
use Rattle.gp_cut.proofs.Tables.{dropped_beside, dropped_found, put_beside, put_found, same_tables}

-- the order of locks and threads tells all of them apart
exact_holder : CmpEqualImpliesEq holder_cmp
exact_holder = exact_pairs (slice_cmp nat_cmp) nat_cmp exact_bytes exact_unsigned

-- the holdings stand in order
use_ordered : (thread : ℕ) (held : Holdings) (how : Option LockUse) → AreOrdered held → AreOrdered (held_after thread held how)
use_ordered thread held None rise = rise
use_ordered thread held (Some (Take mode lock)) rise = put_rises holder_total held (lock, thread) mode rise
use_ordered thread held (Some (GiveBack mode lock)) rise = filter_rises holder_cmp (λ entry. not (is_at (holder_cmp (lock, thread)) entry.0)) held rise

events_ordered : (thread : ℕ) (events : List Event) (held : Holdings) → AreOrdered held → AreOrdered (held_after_events thread held events)
events_ordered thread [] held rise = rise
events_ordered thread (event ∷ events) held rise =
    events_ordered thread events (held_after thread held (lock_use_of event)) (use_ordered thread held (lock_use_of event) rise)

window_ordered : (before : ℕ) (traces : List LocalTraceForm) (held : Holdings) → AreOrdered held → AreOrdered (held_after_window before held traces)
window_ordered before [] held rise = rise
window_ordered before (trace ∷ traces) held rise =
    window_ordered before traces (held_after_events trace.thread held (segment_after before trace)) (events_ordered trace.thread (segment_after before trace) held rise)

over_ordered : (traces : List LocalTraceForm) (before : ℕ) → AreOrdered (held_over traces before)
unfolding IsStrictlySortedBy
over_ordered traces zero = tt
over_ordered traces (suc before) = window_ordered before traces (held_over traces before) (over_ordered traces before)

-- how a thread holds a lock
abbrev mode_of : Holdings → List ℕ → ℕ → Option LockMode
mode_of held lock thread = value_at holder_cmp held (lock, thread)

-- names that a test tells apart
other_name : (name lock : List ℕ) → bytes_eq name lock ≡ false → lock ≡ name → ⊥
other_name name lock apart is = let same = (bytes_eq-Decides name lock).1 (sym is) in cc

-- after its own use of a lock
own_use : (thread : ℕ) (held : Holdings) (how : Option LockUse) (lock : List ℕ) → mode_of (held_after thread held how) lock thread ≡ mode_after_use lock (mode_of held lock thread) how
own_use thread held None lock = refl
own_use thread held (Some (Take mode name)) lock =
    elim (cases_Bool (bytes_eq name lock)) [
      | inl same ↦
          let is : name ≡ lock = (bytes_eq-Decides name lock).0 same in
          rw same (subst (λ n. mode_of (with_entry holder_cmp held (name, thread) mode) n thread ≡ Some mode) is (put_found holder_total exact_holder held (name, thread) mode))
      | inr apart ↦ rw apart (put_beside holder_total exact_holder held (name, thread) (lock, thread) mode (λ is. other_name name lock apart (ap (λ (p : List ℕ × ℕ). p.0) is)))
    ]
own_use thread held (Some (GiveBack mode name)) lock =
    elim (cases_Bool (bytes_eq name lock)) [
      | inl same ↦
          let is : name ≡ lock = (bytes_eq-Decides name lock).0 same in
          rw same (subst (λ n. mode_of (without_entry holder_cmp held (name, thread)) n thread ≡ None) is (dropped_found holder_total exact_holder held (name, thread)))
      | inr apart ↦ rw apart (dropped_beside holder_total exact_holder held (name, thread) (lock, thread) (λ is. other_name name lock apart (ap (λ (p : List ℕ × ℕ). p.0) is)))
    ]

own_events : (thread : ℕ) (events : List Event) (held : Holdings) (lock : List ℕ)
    → mode_of (held_after_events thread held events) lock thread ≡ mode_after lock (mode_of held lock thread) events
own_events thread [] held lock = refl
own_events thread (event ∷ events) held lock =
    own_events thread events (held_after thread held (lock_use_of event)) lock
    ∙ ap (λ before. mode_after lock before events) (own_use thread held (lock_use_of event) lock)

-- after another thread's use of a lock
other_use : (doer thread : ℕ) (held : Holdings) (how : Option LockUse) (lock : List ℕ) → (thread ≡ doer → ⊥) → mode_of (held_after doer held how) lock thread ≡ mode_of held lock thread
other_use doer thread held None lock apart = refl
other_use doer thread held (Some (Take mode name)) lock apart =
    put_beside holder_total exact_holder held (name, doer) (lock, thread) mode (λ is. apart (ap (λ (p : List ℕ × ℕ). p.1) is))
other_use doer thread held (Some (GiveBack mode name)) lock apart =
    dropped_beside holder_total exact_holder held (name, doer) (lock, thread) (λ is. apart (ap (λ (p : List ℕ × ℕ). p.1) is))

other_events : (doer thread : ℕ) (events : List Event) (held : Holdings) (lock : List ℕ) → (thread ≡ doer → ⊥)
    → mode_of (held_after_events doer held events) lock thread ≡ mode_of held lock thread
other_events doer thread [] held lock apart = refl
other_events doer thread (event ∷ events) held lock apart =
    other_events doer thread events (held_after doer held (lock_use_of event)) lock apart ∙ other_use doer thread held (lock_use_of event) lock apart

-- the events of a thread in the segments that have so many before them
abbrev own_in : ℕ → List LocalTraceForm → ℕ → List Event
own_in thread [] before = []
own_in thread (trace ∷ traces) before = (if trace.thread == thread then segment_after before trace else []) ++ own_in thread traces before

-- events of so many first segments
abbrev joined : (ℕ → List Event) → ℕ → List Event
joined events zero = []
joined events (suc before) = joined events before ++ events before

mode_both : (lock : List ℕ) (before : Option LockMode) (first second : List Event)
    → mode_after lock before (first ++ second) ≡ mode_after lock (mode_after lock before first) second
mode_both lock before [] second = refl
mode_both lock before (event ∷ first) second = mode_both lock (mode_after_use lock before (lock_use_of event)) first second

trace_tells : (doer thread : ℕ) (events : List Event) (held : Holdings) (lock : List ℕ) (own : Bool) → (doer == thread) ≡ own
    → mode_of (held_after_events doer held events) lock thread ≡ mode_after lock (mode_of held lock thread) (if own then events else [])
trace_tells doer thread events held lock true is =
    let same : doer ≡ thread = eqb-true doer thread is in
    subst (λ t. mode_of (held_after_events t held events) lock thread ≡ mode_after lock (mode_of held lock thread) events) (sym same) (own_events thread events held lock)
trace_tells doer thread events held lock false is =
    other_events doer thread events held lock (λ same. let one : (doer == thread) ≡ true = eq-eqb doer thread (sym same) in cc)

-- the holdings tell of each thread what its own events tell
window_tells : (before thread : ℕ) (traces : List LocalTraceForm) (held : Holdings) (lock : List ℕ)
    → mode_of (held_after_window before held traces) lock thread ≡ mode_after lock (mode_of held lock thread) (own_in thread traces before)
window_tells before thread [] held lock = refl
window_tells before thread (trace ∷ traces) held lock =
    window_tells before thread traces (held_after_events trace.thread held (segment_after before trace)) lock
    ∙ ap (λ mode. mode_after lock mode (own_in thread traces before))
    (trace_tells trace.thread thread (segment_after before trace) held lock (trace.thread == thread) refl)
    ∙ sym (mode_both lock (mode_of held lock thread) (if trace.thread == thread then segment_after before trace else []) (own_in thread traces before))

over_tells : (thread : ℕ) (traces : List LocalTraceForm) (lock : List ℕ) (before : ℕ)
    → mode_of (held_over traces before) lock thread ≡ mode_after lock None (joined (own_in thread traces) before)
over_tells thread traces lock zero = refl
over_tells thread traces lock (suc before) =
    window_tells before thread traces (held_over traces before) lock
    ∙ ap (λ mode. mode_after lock mode (own_in thread traces before)) (over_tells thread traces lock before)
    ∙ sym (mode_both lock None (joined (own_in thread traces) before) (own_in thread traces before))

-- a thread before all of these has no events
none_in : (epochs first thread before : ℕ) (traces : List LocalTraceForm) → thread < first → AreNumbered epochs first traces → own_in thread traces before ≡ []
none_in epochs first thread before [] less numbered = refl
none_in epochs first thread before (trace ∷ traces) less numbered =
    let number : trace.thread ≡ first = numbered.0 in
    rw (ne_eqb trace.thread thread (λ same. absurd (omega (arith, same, number, less)))) (none_in epochs (first + 1) thread before traces (omega (arith, less)) numbered.2)

joined_same : (one other : ℕ → List Event) → ((k : ℕ) → one k ≡ other k) → (before : ℕ) → joined one before ≡ joined other before
joined_same one other same zero = refl
joined_same one other same (suc before) = λ i. joined_same one other same before i ++ same before i

one_more : (segments : List (List Event)) (before : ℕ) → in_order (take before segments) ++ unwrap_or (slice_get segments before) [] ≡ in_order (take (suc before) segments)
one_more [] zero = refl
one_more [] (suc before) = refl
one_more (segment ∷ segments) zero = sym (append-nil segment)
one_more (segment ∷ segments) (suc before) =
    append_assoc segment (in_order (take before segments)) (unwrap_or (slice_get segments before) []) ∙ ap (λ rest. segment ++ rest) (one_more segments before)

joined_segments : (trace : LocalTraceForm) (before : ℕ) → joined (λ k. segment_after k trace) before ≡ events_before before trace.segments
joined_segments trace zero = refl
joined_segments trace (suc before) =
    ap (λ events. events ++ segment_after before trace) (joined_segments trace before) ∙ one_more trace.segments before

-- the stage tells of a thread what all its events before do
stage_tells : (events : List Event) (lock : List ℕ) → mode_after lock None events ≡ mode_after lock None (staged (after_all at_first events))
stage_tells events lock =
    let s : Standing = after_all at_first events in
    sym (modes_told [] events lock)
    ∙ ap (λ held. mode_held held lock) (sym (held_along at_first events))
    ∙ ap (λ (now : Standing). mode_held now.held lock) (sym (staged_leads s (stands_in_order events)))
    ∙ ap (λ held. mode_held held lock) (held_along at_first (staged s))
    ∙ modes_told [] (staged s) lock

staged_at : (before count epochs first thread : ℕ) (lock : List ℕ) (trace : LocalTraceForm) (traces : List LocalTraceForm) (own : Bool) → (trace.thread == thread) ≡ own
    → before + count ≤ epochs → AreNumbered epochs first (trace ∷ traces)
    → mode_after lock None (joined (own_in thread traces) before) ≡ mode_after lock None (own_in thread (map (cut_trace before count) traces) 0)
    → mode_after lock None (joined (λ k. (if own then segment_after k trace else []) ++ own_in thread traces k) before)
    ≡ mode_after lock None ((if own then staged (standing_behind before trace) else []) ++ own_in thread (map (cut_trace before count) traces) 0)
staged_at before count epochs first thread lock trace traces true is there numbered rest =
    let same : trace.thread ≡ thread = eqb-true trace.thread thread is in
    let number : trace.thread ≡ first = numbered.0 in
    let less : thread < first + 1 = omega (arith, same, number) in
    let none : (k : ℕ) → own_in thread traces k ≡ [] = λ k. none_in epochs (first + 1) thread k traces less numbered.2 in
    let none_cut : own_in thread (map (cut_trace before count) traces) 0 ≡ [] = none_in (count + 1) (first + 1) thread 0 (map (cut_trace before count) traces) less (cut_numbered before count epochs (first + 1) traces there numbered.2) in
    ap (mode_after lock None) (joined_same (λ k. segment_after k trace ++ own_in thread traces k) (λ k. segment_after k trace)
    (λ k. ap (λ more. segment_after k trace ++ more) (none k) ∙ append-nil (segment_after k trace)) before ∙ joined_segments trace before)
    ∙ stage_tells (events_before before trace.segments) lock
    ∙ ap (mode_after lock None) (sym (ap (λ more. staged (standing_behind before trace) ++ more) none_cut ∙ append-nil (staged (standing_behind before trace))))
staged_at before count epochs first thread lock trace traces false is there numbered rest = rest

stages_tell : (before count epochs first thread : ℕ) (lock : List ℕ) (traces : List LocalTraceForm) → before + count ≤ epochs
    → AreNumbered epochs first traces → mode_after lock None (joined (own_in thread traces) before) ≡ mode_after lock None (own_in thread (map (cut_trace before count) traces) 0)
stages_tell before count epochs first thread lock [] there numbered = ap (mode_after lock None) (no_events before)
  where
    no_events : (before : ℕ) → joined (own_in thread []) before ≡ []
    no_events zero = refl
    no_events (suc before) = ap (λ events. events ++ []) (no_events before)
stages_tell before count epochs first thread lock (trace ∷ traces) there numbered =
    staged_at before count epochs first thread lock trace traces (trace.thread == thread) refl there numbered
    (stages_tell before count epochs (first + 1) thread lock traces there numbered.2)

-- who holds which lock behind the stage
stage_holds : (before count epochs : ℕ) (traces : List LocalTraceForm) → before + count ≤ epochs → AreNumbered epochs 1 traces
    → held_over (map (cut_trace before count) traces) 1 ≡ held_over traces before
stage_holds before count epochs traces there numbered =
    same_tables holder_total exact_holder (held_over (map (cut_trace before count) traces) 1) (held_over traces before)
    (over_ordered (map (cut_trace before count) traces) 1) (over_ordered traces before) (λ place.
    window_tells 0 place.1 (map (cut_trace before count) traces) [] place.0
    ∙ sym (over_tells place.1 traces place.0 before ∙ stages_tell before count epochs 1 place.1 place.0 traces there numbered))

window_held : (before count i : ℕ) (held : Holdings) (traces : List LocalTraceForm) → i < count
    → held_after_window (suc i) held (map (cut_trace before count) traces) ≡ held_after_window (before + i) held traces
window_held before count i held [] within = refl
window_held before count i held (trace ∷ traces) within =
    ap (λ segment. held_after_window (suc i) (held_after_events trace.thread held segment) (map (cut_trace before count) traces)) (segment_kept before count i trace within)
    ∙ window_held before count i (held_after_events trace.thread held (segment_after (before + i) trace)) traces within

-- and over each later mark
pub held_kept : (before count epochs j : ℕ) (traces : List LocalTraceForm) → before + count ≤ epochs → AreNumbered epochs 1 traces → j ≤ count
    → held_over (map (cut_trace before count) traces) (suc j) ≡ held_over traces (before + j)
held_kept before count epochs zero traces there numbered within =
    let place : before ≡ before + 0 = omega arith in
    stage_holds before count epochs traces there numbered ∙ ap (held_over traces) place
held_kept before count epochs (suc j) traces there numbered within =
    let place : suc (before + j) ≡ before + suc j = omega arith in
    ap (λ held. held_after_window (suc j) held (map (cut_trace before count) traces)) (held_kept before count epochs j traces there numbered (omega (arith, within)))
    ∙ window_held before count j (held_over traces (before + j)) traces (omega (arith, within))
    ∙ ap (held_over traces) place

-- Laws: what comes before an event of a started thread, and before a join.
use Rattle.std.proofs.Common.{ℕ, ◌≡◌, ◌⊎◌, ◌<◌, ap, sym, ◌∙◌, refl, subst, inl, inr, List, [], ◌∷◌, ◌++◌, Bool, true, false, arith, eqb-true}
use Rattle.std.specs.Prelude.{Some, Option, Result, Ok, Err, if◌then◌else◌, ◌==◌, ◌&&◌, ◌||◌}
use Rattle.std.proofs.lemmas.Bool.{and_parts, cases_Bool, cases_eq, eq-eqb}
use Rattle.std.proofs.lemmas.List.Folds.{list_any-append}
use Rattle.gp_base.specs.ListLaws.{first_or_rest, here, nothing_in, there}
use Rattle.gp_trace.specs.declared.event.Event.{Event}
use Rattle.gp_trace.specs.declared.event.Event.TheVariants.{Start, Join}
use Rattle.gp_window.specs.declared.schedule.EventId.{EventId}
use Rattle.gp_window.specs.WindowForm.{WindowForm}
use Rattle.gp_replay.specs.declared.state.State.{State}
use Rattle.gp_replay.specs.declared.rule.Rule.{Rule}
use Rattle.gp_replay.specs.declared.rule.Rule.TheVariants.{NotExited}
use Rattle.gp_window.specs.Events.{event_at}
use Rattle.gp_window.specs.Starts.{is_among}
use Rattle.gp_replay.specs.Step.{allowed_in, count_of, effect, has_ended, next, start_state, started_after as started_with}
use Rattle.gp_replay.specs.CountLaws.{step_keeps_others}
use Rattle.gp_replay.specs.Feasible.{Runs}
use Rattle.gp_replay.specs.Order.{IsStartedBy, Joins, Starts}
use Rattle.gp_window.specs.Events.{size_of}
use Rattle.gp_replay.specs.Part.{events_from, part_of}
use Rattle.gp_replay.specs.PartLaws.{nothing_done, prefix_from_start}
use Rattle.gp_replay.specs.RunLaws.{runs_split}
use Rattle.gp_replay.specs.StepLaws.{stepped}

-- a thread that is among some with one more is among them, or that one
among_added : (threads : List ℕ) (other thread : ℕ) → is_among (threads ++ other ∷ []) thread ≡ true → (is_among threads thread ≡ true) ⊎ (other ≡ thread)
among_added [] other thread e =
    elim (cases_Bool (other == thread)) [
      | inl same ↦ inr (eqb-true other thread same)
      | inr differ ↦ let bad = rw differ at e in cc
    ]
among_added (first ∷ threads) other thread e =
    elim (cases_Bool (first == thread)) [
      | inl same ↦ inl (rw same refl)
      | inr differ ↦ elim (among_added threads other thread (rw differ at e)) [
        | inl among ↦ inl (rw differ among)
        | inr added ↦ inr added
      ]
    ]

-- a thread that is started after an event was started before, or by the event
effect_starts : (doer : ℕ) (event : Event) (state : State) (thread : ℕ) → is_among (effect doer event state).started thread ≡ true
    → (is_among state.started thread ≡ true) ⊎ (event ≡ Start thread)
effect_starts doer (Start other) state thread e =
    elim (among_added state.started other thread e) [
      | inl among ↦ inl among
      | inr added ↦ inr (ap Start added)
    ]
effect_starts doer event state thread e = inl e

step_starts : (window : WindowForm) (state middle : State) (id : EventId) (thread : ℕ)
    → next window state id ≡ Ok middle → is_among middle.started thread ≡ true
    → (is_among state.started thread ≡ true) ⊎ Starts window id thread
step_starts window state middle id thread e among =
    let s = stepped window state middle id e in
    let event : Event = s.event in
    let there : event_at window id ≡ Some event = s.there in
    let started : middle.started ≡ (effect id.thread event state).started = ap (λ (t : State). t.started) s.gives in
    elim (effect_starts id.thread event state thread (subst (λ threads. is_among threads thread ≡ true) started among)) [
      | inl before ↦ inl before
      | inr starts ↦ inr (there ∙ ap Some starts)
    ]

-- a thread that is started after events that happen was started before them, or by one of them
pub started_by_run : (window : WindowForm) (before last : State) (ids : List EventId) (thread : ℕ)
    → Runs window before ids last → is_among last.started thread ≡ true
    → (is_among before.started thread ≡ true) ⊎ IsStartedBy window ids thread
started_by_run window before last [] thread r among = inl (subst (λ (t : State). is_among t.started thread ≡ true) r among)
started_by_run window before last (id ∷ ids) thread r among =
    elim (started_by_run window r.0 last ids thread r.2 among) [
      | inr by ↦ inr (by.0, there id ids by.0 by.1, by.2)
      | inl now ↦ elim (step_starts window before r.0 id thread r.1 now) [
        | inl earlier ↦ inl earlier
        | inr starts ↦ inr (id, here id ids, starts)
      ]
    ]

-- a thread that is among some is among them and one more
among_more : (threads : List ℕ) (other thread : ℕ) → is_among threads thread ≡ true → is_among (threads ++ other ∷ []) thread ≡ true
among_more threads other thread e =
    list_any-append (λ t. t == thread) threads (other ∷ []) ∙ ap (λ b. b || is_among (other ∷ []) thread) e

-- and so is the one
among_last : (threads : List ℕ) (thread : ℕ) → is_among (threads ++ thread ∷ []) thread ≡ true
among_last threads thread =
    let own : (thread == thread) ≡ true = eq-eqb thread thread refl in
    list_any-append (λ t. t == thread) threads (thread ∷ []) ∙ rw own (or_true (is_among threads thread))
  where
    or_true : (b : Bool) → (b || true) ≡ true
    or_true true = refl
    or_true false = refl

more_started : (event : Event) (started : List ℕ) (thread : ℕ) → is_among started thread ≡ true → is_among (started_with event started) thread ≡ true
more_started (Start other) started thread e = among_more started other thread e
more_started event started thread e = e

-- a thread is started after a step where it was before it, or where the step starts it
pub step_is_started : (window : WindowForm) (state middle : State) (id : EventId) (thread : ℕ)
    → next window state id ≡ Ok middle → (is_among state.started thread ≡ true) ⊎ Starts window id thread → is_among middle.started thread ≡ true
step_is_started window state middle id thread e (inl already) =
    let s = stepped window state middle id e in
    let started : middle.started ≡ started_with s.event state.started = ap (λ (m : State). m.started) s.gives in
    subst (λ threads. is_among threads thread ≡ true) (sym started) (more_started s.event state.started thread already)
step_is_started window state middle id thread e (inr starts) =
    let s = stepped window state middle id e in
    let is : s.event ≡ Start thread = (let found : ◌≡◌ {A = Option Event} (Some s.event) (Some (Start thread)) = sym s.there ∙ starts in cc) in
    let now : middle.started ≡ state.started ++ thread ∷ [] = ap (λ (m : State). m.started) s.gives ∙ ap (λ event. started_with event state.started) is in
    subst (λ threads. is_among threads thread ≡ true) (sym now) (among_last state.started thread)

-- a thread is started after events that happen where it was before them, or where one of them starts it
pub started_after : (window : WindowForm) (before last : State) (ids : List EventId) (thread : ℕ) → Runs window before ids last
    → (is_among before.started thread ≡ true) ⊎ IsStartedBy window ids thread → is_among last.started thread ≡ true
started_after window before last [] thread r (inl already) = subst (λ (s : State). is_among s.started thread ≡ true) (sym r) already
started_after window before last [] thread r (inr by) = absurd (nothing_in by.0 by.1)
started_after window before last (id ∷ ids) thread r (inl already) =
    started_after window r.0 last ids thread r.2 (inl (step_is_started window before r.0 id thread r.1 (inl already)))
started_after window before last (id ∷ ids) thread r (inr by) =
    elim (first_or_rest id ids by.0 by.1) [
      | inl same ↦ started_after window r.0 last ids thread r.2
          (inl (step_is_started window before r.0 id thread r.1 (inr (subst (λ e. Starts window e thread) (sym same) by.2))))
      | inr later ↦ started_after window r.0 last ids thread r.2 (inr (by.0, later, by.2))
    ]

done_is_started : (window : WindowForm) (before last : State) (ids : List EventId) (thread : ℕ) → Runs window before ids last
    → (0 < count_of before thread → is_among before.started thread ≡ true) → 0 < count_of last thread → is_among last.started thread ≡ true
done_is_started window before last [] thread r was = subst (λ (s : State). 0 < count_of s thread → is_among s.started thread ≡ true) (sym r) was
done_is_started window before last (id ∷ ids) thread r was =
    done_is_started window r.0 last ids thread r.2 (λ some.
    step_is_started window before r.0 id thread r.1 (inl (elim (cases_eq id.thread thread) [
      | inl same ↦ subst (λ t. is_among before.started t ≡ true) same (stepped window before r.0 id r.1).started
      | inr apart ↦
          let kept : count_of r.0 thread ≡ count_of before thread = step_keeps_others window before r.0 id thread r.1 apart in
          was (omega (arith, some, kept))
    ])))

-- a thread that has done something is started
pub doer_is_started : (window : WindowForm) (last : State) (ids : List EventId) (thread : ℕ) → Runs window (start_state window) ids last
    → 0 < count_of last thread → is_among last.started thread ≡ true
doer_is_started window last ids thread r =
    done_is_started window (start_state window) last ids thread r (λ some.
    let nothing = nothing_done window thread in absurd (omega (arith, nothing, some)))

-- the thread of an event that happens is started before it
pub started_first : (window : WindowForm) (last : State) (prefix : List EventId) (id : EventId) (back : List EventId)
    → Runs window (start_state window) (prefix ++ id ∷ back) last
    → (is_among window.started id.thread ≡ true) ⊎ IsStartedBy window prefix id.thread
started_first window last prefix id back r =
    let parts = runs_split window (start_state window) last prefix (id ∷ back) r in
    let s = stepped window parts.0 parts.2.0 id parts.2.1 in
    started_by_run window (start_state window) parts.0 prefix id.thread parts.1 s.started

-- a test that an allowed event passed
passed : (b : Bool) (rule : Rule) → ◌≡◌ {A = Result (Unit {0}) Rule} (if b then Ok tt else Err rule) (Ok tt) → b ≡ true
passed true rule e = refl
passed false rule e = cc

-- a thread that is joined has ended
pub join_finds_ended : (window : WindowForm) (state : State) (event : Event) (thread : ℕ)
    → event ≡ Join thread → allowed_in window state event ≡ Ok tt → has_ended window state thread ≡ true
join_finds_ended window state event thread is allowed =
    passed (has_ended window state thread) NotExited (subst (λ e. allowed_in window state e ≡ Ok tt) is allowed)

-- a join that happens comes after its thread's last event
pub joined_last : (window : WindowForm) (last : State) (prefix : List EventId) (id : EventId) (back : List EventId) (thread : ℕ)
    → Runs window (start_state window) (prefix ++ id ∷ back) last → Joins window id thread
    → (is_among window.exited thread ≡ true) × (part_of thread prefix ≡ events_from thread 0 (size_of window thread))
joined_last window last prefix id back thread r joins =
    let parts = runs_split window (start_state window) last prefix (id ∷ back) r in
    let s = stepped window parts.0 parts.2.0 id parts.2.1 in
    let event : Event = s.event in
    let there : event_at window id ≡ Some event = s.there in
    let is : event ≡ Join thread = (let found : ◌≡◌ {A = Option Event} (Some event) (Some (Join thread)) = sym there ∙ joins in cc) in
    let ended = join_finds_ended window parts.0 event thread is s.allowed in
    let size : ℕ = size_of window thread in
    let tests = and_parts (is_among parts.0.started thread) (is_among window.exited thread && size == count_of parts.0 thread) ended in
    let ends = and_parts (is_among window.exited thread) (size == count_of parts.0 thread) tests.1 in
    let whole : size ≡ count_of parts.0 thread = eqb-true size (count_of parts.0 thread) ends.1 in
    (ends.0, (prefix_from_start window parts.0 prefix thread parts.1).0 ∙ ap (λ count. events_from thread 0 count) (sym whole))

-- What is kept of the events so far tells of each key the last event that later ones look back at.
use Rattle.std.proofs.Common.{ℕ, ◌≡◌, ◌+◌, ◌<◌, refl, ap, sym, ◌∙◌, subst, Bool, true, List, [], ◌∷◌, ◌++◌, cond, get_or, length, take}
use Rattle.std.specs.Prelude.{◌&&◌, ◌==◌, is_some, if◌then◌else◌, nat_eq, Option, option_and_then, Some, None}
use Rattle.std.specs.Bool.{Decides}
use Rattle.std.specs.BTreeMap.{is_at}
use Rattle.std.specs.Cmp.{IsTotalOrder}
use Rattle.std.specs.Cmp.Lexicographic.{slice_cmp}
use Rattle.std.specs.List.{find}
use Rattle.std.specs.Option.{option_eq}
use Rattle.std.specs.Ordering.{is_eq, nat_cmp}
use Rattle.std.specs.Str.{bytes_eq}
use Rattle.std.specs.declared.cmp.Ordering.{Ordering}
use Rattle.std.proofs.lemmas.Bool.Decides.{Decides-eqb, same_from_decides}
use Rattle.std.proofs.lemmas.Cmp.{nat_cmp_total, nat_list_cmp_total, tied_itself}
use Rattle.std.proofs.lemmas.List.{reverse-append, take_more}
use Rattle.std.proofs.lemmas.Map.Lookups.{exact_bytes, exact_unsigned}
use Rattle.std.proofs.lemmas.Map.Views.{tells_apart}
use Rattle.std.proofs.lemmas.Slice.Eq.{bytes_eq-Decides}
use Rattle.gp_base.specs.Table.{value_at}
use Rattle.gp_base.specs.TableLaws.{value_after_put}
use Rattle.gp_trace.specs.LockUse.{lock_use_of}
use Rattle.gp_trace.specs.declared.event.Event.{Event}
use Rattle.gp_trace.specs.declared.event.Event.TheVariants.{Read, Join}
use Rattle.gp_trace.specs.declared.lock_use.LockMode.TheVariants.{Exclusive, Shared}
use Rattle.gp_trace.specs.declared.lock_use.LockUse.{LockUse}
use Rattle.gp_trace.specs.declared.lock_use.LockUse.TheVariants.{Take, GiveBack}
use Rattle.gp_window.specs.Events.{event_at}
use Rattle.gp_window.specs.WindowForm.{WindowForm}
use Rattle.gp_window.specs.declared.schedule.EventId.{EventId}
use Rattle.gp_replay.specs.LockUses.{use_of}
use Rattle.gp_story.specs.declared.past.Past.{Past}
use Rattle.gp_story.specs.Deeds.{frees, is_done_by, lock_freed, starts, thread_started, variable_written, writes}
use Rattle.gp_story.specs.Past.{after_found, after_id, recalled, recalled_event, recalled_found, recalled_starter, recalled_starter_found, recalled_use, Recalls, with_last}
use Rattle.gp_story.specs.Source.{last_where, or_beginning, source_of, source_of_event, source_of_found, source_of_use, starter_of, starter_of_found}

-- the last of events that passes, where one more comes
pub last_more : (test : EventId → Bool) (ids : List EventId) (id : EventId) → last_where test (ids ++ id ∷ []) ≡ cond (test id) (Some id) (last_where test ids)
last_more test ids id = ap (find test) (reverse-append ids (id ∷ []))

-- an order that ties equal keys alone says of two keys what the test of their equality says
tied : {K : Type 0} {R : K → K → Ordering} (o : IsTotalOrder R) (E : K → K → Bool) → ((one other : K) → is_eq (R one other) ≡ true → one ≡ other)
    → ((one other : K) → Decides (E one other) (one ≡ other)) → (key place : K) → is_at (R place) key ≡ E key place
tied {K} {R} o E exact decides key place =
    let by_order : Decides (is_eq (R place key)) (key ≡ place) = (
      λ e. sym (exact place key e),
      λ same. subst (λ (k : K). is_eq (R place k) ≡ true) (sym same) (ap is_eq (tied_itself o place)),
    ) in
    same_from_decides (is_eq (R place key)) (E key place) by_order (decides key place)

pub names_tied : (key place : List ℕ) → is_at (slice_cmp nat_cmp place) key ≡ bytes_eq key place
names_tied = tied nat_list_cmp_total bytes_eq (tells_apart exact_bytes) bytes_eq-Decides

numbers_tied : (key place : ℕ) → is_at (nat_cmp place) key ≡ nat_eq key place
numbers_tied = tied nat_cmp_total nat_eq (tells_apart exact_unsigned) Decides-eqb

-- one more event at a key is the last one there, and at all others the table tells what it told
kept_last : {K : Type 0} {R : K → K → Ordering} (o : IsTotalOrder R) (E : K → K → Bool) → ((key place : K) → is_at (R place) key ≡ E key place)
    → (test : EventId → Bool) (before : List EventId) (id : EventId) (last : List (K × EventId)) (found : Option K) (place : K)
    → test id ≡ option_eq E found (Some place) → value_at R last place ≡ last_where test before
    → value_at R (with_last R last found id) place ≡ last_where test (before ++ id ∷ [])
kept_last o E same test before id last None place tested told =
    told ∙ sym (last_more test before id ∙ ap (λ b. cond b (Some id) (last_where test before)) tested)
kept_last {R = R} o E same test before id last (Some key) place tested told =
    value_after_put o last key place id
    ∙ ap (λ b. cond b (Some id) (value_at R last place)) (same key place ∙ sym tested)
    ∙ ap (cond (test id) (Some id)) told
    ∙ sym (last_more test before id)

-- of names, and of threads
kept_name : (test : EventId → Bool) (before : List EventId) (id : EventId) (last : List (List ℕ × EventId)) (found : Option (List ℕ)) (place : List ℕ)
    → test id ≡ option_eq bytes_eq found (Some place) → value_at (slice_cmp nat_cmp) last place ≡ last_where test before
    → value_at (slice_cmp nat_cmp) (with_last (slice_cmp nat_cmp) last found id) place ≡ last_where test (before ++ id ∷ [])
kept_name = kept_last nat_list_cmp_total bytes_eq names_tied

kept_thread : (test : EventId → Bool) (before : List EventId) (id : EventId) (last : List (ℕ × EventId)) (found : Option ℕ) (place : ℕ)
    → test id ≡ option_eq nat_eq found (Some place) → value_at nat_cmp last place ≡ last_where test before
    → value_at nat_cmp (with_last nat_cmp last found id) place ≡ last_where test (before ++ id ∷ [])
kept_thread = kept_last nat_cmp_total nat_eq numbers_tied

recalls_found : (window : WindowForm) (before : List EventId) (id : EventId) (past : Past) (found : Option Event) → event_at window id ≡ found
    → Recalls window before past → Recalls window (before ++ id ∷ []) (after_found found id past)
recalls_found window before id past (Some event) is recalls = record {
  written = λ variable. kept_name (writes window variable) before id past.written (variable_written event) variable
      (ap (λ f. option_eq bytes_eq (option_and_then variable_written f) (Some variable)) is) (recalls.written variable);
  freed = λ lock. kept_name (frees window Exclusive lock) before id past.freed (lock_freed Exclusive (lock_use_of event)) lock
      (ap (λ f. option_eq bytes_eq (lock_freed Exclusive (use_of f)) (Some lock)) is) (recalls.freed lock);
  released = λ lock. kept_name (frees window Shared lock) before id past.released (lock_freed Shared (lock_use_of event)) lock
      (ap (λ f. option_eq bytes_eq (lock_freed Shared (use_of f)) (Some lock)) is) (recalls.released lock);
  started = λ thread. kept_thread (starts window thread) before id past.started (thread_started event) thread
      (ap (λ f. option_eq nat_eq (option_and_then thread_started f) (Some thread)) is) (recalls.started thread);
  done = λ thread. kept_thread (is_done_by window thread) before id past.done (Some id.thread) thread
      (ap (λ f. is_some f && id.thread == thread) is) (recalls.done thread);
}
recalls_found window before id past None is recalls = record {
  written = λ variable. kept_name (writes window variable) before id past.written None variable
      (ap (λ f. option_eq bytes_eq (option_and_then variable_written f) (Some variable)) is) (recalls.written variable);
  freed = λ lock. kept_name (frees window Exclusive lock) before id past.freed None lock
      (ap (λ f. option_eq bytes_eq (lock_freed Exclusive (use_of f)) (Some lock)) is) (recalls.freed lock);
  released = λ lock. kept_name (frees window Shared lock) before id past.released None lock
      (ap (λ f. option_eq bytes_eq (lock_freed Shared (use_of f)) (Some lock)) is) (recalls.released lock);
  started = λ thread. kept_thread (starts window thread) before id past.started None thread
      (ap (λ f. option_eq nat_eq (option_and_then thread_started f) (Some thread)) is) (recalls.started thread);
  done = λ thread. kept_thread (is_done_by window thread) before id past.done None thread
      (ap (λ f. is_some f && id.thread == thread) is) (recalls.done thread);
}

-- before the first event nothing is told
pub recalls_none : (window : WindowForm) → Recalls window [] (record { written = []; freed = []; released = []; started = []; done = [] })
recalls_none window = record {
  written = λ variable. refl;
  freed = λ lock. refl;
  released = λ lock. refl;
  started = λ thread. refl;
  done = λ thread. refl;
}

-- and after one event more the last ones with it
pub recalls_more : (window : WindowForm) (before : List EventId) (id : EventId) (past : Past)
    → Recalls window before past → Recalls window (before ++ id ∷ []) (after_id window id past)
recalls_more window before id past recalls = recalls_found window before id past (event_at window id) refl recalls

-- what is looked back at by the tables is what is looked back at among the events
source_of_use_told : (window : WindowForm) (before : List EventId) (past : Past) (lock_use : Option LockUse) → Recalls window before past
    → recalled_use past lock_use ≡ source_of_use window before lock_use
source_of_use_told window before past None recalls = refl
source_of_use_told window before past (Some (Take Exclusive lock)) recalls = ap or_beginning (recalls.freed lock)
source_of_use_told window before past (Some (Take Shared lock)) recalls = ap or_beginning (recalls.released lock)
source_of_use_told window before past (Some (GiveBack mode lock)) recalls = refl

source_of_event_told : (window : WindowForm) (before : List EventId) (past : Past) (event : Event) → Recalls window before past
    → recalled_event past event ≡ source_of_event window before event
source_of_event_told window before past (Read variable value) recalls = ap or_beginning (recalls.written variable)
source_of_event_told window before past (Join thread) recalls = ap or_beginning (recalls.done thread)
source_of_event_told window before past event recalls = source_of_use_told window before past (lock_use_of event) recalls

source_of_found_told : (window : WindowForm) (before : List EventId) (past : Past) (found : Option Event) → Recalls window before past
    → recalled_found past found ≡ source_of_found window before found
source_of_found_told window before past None recalls = refl
source_of_found_told window before past (Some event) recalls = source_of_event_told window before past event recalls

pub source_told : (window : WindowForm) (before : List EventId) (past : Past) (id : EventId) → Recalls window before past
    → recalled window past id ≡ source_of window before id
source_told window before past id recalls = source_of_found_told window before past (event_at window id) recalls

starter_of_found_told : (window : WindowForm) (before : List EventId) (past : Past) (id : EventId) (found : Option Event) → Recalls window before past
    → recalled_starter_found past id found ≡ starter_of_found window before id found
starter_of_found_told window before past id None recalls = refl
starter_of_found_told window before past id (Some event) recalls = ap (λ found. if id.index == 0 then found else None) (recalls.started id.thread)

pub starter_told : (window : WindowForm) (before : List EventId) (past : Past) (id : EventId) → Recalls window before past
    → recalled_starter window past id ≡ starter_of window before id
starter_told window before past id recalls = starter_of_found_told window before past id (event_at window id) recalls

-- so with the next event of a schedule
pub recalls_next : (window : WindowForm) (schedule : List EventId) (past next : Past) (place : ℕ) (d : EventId) → place < length schedule
    → next ≡ after_id window (get_or schedule place d) past → Recalls window (take place schedule) past → Recalls window (take (place + 1) schedule) next
recalls_next window schedule past next place d below made recalls =
    let id : EventId = get_or schedule place d in
    subst (λ (ids : List EventId). Recalls window ids next) (sym (take_more schedule place d below))
    (subst (Recalls window (take place schedule ++ id ∷ [])) (sym made) (recalls_more window (take place schedule) id past recalls))

-- The notes of one event more.
use Rattle.std.proofs.Common.{ℕ, zero, suc, ◌+◌, ◌<◌, ◌≡◌, ap, sym, ◌∙◌, refl, subst, inl, inr, Bool, true, false, List, [], ◌∷◌, ◌++◌, append_assoc, arith, get_or, length, map}
use Rattle.std.specs.Prelude.{Option, Some, None, ◌==◌, ◌&&◌, Contains, filter, if◌then◌else◌, nat_lt, slice_get, take, unwrap_or}
use Rattle.std.specs.Cmp.Lexicographic.{slice_cmp}
use Rattle.std.specs.List.{AllByRecursion, flat_map}
use Rattle.std.specs.List.Sorted.{IsStrictlySortedBy}
use Rattle.std.specs.Map.{keys_of}
use Rattle.std.specs.Ordering.{is_eq, nat_cmp}
use Rattle.std.specs.Str.{bytes_eq}
use Rattle.std.specs.declared.cmp.Ordering.TheVariants.{Less, Equal}
use Rattle.std.proofs.lemmas.Bool.{cases_Bool, eqb-true, false_from_ne_true, false≢true}
use Rattle.std.proofs.lemmas.Cmp.{nat_list_cmp_total, tied_itself}
use Rattle.std.proofs.lemmas.Grind.{flat_map-append}
use Rattle.std.proofs.lemmas.List.{append-nil}
use Rattle.std.proofs.lemmas.List.Elements.{Contains-append_cases, Contains-append_left, Contains-append_right, filter-append}
use Rattle.std.proofs.lemmas.Map.Text.{is_eq-slice_cmp}
use Rattle.std.proofs.lemmas.Option.{slice_get-get_or}
use Rattle.std.proofs.lemmas.Slice.Eq.{bytes_eq-Decides}
use Rattle.gp_base.specs.FilterLaws.{flat_map_agree}
use Rattle.gp_base.specs.ListLaws.{nothing_in}
use Rattle.gp_trace.specs.declared.event.Event.{Event}
use Rattle.gp_trace.specs.declared.lock_use.LockUse.{LockUse}
use Rattle.gp_trace.specs.declared.lock_use.LockUse.TheVariants.{Take, GiveBack}
use Rattle.gp_trace.specs.LockUse.{HeldLocks, held_after_use, lock_use_of, mode_held}
use Rattle.gp_window.specs.declared.schedule.EventId.{EventId}
use Rattle.gp_window.specs.Events.{segment_of}
use Rattle.gp_window.specs.Formed.{mode_at_start}
use Rattle.gp_window.specs.Modes.{mode_after, mode_after_use, mode_before}
use Rattle.gp_window.specs.ModesLaws.{mode_next, mode_used}
use Rattle.gp_window.specs.WindowForm.{WindowForm}
use Rattle.gp_instance.specs.Instances.{ids_from, ids_in}
use Rattle.gp_constraint.specs.PointLaws.{event_id}
use Rattle.gp_constraint.specs.Tables.{entry_at}
use Rattle.gp_replay.specs.LockUses.{use_at}
use Rattle.gp_stuck.specs.declared.holder.Holder.{Holder}
use Rattle.gp_stuck.specs.Cycle.{keeps_out, may_be_next, waits_by, waits_for}
use Rattle.gp_stuck.specs.Noted.{AreNoted, HoldsNothing, NotesMore, holder_with, holders_of}
use Rattle.gp_stuck.specs.Search.{completions, cycles_from, may_follow, takers_of, takes_lock}

-- no event is noted
pub none_noted : (window : WindowForm) (starts : List EventId) (holders : List (List ℕ × List Holder)) → starts ≡ [] → holders ≡ [] → AreNoted window [] starts holders
none_noted window starts holders no_starts no_holders =
    subst (λ ids. AreNoted window [] ids holders) (sym no_starts) (subst (λ table. AreNoted window [] [] table) (sym no_holders) (record {
      held = λ lock. refl;
      among = λ id i. i;
      begun = λ found none. refl;
    }))

-- the events that take locks, with one event more
takers_more : (window : WindowForm) (before : List EventId) (id : EventId) (takes : Bool) → takes_lock window id ≡ takes
    → filter (takes_lock window) (before ++ id ∷ []) ≡ filter (takes_lock window) before ++ (if takes then id ∷ [] else [])
takers_more window before id takes is =
    filter-append (takes_lock window) before (id ∷ []) ∙ ap (λ b. filter (takes_lock window) before ++ (if b then id ∷ [] else [])) is

-- an event that takes no lock
pub takes_none : (window : WindowForm) (id : EventId) (starts : List EventId) (holders : List (List ℕ × List Holder)) → takes_lock window id ≡ false
    → NotesMore window (id ∷ []) starts holders starts holders
takes_none window id starts holders is before noted =
    subst (λ ids. AreNoted window ids starts holders) (sym (takers_more window before id false is ∙ append-nil (filter (takes_lock window) before))) noted

either_nil : (b : Bool) (found : EventId → List (List EventId)) (id : EventId) → found id ≡ [] → flat_map found (if b then id ∷ [] else []) ≡ []
either_nil true found id none = append-nil (found id) ∙ none
either_nil false found id none = refl

-- an event that takes a lock, with what its thread holds
pub takes_more : (window : WindowForm) (id : EventId) (starts : List EventId) (more : Bool) (holders next : List (List ℕ × List Holder)) → takes_lock window id ≡ true
    → (more ≡ false → (found : EventId → List (List EventId)) → ((one : EventId) → HoldsNothing window one → found one ≡ []) → flat_map found (if may_be_next window id then id ∷ [] else []) ≡ [])
    → (more ≡ true → may_be_next window id ≡ true)
    → ((lock : List ℕ) → entry_at next lock ≡ entry_at holders lock ++ holder_with id (mode_before window id lock))
    → NotesMore window (id ∷ []) starts holders (starts ++ (if more then id ∷ [] else [])) next
takes_more window id starts more holders next is fewer may holds before noted =
    let ids : List EventId = filter (takes_lock window) before in
    subst (λ all. AreNoted window all (starts ++ (if more then id ∷ [] else [])) next) (sym (takers_more window before id true is)) (record {
      held = λ lock.
          holds lock ∙ ap (λ front. front ++ holder_with id (mode_before window id lock)) (noted.held lock)
          ∙ ap (λ back. holders_of window lock ids ++ back) (sym (append-nil (holder_with id (mode_before window id lock))))
          ∙ sym (flat_map-append (λ one. holder_with one (mode_before window one lock)) ids (id ∷ []));
      among = λ one i.
          elim (Contains-append_cases starts (if more then id ∷ [] else []) one i) [
            | inl old ↦ Contains-append_left ids (id ∷ []) one (noted.among one old)
            | inr new ↦ Contains-append_right ids (id ∷ []) one (only more one new)
          ];
      begun = λ found none.
          flat_map-append found starts (if more then id ∷ [] else [])
          ∙ ap (λ front. front ++ flat_map found (if more then id ∷ [] else [])) (noted.begun found none)
          ∙ ap (λ back. flat_map found (filter (may_be_next window) ids) ++ back) (last more refl found none)
          ∙ sym (flat_map-append found (filter (may_be_next window) ids) (if may_be_next window id then id ∷ [] else []))
          ∙ ap (flat_map found) (sym (filter-append (may_be_next window) ids (id ∷ [])));
    })
  where
    only : (b : Bool) (one : EventId) → Contains (if b then id ∷ [] else []) one → Contains (id ∷ []) one
    only true one i = i
    only false one i = absurd (nothing_in one i)

    last : (b : Bool) → more ≡ b → (found : EventId → List (List EventId)) → ((one : EventId) → HoldsNothing window one → found one ≡ [])
        → flat_map found (if b then id ∷ [] else []) ≡ flat_map found (if may_be_next window id then id ∷ [] else [])
    last true e found none = ap (λ b. flat_map found (if b then id ∷ [] else [])) (sym (may e))
    last false e found none = sym (fewer e found none)

-- an event whose thread holds nothing
pub holds_none : (window : WindowForm) (id : EventId) (starts : List EventId) (holders : List (List ℕ × List Holder)) → takes_lock window id ≡ true
    → HoldsNothing window id → NotesMore window (id ∷ []) starts holders starts holders
holds_none window id starts holders is nothing before noted =
    subst (λ front. AreNoted window (filter (takes_lock window) (before ++ id ∷ [])) front holders) (append-nil starts)
    (takes_more window id starts false holders holders is
    (λ _ found none. either_nil (may_be_next window id) found id (none id nothing))
    (λ e. absurd (cc))
    (λ lock. sym (ap (λ mode. entry_at holders lock ++ holder_with id mode) (nothing lock) ∙ append-nil (entry_at holders lock)))
    before noted)

-- an event whose thread holds locks
pub holds_some : (window : WindowForm) (id : EventId) (starts : List EventId) (holders next : List (List ℕ × List Holder)) (held : HeldLocks) → takes_lock window id ≡ true
    → ((lock : List ℕ) → mode_held held lock ≡ mode_before window id lock)
    → ((lock : List ℕ) → entry_at next lock ≡ entry_at holders lock ++ holder_with id (mode_held held lock))
    → NotesMore window (id ∷ []) starts holders (starts ++ (if may_be_next window id then id ∷ [] else [])) next
holds_some window id starts holders next held is told holds =
    takes_more window id starts (may_be_next window id) holders next is
    (λ e found none. ap (λ b. flat_map found (if b then id ∷ [] else [])) e)
    (λ e. e)
    (λ lock. holds lock ∙ ap (λ mode. entry_at holders lock ++ holder_with id mode) (told lock))

-- no lock is held by an empty table
pub empty_holds : (held : HeldLocks) (lock : List ℕ) → (length held == 0) ≡ true → mode_held held lock ≡ None
empty_holds [] lock e = refl
empty_holds (entry ∷ held) lock e = let none : length (entry ∷ held) ≡ 0 = eqb-true (length (entry ∷ held)) 0 e in absurd (omega (arith, none))

-- what the entries of a table note of a lock
abbrev pub noted_at : EventId → List ℕ → HeldLocks → List Holder
noted_at id lock held = flat_map (λ entry. if bytes_eq entry.0 lock then record { id = id; mode = entry.1 } ∷ [] else []) held

none_at : (id : EventId) (lock : List ℕ) (held : HeldLocks) → AllByRecursion (λ name. bytes_eq name lock ≡ false) (keys_of held) → noted_at id lock held ≡ []
none_at id lock [] off = refl
none_at id lock (entry ∷ held) off = (let here = off.0 in rw here (none_at id lock held off.1))

later_off : (lock : List ℕ) (held : HeldLocks) → AllByRecursion (λ name. slice_cmp nat_cmp lock name ≡ Less) (keys_of held) → AllByRecursion (λ name. bytes_eq name lock ≡ false) (keys_of held)
later_off lock [] less = tt
later_off lock (entry ∷ held) less = (
  false_from_ne_true (bytes_eq entry.0 lock) (λ e.
      let same : entry.0 ≡ lock = (bytes_eq-Decides entry.0 lock).0 e in
      let own : slice_cmp nat_cmp lock entry.0 ≡ Equal = subst (λ n. slice_cmp nat_cmp lock n ≡ Equal) (sym same) (tied_itself nat_list_cmp_total lock) in
      let first = less.0 in cc),
  later_off lock held less.1,
)

turned : (one other : List ℕ) (b : Bool) → bytes_eq one other ≡ b → bytes_eq other one ≡ b
turned one other true e = (bytes_eq-Decides other one).1 (sym ((bytes_eq-Decides one other).0 e))
turned one other false e = false_from_ne_true (bytes_eq other one) (λ same. false≢true (sym e ∙ (bytes_eq-Decides one other).1 (sym ((bytes_eq-Decides other one).0 same))))

-- of a table in order that is how the lock is held
pub noted_once : (id : EventId) (lock : List ℕ) (held : HeldLocks) → IsStrictlySortedBy (slice_cmp nat_cmp) (keys_of held)
    → noted_at id lock held ≡ holder_with id (mode_held held lock)
unfolding IsStrictlySortedBy
noted_once id lock [] rises = refl
noted_once id lock (entry ∷ held) rises =
    elim (cases_Bool (bytes_eq entry.0 lock)) [
      | inl same ↦
          let is : entry.0 ≡ lock = (bytes_eq-Decides entry.0 lock).0 same in
          let at : is_eq (slice_cmp nat_cmp lock entry.0) ≡ true = is_eq-slice_cmp lock entry.0 ∙ turned entry.0 lock true same in
          let rest = none_at id lock held (later_off lock held (subst (λ n. AllByRecursion (λ name. slice_cmp nat_cmp n name ≡ Less) (keys_of held)) is rises.0)) in
          rw (same, at) (ap (λ back. record { id = id; mode = entry.1 } ∷ back) rest)
      | inr other ↦
          let at : is_eq (slice_cmp nat_cmp lock entry.0) ≡ false = is_eq-slice_cmp lock entry.0 ∙ turned entry.0 lock false other in
          rw (other, at) (noted_once id lock held rises.1)
    ]

-- the events of a segment, with one more
ids_longer : (thread from at : ℕ) (events : List Event) (k : ℕ) → at ≡ from + k → k < length events
    → ids_in thread from (take (suc k) events) ≡ ids_in thread from (take k events) ++ event_id thread at ∷ []
ids_longer thread from at [] k is below = absurd (omega arith)
ids_longer thread from at (event ∷ events) zero is below = (let same : from ≡ at = omega arith in ap (λ n. event_id thread n ∷ []) same)
ids_longer thread from at (event ∷ events) (suc k) is below =
    ap (λ rest. event_id thread from ∷ rest) (ids_longer thread (from + 1) at events k (omega arith) (omega arith))

-- of the segment of each thread so far, with one more
threads_longer : (first thread : ℕ) (segments : List (List Event)) (k : ℕ) → thread ≡ first + k → k < length segments
    → ids_from first (take (suc k) segments) ≡ ids_from first (take k segments) ++ ids_in thread 0 (unwrap_or (slice_get segments k) [])
threads_longer first thread [] k is below = absurd (omega arith)
threads_longer first thread (segment ∷ segments) zero is below =
    (let same : first ≡ thread = omega arith in append-nil (ids_in first 0 segment) ∙ ap (λ t. ids_in t 0 segment) same)
threads_longer first thread (segment ∷ segments) (suc k) is below =
    ap (λ rest. ids_in first 0 segment ++ rest) (threads_longer (first + 1) thread segments k (omega arith) (omega arith))
    ∙ sym (append_assoc (ids_in first 0 segment) (ids_from (first + 1) (take k segments)) (ids_in thread 0 (unwrap_or (slice_get segments k) [])))

-- how locks are held after one event more
pub held_step : (window : WindowForm) (thread k : ℕ) (segment : List Event) (event : Event) (old new : HeldLocks) → k < length segment
    → event ≡ get_or segment k event → new ≡ held_after_use old (lock_use_of event)
    → ((lock : List ℕ) → mode_held old lock ≡ mode_after lock (mode_at_start window thread lock) (take k segment))
    → (lock : List ℕ) → mode_held new lock ≡ mode_after lock (mode_at_start window thread lock) (take (k + 1) segment)
held_step window thread k segment event old new below read is told lock =
    let more : k + 1 ≡ suc k = omega arith in
    ap (λ (held : HeldLocks). mode_held held lock) is ∙ mode_used old (lock_use_of event) lock
    ∙ ap (λ before. mode_after_use lock before (lock_use_of event)) (told lock)
    ∙ sym (mode_next lock (mode_at_start window thread lock) segment k event (slice_get-get_or segment k event below ∙ ap Some (sym read)))
    ∙ ap (λ n. mode_after lock (mode_at_start window thread lock) (take n segment)) (sym more)

-- what is noted of one list and then of another is noted of both
pub segment_step : (window : WindowForm) (thread k next : ℕ) (segment : List Event) (old starts more_starts : List EventId) (before holders more_holders : List (List ℕ × List Holder))
    → next ≡ k + 1 → k < length segment
    → NotesMore window (ids_in thread 0 (take k segment)) old before starts holders
    → NotesMore window (event_id thread k ∷ []) starts holders more_starts more_holders
    → NotesMore window (ids_in thread 0 (take next segment)) old before more_starts more_holders
segment_step window thread k zero segment old starts more_starts before holders more_holders is below first second = absurd (omega (arith, is))
segment_step window thread k (suc n) segment old starts more_starts before holders more_holders is below first second = λ ids noted.
    let same : k ≡ n = omega (arith, is) in
    let longer = ids_longer thread 0 k segment k (omega arith) below in
    let all = append_assoc ids (ids_in thread 0 (take k segment)) (event_id thread k ∷ []) ∙ ap (λ back. ids ++ back) (sym longer) in
    let done = second (ids ++ ids_in thread 0 (take k segment)) (first ids noted) in
    subst (λ m. AreNoted window (filter (takes_lock window) (ids ++ ids_in thread 0 (take (suc m) segment))) more_starts more_holders) same
    (subst (λ list. AreNoted window (filter (takes_lock window) list) more_starts more_holders) all done)

pub window_step : (window : WindowForm) (k thread next : ℕ) (starts more_starts : List EventId) (holders more_holders : List (List ℕ × List Holder))
    → thread ≡ suc k → next ≡ suc k → k < length window.segments
    → AreNoted window (filter (takes_lock window) (ids_from 1 (take k window.segments))) starts holders
    → NotesMore window (ids_in thread 0 (segment_of window thread)) starts holders more_starts more_holders
    → AreNoted window (filter (takes_lock window) (ids_from 1 (take next window.segments))) more_starts more_holders
window_step window k thread next starts more_starts holders more_holders is after below first second =
    let segment : segment_of window thread ≡ unwrap_or (slice_get window.segments k) [] = ap (segment_of window) is in
    let own = subst (λ (events : List Event). NotesMore window (ids_in thread 0 events) starts holders more_starts more_holders) segment second in
    subst (λ n. AreNoted window (filter (takes_lock window) (ids_from 1 (take n window.segments))) more_starts more_holders) (sym after)
    (subst (λ list. AreNoted window (filter (takes_lock window) list) more_starts more_holders) (sym (threads_longer 1 thread window.segments k (omega (arith, is)) below))
    (own (ids_from 1 (take k window.segments)) first))

-- nothing is found of an event whose thread holds nothing
waits_none : (window : WindowForm) (lock_use : Option LockUse) (first : EventId) → HoldsNothing window first → waits_by window lock_use first ≡ false
waits_none window (Some (Take mode lock)) first nothing = ap (keeps_out mode) (nothing lock)
waits_none window (Some (GiveBack mode lock)) first nothing = refl
waits_none window None first nothing = refl

pub closed_none : (b waits : Bool) → waits ≡ false → ◌≡◌ {A = List (List EventId)} (if b && waits then [] ∷ [] else []) []
closed_none true waits e = rw e refl
closed_none false waits e = refl

flat_none : {X Y : Type 0} (xs : List X) → ◌≡◌ {A = List Y} (flat_map (λ x. []) xs) []
flat_none [] = refl
flat_none (x ∷ xs) = flat_none xs

completes_none : (window : WindowForm) (ids : List EventId) (first : EventId) (passed : List EventId) (last : EventId) (n : ℕ) → HoldsNothing window first
    → completions window ids first passed last n ≡ []
completes_none window ids first passed last zero nothing = closed_none (nat_lt 0 (length passed)) (waits_for window last first) (waits_none window (use_at window last) first nothing)
completes_none window ids first passed last (suc n) nothing =
    let go : EventId → List (List EventId) = λ id. map (λ rest. id ∷ rest) (completions window ids first (passed ++ id ∷ []) id n) in
    let nexts : List EventId = filter (may_follow window first passed last) ids in
    ap (λ front. front ++ flat_map go nexts) (closed_none (nat_lt 0 (length passed)) (waits_for window last first) (waits_none window (use_at window last) first nothing))
    ∙ flat_map_agree go (λ id. []) (λ id. ap (map (λ rest. id ∷ rest)) (completes_none window ids first (passed ++ id ∷ []) id n nothing)) nexts
    ∙ flat_none nexts

pub nothing_found : (window : WindowForm) (id : EventId) → HoldsNothing window id → cycles_from window (takers_of window) id ≡ []
nothing_found window id nothing = ap (map (λ rest. id ∷ rest)) (completes_none window (takers_of window) id [] id 3 nothing)

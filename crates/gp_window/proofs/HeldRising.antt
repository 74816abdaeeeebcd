-- The holdings over a mark stand in order, and tell at each lock and thread how the thread holds the lock.
use Rattle.std.proofs.Common.{◌≡◌, ◌∙◌, refl, ap, sym, subst, Bool, true, false, cond, ℕ, zero, suc, List, [], ◌∷◌, map}
use Rattle.std.specs.Prelude.{◌||◌, not, filter, Option, Some, None}
use Rattle.std.specs.declared.cmp.Ordering.TheVariants.{Less}
use Rattle.std.specs.BTreeMap.{is_at}
use Rattle.std.specs.List.{AllByRecursion, list_any}
use Rattle.std.specs.List.Sorted.{IsStrictlySortedBy}
use Rattle.std.specs.Map.{keys_of, lookup}
use Rattle.std.specs.Ordering.{is_eq}
use Rattle.gp_base.specs.OrderLaws.{filter_rises, put_rises}
use Rattle.gp_base.specs.Table.{value_at, with_entry, without_entry}
use Rattle.gp_base.specs.TableLaws.{value_after_put}
use Rattle.gp_trace.specs.declared.event.Event.{Event}
use Rattle.gp_trace.specs.declared.lock_use.LockMode.{LockMode}
use Rattle.gp_trace.specs.declared.lock_use.LockMode.TheVariants.{Exclusive, Shared}
use Rattle.gp_trace.specs.declared.lock_use.LockUse.{LockUse}
use Rattle.gp_trace.specs.declared.lock_use.LockUse.TheVariants.{Take, GiveBack}
use Rattle.gp_trace.specs.LockUse.{lock_use_of}
use Rattle.gp_trace.specs.Trace.{LocalTraceForm}
use Rattle.gp_window.specs.FormedLaws.{mode_by}
use Rattle.gp_window.specs.Holders.{AreOrdered, Holdings, held_after, held_after_events, held_after_window, held_over, holder_cmp, holders_among, is_exclusive, readers_among, segment_after}
use Rattle.gp_window.specs.HoldersLaws.{found_itself, found_pair, holder_total, not_found}

use_rises : (thread : ℕ) (held : Holdings) (how : Option LockUse) → AreOrdered held → AreOrdered (held_after thread held how)
use_rises thread held None rise = rise
use_rises thread held (Some (Take mode lock)) rise = put_rises holder_total held (lock, thread) mode rise
use_rises thread held (Some (GiveBack mode lock)) rise = filter_rises holder_cmp (λ entry. not (is_at (holder_cmp (lock, thread)) entry.0)) held rise

events_rise : (thread : ℕ) (events : List Event) (held : Holdings) → AreOrdered held → AreOrdered (held_after_events thread held events)
events_rise thread [] held rise = rise
events_rise thread (event ∷ events) held rise =
    events_rise thread events (held_after thread held (lock_use_of event)) (use_rises thread held (lock_use_of event) rise)

window_rises : (before : ℕ) (traces : List LocalTraceForm) (held : Holdings) → AreOrdered held → AreOrdered (held_after_window before held traces)
window_rises before [] held rise = rise
window_rises before (trace ∷ traces) held rise =
    window_rises before traces (held_after_events trace.thread held (segment_after before trace)) (events_rise trace.thread (segment_after before trace) held rise)

-- over each mark
pub over_rises : (traces : List LocalTraceForm) (before : ℕ) → AreOrdered (held_over traces before)
unfolding IsStrictlySortedBy
over_rises traces zero = tt
over_rises traces (suc before) = window_rises before traces (held_over traces before) (over_rises traces before)

-- what is put in at a lock and a thread is found there
pub put_found : (held : Holdings) (place : List ℕ × ℕ) (mode : LockMode) → value_at holder_cmp (with_entry holder_cmp held place mode) place ≡ Some mode
put_found held place mode =
    value_after_put holder_total held place place mode ∙ ap (λ b. cond b (Some mode) (value_at holder_cmp held place)) (found_itself place)

-- and nothing else changes
pub put_beside : (held : Holdings) (lock : List ℕ) (thread : ℕ) (place : List ℕ × ℕ) (mode : LockMode) → (lock ≡ place.0 → thread ≡ place.1 → ⊥)
    → value_at holder_cmp (with_entry holder_cmp held place mode) (lock, thread) ≡ value_at holder_cmp held (lock, thread)
put_beside held lock thread place mode apart =
    value_after_put holder_total held place (lock, thread) mode
    ∙ ap (λ b. cond b (Some mode) (value_at holder_cmp held (lock, thread))) (not_found lock thread place apart)

filtered_at : {K V : Type 0} (other p : K → Bool) (b : Bool) (e : K × V) (es rest : List (K × V)) (here kept : Bool) → other e.0 ≡ here → p e.0 ≡ kept
    → (here ≡ true → kept ≡ b) → lookup other rest ≡ cond b (lookup other es) None
    → lookup other (cond kept (e ∷ rest) rest) ≡ cond b (cond here (Some e.1) (lookup other es)) None
filtered_at other p b e es rest true true is goes one more = rw (is, sym (one refl)) refl
filtered_at other p b e es rest true false is goes one more = more ∙ rw (sym (one refl)) refl
filtered_at other p b e es rest false true is goes one more = rw is more
filtered_at other p b e es rest false false is goes one more = more

-- what is found among entries that are kept by a test of their keys
found_filtered : {K V : Type 0} (other p : K → Bool) (b : Bool) → ((k : K) → other k ≡ true → p k ≡ b) → (es : List (K × V))
    → lookup other (filter (λ e. p e.0) es) ≡ cond b (lookup other es) None
found_filtered other p true one [] = refl
found_filtered other p false one [] = refl
found_filtered other p b one (e ∷ es) =
    filtered_at other p b e es (filter (λ e. p e.0) es) (other e.0) (p e.0) refl refl (one e.0) (found_filtered other p b one es)

-- nothing is found at a lock and a thread that are taken away
pub dropped_found : (held : Holdings) (place : List ℕ × ℕ) → value_at holder_cmp (without_entry holder_cmp held place) place ≡ None
dropped_found held place = found_filtered (is_at (holder_cmp place)) (λ key. not (is_at (holder_cmp place) key)) false (λ key e. ap not e) held

-- and nothing else changes
pub dropped_beside : (held : Holdings) (lock : List ℕ) (thread : ℕ) (place : List ℕ × ℕ) → (lock ≡ place.0 → thread ≡ place.1 → ⊥)
    → value_at holder_cmp (without_entry holder_cmp held place) (lock, thread) ≡ value_at holder_cmp held (lock, thread)
dropped_beside held lock thread place apart =
    found_filtered (is_at (holder_cmp (lock, thread))) (λ key. not (is_at (holder_cmp place) key)) true
    (λ key e.
    let same : (lock, thread) ≡ key = found_pair (lock, thread) key e in
    ap not (not_found place.0 place.1 key (λ a b. apart (ap (λ (p : List ℕ × ℕ). p.0) same ∙ sym a) (ap (λ (p : List ℕ × ℕ). p.1) same ∙ sym b)))) held

-- a place below all others is not among them
absent : (p : LockMode → Bool) (held : Holdings) (place : List ℕ × ℕ) → AllByRecursion (λ key. holder_cmp place key ≡ Less) (keys_of held)
    → list_any (is_at (holder_cmp place)) (map (λ one. one.0) (filter (λ one. p one.1) held)) ≡ false
absent p [] place above = refl
absent p (one ∷ held) place above = at (p one.1) (absent p held place above.1)
  where
    at : (b : Bool) → list_any (is_at (holder_cmp place)) (map (λ one. one.0) (filter (λ one. p one.1) held)) ≡ false
        → list_any (is_at (holder_cmp place)) (map (λ one. one.0) (cond b (one ∷ filter (λ one. p one.1) held) (filter (λ one. p one.1) held))) ≡ false
    at true none = ap (λ b. b || list_any (is_at (holder_cmp place)) (map (λ one. one.0) (filter (λ one. p one.1) held))) (ap is_eq above.0) ∙ none
    at false none = none

mode_first : (mode : LockMode) (place key : List ℕ × ℕ) (held : Holdings) (here : Bool) → is_at (holder_cmp place) key ≡ here
    → (here ≡ true → AllByRecursion (λ other. holder_cmp key other ≡ Less) (keys_of held))
    → value_at holder_cmp held place ≡ mode_by (list_any (is_at (holder_cmp place)) (holders_among held)) (list_any (is_at (holder_cmp place)) (readers_among held))
    → cond here (Some mode) (value_at holder_cmp held place)
    ≡ mode_by (list_any (is_at (holder_cmp place)) (holders_among ((key, mode) ∷ held))) (list_any (is_at (holder_cmp place)) (readers_among ((key, mode) ∷ held)))
mode_first Exclusive place key held true is above more = rw is refl
mode_first Shared place key held true is above more =
    let same : place ≡ key = found_pair place key is in
    let none : list_any (is_at (holder_cmp place)) (holders_among held) ≡ false =
    absent is_exclusive held place (subst (λ p. AllByRecursion (λ other. holder_cmp p other ≡ Less) (keys_of held)) (sym same) (above refl)) in
    rw (none, is) refl
mode_first Exclusive place key held false is above more = rw is more
mode_first Shared place key held false is above more = rw is more

-- the holdings tell how a thread holds a lock, as those that hold it alone and those that read it do
pub mode_among : (held : Holdings) (place : List ℕ × ℕ) → AreOrdered held
    → value_at holder_cmp held place ≡ mode_by (list_any (is_at (holder_cmp place)) (holders_among held)) (list_any (is_at (holder_cmp place)) (readers_among held))
unfolding IsStrictlySortedBy
mode_among [] place rise = refl
mode_among (one ∷ held) place rise =
    mode_first one.1 place one.0 held (is_at (holder_cmp place) one.0) refl (λ here. rise.0) (mode_among held place rise.1)

-- the readers stand in the order of their locks and threads
pub readers_rise : (held : Holdings) → AreOrdered held → IsStrictlySortedBy holder_cmp (readers_among held)
readers_rise held rise = filter_rises holder_cmp (λ one. not (is_exclusive one.1)) held rise

-- Whether a feasible schedule is signalled with pairs, as a test.
use Rattle.std.specs.Prelude.{ℕ, Bool, false, not, ◌==◌, ◌&&◌, ◌||◌, List, Option, Some, None}
use Rattle.std.specs.List.{list_all, list_any}
use Rattle.gp_instance.specs.Matches.{is_before, place_of}
use Rattle.gp_instance.specs.Pairs.{all_pairs}
use Rattle.gp_window.specs.declared.schedule.EventId.{EventId}
use Rattle.gp_window.specs.Ids.{is_same}
use Rattle.gp_window.specs.WindowForm.{WindowForm}
use Rattle.gp_constraint.specs.PointLaws.{event_id}
use Rattle.gp_notify.specs.declared.pair.Pair.{Pair}
use Rattle.gp_notify.specs.Calls.{call_at, is_notify, is_wake, signals_for}
use Rattle.gp_notify.specs.Sleeping.{sleep_index}

-- the signal stands after the sleep of this thread, where there is one
abbrev pub comes_after : List EventId → ℕ → Option ℕ → EventId → Bool
comes_after schedule thread None signal = false
comes_after schedule thread (Some index) signal = is_before (place_of schedule (event_id thread index)) (place_of schedule signal)

-- whether the signal is one for the wake, between its sleep and it
abbrev pub is_served : WindowForm → List EventId → Pair → Bool
is_served window schedule pair =
    signals_for (call_at window pair.wake) (call_at window pair.signal)
    && (not (pair.signal.thread == pair.wake.thread)
    && (comes_after schedule pair.wake.thread (sleep_index window pair.wake) pair.signal
    && is_before (place_of schedule pair.signal) (place_of schedule pair.wake)))

-- whether some pair is one of this wake
abbrev pub has_wake : List Pair → EventId → Bool
has_wake pairs wake = list_any (λ (pair : Pair). is_same pair.wake wake) pairs

-- whether an event, if it is a wake, has a pair
abbrev pub is_paired : WindowForm → List Pair → EventId → Bool
is_paired window pairs id = not (is_wake (call_at window id)) || has_wake pairs id

-- whether two pairs have one signal, which signals to one
abbrev pub share_notify : WindowForm → Pair → Pair → Bool
share_notify window one other = is_same one.signal other.signal && is_notify (call_at window one.signal)

-- whether two pairs have different wakes, and share no signal to one
abbrev pub are_apart : WindowForm → Pair → Pair → Bool
are_apart window one other = not (is_same one.wake other.wake) && not (share_notify window one other)

-- the test
abbrev pub is_signalled : WindowForm → List EventId → List Pair → Bool
is_signalled window schedule pairs =
    list_all (is_paired window pairs) schedule && (list_all (is_served window schedule) pairs && all_pairs (are_apart window) pairs)

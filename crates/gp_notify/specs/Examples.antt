-- Windows with their signals, whole, by numbers.
use Rattle.std.specs.Prelude.{ℕ, ◌≡◌, ◌+◌, true, false, List, [], ◌∷◌, Some, None, codes, drop, length, option_map}
use Rattle.gp_clause.specs.declared.kind.Kind.TheVariants.{Free, Order}
use Rattle.gp_clause.specs.declared.lit.Lit.{Lit}
use Rattle.gp_trace.specs.declared.event.Event.{Event}
use Rattle.gp_trace.specs.declared.event.Event.TheVariants.{Op}
use Rattle.gp_window.specs.declared.schedule.EventId.{EventId}
use Rattle.gp_window.specs.WindowForm.{WindowForm}
use Rattle.gp_constraint.specs.declared.point.Point.{Point}
use Rattle.gp_constraint.specs.Base.{base_of}
use Rattle.gp_notify.specs.declared.pair.Pair.{Pair}
use Rattle.gp_notify.specs.Deciding.{is_signalled}
use Rattle.gp_notify.specs.Extended.{extended_of}
use Rattle.gp_notify.specs.Lift.{raised_lit}
use Rattle.gp_notify.specs.Signals.{unpaired}

-- a variable, and its negation
abbrev pub yes_lit : ℕ → Lit
yes_lit n = record { variable = n; positive = true }

abbrev pub not_lit : ℕ → Lit
not_lit n = record { variable = n; positive = false }

abbrev pub op : List ℕ → List ℕ → Event
op name object = Op (name, object ∷ [])

abbrev pub done : Event
done = Op (codes "done", [])

abbrev pub sleeper : List Event
sleeper = op (codes "sleep") (codes "c") ∷ op (codes "wake") (codes "c") ∷ done ∷ []

abbrev pub window_of_threads : List (List Event) → List ℕ → WindowForm
window_of_threads segments started = record {
  number = 1;
  segments = segments;
  start_values = [];
  holders = [];
  readers = [];
  started = started;
  exited = [];
}

-- a sleeper, and a thread that notifies
abbrev pub one_sleeper : WindowForm
one_sleeper = window_of_threads (sleeper ∷ (op (codes "notify") (codes "c") ∷ []) ∷ []) (1 ∷ 2 ∷ [])

-- two sleepers, and a thread that notifies
abbrev pub two_sleepers : WindowForm
two_sleepers = window_of_threads (sleeper ∷ sleeper ∷ (op (codes "notify") (codes "c") ∷ []) ∷ []) (1 ∷ 2 ∷ 3 ∷ [])

-- two sleepers, and a thread that notifies all
abbrev pub all_sleepers : WindowForm
all_sleepers = window_of_threads (sleeper ∷ sleeper ∷ (op (codes "notifyall") (codes "c") ∷ []) ∷ []) (1 ∷ 2 ∷ 3 ∷ [])

-- a wake without a sleep
abbrev pub no_sleeper : WindowForm
no_sleeper = window_of_threads ((op (codes "wake") (codes "c") ∷ []) ∷ (op (codes "notify") (codes "c") ∷ []) ∷ []) (1 ∷ 2 ∷ [])

-- an event of a thread
abbrev pub at : ℕ → ℕ → EventId
at thread index = record { thread = thread; index = index }

-- both sleep, are signalled, and wake
abbrev pub both_wake : List EventId
both_wake = at 1 0 ∷ at 2 0 ∷ at 3 0 ∷ at 1 1 ∷ at 2 1 ∷ []

abbrev pub pair : EventId → EventId → Pair
pair wake signal = record { wake = wake; signal = signal }

abbrev pub both_pairs : List Pair
both_pairs = pair (at 1 1) (at 3 0) ∷ pair (at 2 1) (at 3 0) ∷ []

-- small windows: their kinds and clauses by number, the first wake without a sleep, a lifted literal, and the test
pub record SignalsExamples : Type 0 where
  pub one_kinds : (extended_of one_sleeper).kinds ≡ Free ∷ Free ∷ Free ∷ Free ∷ Free ∷ Order 0 3 ∷ Order 1 3 ∷ []
  pub one_clauses : (extended_of one_sleeper).clauses ≡
      (yes_lit 0 ∷ not_lit 1 ∷ []) ∷ (yes_lit 1 ∷ not_lit 2 ∷ [])
      ∷ (not_lit 1 ∷ yes_lit 4 ∷ []) ∷ (yes_lit 3 ∷ not_lit 4 ∷ []) ∷ (not_lit 4 ∷ yes_lit 5 ∷ []) ∷ (not_lit 4 ∷ not_lit 6 ∷ []) ∷ []
  pub two_signals : drop (length (base_of two_sleepers).clauses) (extended_of two_sleepers).clauses ≡
      (not_lit 1 ∷ yes_lit 7 ∷ []) ∷ (yes_lit 6 ∷ not_lit 7 ∷ []) ∷ (not_lit 7 ∷ yes_lit 8 ∷ []) ∷ (not_lit 7 ∷ not_lit 9 ∷ [])
      ∷ (not_lit 4 ∷ yes_lit 10 ∷ []) ∷ (yes_lit 6 ∷ not_lit 10 ∷ []) ∷ (not_lit 10 ∷ yes_lit 11 ∷ []) ∷ (not_lit 10 ∷ not_lit 12 ∷ [])
      ∷ (not_lit 7 ∷ not_lit 10 ∷ []) ∷ []
  pub all_signals : length (extended_of all_sleepers).clauses + 1 ≡ length (extended_of two_sleepers).clauses
  pub none : option_map (λ (p : Point). p.number) (unpaired no_sleeper) ≡ Some 0
  pub paired : option_map (λ (p : Point). p.number) (unpaired two_sleepers) ≡ None
  pub raised : raised_lit 4 3 (yes_lit 4) ≡ yes_lit 7
  pub one_signal : is_signalled two_sleepers both_wake both_pairs ≡ false
  pub signal_to_all : is_signalled all_sleepers both_wake both_pairs ≡ true
  pub wake_unpaired : is_signalled all_sleepers both_wake (pair (at 1 1) (at 3 0) ∷ []) ≡ false

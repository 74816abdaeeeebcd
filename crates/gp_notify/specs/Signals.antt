-- The family of signals: an executed wake takes a signal that comes after its sleep and before it, and no signal to one is
-- taken by two wakes.
use Rattle.std.specs.Prelude.{ℕ, Bool, true, false, not, ◌&&◌, ◌==◌, nat_lt, List, [], ◌∷◌, ◌++◌, Option, Some, None, is_some, if◌then◌else◌, filter, find, flat_map, map, slice_get}
use Rattle.gp_window.specs.WindowForm.{WindowForm}
use Rattle.gp_constraint.specs.declared.point.Point.{Point}
use Rattle.gp_constraint.specs.declared.symbol.Symbol.TheVariants.{Signal}
use Rattle.gp_constraint.specs.declared.symbol.SymbolicLit.{SymbolicLit}
use Rattle.gp_constraint.specs.declared.term.Term.{Term}
use Rattle.gp_constraint.specs.PointLaws.{event_id}
use Rattle.gp_constraint.specs.Points.{number_in, points_of}
use Rattle.gp_constraint.specs.Terms.{before, executed, literal, simplified}
use Rattle.gp_notify.specs.Calls.{call_at, is_notify, is_wake, signals_for}
use Rattle.gp_notify.specs.Sleeping.{sleep_index}

-- the wakes
abbrev pub wakes_of : WindowForm → List Point
wakes_of window = filter (λ (p : Point). is_wake (call_at window p.id)) (points_of window)

-- the signals to one
abbrev pub notifies_of : WindowForm → List Point
notifies_of window = filter (λ (p : Point). is_notify (call_at window p.id)) (points_of window)

-- the point at an index of the thread of a wake, where there is one
abbrev pub point_before : WindowForm → Point → Option ℕ → Option Point
point_before window w None = None
point_before window w (Some index) = slice_get (points_of window) (number_in window (event_id w.id.thread index))

-- the sleep of a wake, where it has one
abbrev pub sleep_of : WindowForm → Point → Option Point
sleep_of window w = point_before window w (sleep_index window w.id)

-- the first wake without a sleep
abbrev pub unpaired : WindowForm → Option Point
unpaired window = find (λ w. not (is_some (sleep_of window w))) (wakes_of window)

-- whether the wake may take the signal: one of its condition, by another thread
abbrev pub may_take : WindowForm → Point → Point → Bool
may_take window w g = signals_for (call_at window w.id) (call_at window g.id) && not (g.id.thread == w.id.thread)

-- the signals that a wake may take
abbrev pub signals_to : WindowForm → Point → List Point
signals_to window w = filter (λ g. may_take window w g) (points_of window)

-- the wakes that may take a signal
abbrev pub takers_of : WindowForm → Point → List Point
takers_of window g = filter (λ w. may_take window w g) (wakes_of window)

-- the wake takes the signal, or does not
abbrev pub takes : Point → Point → Bool → Term
takes w g positive = literal (Signal w.number g.number) positive

-- an executed wake takes one of the signals
abbrev pub takes_one : List Point → Point → List (List SymbolicLit)
takes_one signals w = simplified (executed w false ∷ map (λ g. takes w g true) signals)

-- a signal that is taken is executed, after the sleep and before the wake
abbrev pub between : Point → Point → Point → List (List SymbolicLit)
between w s g =
    simplified (takes w g false ∷ executed g true ∷ [])
    ++ (simplified (takes w g false ∷ before s g ∷ []) ++ simplified (takes w g false ∷ before g w ∷ []))

-- of a wake with its sleep; without one it is not executed
abbrev pub woken_by : List Point → Point → Option Point → List (List SymbolicLit)
woken_by signals w None = simplified (executed w false ∷ [])
woken_by signals w (Some s) = takes_one signals w ++ flat_map (between w s) signals

-- of a wake
abbrev pub woken : WindowForm → Point → List (List SymbolicLit)
woken window w = woken_by (signals_to window w) w (sleep_of window w)

-- not both of two wakes, the lesser first, take the signal
abbrev pub not_both : Point → Point → Point → List (List SymbolicLit)
not_both g w v = if nat_lt w.number v.number then simplified (takes w g false ∷ takes v g false ∷ []) else []

-- one of these wakes alone takes the signal
abbrev pub taken_once : List Point → Point → List (List SymbolicLit)
taken_once takers g = flat_map (λ w. flat_map (not_both g w) takers) takers

-- of a signal to one
abbrev pub notified : WindowForm → Point → List (List SymbolicLit)
notified window g = taken_once (takers_of window g) g

-- for each wake, and then for each signal to one
abbrev pub signals_of : WindowForm → List (List SymbolicLit)
signals_of window = flat_map (woken window) (wakes_of window) ++ flat_map (notified window) (notifies_of window)

-- Which threads touch each of some names, as far as one has to know to say whether another thread does.
use Rattle.std.specs.Prelude.{◌≡◌, ℕ, Bool, true, false, not, ◌==◌, List, [], ◌∷◌, Option, Some, None, if◌then◌else◌, option_map}
use Rattle.std.specs.Cmp.Lexicographic.{slice_cmp}
use Rattle.std.specs.Ordering.{nat_cmp}
use Rattle.gp_base.specs.Table.{value_at, with_entry}
use Rattle.gp_trace.specs.LockUse.{lock_use_of}
use Rattle.gp_trace.specs.declared.event.Event.{Event}
use Rattle.gp_window.specs.Events.{segment_of}
use Rattle.gp_window.specs.Holders.{Holdings}
use Rattle.gp_window.specs.WindowForm.{WindowForm}
use Rattle.gp_story.specs.declared.sharing.Touched.{Touched}
use Rattle.gp_story.specs.declared.sharing.Touched.TheVariants.{ByOne, BySeveral}
use Rattle.gp_story.specs.Deeds.{lock_of}
use Rattle.gp_story.specs.Shared.{is_accessed_beside, is_used_beside}

-- the names that are touched, each with who does
abbrev pub Touches : Type 0
Touches = List (List ℕ × Touched)

-- whether a thread other than this one is among those that touch a name
abbrev pub is_beside : ℕ → Option Touched → Bool
is_beside thread None = false
is_beside thread (Some (ByOne one)) = not (one == thread)
is_beside thread (Some BySeveral) = true

-- who touches a name, with this thread
abbrev pub also_by : ℕ → Option Touched → Touched
also_by thread None = ByOne thread
also_by thread (Some (ByOne one)) = if one == thread then ByOne one else BySeveral
also_by thread (Some BySeveral) = BySeveral

-- the names that are touched, with one that this thread touches
abbrev pub with_touch : Touches → List ℕ → ℕ → Touches
with_touch touches name thread = with_entry (slice_cmp nat_cmp) touches name (also_by thread (value_at (slice_cmp nat_cmp) touches name))

-- the same, where there is a name
abbrev pub with_touched : ℕ → Touches → Option (List ℕ) → Touches
with_touched thread touches None = touches
with_touched thread touches (Some name) = with_touch touches name thread

-- and with those that the events of a thread touch
abbrev pub with_events : (Event → Option (List ℕ)) → ℕ → Touches → List Event → Touches
with_events name_of thread touches [] = touches
with_events name_of thread touches (event ∷ events) = with_events name_of thread (with_touched thread touches (name_of event)) events

-- and with those that these threads of a window touch
abbrev pub with_threads : (Event → Option (List ℕ)) → WindowForm → Touches → List ℕ → Touches
with_threads name_of window touches [] = touches
with_threads name_of window touches (thread ∷ threads) =
    with_threads name_of window (with_events name_of thread touches (segment_of window thread)) threads

-- and with the locks that are held
abbrev pub with_holdings : Touches → Holdings → Touches
with_holdings touches [] = touches
with_holdings touches (holding ∷ held) = with_holdings (with_touch touches holding.0.0 holding.0.1) held

-- the lock that an event uses, where it uses one
abbrev pub lock_used : Event → Option (List ℕ)
lock_used event = option_map lock_of (lock_use_of event)

-- the tables tell of each variable and each lock of a window whether another thread has to do with it
pub record TellsSharing (window : WindowForm) (variables locks : Touches) : Type 0 where
  pub accessed : (variable : List ℕ) (thread : ℕ) → is_beside thread (value_at (slice_cmp nat_cmp) variables variable) ≡ is_accessed_beside window variable thread
  pub used : (lock : List ℕ) (thread : ℕ) → is_beside thread (value_at (slice_cmp nat_cmp) locks lock) ≡ is_used_beside window lock thread

-- Schedules of several windows, one after another.
use Rattle.std.specs.Prelude.{ℕ, suc, ◌≡◌, ◌<◌, ◌++◌, List, [], ◌∷◌, Option, Some, None, length, map}
use Rattle.gp_window.specs.declared.schedule.EventId.{EventId}
use Rattle.gp_window.specs.RecordingForm.{IsRecording, RecordingForm}
use Rattle.gp_window.specs.Starts.{is_among}
use Rattle.gp_window.specs.WindowForm.{window_of}
use Rattle.gp_replay.specs.declared.state.State.{State}
use Rattle.gp_replay.specs.Feasible.{IsFeasible, Runs}
use Rattle.gp_replay.specs.Step.{count_of, start_state}
use Rattle.gp_whole.specs.Linked.{begun_again, Links}

-- the schedules happen in the windows from this number on, one each, the first from this state on; between two windows the
-- counts alone begin again
abbrev pub ReplaysFrom : RecordingForm → ℕ → State → List (List EventId) → Type 0
ReplaysFrom r k state [] = Unit {0}
ReplaysFrom r k state (ids ∷ more) =
    (last : State) × Runs (window_of r k) state ids last × ReplaysFrom r (suc k) (begun_again (window_of r (suc k)) last) more

-- a whole schedule, one schedule for each window from the first on, replays from the recording's very start
abbrev pub Replays : RecordingForm → List (List EventId) → Type 0
Replays r schedules = ReplaysFrom r 1 (start_state (window_of r 1)) schedules

-- each of the schedules links its window to the next, from the window of this number on
abbrev pub AllLink : RecordingForm → ℕ → List (List EventId) → Type 0
AllLink r k [] = Unit {0}
AllLink r k (ids ∷ more) = Links (window_of r k) (window_of r (suc k)) ids × AllLink r (suc k) more

-- schedules that link the first windows, followed by any feasible schedule of the window after them, replay from the
-- recording's very start
abbrev pub LinkedSchedulesReplay : Type 0
LinkedSchedulesReplay = (r : RecordingForm) (schedules : List (List EventId)) (ids : List EventId) → IsRecording r → length schedules < r.manifest.epochs
    → AllLink r 1 schedules → IsFeasible (window_of r (suc (length schedules))) ids → Replays r (schedules ++ ids ∷ [])

-- of the windows from this number on, each for which a schedule was found is linked by it to the next
abbrev pub EachLinks : RecordingForm → ℕ → List (Option (List EventId)) → Type 0
EachLinks r k [] = Unit {0}
EachLinks r k (Some ids ∷ more) = Links (window_of r k) (window_of r (suc k)) ids × EachLinks r (suc k) more
EachLinks r k (None ∷ more) = EachLinks r (suc k) more

-- where a schedule was found for each window before one, these schedules, followed by any feasible schedule of that window,
-- replay from the recording's very start
abbrev pub FoundSchedulesReplay : Type 0
FoundSchedulesReplay = (r : RecordingForm) (found rest : List (Option (List EventId))) (schedules : List (List EventId)) (ids : List EventId) → IsRecording r
    → suc (length found) ≡ r.manifest.epochs → EachLinks r 1 found → found ≡ map (λ schedule. Some schedule) schedules ++ rest
    → IsFeasible (window_of r (suc (length schedules))) ids → Replays r (schedules ++ ids ∷ [])

-- at a recording's very start nothing is done, no lock is held, and just the roots are started
pub record StartsOfRecordings : Type 0 where
  pub done : (r : RecordingForm) (thread : ℕ) → count_of (start_state (window_of r 1)) thread ≡ 0
  pub holders : (r : RecordingForm) → (start_state (window_of r 1)).holders ≡ []
  pub readers : (r : RecordingForm) → (start_state (window_of r 1)).readers ≡ []
  pub started : (r : RecordingForm) → IsRecording r → (thread : ℕ)
      → is_among (start_state (window_of r 1)).started thread ≡ is_among r.manifest.roots thread

-- A schedule is not replayed to its end by a rule of the step.
use Rattle.std.proofs.Common.{ℕ, ◌+◌, List, [], ◌∷◌, Result, Ok, Err}
use Rattle.gp_window.specs.declared.schedule.EventId.{EventId}
use Rattle.gp_window.specs.WindowForm.{WindowForm}
use Rattle.gp_replay.specs.declared.rule.Rule.{Rule}
use Rattle.gp_replay.specs.declared.state.State.{State}
use Rattle.gp_replay.specs.Feasible.{end_from, told_at}
use Rattle.gp_replay.specs.Step.{next, start_state}
use Rattle.gp_due.specs.Readers.{ReplaysWantNoMemory}
use Rattle.gp_due.specs.Saying.{OnlySays, ReplaySays}
use Rattle.gp_due.proofs.Results as of

told_says : (place : ℕ) (made : Result State Rule) → OnlySays ReplaySays (told_at place made)
told_says place (Ok state) = of.value
told_says place (Err rule) = of.fault tt

end_says : (window : WindowForm) (place : ℕ) (state : State) (ids : List EventId) → OnlySays ReplaySays (end_from window place state ids)
end_says window place state [] = of.value
end_says window place state (id ∷ ids) = of.in_turn (told_says place (next window state id)) (λ middle. end_says window (place + 1) middle ids)

pub replays_say : ReplaysWantNoMemory
replays_say window ids = end_says window 0 (start_state window) ids

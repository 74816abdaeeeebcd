use Rattle.std.proofs.Common.{◌≡◌, ◌∙◌, List}
use Rattle.std.proofs.lemmas.Result.{IfOk-weaker}
use Rattle.gp_window.specs.declared.schedule.EventId.{EventId}
use Rattle.gp_cycle.specs.Cycle.{cycle_events, events_behind}
use Rattle.gp_cycle.proofs.Linked.{last_told}
use Rattle.gp_cycle.proofs.events.cycle_events.Goals as goal

pub returns-in-Some : goal.returns-in-Some
returns-in-Some c =
    IfOk-weaker c.events_behind.result (λ (events : List EventId). events ≡ events_behind c.in-Some.last.now.other c.args.cycle.now)
    (λ (events : List EventId). events ≡ cycle_events c.args.cycle.now) (λ events is. is ∙ last_told c.args.cycle.now c.in-Some.last.now c.in-Some.ensures.value) c.events_behind.ensures

-- The events of a cycle are events of the window.
use Rattle.std.proofs.Common.{List, ◌<◌, get_or, length, subst, sym}
use Rattle.std.proofs.lemmas.List.Elements.{All-from_recursion, All-get_or}
use Rattle.gp_window.specs.declared.schedule.EventId.{EventId}
use Rattle.gp_constraint.specs.PointLaws.{IsEventOf}
use Rattle.gp_stuck.proofs.Events.{cycle_events}
use Rattle.gp_stuck.proofs.cycle_query.stuck_query.Goals as goal

pub push_stop-requires : goal.push_stop-requires
push_stop-requires c =
    let first : EventId = record { thread = 0; index = 0 } in
    let at : List EventId → EventId = λ ids. get_or ids c.loop-id.id-index first in
    let within = subst (λ (ids : List EventId). c.loop-id.id-index < length ids) c.as_slice-id-items.ensures c.loop-id-test.true in
    let there = All-from_recursion (IsEventOf c.args.encoded.now) c.args.cycle.now.events (cycle_events c.args.encoded.now c.args.cycle.now.events c.requires) in
    subst (λ (ids : List EventId). IsEventOf c.args.encoded.now (at ids)) (sym c.as_slice-id-items.ensures)
    (All-get_or (IsEventOf c.args.encoded.now) c.args.cycle.now.events c.loop-id.id-index first within there)

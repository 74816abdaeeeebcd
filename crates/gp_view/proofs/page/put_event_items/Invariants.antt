use Rattle.std.proofs.Common.{◌≡◌, ◌++◌, drop}
use Rattle.std.specs.List.{flat_map}
use Rattle.gp_view.specs.Page.{event_item}
use Rattle.gp_view.proofs.page.put_event_items.Given as goal

abbrev pub invariant-loop-id : goal.invariant-loop-id
invariant-loop-id l = l.text.items ++ flat_map (event_item l.places l.window) (drop l.id-index l.events) ≡ l.initial.text.items ++ flat_map (event_item l.places l.window) l.events

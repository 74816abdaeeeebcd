-- A property that is begun has a name, and no events yet.
use Rattle.std.proofs.Common.{◌≡◌}
use Rattle.std.specs.Prelude.{Some}
use Rattle.gp_property.specs.Reading.{property_name_of}
use Rattle.gp_property.proofs.Drafts.{name_from, no_events}
use Rattle.gp_property.proofs.reading.begin.Goals as goal

pub invariant_of-result : goal.invariant_of-result
invariant_of-result c =
    let read : property_name_of c.args.words.now ≡ Some c.in-Some.name = cc in
    rw c.new-events.ensures (no_events c.in-Some.name (name_from c.args.words.now c.in-Some.name read).1)

use Rattle.std.proofs.Common.{◌≡◌, ◌++◌, flat_map, drop}
use Rattle.gp_bridge_rows.specs.Ends.{executed_in}
use Rattle.gp_bridge_rows.proofs.giving.query_of.Given as goal

abbrev pub invariant-loop-id : goal.invariant-loop-id
invariant-loop-id l =
    l.assumed ++ flat_map (executed_in l.encoded) (drop l.id-index l.ids) ≡ flat_map (executed_in l.encoded) l.ids

use Rattle.std.proofs.Common.{◌+◌, drop, rules, arith}
use Rattle.std.proofs.lemmas.Grind.{common_steps}
use Rattle.gp_beside.specs.Sightings.{sightings_of}
use Rattle.gp_beside.proofs.Sighted.{one_more}
use Rattle.gp_beside.proofs.sightings.sightings_of.Goals as goal

pub loop-line-preserved : goal.loop-line-preserved
loop-line-preserved c =
    rw c.in_ok-push-in-Some.ensures.ok
    (one_more c.loop-line.sightings c.in-Some.sighting c.line-item.result (drop (c.loop-line.line-index + 1) c.args.lines.now) (sightings_of c.args.lines.now)
    (search rules) (grind (arith, common_steps)))

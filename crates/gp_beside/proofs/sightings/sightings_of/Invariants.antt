-- The sightings so far, and then those of the lines that are left, are those of all lines.
use Rattle.std.proofs.Common.{◌≡◌, drop}
use Rattle.gp_base.specs.Results.{with_prefix}
use Rattle.gp_beside.specs.Sightings.{sightings_of}
use Rattle.gp_beside.proofs.sightings.sightings_of.Given as goal

abbrev pub invariant-loop-line : goal.invariant-loop-line
invariant-loop-line l = with_prefix l.sightings (sightings_of (drop l.line-index l.lines)) ≡ sightings_of l.lines

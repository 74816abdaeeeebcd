-- The places so far, and then those of the lines that are left, are all.
use Rattle.std.proofs.Common.{◌≡◌, ◌++◌, drop, map}
use Rattle.gp_beside.specs.Sources.{place_of}
use Rattle.gp_beside.proofs.sources.places_among.Given as goal

abbrev pub invariant-loop-line : goal.invariant-loop-line
invariant-loop-line l = l.places ++ map (place_of l.names l.sources) (drop l.line-index l.lines) ≡ map (place_of l.names l.sources) l.lines

use Rattle.std.proofs.Common.{◌≡◌, ◌++◌, drop}
use Rattle.std.specs.Prelude.{flat_map}
use Rattle.gp_reason.specs.Draft.{place_at}
use Rattle.gp_reason.specs.Reasons.{ground_of}
use Rattle.gp_reason.proofs.steps.cited.Given as goal

abbrev pub invariant-loop-hint : goal.invariant-loop-hint
invariant-loop-hint l =
    l.grounds ++ flat_map (ground_of l.vocabulary.window l.vocabulary.names (place_at l.places)) (drop l.hint-index l.hints)
    ≡ flat_map (ground_of l.vocabulary.window l.vocabulary.names (place_at l.places)) l.hints

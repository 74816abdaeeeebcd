use Rattle.gp_replay.specs.PartLaws.{prefix_from_start}
use Rattle.gp_replay.proofs.laws.parts_are_prefixes.Goals as goal

pub returns : goal.returns
returns c = λ window ids last r thread. prefix_from_start window last ids thread r

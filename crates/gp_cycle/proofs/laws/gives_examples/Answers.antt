use Rattle.std.proofs.Common.{refl}
use Rattle.gp_cycle.proofs.laws.gives_examples.Goals as goal

pub returns : goal.returns
returns c = record { in_turn = refl; twice = refl; none_open = refl; shortest_way = refl; events = refl; round = refl; no_way = refl }

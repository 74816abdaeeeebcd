use Rattle.gp_cut.proofs.Middles.{first_behind, last_before}
use Rattle.gp_cut.proofs.laws.parts_are_even.Goals as goal

pub returns : goal.returns
returns c = record { before = last_before; behind = first_behind }

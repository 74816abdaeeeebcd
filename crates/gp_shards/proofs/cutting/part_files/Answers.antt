-- The files of the windows, and behind them the properties and which part it is.
use Rattle.std.proofs.Common.{refl}
use Rattle.gp_shards.proofs.cutting.part_files.Goals as goal

pub returns : goal.returns
returns c = rw (c.in_ok-add_files.ensures, c.in_ok-files.ensures, c.in_ok-text.ensures.text) refl

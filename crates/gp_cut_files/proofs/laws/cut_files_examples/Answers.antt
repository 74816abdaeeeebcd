use Rattle.std.proofs.Common.{refl}
use Rattle.std.specs.Fmt.{digits}
use Rattle.gp_cut_files.proofs.laws.cut_files_examples.Goals as goal

pub returns : goal.returns
unfolding digits
returns c = record { files = refl }

use Rattle.gp_files.proofs.Apart.{files_apart}
use Rattle.gp_files.proofs.Paths.{same_file}
use Rattle.gp_files.proofs.naming.names_tell_apart.Goals as goal

pub returns : goal.returns
returns c = record { paths = same_file; files = files_apart }

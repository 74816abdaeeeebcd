use Rattle.gp_cut_files.proofs.ManifestAgain.{manifest_again}
use Rattle.gp_cut_files.proofs.laws.manifests_read_again.Goals as goal

pub returns : goal.returns
returns c = manifest_again c.plain_words.ensures c.reads_again.ensures c.manifests_are_spelled.ensures

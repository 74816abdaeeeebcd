use Rattle.gp_window.proofs.ManifestGrammar.{read_is_spelled, spelled_is_read}
use Rattle.gp_window.proofs.laws.manifests_are_spelled.Goals as goal

pub returns : goal.returns
returns c = λ last lines m. (read_is_spelled c.one_spelling.ensures last lines m, spelled_is_read c.one_spelling.ensures last lines m)

use Rattle.gp_words.proofs.WordForms.{words_are_read_lem}
use Rattle.gp_words.proofs.forms.words_are_read.Goals as goal

pub returns : goal.returns
returns c = words_are_read_lem

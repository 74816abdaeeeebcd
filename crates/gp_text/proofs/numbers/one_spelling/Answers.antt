use Rattle.gp_text.proofs.OneSpelling.{one_spelling_lem}
use Rattle.gp_text.proofs.numbers.one_spelling.Goals as goal

pub returns : goal.returns
returns c = one_spelling_lem

use Rattle.gp_text.proofs.PlainWords.{plain_words_lem}
use Rattle.gp_text.proofs.spelling.plain_words.Goals as goal

pub returns : goal.returns
returns c = plain_words_lem

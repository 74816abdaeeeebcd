use Rattle.gp_words.proofs.Permuted.{any_order_lem}
use Rattle.gp_words.proofs.order.words_in_any_order.Goals as goal

pub returns : goal.returns
returns c = any_order_lem

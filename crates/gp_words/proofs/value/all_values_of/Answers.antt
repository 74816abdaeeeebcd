use Rattle.std.proofs.Common.{◌∙◌, string_bytes, Global}
use Rattle.gp_words.proofs.Collected.{collects}
use Rattle.gp_words.proofs.Walks.{at_word}
use Rattle.gp_words.proofs.value.all_values_of.Goals as goal

pub loop-word-preserved : goal.loop-word-preserved
loop-word-preserved c =
    let here = at_word (string_bytes {Z = Global}) c.args.words.now c.loop-word.word-index c.word-item.result c.as_str.result.now c.loop-word-test.true c.word-item.is c.as_str.ensures.value in
    collects _ _ _ _ _ _ _ _ _ here c.in-Some.ensures c.in_ok-add_value.ensures ∙ c.loop-word.invariant

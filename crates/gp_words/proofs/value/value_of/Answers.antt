use Rattle.std.proofs.Common.{◌∙◌, string_bytes, Global}
use Rattle.gp_words.proofs.Walks.{at_word, goes_on, refused_value, refused_word}
use Rattle.gp_words.proofs.value.value_of.Goals as goal

pub loop-word-preserved : goal.loop-word-preserved
loop-word-preserved c =
    let here = at_word (string_bytes {Z = Global}) c.args.words.now c.loop-word.word-index c.word-item.result c.as_str.result.now c.loop-word-test.true c.word-item.is c.as_str.ensures.value in
    goes_on _ _ _ _ _ _ _ _ _ here c.in_ok-reading.ensures c.in_ok-value.ensures ∙ c.loop-word.invariant

pub returns-in_err-reading : goal.returns-in_err-reading
returns-in_err-reading c =
    let here = at_word (string_bytes {Z = Global}) c.args.words.now c.loop-word.word-index c.word-item.result c.as_str.result.now c.loop-word-test.true c.word-item.is c.as_str.ensures.value in
    rw c.from_residual.ensures (refused_word _ _ _ _ _ _ _ here c.in_err-reading.ensures ∙ c.loop-word.invariant)

pub returns-in_err-value : goal.returns-in_err-value
returns-in_err-value c =
    let here = at_word (string_bytes {Z = Global}) c.args.words.now c.loop-word.word-index c.word-item.result c.as_str.result.now c.loop-word-test.true c.word-item.is c.as_str.ensures.value in
    rw c.from_residual-in_err-value.ensures (refused_value _ _ _ _ _ _ _ _ here c.in_ok-reading.ensures c.in_err-value.ensures ∙ c.loop-word.invariant)

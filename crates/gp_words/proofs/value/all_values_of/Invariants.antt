use Rattle.std.proofs.Common.{◌≡◌, map, string_bytes, drop}
use Rattle.gp_words.specs.Value.{all_values_of, lent_texts}
use Rattle.gp_words.proofs.Collected.{values_from}
use Rattle.gp_words.proofs.value.all_values_of.Given as goal

-- the walk over what is left, from here, is the walk over all
abbrev pub invariant-loop-word : goal.invariant-loop-word
invariant-loop-word l =
    values_from l.fn.program l.fn.argument (lent_texts l.values) l.expected (map string_bytes (drop l.word-index l.words))
    ≡ all_values_of l.fn.program l.fn.argument (map string_bytes l.words)

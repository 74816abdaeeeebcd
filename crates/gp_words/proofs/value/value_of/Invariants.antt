use Rattle.std.proofs.Common.{◌≡◌, map, option_map, string_bytes, drop}
use Rattle.std.specs.Prelude.{None}
use Rattle.gp_words.proofs.Walks.{value_from}
use Rattle.gp_words.specs.declared.reading.Expected.TheVariants.{AnyWord}
use Rattle.gp_words.proofs.value.value_of.Given as goal

-- the walk over what is left, from here, is the walk over all
abbrev pub invariant-loop-word : goal.invariant-loop-word
invariant-loop-word l =
    value_from l.fn.program l.fn.argument (option_map (λ value. value.now) l.value) l.expected (map string_bytes (drop l.word-index l.words))
    ≡ value_from l.fn.program l.fn.argument None AnyWord (map string_bytes l.words)

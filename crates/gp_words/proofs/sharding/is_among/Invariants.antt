use Rattle.std.proofs.Common.{◌≡◌, drop}
use Rattle.std.specs.List.{list_any}
use Rattle.std.specs.Str.{bytes_eq}
use Rattle.gp_words.specs.Value.{lent_texts}
use Rattle.gp_words.proofs.sharding.is_among.Given as goal

-- the name is among those that are left where it is among all
abbrev pub invariant-loop-other : goal.invariant-loop-other
invariant-loop-other l = list_any (bytes_eq l.name) (lent_texts (drop l.other-index l.others)) ≡ list_any (bytes_eq l.name) (lent_texts l.others)

use Rattle.std.proofs.Common.{◌≡◌, drop}
use Rattle.gp_base.specs.Results.{some_prefix}
use Rattle.gp_property.specs.Term.{terms_of}
use Rattle.gp_property.proofs.term.terms_of.Given as goal

abbrev pub invariant-loop-word : goal.invariant-loop-word
invariant-loop-word l = some_prefix l.terms (terms_of (drop l.word-index l.words)) ≡ terms_of l.words

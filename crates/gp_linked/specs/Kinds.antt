-- The kinds of answers.
use Rattle.std.specs.Prelude.{Bool, true, false}
use Rattle.gp_linked.specs.declared.answer.LinkAnswer.{LinkAnswer}
use Rattle.gp_linked.specs.declared.answer.LinkAnswer.TheVariants.{Linked, Unlinkable, Undecided, TooLarge}

-- whether an answer is a schedule
abbrev pub is_linked : LinkAnswer → Bool
is_linked (Linked schedule) = true
is_linked _ = false

-- whether an answer is a certificate
abbrev pub is_unlinkable : LinkAnswer → Bool
is_unlinkable (Unlinkable certificate) = true
is_unlinkable _ = false

-- whether an answer is a spent budget
abbrev pub is_undecided : LinkAnswer → Bool
is_undecided (Undecided log from to) = true
is_undecided _ = false

-- whether an answer is that there are too many events or clauses
abbrev pub is_too_large : LinkAnswer → Bool
is_too_large (TooLarge events clauses) = true
is_too_large _ = false

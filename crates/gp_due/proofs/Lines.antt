-- A text is no lines by a fault of the text.
use Rattle.std.proofs.Common.{ℕ, ◌+◌, List, [], ◌∷◌, length, nat_lt}
use Rattle.std.specs.List.{list_any}
use Rattle.gp_text.specs.Lines.{at_end, check_from, check_of, is_strange, parts_of}
use Rattle.gp_due.specs.Readers.{LinesWantNoMemory}
use Rattle.gp_due.specs.Saying.{OnlySays, TextSays}
use Rattle.gp_due.proofs.Results as of

check_says : (n : ℕ) (line : List ℕ) → OnlySays TextSays (check_of n line)
check_says n line = of.either (list_any is_strange line) (of.fault tt) (of.either (nat_lt 4096 (length line)) (of.fault tt) of.value)

end_says : (n : ℕ) (line : List ℕ) → OnlySays TextSays (at_end n line)
end_says n [] = of.value
end_says n (b ∷ bytes) = of.fault tt

checks_say : (n : ℕ) (parts : List (List ℕ)) → OnlySays TextSays (check_from n parts)
checks_say n [] = of.value
checks_say n (part ∷ []) = of.in_turn (check_says n part) (λ u. end_says n part)
checks_say n (part ∷ next ∷ more) = of.in_turn (check_says n part) (λ u. checks_say (n + 1) (next ∷ more))

pub lines_say : LinesWantNoMemory
lines_say bytes = of.in_turn (checks_say 1 (parts_of bytes)) (λ u. of.value)

-- What is due to the program that cuts recordings and merges reports is never the answer without a text.
use Rattle.std.specs.Prelude.{ℕ, ◌≡◌, List, Option, Some}
use Rattle.gp_outside.specs.Folders.{File}
use Rattle.gp_predict.specs.Refusal.{never_due}
use Rattle.gp_predict.specs.Telling.{of_reply}
use Rattle.gp_predict.specs.Told.{IsDone, Told}
use Rattle.gp_shards.specs.Due.{Expected, Means, due_answer}

-- whatever the words and whichever files are told, where something is due that answer may not be told
abbrev pub ShardsNeverDue : Type 0
ShardsNeverDue =
    (words : List (List ℕ)) (told : Option (List File)) (due : Expected) → due_answer words told ≡ Some due → ¬ (Means due (of_reply never_due))

-- what may be told where something is due has a status of 0 to 3, or 7
abbrev pub ShardsAreDone : Type 0
ShardsAreDone =
    (words : List (List ℕ)) (told : Option (List File)) (due : Expected) (own : Told) → due_answer words told ≡ Some due → Means due own → IsDone own.status

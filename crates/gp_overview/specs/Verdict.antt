-- The verdict on a report, as a line of phrases with a space between two of them.
use Rattle.std.specs.Prelude.{ℕ, List, [], ◌∷◌, ◌++◌, codes, decimal, length}
use Rattle.gp_checker.specs.declared.failure.Checked.{Checked}
use Rattle.gp_checker.specs.declared.failure.Checked.TheVariants.{Accepted, Rejected}
use Rattle.gp_checker.specs.declared.failure.Failure.{Failure}
use Rattle.gp_checker.specs.declared.failure.Reason.{Reason}
use Rattle.gp_checker.specs.declared.failure.Reason.TheVariants.{WindowCount, WrongSize, WrongProperty, WrongEvents, Stuck, Unmatched, BadStep, Unrefuted, WrongBudget, BadSharedStep}
use Rattle.gp_report.specs.Entries.{entries_of}
use Rattle.gp_report.specs.Records.{WindowRecord}

-- why a report is rejected, with the place where the reason has one
abbrev pub reason_words : Reason → ℕ → List (List ℕ)
reason_words WindowCount place = codes "the report has not as many windows as the recording" ∷ []
reason_words WrongSize place = codes "it is told as too large and is not, or the reverse, or with other numbers" ∷ []
reason_words WrongProperty place = codes "it is missing or surplus, has another name, or has not an entry for each of its instances" ∷ []
reason_words WrongEvents place = codes "its events are not those of the instance" ∷ []
reason_words Stuck place = codes "its schedule cannot go on at place" ∷ decimal place ∷ []
reason_words Unmatched place = codes "its schedule can happen and does not show it" ∷ []
reason_words BadStep place = codes "its certificate does not follow at step" ∷ decimal place ∷ []
reason_words Unrefuted place = codes "its certificate ends in no contradiction" ∷ []
reason_words WrongBudget place = codes "it is undecided with another budget than the report has" ∷ []
reason_words BadSharedStep place = codes "its shared steps do not follow at step" ∷ decimal place ∷ []

-- at which window
abbrev pub window_words : Failure → List (List ℕ)
window_words failure = codes "window" ∷ decimal failure.window ∷ []

-- at which property of it
abbrev pub property_words : Failure → List (List ℕ)
property_words failure = window_words failure ++ codes "property" ∷ decimal failure.property ∷ []

-- at which instance of that
abbrev pub instance_words : Failure → List (List ℕ)
instance_words failure = property_words failure ++ codes "instance" ∷ decimal failure.instance ∷ []

-- at what a report fails that fails by this reason: a window, a property or an instance
abbrev pub place_words : Reason → Failure → List (List ℕ)
place_words WindowCount failure = window_words failure
place_words WrongSize failure = window_words failure
place_words BadSharedStep failure = window_words failure
place_words WrongProperty failure = property_words failure
place_words WrongEvents failure = instance_words failure
place_words Stuck failure = instance_words failure
place_words Unmatched failure = instance_words failure
place_words BadStep failure = instance_words failure
place_words Unrefuted failure = instance_words failure
place_words WrongBudget failure = instance_words failure

-- the report is rejected by this failure
abbrev pub rejected_words : Failure → List (List ℕ)
rejected_words failure =
    codes "the report is rejected at" ∷ (place_words failure.reason failure ++ codes "since" ∷ reason_words failure.reason failure.place)

-- the verdict on a report of these windows
abbrev pub verdict_words : List WindowRecord → Checked → List (List ℕ)
verdict_words windows Accepted = codes "the report is accepted, answers:" ∷ decimal (length (entries_of windows)) ∷ []
verdict_words windows (Rejected failure) = rejected_words failure

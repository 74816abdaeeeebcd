-- The verdict on a report and how often each property is found, impossible and undecided, as members of an object.
use Rattle.std.specs.Prelude.{ℕ, List, [], ◌∷◌, codes, length, map, true, false}
use Rattle.gp_checker.specs.declared.failure.Checked.{Checked}
use Rattle.gp_checker.specs.declared.failure.Checked.TheVariants.{Accepted, Rejected}
use Rattle.gp_checker.specs.declared.failure.Failure.{Failure}
use Rattle.gp_checker.specs.declared.failure.Reason.{Reason}
use Rattle.gp_checker.specs.declared.failure.Reason.TheVariants.{WindowCount, WrongSize, WrongProperty, BadSharedStep}
use Rattle.gp_json.specs.Json.{Json, Named, array, named, object}
use Rattle.gp_json.specs.Json.Json.{Flag, Null, Number, Text}
use Rattle.gp_overview.specs.Counts.{counts_of, total_of}
use Rattle.gp_overview.specs.Verdict.{reason_words}
use Rattle.gp_overview.specs.declared.counts.Counts.{Counts}
use Rattle.gp_property.specs.PropertyForm.{PropertyForm}
use Rattle.gp_report.specs.Entries.{entries_of}
use Rattle.gp_report.specs.Records.{WindowRecord}
use Rattle.gp_text.specs.Spelling.{joined}

-- at which property of its window a report fails that fails by this reason: some fail at a window as a whole
abbrev pub failed_property : Reason → Failure → Json
failed_property WindowCount failure = Null
failed_property WrongSize failure = Null
failed_property BadSharedStep failure = Null
failed_property reason failure = Number failure.property

-- at which instance of that property: others fail at a property as a whole
abbrev pub failed_instance : Reason → Failure → Json
failed_instance WindowCount failure = Null
failed_instance WrongSize failure = Null
failed_instance BadSharedStep failure = Null
failed_instance WrongProperty failure = Null
failed_instance reason failure = Number failure.instance

-- why it fails there
abbrev pub why_value : Reason → ℕ → Json
why_value reason place = Text (joined (reason_words reason place))

-- at what a report fails, and why
unfoldable pub failure_value : Failure → Json
failure_value failure = object (
    named (codes "window") (Number failure.window)
    ∷ named (codes "property") (failed_property failure.reason failure)
    ∷ named (codes "instance") (failed_instance failure.reason failure)
    ∷ named (codes "reason") (why_value failure.reason failure.place) ∷ [])

-- a report with so many answers is accepted
abbrev pub accepted_members : ℕ → List Named
accepted_members answers =
    named (codes "accepted") (Flag true) ∷ named (codes "answers") (Number answers) ∷ named (codes "failure") Null ∷ []

-- a report is rejected by this failure
abbrev pub rejected_members : Failure → List Named
rejected_members failure =
    named (codes "accepted") (Flag false) ∷ named (codes "answers") Null ∷ named (codes "failure") (failure_value failure) ∷ []

-- the verdict on a report of these windows
abbrev pub verdict_members : List WindowRecord → Checked → List Named
verdict_members windows Accepted = accepted_members (length (entries_of windows))
verdict_members windows (Rejected failure) = rejected_members failure

-- how often a report has which answer
unfoldable pub counts_value : Counts → Json
counts_value counts = object (
    named (codes "found") (Number counts.found)
    ∷ named (codes "impossible") (Number counts.impossible)
    ∷ named (codes "undecided") (Number counts.undecided)
    ∷ named (codes "too_many") (Number counts.too_many)
    ∷ named (codes "too_large") (Number counts.too_large) ∷ [])

-- a property of this name
unfoldable pub counted_value : List ℕ → Counts → Json
counted_value name counts = object (named (codes "name") (Text name) ∷ named (codes "counts") (counts_value counts) ∷ [])

-- a property of a report of these windows
abbrev pub property_value : List WindowRecord → PropertyForm → Json
property_value windows property = counted_value property.name (counts_of windows property.name)

-- how often a report of these windows has which answer: of each of these properties, and of all
abbrev pub count_members : List PropertyForm → List WindowRecord → List Named
count_members properties windows =
    named (codes "properties") (array (map (property_value windows) properties))
    ∷ named (codes "all") (counts_value (total_of windows)) ∷ []

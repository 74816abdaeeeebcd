-- A report as a log of one run: a rule for each property, the verdict and what is left out as notifications, and the findings as results; and
-- the pieces of its text, which are written one after another.
use Rattle.std.specs.Prelude.{◌≡◌, ℕ, Bool, true, false, List, [], ◌∷◌, ◌++◌, codes, map}
use Rattle.gp_beside.specs.Refusal.{fault_words}
use Rattle.gp_beside.specs.declared.fault.NoteFault.{NoteFault}
use Rattle.gp_checker.specs.declared.failure.Checked.{Checked}
use Rattle.gp_checker.specs.declared.failure.Checked.TheVariants.{Accepted, Rejected}
use Rattle.gp_json.specs.Json.{Json, Named, array, elements_of, elements_text, json_text, members_of, members_text, name_text, named, object}
use Rattle.gp_json.specs.Json.Json.{Flag, Number, Text}
use Rattle.gp_overview.specs.Verdict.{verdict_words}
use Rattle.gp_property.specs.PropertyForm.{PropertyForm}
use Rattle.gp_report.specs.Records.{WindowRecord}
use Rattle.gp_text.specs.Spelling.{joined}
use Rattle.gp_sarif.specs.Locations.{message_value}

-- the rule of a property
unfoldable pub rule_value : PropertyForm → Json
rule_value property = object (named (codes "id") (Text property.name) ∷ [])

-- the program, and its rules
unfoldable pub tool_value : List PropertyForm → Json
tool_value properties = object (
    named (codes "driver") (object (
    named (codes "name") (Text (codes "gpshow"))
    ∷ named (codes "rules") (array (map rule_value properties)) ∷ [])) ∷ [])

-- what is told of a run at this level
unfoldable pub notification_value : List ℕ → List ℕ → Json
notification_value level words = object (named (codes "level") (Text level) ∷ named (codes "message") (message_value words) ∷ [])

-- whether a report is accepted
abbrev pub is_accepted : Checked → Bool
is_accepted Accepted = true
is_accepted (Rejected failure) = false

-- at which level its verdict is told
abbrev pub verdict_level : Checked → List ℕ
verdict_level Accepted = codes "note"
verdict_level (Rejected failure) = codes "error"

-- the verdict on a report of these windows
abbrev pub verdict_value : List WindowRecord → Checked → Json
verdict_value windows checked = notification_value (verdict_level checked) (joined (verdict_words windows checked))

-- that a file beside the report is left out
abbrev pub fault_value : NoteFault → Json
fault_value fault = notification_value (codes "warning") (joined (fault_words fault))

-- how a run went: the verdict, and which files are left out
abbrev pub invocation_value : List WindowRecord → Checked → List NoteFault → Json
invocation_value windows checked faults = object (
    named (codes "executionSuccessful") (Flag (is_accepted checked))
    ∷ named (codes "toolExecutionNotifications") (array (verdict_value windows checked ∷ map fault_value faults)) ∷ [])

-- how many findings are shown, and how many there are
unfoldable pub count_value : ℕ → ℕ → Json
count_value shown asked = object (named (codes "shown") (Number shown) ∷ named (codes "asked") (Number asked) ∷ [])

abbrev pub counted_members : ℕ → ℕ → List Named
counted_members shown asked = named (codes "properties") (count_value shown asked) ∷ []

-- a run with these results
abbrev pub run_value : List PropertyForm → List WindowRecord → Checked → List NoteFault → List Json → List Named → Json
run_value properties windows checked faults results counted = object (
    named (codes "tool") (tool_value properties)
    ∷ named (codes "invocations") (array (invocation_value windows checked faults ∷ []))
    ∷ named (codes "results") (array results)
    ∷ counted)

-- which format it is
abbrev pub format_members : List Named
format_members =
    named (codes "$schema") (Text (codes "https://json.schemastore.org/sarif-2.1.0.json")) ∷ named (codes "version") (Text (codes "2.1.0")) ∷ []

-- a log of one run
abbrev pub log_value : Json → Json
log_value run = object (format_members ++ named (codes "runs") (array (run ∷ [])) ∷ [])

-- the head of its text, up to the run
unfoldable pub format_begun : List ℕ
format_begun = codes "{" ++ members_text 0 (members_of format_members) ++ codes "," ++ name_text (codes "runs") ++ codes "[{"

-- how the run went, up to its notifications
unfoldable pub invocation_begun : Checked → List ℕ
invocation_begun checked =
    codes "," ++ name_text (codes "invocations") ++ codes "[{"
    ++ members_text 0 (members_of (named (codes "executionSuccessful") (Flag (is_accepted checked)) ∷ []))
    ++ codes "," ++ name_text (codes "toolExecutionNotifications") ++ codes "["

-- the head: the format, the rules and the verdict
unfoldable pub log_begun : List PropertyForm → List WindowRecord → Checked → List ℕ
log_begun properties windows checked =
    format_begun ++ members_text 0 (members_of (named (codes "tool") (tool_value properties) ∷ []))
    ++ invocation_begun checked ++ json_text (verdict_value windows checked)

-- which files are left out, and the bracket that opens the results
unfoldable pub results_begun : List NoteFault → List ℕ
results_begun faults = elements_text 1 (elements_of (map fault_value faults)) ++ codes "]}]" ++ codes "," ++ name_text (codes "results") ++ codes "["

-- the bracket that closes them, and how many they are
unfoldable pub results_ended : List Named → List ℕ
results_ended counted = codes "]" ++ members_text 3 (members_of counted)

-- the end of it
abbrev pub log_ended : List ℕ
log_ended = codes "}]}\n"

-- the pieces are the text of the value, and a newline
abbrev pub PiecesAreTheLog : Type 0
PiecesAreTheLog =
    (properties : List PropertyForm) (windows : List WindowRecord) (checked : Checked) (faults : List NoteFault) (results : List Json) (counted : List Named)
    → (log_begun properties windows checked ++ results_begun faults) ++ (elements_text 0 (elements_of results) ++ results_ended counted) ++ log_ended
    ≡ json_text (log_value (run_value properties windows checked faults results counted)) ++ codes "\n"

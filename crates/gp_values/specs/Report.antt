-- A report as a value: the verdict, how often each property has which answer, what is left out, and the instances that are shown; and the pieces of
-- its text, which are written one after another.
use Rattle.std.specs.Prelude.{◌≡◌, ℕ, List, [], ◌∷◌, ◌++◌, codes, map}
use Rattle.gp_beside.specs.Refusal.{fault_words}
use Rattle.gp_beside.specs.declared.fault.NoteFault.{NoteFault}
use Rattle.gp_checker.specs.declared.failure.Checked.{Checked}
use Rattle.gp_json.specs.Json.{Json, Named, array, comma, elements_of, elements_text, json_text, members_of, members_text, name_text, named, object}
use Rattle.gp_json.specs.Json.Json.{Null, Number, Text}
use Rattle.gp_property.specs.PropertyForm.{PropertyForm}
use Rattle.gp_report.specs.Records.{WindowRecord}
use Rattle.gp_text.specs.Spelling.{joined}
use Rattle.gp_values.specs.Overview.{count_members, verdict_members}

-- the format, the verdict, and how often each property has which answer
abbrev pub overview_members : List PropertyForm → List WindowRecord → Checked → List Named
overview_members properties windows checked =
    named (codes "format") (Text (codes "gpshow 1")) ∷ (verdict_members windows checked ++ count_members properties windows)

-- that a file beside the report is left out
abbrev pub fault_value : NoteFault → Json
fault_value fault = Text (joined (fault_words fault))

-- which files are left out
abbrev pub left_out_member : List NoteFault → Named
left_out_member faults = named (codes "left_out") (array (map fault_value faults))

-- how many instances are shown, and how many are asked for
abbrev pub counted_members : ℕ → ℕ → List Named
counted_members shown asked = named (codes "shown") (Number shown) ∷ named (codes "asked") (Number asked) ∷ []

-- the same where no instance is shown, since the report is rejected
abbrev pub uncounted_members : List Named
uncounted_members = named (codes "shown") Null ∷ named (codes "asked") Null ∷ []

-- a report of which these instances are shown
abbrev pub report_value : List Named → List NoteFault → List Json → List Named → Json
report_value overview faults instances counted =
    object (overview ++ left_out_member faults ∷ named (codes "instances") (array instances) ∷ counted)

-- the head of its text
unfoldable pub overview_begun : List PropertyForm → List WindowRecord → Checked → List ℕ
overview_begun properties windows checked = codes "{" ++ members_text 0 (members_of (overview_members properties windows checked))

-- which files are left out, and the bracket that opens the instances
unfoldable pub instances_begun : List NoteFault → List ℕ
instances_begun faults = members_text 6 (members_of (left_out_member faults ∷ [])) ++ comma 7 ++ name_text (codes "instances") ++ codes "["

-- the bracket that closes them, and how many they are
unfoldable pub instances_ended : List Named → List ℕ
instances_ended counted = codes "]" ++ members_text 8 (members_of counted)

-- the end of it
abbrev pub report_ended : List ℕ
report_ended = codes "}\n"

-- the pieces are the text of the value, and a newline
abbrev pub PiecesAreTheValue : Type 0
PiecesAreTheValue =
    (properties : List PropertyForm) (windows : List WindowRecord) (checked : Checked) (faults : List NoteFault) (instances : List Json) (counted : List Named)
    → (overview_begun properties windows checked ++ instances_begun faults) ++ (elements_text 0 (elements_of instances) ++ instances_ended counted) ++ report_ended
    ≡ json_text (report_value (overview_members properties windows checked) faults instances counted) ++ codes "\n"

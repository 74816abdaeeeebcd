-- The instances of a report, in order: window by window, property by property.
use Rattle.std.specs.Prelude.{ℕ, ◌+◌, List, [], ◌∷◌, ◌++◌, Result, Ok, Err}
use Rattle.gp_certificate.specs.declared.step.Step.{Step}
use Rattle.gp_constraint.specs.Encoded.{base_due}
use Rattle.gp_constraint.specs.declared.fault.BaseFault.{BaseFault}
use Rattle.gp_property.specs.PropertyForm.{PropertyForm}
use Rattle.gp_report.specs.Entries.{entries_in, properties_in}
use Rattle.gp_report.specs.Records.{Entry, PropertyRecord, WindowRecord}
use Rattle.gp_view.specs.Answered.{AnsweredForm}
use Rattle.gp_window.specs.WindowForm.{WindowForm}

-- the instances of a property that have these entries, numbered from this number on
abbrev pub answers_from : WindowForm → List Step → PropertyForm → ℕ → List Entry → List AnsweredForm
answers_from window shared property number [] = []
answers_from window shared property number (entry ∷ entries) =
    record { window = window; shared = shared; property = property; number = number; entry = entry }
    ∷ answers_from window shared property (number + 1) entries

-- the instances of properties that have these records
abbrev pub answers_among : WindowForm → List Step → List PropertyForm → List PropertyRecord → List AnsweredForm
answers_among window shared [] records = []
answers_among window shared (property ∷ properties) [] = []
answers_among window shared (property ∷ properties) (told ∷ records) =
    answers_from window shared property 0 (entries_in told.body) ++ answers_among window shared properties records

-- the instances of a window with this record, by what its base is: none where it is too large
abbrev pub answers_over : List PropertyForm → WindowRecord → Result WindowForm BaseFault → List AnsweredForm
answers_over properties told (Ok window) = answers_among window told.shared properties (properties_in told.body)
answers_over properties told (Err fault) = []

abbrev pub answers_in : List PropertyForm → WindowForm → WindowRecord → List AnsweredForm
answers_in properties window told = answers_over properties told (base_due window)

-- the instances of windows that have these records
abbrev pub answers_of : List PropertyForm → List WindowForm → List WindowRecord → List AnsweredForm
answers_of properties [] records = []
answers_of properties (window ∷ windows) [] = []
answers_of properties (window ∷ windows) (told ∷ records) = answers_in properties window told ++ answers_of properties windows records

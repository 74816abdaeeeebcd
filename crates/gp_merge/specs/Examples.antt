-- The reports of three parts of a recording of three windows, and what is merged of them.
use Rattle.std.specs.Prelude.{◌≡◌, ℕ, List, [], ◌∷◌}
use Rattle.gp_report.specs.Records.{WindowBody, WindowRecord}
use Rattle.gp_report.specs.declared.record.AnswerOf.TheVariants.{Undecided}
use Rattle.gp_report.specs.declared.record.PropertyBodyOf.TheVariants.{Entries, TooMany}
use Rattle.gp_report.specs.declared.record.WindowBodyOf.TheVariants.{TooLarge, Answers}
use Rattle.gp_merge.specs.declared.merging.PartReport.{PartReport}
use Rattle.gp_merge.specs.Merge.{AreInRow, merged}

abbrev told : ℕ → WindowBody → WindowRecord
told number body = record { number = number; shared = []; body = body; records = [] }

abbrev part_report : ℕ → ℕ → List WindowRecord → PartReport
part_report before count windows = record {
  part = record { before = before; count = count };
  report = record { format = 2; budget = 5; windows = windows };
}

-- the property
abbrev p : List ℕ
p = 112 ∷ []

-- what is told of a window: that the property has no instance, one that is undecided, or too many
abbrev no_instance : WindowBody
no_instance = Answers (record { name = p; body = Entries [] } ∷ [])

abbrev undecided : WindowBody
undecided = Answers (record { name = p; body = Entries (record { events = record { thread = 1; index = 0 } ∷ []; answer = Undecided 1 0 5 } ∷ []) } ∷ [])

abbrev too_many : WindowBody
too_many = Answers (record { name = p; body = TooMany } ∷ [])

-- a part of one window, one of none, and one of two
abbrev pub parts : List PartReport
parts =
    part_report 0 1 (told 1 no_instance ∷ told 2 undecided ∷ [])
    ∷ part_report 1 0 (told 1 no_instance ∷ [])
    ∷ part_report 1 2 (told 1 no_instance ∷ told 2 (TooLarge 3000 0) ∷ told 3 too_many ∷ []) ∷ []

pub record ExamplesHold : Type 0 where
  -- they follow one another, from the first window to the third
  pub row : AreInRow 0 parts 3
  -- each of the three windows is told once, under its number, and no stage is told
  pub whole : merged 2 5 parts ≡ record { format = 2; budget = 5; windows = told 1 undecided ∷ told 2 (TooLarge 3000 0) ∷ told 3 too_many ∷ [] }

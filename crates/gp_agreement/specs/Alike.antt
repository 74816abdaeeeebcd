-- Two questions that ask the same.
use Rattle.std.specs.Prelude.{ℕ, ◌≡◌, ◌↔◌, ◌+◌, List, [], ◌∷◌}
use Rattle.gp_window.specs.declared.schedule.EventId.{EventId}
use Rattle.gp_window.specs.WindowForm.{WindowForm}
use Rattle.gp_analysis.specs.Question.{QuestionForm}

module _ {Subject Other Shown : Type 0} (one : QuestionForm Subject Shown) (other : QuestionForm Other Shown) where
  -- the subjects with this number ask the same: they have one name, the same asks of each window, and what shows an ask of the one
  -- shows it of the other
  pub record AskTheSame (number : ℕ) (subject : Subject) (again : Other) : Type 0 where
    pub name : one.name subject ≡ other.name again
    pub asks : (window : WindowForm) → one.asks window subject number ≡ other.asks window again number
    pub shows : (window : WindowForm) (ids : List EventId) (shown : Shown) → one.shows window subject ids shown ↔ other.shows window again ids shown

  -- so do as many subjects of each, in order, the first of which have this number
  abbrev pub AllAskTheSame : ℕ → List Subject → List Other → Type 0
  AllAskTheSame number [] [] = Unit {0}
  AllAskTheSame number (subject ∷ subjects) (again ∷ more) = AskTheSame number subject again × AllAskTheSame (number + 1) subjects more
  AllAskTheSame number _ _ = ⊥

  -- two questions are alike: their subjects ask the same, and they leave out the same windows for the same reason; whatever their
  -- problems, their queries and the answers that are given
  pub record AreAlike : Type 0 where
    pub subjects : AllAskTheSame 0 one.subjects other.subjects
    pub left_out : (window : WindowForm) → one.left_out window ≡ other.left_out window

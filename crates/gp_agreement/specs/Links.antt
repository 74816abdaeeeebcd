-- Two reports of the links of one recording never contradict each other, and a budget that is enough decides.
use Rattle.std.specs.Prelude.{ℕ, suc, ◌≡◌, ◌^◌, ◌≤◌, List, [], ◌∷◌, length}
use Rattle.std.specs.List.{AllZip}
use Rattle.gp_window.specs.RecordingForm.{RecordingForm}
use Rattle.gp_window.specs.WindowForm.{WindowForm, window_of}
use Rattle.gp_link.specs.LinkProblem.{link_problem_of}
use Rattle.gp_linked.specs.declared.answer.LinkAnswer.{LinkAnswer}
use Rattle.gp_linked.specs.declared.answer.LinkAnswer.TheVariants.{Linked, Unlinkable, Undecided, TooLarge}
use Rattle.gp_linked.specs.declared.answer.LinkReport.{LinkReport}
use Rattle.gp_linked.specs.Report.{AreAnswered}

-- two answers of a window and the next agree: both times there are too many events or clauses, by the same two numbers, or
-- neither time; and not the one is linked and the other unlinkable
abbrev pub LinksAgree : LinkAnswer → LinkAnswer → Type 0
LinksAgree (TooLarge events clauses) (TooLarge more_events more_clauses) = (events ≡ more_events) × (clauses ≡ more_clauses)
LinksAgree (TooLarge events clauses) _ = ⊥
LinksAgree _ (TooLarge events clauses) = ⊥
LinksAgree (Linked schedule) (Unlinkable certificate) = ⊥
LinksAgree (Unlinkable certificate) (Linked schedule) = ⊥
LinksAgree _ _ = Unit {0}

-- two reports that answer which windows of one recording are linked agree window by window, whatever their budgets
abbrev pub LinkReportsAgree : Type 0
LinkReportsAgree = (recording : RecordingForm) (budget larger : ℕ) (one other : LinkReport)
    → AreAnswered recording budget one → AreAnswered recording larger other → AllZip LinksAgree one.links other.links

-- an answer is not that of a spent budget
abbrev pub IsLinkDecided : LinkAnswer → Type 0
IsLinkDecided (Undecided log from to) = ⊥
IsLinkDecided _ = Unit {0}

-- an answer of a window and the next is decided where the budget is at least three to the power of the number of variables of
-- their problem
abbrev pub DecidesLink : WindowForm → WindowForm → ℕ → LinkAnswer → Type 0
DecidesLink window next budget answer = 3 ^ length (link_problem_of window next).kinds ≤ budget → IsLinkDecided answer

-- so is each answer, the first of which is that of the window of this number
abbrev pub DecidesLinks : RecordingForm → ℕ → ℕ → List LinkAnswer → Type 0
DecidesLinks recording budget k [] = Unit {0}
DecidesLinks recording budget k (answer ∷ answers) =
    DecidesLink (window_of recording k) (window_of recording (suc k)) budget answer × DecidesLinks recording budget (suc k) answers

-- in a report that answers which windows of a recording are linked none is undecided for which the budget is enough
abbrev pub EnoughDecidesLinks : Type 0
EnoughDecidesLinks = (recording : RecordingForm) (budget : ℕ) (report : LinkReport)
    → AreAnswered recording budget report → DecidesLinks recording budget 1 report.links

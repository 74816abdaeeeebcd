-- What an answer says of a window and the next.
use Rattle.std.specs.Prelude.{ℕ, suc, ◌≡◌, List, [], ◌∷◌, Result, Ok, Err}
use Rattle.gp_certificate.specs.Certificate.{Refutes}
use Rattle.gp_window.specs.RecordingForm.{RecordingForm}
use Rattle.gp_window.specs.WindowForm.{window_of, WindowForm}
use Rattle.gp_constraint.specs.Extended.{nothing_asked}
use Rattle.gp_constraint.specs.Extending.{ExtendedForm}
use Rattle.gp_whole.specs.Linked.{IsLinked, Links}
use Rattle.gp_link.specs.declared.fault.LinkFault.{LinkFault}
use Rattle.gp_link.specs.declared.fault.LinkFault.TheVariants as of_link
use Rattle.gp_link.specs.LinkProblem.{link_problem_of}
use Rattle.gp_linked.specs.declared.answer.LinkAnswer.{LinkAnswer}
use Rattle.gp_linked.specs.declared.answer.LinkAnswer.TheVariants.{Linked, Unlinkable, Undecided, TooLarge}
use Rattle.gp_linked.specs.Spent.{IsSpentAlone}
use Rattle.gp_linked.specs.Due.{sized_due}

-- an answer for a window and the next that have a problem: a schedule that links them; that none does, and a certificate that
-- refutes their problem; or the log of a search that spent its budget on it
abbrev pub IsAnswer : WindowForm → WindowForm → ℕ → LinkAnswer → Type 0
IsAnswer window next budget (Linked schedule) = Links window next schedule.events
IsAnswer window next budget (Unlinkable certificate) =
    (IsLinked window next → ⊥) × Refutes (link_problem_of window next) nothing_asked certificate
IsAnswer window next budget (Undecided log from to) = IsSpentAlone (link_problem_of window next) budget log from to
IsAnswer window next budget (TooLarge events clauses) = ⊥

-- an answer that tells the two numbers of a fault
abbrev pub TellsFault : LinkFault → LinkAnswer → Type 0
TellsFault fault (TooLarge events clauses) = fault ≡ of_link.TooLarge events clauses
TellsFault fault _ = ⊥

-- an answer by what is due: where that is no problem, it tells so
abbrev pub AnswersBy : WindowForm → WindowForm → ℕ → Result ExtendedForm LinkFault → LinkAnswer → Type 0
AnswersBy window next budget (Ok problem) answer = IsAnswer window next budget answer
AnswersBy window next budget (Err fault) answer = TellsFault fault answer

-- an answer of a window and the next
abbrev pub AnswersLink : WindowForm → WindowForm → ℕ → LinkAnswer → Type 0
AnswersLink window next budget answer = AnswersBy window next budget (sized_due window next) answer

-- an answer of the window of this number and the next
abbrev pub AnswersNext : RecordingForm → ℕ → ℕ → LinkAnswer → Type 0
AnswersNext r budget k answer = AnswersLink (window_of r k) (window_of r (suc k)) budget answer

-- answers of the windows from this number on, one for each in order
abbrev pub AnswersFrom : RecordingForm → ℕ → ℕ → List LinkAnswer → Type 0
AnswersFrom r budget k [] = Unit {0}
AnswersFrom r budget k (answer ∷ answers) = AnswersNext r budget k answer × AnswersFrom r budget (suc k) answers

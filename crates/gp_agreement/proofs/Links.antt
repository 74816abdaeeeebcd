-- Two reports of the links of one recording agree, and a budget that is enough decides.
use Rattle.std.proofs.Common.{◌≡◌, sym, ap, ◌∙◌, ℕ, suc, ◌++◌, ◌^◌, ◌≤◌, List, [], ◌∷◌, Result, Ok, Err, append-nil, length, arith}
use Rattle.std.specs.List.{AllZip}
use Rattle.gp_base.specs.ListLaws.{here}
use Rattle.gp_clause.specs.declared.kind.Kind.{Kind}
use Rattle.gp_constraint.specs.Extended.{nothing_asked}
use Rattle.gp_constraint.specs.Extending.{ExtendedForm}
use Rattle.gp_derivation.specs.declared.log.LogEntry.{LogEntry}
use Rattle.gp_link.specs.declared.fault.LinkFault.{LinkFault}
use Rattle.gp_link.specs.declared.fault.LinkFault.TheVariants as of_link
use Rattle.gp_link.specs.LinkProblem.{link_problem_of}
use Rattle.gp_linked.specs.declared.answer.LinkAnswer.{LinkAnswer}
use Rattle.gp_linked.specs.declared.answer.LinkAnswer.TheVariants.{Linked, Unlinkable, Undecided, TooLarge}
use Rattle.gp_linked.specs.Answered.{AnswersBy, AnswersFrom, IsAnswer, TellsFault}
use Rattle.gp_linked.specs.Due.{sized_due}
use Rattle.gp_linked.specs.Spent.{IsSpentAlone}
use Rattle.gp_window.specs.RecordingForm.{RecordingForm}
use Rattle.gp_window.specs.WindowForm.{WindowForm, window_of}
use Rattle.gp_agreement.specs.Links.{DecidesLink, DecidesLinks, EnoughDecidesLinks, IsLinkDecided, LinkReportsAgree, LinksAgree}
use Rattle.gp_agreement.proofs.Enough.{below, in_order}
use Rattle.gp_agreement.proofs.Few.{spent_below}

-- the two numbers of a fault
abbrev events_of : LinkFault → ℕ
events_of (of_link.TooLarge events clauses) = events
events_of of_link.Memory = 0

abbrev clauses_of : LinkFault → ℕ
clauses_of (of_link.TooLarge events clauses) = clauses
clauses_of of_link.Memory = 0

answers_agree : (window next : WindowForm) (budget larger : ℕ) (one other : LinkAnswer) → IsAnswer window next budget one → IsAnswer window next larger other → LinksAgree one other
answers_agree window next budget larger (Linked schedule) (Linked again) a b = tt
answers_agree window next budget larger (Linked schedule) (Unlinkable certificate) a b = absurd (b.0 (schedule.events, a))
answers_agree window next budget larger (Linked schedule) (Undecided log from to) a b = tt
answers_agree window next budget larger (Linked schedule) (TooLarge events clauses) a b = absurd b
answers_agree window next budget larger (Unlinkable certificate) (Linked schedule) a b = absurd (a.0 (schedule.events, b))
answers_agree window next budget larger (Unlinkable certificate) (Unlinkable again) a b = tt
answers_agree window next budget larger (Unlinkable certificate) (Undecided log from to) a b = tt
answers_agree window next budget larger (Unlinkable certificate) (TooLarge events clauses) a b = absurd b
answers_agree window next budget larger (Undecided log from to) (Linked schedule) a b = tt
answers_agree window next budget larger (Undecided log from to) (Unlinkable certificate) a b = tt
answers_agree window next budget larger (Undecided log from to) (Undecided again begins ends) a b = tt
answers_agree window next budget larger (Undecided log from to) (TooLarge events clauses) a b = absurd b
answers_agree window next budget larger (TooLarge events clauses) other a b = absurd a

faults_agree : (fault : LinkFault) (one other : LinkAnswer) → TellsFault fault one → TellsFault fault other → LinksAgree one other
faults_agree fault (TooLarge events clauses) (TooLarge more_events more_clauses) a b = (ap events_of (sym a ∙ b), ap clauses_of (sym a ∙ b))
faults_agree fault (TooLarge events clauses) (Linked schedule) a b = absurd b
faults_agree fault (TooLarge events clauses) (Unlinkable certificate) a b = absurd b
faults_agree fault (TooLarge events clauses) (Undecided log from to) a b = absurd b
faults_agree fault (Linked schedule) other a b = absurd a
faults_agree fault (Unlinkable certificate) other a b = absurd a
faults_agree fault (Undecided log from to) other a b = absurd a

due_agree : (window next : WindowForm) (budget larger : ℕ) (due : Result ExtendedForm LinkFault) (one other : LinkAnswer)
    → AnswersBy window next budget due one → AnswersBy window next larger due other → LinksAgree one other
due_agree window next budget larger (Ok problem) one other a b = answers_agree window next budget larger one other a b
due_agree window next budget larger (Err fault) one other a b = faults_agree fault one other a b

all_agree : (recording : RecordingForm) (budget larger k : ℕ) (one other : List LinkAnswer) → length one ≡ length other
    → AnswersFrom recording budget k one → AnswersFrom recording larger k other → AllZip LinksAgree one other
all_agree recording budget larger k [] [] same a b = tt
all_agree recording budget larger k [] (y ∷ other) same a b = absurd (omega (arith, same))
all_agree recording budget larger k (x ∷ one) [] same a b = absurd (omega (arith, same))
all_agree recording budget larger k (x ∷ one) (y ∷ other) same a b = (
  due_agree (window_of recording k) (window_of recording (suc k)) budget larger (sized_due (window_of recording k) (window_of recording (suc k))) x y a.0 b.0,
  all_agree recording budget larger (suc k) one other (omega (arith, same)) a.1 b.1,
)

pub links_agree : LinkReportsAgree
links_agree recording budget larger one other a b = all_agree recording budget larger 1 one.links other.links (omega (arith, a.count, b.count)) a.answers b.answers

-- a budget that a search spent alone is not enough
not_enough : (window next : WindowForm) (budget : ℕ) (log : List LogEntry) (from to : ℕ) → IsSpentAlone (link_problem_of window next) budget log from to
    → 3 ^ length (link_problem_of window next).kinds ≤ budget → ⊥
not_enough window next budget log from to spent enough =
    let order = in_order log 0 (length log) (spent.turn ∷ []) spent.turn spent.covers (here spent.turn []) in
    let size : length ((link_problem_of window next).kinds ++ []) ≡ length (link_problem_of window next).kinds =
    ap (λ (kinds : List Kind). length kinds) (append-nil (link_problem_of window next).kinds) in
    below budget (3 ^ length (link_problem_of window next).kinds)
    (spent_below (link_problem_of window next) nothing_asked log budget spent.turn from to (length (link_problem_of window next).kinds) size order spent.spent) enough

answer_decided : (window next : WindowForm) (budget : ℕ) (answer : LinkAnswer) → IsAnswer window next budget answer → DecidesLink window next budget answer
answer_decided window next budget (Linked schedule) is enough = tt
answer_decided window next budget (Unlinkable certificate) is enough = tt
answer_decided window next budget (Undecided log from to) is enough = not_enough window next budget log from to is enough
answer_decided window next budget (TooLarge events clauses) is enough = tt

fault_decided : (fault : LinkFault) (answer : LinkAnswer) → TellsFault fault answer → IsLinkDecided answer
fault_decided fault (Linked schedule) tells = tt
fault_decided fault (Unlinkable certificate) tells = tt
fault_decided fault (Undecided log from to) tells = tells
fault_decided fault (TooLarge events clauses) tells = tt

due_decided : (window next : WindowForm) (budget : ℕ) (due : Result ExtendedForm LinkFault) (answer : LinkAnswer) → AnswersBy window next budget due answer → DecidesLink window next budget answer
due_decided window next budget (Ok problem) answer is enough = answer_decided window next budget answer is enough
due_decided window next budget (Err fault) answer is enough = fault_decided fault answer is

all_decided : (recording : RecordingForm) (budget k : ℕ) (answers : List LinkAnswer) → AnswersFrom recording budget k answers → DecidesLinks recording budget k answers
all_decided recording budget k [] are = tt
all_decided recording budget k (answer ∷ answers) are = (
  due_decided (window_of recording k) (window_of recording (suc k)) budget (sized_due (window_of recording k) (window_of recording (suc k))) answer are.0,
  all_decided recording budget (suc k) answers are.1,
)

pub links_decided : EnoughDecidesLinks
links_decided recording budget report are = all_decided recording budget 1 report.links are.answers

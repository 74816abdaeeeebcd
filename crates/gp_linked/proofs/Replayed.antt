-- Schedules of linked windows replay one after another.
use Rattle.std.proofs.Common.{ℕ, suc, ◌∙◌, ap, List, [], ◌∷◌, map, Result, Ok, Err}
use Rattle.std.proofs.lemmas.List.{length-map}
use Rattle.gp_window.specs.declared.schedule.Schedule.{Schedule}
use Rattle.gp_window.specs.RecordingForm.{RecordingForm}
use Rattle.gp_window.specs.WindowForm.{WindowForm, window_of}
use Rattle.gp_constraint.specs.Extending.{ExtendedForm}
use Rattle.gp_whole.specs.Linked.{Links}
use Rattle.gp_whole.specs.Whole.{EachLinks, FoundSchedulesReplay}
use Rattle.gp_link.specs.declared.fault.LinkFault.{LinkFault}
use Rattle.gp_linked.specs.declared.answer.LinkAnswer.{LinkAnswer}
use Rattle.gp_linked.specs.declared.answer.LinkAnswer.TheVariants.{Linked, Unlinkable, Undecided, TooLarge}
use Rattle.gp_linked.specs.Answered.{AnswersBy, AnswersFrom}
use Rattle.gp_linked.specs.Due.{sized_due}
use Rattle.gp_linked.specs.Replayed.{found_of, LinkedWindowsReplay}

linked_by : (window next : WindowForm) (budget : ℕ) (due : Result ExtendedForm LinkFault) (schedule : Schedule) → AnswersBy window next budget due (Linked schedule)
    → Links window next schedule.events
linked_by window next budget (Ok problem) schedule is = is
linked_by window next budget (Err fault) schedule is = absurd is

-- each schedule that is told links its window to the next
each_links : (r : RecordingForm) (budget k : ℕ) (links : List LinkAnswer) → AnswersFrom r budget k links → EachLinks r k (map found_of links)
each_links r budget k [] each = tt
each_links r budget k (Linked schedule ∷ links) each =
    (linked_by (window_of r k) (window_of r (suc k)) budget (sized_due (window_of r k) (window_of r (suc k))) schedule each.0, each_links r budget (suc k) links each.1)
each_links r budget k (Unlinkable certificate ∷ links) each = each_links r budget (suc k) links each.1
each_links r budget k (Undecided log from to ∷ links) each = each_links r budget (suc k) links each.1
each_links r budget k (TooLarge events clauses ∷ links) each = each_links r budget (suc k) links each.1

pub replayed : FoundSchedulesReplay → LinkedWindowsReplay
replayed law r budget links rules count answers rest schedules ids found feasible =
    law r (map found_of links) rest schedules ids rules (ap suc (length-map links found_of) ∙ count) (each_links r budget 1 links answers) found feasible

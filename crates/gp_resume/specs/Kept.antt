-- What of an old report is kept of a window: the shared list that still passes, and the answers that still stand.
use Rattle.std.specs.Prelude.{ℕ, ◌≡◌, Bool, true, List, [], Option, None, Some, cond}
use Rattle.gp_certificate.specs.declared.step.Step.{Step}
use Rattle.gp_certificate.specs.declared.certificate.Certificate.{Certificate}
use Rattle.gp_certificate.specs.Shared.{RefutesOver, SharedPasses}
use Rattle.gp_constraint.specs.Base.{base_of}
use Rattle.gp_constraint.specs.Query.{query_of}
use Rattle.gp_decided.specs.Refuting.{shared_passes}
use Rattle.gp_instance.specs.Matches.{matches_events}
use Rattle.gp_property.specs.PropertyForm.{PropertyForm}
use Rattle.gp_replay.specs.Feasible.{IsFeasible}
use Rattle.gp_report.specs.Records.{Answer, WindowRecord}
use Rattle.gp_report.specs.declared.record.AnswerOf.TheVariants.{Found, Impossible, Undecided}
use Rattle.gp_report.specs.ReportForm.{ReportForm}
use Rattle.gp_window.specs.declared.schedule.EventId.{EventId}
use Rattle.gp_window.specs.declared.schedule.Schedule.{Schedule}
use Rattle.gp_window.specs.WindowForm.{WindowForm}
use Rattle.gp_resume.specs.Old.{old_answer, old_record, shared_in}
use Rattle.gp_resume.specs.Standing.{stands}

-- an answer, where it passes a test
abbrev pub where_passes : (Answer → Bool) → Option Answer → Option Answer
where_passes test None = None
where_passes test (Some answer) = cond (test answer) (Some answer) None

-- the shared list that is kept of an old record: its own where that passes, else the empty one
abbrev pub shared_kept : Option WindowRecord → WindowForm → List Step
shared_kept told window = cond (shared_passes (base_of window) (shared_in told)) (shared_in told) []

-- the answer that is kept of it to an instance: the old one where it stands
abbrev pub answer_kept : Option WindowRecord → WindowForm → PropertyForm → List EventId → Option Answer
answer_kept told window property ids = where_passes (stands (shared_in told) window property ids) (old_answer told property.name ids)

-- the same of an old report, which has the record of a window by its number
abbrev pub kept_shared : ReportForm → WindowForm → List Step
kept_shared old window = shared_kept (old_record old window.number) window

abbrev pub kept_answer : ReportForm → WindowForm → PropertyForm → List EventId → Option Answer
kept_answer old window property ids = answer_kept (old_record old window.number) window property ids

-- what is kept holds: the shared list passes; a schedule is feasible and matches; a certificate refutes over the list that is
-- kept; and no answer that is kept is undecided
pub record KeptHolds : Type 0 where
  pub shared : (old : ReportForm) (window : WindowForm) → SharedPasses (base_of window) (kept_shared old window)
  pub found : (old : ReportForm) (window : WindowForm) (property : PropertyForm) (ids : List EventId) (schedule : Schedule) → kept_answer old window property ids ≡ Some (Found schedule)
      → IsFeasible window schedule.events × (matches_events property ids schedule.events ≡ true)
  pub impossible : (old : ReportForm) (window : WindowForm) (property : PropertyForm) (ids : List EventId) (certificate : Certificate) → kept_answer old window property ids ≡ Some (Impossible certificate)
      → RefutesOver (base_of window) (kept_shared old window) (query_of window property ids) certificate
  pub decided : (old : ReportForm) (window : WindowForm) (property : PropertyForm) (ids : List EventId) (worker from to : ℕ) → kept_answer old window property ids ≡ Some (Undecided worker from to) → ⊥

-- nothing that holds is lost: an old answer is kept where its schedule is feasible and matches, or where the old shared list
-- passes and its certificate refutes over it
pub record AllIsKept : Type 0 where
  pub shared : (old : ReportForm) (window : WindowForm) → SharedPasses (base_of window) (shared_in (old_record old window.number)) → kept_shared old window ≡ shared_in (old_record old window.number)
  pub found : (old : ReportForm) (window : WindowForm) (property : PropertyForm) (ids : List EventId) (schedule : Schedule) → old_answer (old_record old window.number) property.name ids ≡ Some (Found schedule)
      → IsFeasible window schedule.events → matches_events property ids schedule.events ≡ true → kept_answer old window property ids ≡ Some (Found schedule)
  pub impossible : (old : ReportForm) (window : WindowForm) (property : PropertyForm) (ids : List EventId) (certificate : Certificate) → old_answer (old_record old window.number) property.name ids ≡ Some (Impossible certificate)
      → RefutesOver (base_of window) (shared_in (old_record old window.number)) (query_of window property ids) certificate → kept_answer old window property ids ≡ Some (Impossible certificate)

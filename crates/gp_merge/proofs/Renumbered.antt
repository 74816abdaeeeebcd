-- What is told of a window is accepted under whatever number the window has.
use Rattle.std.proofs.Common.{◌≡◌, refl, subst, ℕ, Bool, false, List, [], ◌∷◌, length}
use Rattle.std.specs.Prelude.{Result, Ok, if◌then◌else◌, nat_lt}
use Rattle.std.specs.List.{enumerate_from}
use Rattle.gp_certificate.specs.declared.step.Step.{Step}
use Rattle.gp_constraint.specs.Base.{clauses_of}
use Rattle.gp_constraint.specs.Encoded.{too_large}
use Rattle.gp_constraint.specs.Points.{points_of}
use Rattle.gp_instance.specs.declared.instance.Instance.{Instance}
use Rattle.gp_instance.specs.declared.instance.InstancesFault.{InstancesFault}
use Rattle.gp_instance.specs.Instances.{due_instances}
use Rattle.gp_property.specs.PropertyForm.{PropertyForm}
use Rattle.gp_replay.specs.declared.state.State.{State}
use Rattle.gp_replay.specs.Feasible.{Runs}
use Rattle.gp_replay.specs.Step.{start_state}
use Rattle.gp_report.specs.Records.{Answer, PropertyBody, PropertyRecord, WindowBody, WindowRecord}
use Rattle.gp_report.specs.declared.record.AnswerOf.TheVariants.{Found, Impossible, Undecided}
use Rattle.gp_report.specs.declared.record.PropertyBodyOf.TheVariants.{Entries}
use Rattle.gp_report.specs.declared.record.WindowBodyOf.TheVariants.{Answers}
use Rattle.gp_window.specs.declared.schedule.EventId.{EventId}
use Rattle.gp_window.specs.WindowForm.{WindowForm}
use Rattle.gp_checker.specs.Accepted.{AcceptsAnswer, AcceptsBody, AcceptsEntry, AcceptsListed, AcceptsProperty, AcceptsWindow}
use Rattle.gp_merge.proofs.Zipped.{zip_weaker}

module _ (window : WindowForm) (number : ℕ) where
  abbrev other : WindowForm
  other = record window { number = number }

  -- the same events happen one after another
  same_runs : (state : State) (ids : List EventId) (last : State) → Runs other state ids last → Runs window state ids last
  same_runs state [] last runs = runs
  same_runs state (id ∷ ids) last runs = (runs.0, runs.1, same_runs runs.0 ids last runs.2)

  -- there are the same instances
  same_instances : (property : PropertyForm) (n : ℕ) → due_instances other property n ≡ due_instances window property n
  unfolding due_instances
  same_instances property n = refl

  module _ (budget : ℕ) (shared : List Step) where
    accepts_answer : (property : PropertyForm) (ids : List EventId) (answer : Answer)
        → AcceptsAnswer other budget shared property ids answer → AcceptsAnswer window budget shared property ids answer
    accepts_answer property ids (Found schedule) accepted = ((accepted.0.0, same_runs (start_state window) schedule.events accepted.0.0 accepted.0.1), accepted.1)
    accepts_answer property ids (Impossible certificate) accepted = accepted
    accepts_answer property ids (Undecided worker from to) accepted = accepted

    accepts_listed : (property : PropertyForm) (due : Result (List Instance) InstancesFault) (body : PropertyBody)
        → AcceptsListed other budget shared property due body → AcceptsListed window budget shared property due body
    accepts_listed property (Ok instances) (Entries entries) accepted =
        zip_weaker (AcceptsEntry other budget shared property) (AcceptsEntry window budget shared property)
        (λ instance entry own. (own.0, accepts_answer property instance.events entry.answer own.1)) instances entries accepted
    accepts_listed property due body accepted = accepted

    accepts_property : (property : ℕ × PropertyForm) (told : PropertyRecord)
        → AcceptsProperty other budget shared property told → AcceptsProperty window budget shared property told
    accepts_property (n, property) told accepted = (
      accepted.0,
      accepts_listed property (due_instances window property n) told.body
          (subst (λ due. AcceptsListed other budget shared property due told.body) (same_instances property n) accepted.1),
    )

    -- whether or not the window is too large
    accepts_due : (properties : List PropertyForm) (large many : Bool) (events : ℕ) (body : WindowBody)
        → AcceptsBody other budget properties shared (if large then too_large events 0 else (if many then too_large events 500001 else Ok other)) body
        → AcceptsBody window budget properties shared (if large then too_large events 0 else (if many then too_large events 500001 else Ok window)) body
    accepts_due properties false false events (Answers records) accepted = (
      accepted.0,
      zip_weaker (AcceptsProperty other budget shared) (AcceptsProperty window budget shared) accepts_property (enumerate_from 0 properties) records accepted.1,
    )
    accepts_due properties large many events body accepted = accepted

-- what is accepted of a window under another number is accepted of it
pub accepts_again : (properties : List PropertyForm) (budget number : ℕ) (window again : WindowForm) (told : WindowRecord) → again ≡ record window { number = number }
    → AcceptsWindow properties budget again told → AcceptsWindow properties budget window told
accepts_again properties budget number window again told same accepted =
    accepts_due window number budget told.shared properties (nat_lt 2048 (length (points_of window))) (nat_lt 500000 (length (clauses_of window))) (length (points_of window)) told.body
    (subst (λ (w : WindowForm). AcceptsWindow properties budget w told) same accepted)

-- No report is both accepted and rejected, and none has two first failures.
use Rattle.std.proofs.Common.{◌≡◌, refl, sym, ap, ◌∙◌, ℕ, ◌+◌, inl, inr, List, [], ◌++◌, take, true, Result, Ok, Err}
use Rattle.std.specs.List.{enumerate_from}
use Rattle.std.proofs.lemmas.Bool.{false≢true}
use Rattle.std.proofs.lemmas.Slice.Zip.{AllZip-long}
use Rattle.gp_clause.specs.declared.problem.Problem.{Problem}
use Rattle.gp_clause.specs.declared.problem.Query.{Query}
use Rattle.gp_constraint.specs.declared.fault.BaseFault.{BaseFault}
use Rattle.gp_constraint.specs.declared.fault.BaseFault.TheVariants as fault
use Rattle.gp_constraint.specs.Base.{base_of}
use Rattle.gp_constraint.specs.Encoded.{base_due}
use Rattle.gp_constraint.specs.Query.{query_of}
use Rattle.gp_certificate.specs.declared.certificate.Certificate.{Certificate}
use Rattle.gp_certificate.specs.declared.step.Step.{Step}
use Rattle.gp_certificate.specs.Certificate.{StepsCheck, clauses_of}
use Rattle.gp_certificate.specs.Shared.{OwnStepsPass, PassesOver, SharedPasses}
use Rattle.gp_instance.specs.declared.instance.Instance.{Instance}
use Rattle.gp_instance.specs.declared.instance.InstancesFault.{InstancesFault}
use Rattle.gp_instance.specs.declared.instance.InstancesFault.TheVariants as many
use Rattle.gp_instance.specs.Instances.{due_instances}
use Rattle.gp_instance.specs.Matches.{matches_events}
use Rattle.gp_property.specs.PropertyForm.{PropertyForm}
use Rattle.gp_replay.specs.declared.rule.Rule.{Rule}
use Rattle.gp_replay.specs.declared.running.ReplayFault.TheVariants as replay
use Rattle.gp_replay.specs.Feasible.{IsFeasible, StuckAt, end_of}
use Rattle.gp_replay.specs.Step.{start_state}
use Rattle.gp_report.specs.Records.{Answer, Entry, PropertyBody, PropertyRecord, WindowBody, WindowRecord}
use Rattle.gp_report.specs.declared.record.AnswerOf.TheVariants.{Found, Impossible, Undecided}
use Rattle.gp_report.specs.declared.record.PropertyBodyOf.TheVariants as body
use Rattle.gp_report.specs.declared.record.WindowBodyOf.TheVariants as told
use Rattle.gp_report.specs.ReportForm.{ReportForm}
use Rattle.gp_window.specs.declared.schedule.EventId.{EventId}
use Rattle.gp_window.specs.RecordingForm.{RecordingForm}
use Rattle.gp_window.specs.WindowForm.{WindowForm}
use Rattle.gp_window.specs.Windows.{all_windows}
use Rattle.gp_checker.specs.declared.failure.Failure.{Failure}
use Rattle.gp_checker.specs.declared.failure.Reason.{Reason}
use Rattle.gp_checker.specs.declared.failure.Reason.TheVariants.{WindowCount, WrongSize, WrongProperty, Stuck, Unmatched, BadStep, Unrefuted}
use Rattle.gp_checker.specs.Accepted.{AcceptsAnswer, AcceptsBody, AcceptsEntry, AcceptsListed, AcceptsProperty, AcceptsWindow, RefutesAtLast}
use Rattle.gp_checker.specs.Checked.{ChecksAreExact}
use Rattle.gp_checker.specs.FrontLaws.{fewer_pass, first_pass}
use Rattle.gp_checker.specs.Laws.{Laws}
use Rattle.gp_checker.specs.Reasons.{IsOfProperty, IsOfWindow}
use Rattle.gp_checker.specs.Rejected.{FailsAnswer, FailsBody, FailsCertificate, FailsEntry, FailsListed, FailsProperty, FailsSchedule, FailsShared, FailsWindow, IsRejected}
use Rattle.gp_checker.proofs.Unique.{fails_once, first_both, here_not_all}

-- two failures have one reason and one place
pub record SamePlace (reason reason' : Reason) (place place' : ℕ) : Type 0 where
  pub reasons : reason ≡ reason'
  pub places : place ≡ place'

-- and one instance
pub record SameInstance (one other : Failure) : Type 0 where
  pub inside : SamePlace one.reason other.reason one.place other.place
  pub instances : one.instance ≡ other.instance

-- and one property
pub record SameProperty (one other : Failure) : Type 0 where
  pub inside : SameInstance one other
  pub properties : one.property ≡ other.property

of_property : (reason : Reason) (one other : Failure) → IsOfProperty reason one → IsOfProperty reason other → SameInstance one other
of_property reason one other is is' = record {
  inside = record { reasons = is.reason_is ∙ sym is'.reason_is; places = is.no_place ∙ sym is'.no_place };
  instances = is.no_instance ∙ sym is'.no_instance;
}

of_window : (reason : Reason) (one other : Failure) → IsOfWindow reason one → IsOfWindow reason other → SameProperty one other
of_window reason one other is is' = record { inside = of_property reason one other is.whole is'.whole; properties = is.no_property ∙ sym is'.no_property }

module _ (laws : Laws) where
  -- a schedule ends in one way
  stuck_not_feasible : (window : WindowForm) (ids : List EventId) (place : ℕ) (rule : Rule) → StuckAt window (start_state window) ids place rule → IsFeasible window ids → ⊥
  stuck_not_feasible window ids place rule stuck feasible =
      let fault : end_of window ids ≡ Err (replay.Stuck place rule) = (laws.replay.stuck window ids place rule).1 stuck in
      let end : end_of window ids ≡ Ok feasible.0 = (laws.replay.ends window ids feasible.0).1 feasible.1 in
      cc

  stuck_once : (window : WindowForm) (ids : List EventId) (place place' : ℕ) (rule rule' : Rule) → StuckAt window (start_state window) ids place rule → StuckAt window (start_state window) ids place' rule' → place ≡ place'
  stuck_once window ids place place' rule rule' stuck stuck' =
      let fault : end_of window ids ≡ Err (replay.Stuck place rule) = (laws.replay.stuck window ids place rule).1 stuck in
      let fault' : end_of window ids ≡ Err (replay.Stuck place' rule') = (laws.replay.stuck window ids place' rule').1 stuck' in
      cc

  schedule_apart : (window : WindowForm) (property : PropertyForm) (ids schedule : List EventId) (reason : Reason) (place : ℕ) → FailsSchedule window property ids schedule reason place
      → IsFeasible window schedule → matches_events property ids schedule ≡ true → ⊥
  schedule_apart window property ids schedule Stuck place fails feasible matches = stuck_not_feasible window schedule place fails.0 fails.1 feasible
  schedule_apart window property ids schedule Unmatched place fails feasible matches = false≢true (sym fails.1 ∙ matches)
  schedule_apart window property ids schedule _ place fails feasible matches = fails

  schedule_once : (window : WindowForm) (property : PropertyForm) (ids schedule : List EventId) (reason reason' : Reason) (place place' : ℕ) → FailsSchedule window property ids schedule reason place
      → FailsSchedule window property ids schedule reason' place' → SamePlace reason reason' place place'
  schedule_once window property ids schedule Stuck Stuck place place' fails fails' = record { reasons = refl; places = stuck_once window schedule place place' fails.0 fails'.0 fails.1 fails'.1 }
  schedule_once window property ids schedule Stuck Unmatched place place' fails fails' = absurd (stuck_not_feasible window schedule place fails.0 fails.1 fails'.0)
  schedule_once window property ids schedule Stuck _ place place' fails fails' = absurd fails'
  schedule_once window property ids schedule Unmatched Stuck place place' fails fails' = absurd (stuck_not_feasible window schedule place' fails'.0 fails'.1 fails.0)
  schedule_once window property ids schedule Unmatched Unmatched place place' fails fails' = record { reasons = refl; places = fails.2 ∙ sym fails'.2 }
  schedule_once window property ids schedule Unmatched _ place place' fails fails' = absurd fails'
  schedule_once window property ids schedule _ reason' place place' fails fails' = absurd fails

  -- so does a certificate
  own_first : (problem : Problem) (shared : List Step) (query : Query) (certificate : Certificate) (count : ℕ) → PassesOver problem shared query certificate
      → OwnStepsPass problem.edges (problem.kinds ++ query.locals) problem.clauses (clauses_of shared) [] (take count certificate.steps)
  own_first problem shared query certificate =
      first_pass problem.edges (problem.kinds ++ query.locals) (λ clauses. problem.clauses ++ clauses_of shared ++ clauses) (λ clauses. problem.clauses ++ clauses) [] certificate.steps

  certificate_apart : (problem : Problem) (shared : List Step) (query : Query) (certificate : Certificate) (reason : Reason) (place : ℕ) → FailsCertificate problem shared query certificate reason place
      → PassesOver problem shared query certificate → RefutesAtLast query certificate.steps → ⊥
  certificate_apart problem shared query certificate BadStep place fails passes ends =
      fails.fails (own_first problem shared query certificate (place + 1) passes)
  certificate_apart problem shared query certificate Unrefuted place fails passes ends = fails.1 ends
  certificate_apart problem shared query certificate _ place fails passes ends = fails

  certificate_once : (problem : Problem) (shared : List Step) (query : Query) (certificate : Certificate) (reason reason' : Reason) (place place' : ℕ) → FailsCertificate problem shared query certificate reason place
      → FailsCertificate problem shared query certificate reason' place' → SamePlace reason reason' place place'
  certificate_once problem shared query certificate BadStep BadStep place place' fails fails' = record {
    reasons = refl;
    places = fails_once (λ n. OwnStepsPass problem.edges (problem.kinds ++ query.locals) problem.clauses (clauses_of shared) [] (take n certificate.steps))
        (fewer_pass problem.edges (problem.kinds ++ query.locals) (λ clauses. problem.clauses ++ clauses_of shared ++ clauses) (λ clauses. problem.clauses ++ clauses) [] certificate.steps) place place' fails.before fails.fails fails'.before fails'.fails;
  }
  certificate_once problem shared query certificate BadStep Unrefuted place place' fails fails' =
      absurd (fails.fails (own_first problem shared query certificate (place + 1) fails'.0))
  certificate_once problem shared query certificate BadStep _ place place' fails fails' = absurd fails'
  certificate_once problem shared query certificate Unrefuted BadStep place place' fails fails' =
      absurd (fails'.fails (own_first problem shared query certificate (place' + 1) fails.0))
  certificate_once problem shared query certificate Unrefuted Unrefuted place place' fails fails' = record { reasons = refl; places = fails.2 ∙ sym fails'.2 }
  certificate_once problem shared query certificate Unrefuted _ place place' fails fails' = absurd fails'
  certificate_once problem shared query certificate _ reason' place place' fails fails' = absurd fails

  answer_apart : (window : WindowForm) (budget : ℕ) (shared : List Step) (property : PropertyForm) (ids : List EventId) (answer : Answer) (reason : Reason) (place : ℕ)
      → FailsAnswer window budget shared property ids answer reason place → AcceptsAnswer window budget shared property ids answer → ⊥
  answer_apart window budget shared property ids (Found schedule) reason place fails accepts = schedule_apart window property ids schedule.events reason place fails accepts.0 accepts.1
  answer_apart window budget shared property ids (Impossible certificate) reason place fails accepts =
      certificate_apart (base_of window) shared (query_of window property ids) certificate reason place fails accepts.0 accepts.1
  answer_apart window budget shared property ids (Undecided worker from to) reason place fails accepts = fails.1 accepts

  answer_once : (window : WindowForm) (budget : ℕ) (shared : List Step) (property : PropertyForm) (ids : List EventId) (answer : Answer) (reason reason' : Reason) (place place' : ℕ)
      → FailsAnswer window budget shared property ids answer reason place → FailsAnswer window budget shared property ids answer reason' place' → SamePlace reason reason' place place'
  answer_once window budget shared property ids (Found schedule) reason reason' place place' fails fails' = schedule_once window property ids schedule.events reason reason' place place' fails fails'
  answer_once window budget shared property ids (Impossible certificate) reason reason' place place' fails fails' =
      certificate_once (base_of window) shared (query_of window property ids) certificate reason reason' place place' fails fails'
  answer_once window budget shared property ids (Undecided worker from to) reason reason' place place' fails fails' = record { reasons = fails.0 ∙ sym fails'.0; places = fails.2 ∙ sym fails'.2 }

  entry_apart : (window : WindowForm) (budget : ℕ) (shared : List Step) (property : PropertyForm) (failure : Failure) (instance : Instance) (entry : Entry) → FailsEntry window budget shared property failure instance entry
      → AcceptsEntry window budget shared property instance entry → ⊥
  entry_apart window budget shared property failure instance entry (inl wrong) accepts = wrong.1 accepts.0
  entry_apart window budget shared property failure instance entry (inr fails) accepts = answer_apart window budget shared property instance.events entry.answer failure.reason failure.place fails.1 accepts.1

  entry_once : (window : WindowForm) (budget : ℕ) (shared : List Step) (property : PropertyForm) (one other : Failure) (instance : Instance) (entry : Entry) → FailsEntry window budget shared property one instance entry
      → FailsEntry window budget shared property other instance entry → SamePlace one.reason other.reason one.place other.place
  entry_once window budget shared property one other instance entry (inl wrong) (inl wrong') = record { reasons = wrong.0 ∙ sym wrong'.0; places = wrong.2 ∙ sym wrong'.2 }
  entry_once window budget shared property one other instance entry (inl wrong) (inr fails) = absurd (wrong.1 fails.0)
  entry_once window budget shared property one other instance entry (inr fails) (inl wrong) = absurd (wrong.1 fails.0)
  entry_once window budget shared property one other instance entry (inr fails) (inr fails') =
      answer_once window budget shared property instance.events entry.answer one.reason other.reason one.place other.place fails.1 fails'.1

  listed_apart : (window : WindowForm) (budget : ℕ) (shared : List Step) (property : PropertyForm) (failure : Failure) (due : Result (List Instance) InstancesFault) (told_body : PropertyBody)
      → FailsListed window budget shared property failure due told_body → AcceptsListed window budget shared property due told_body → ⊥
  listed_apart window budget shared property failure (Ok instances) body.TooMany fails accepts = accepts
  listed_apart window budget shared property failure (Ok instances) (body.Entries entries) (inl wrong) accepts = wrong.1 (AllZip-long (AcceptsEntry window budget shared property) instances entries accepts)
  listed_apart window budget shared property failure (Ok instances) (body.Entries entries) (inr fails) accepts =
      here_not_all (AcceptsEntry window budget shared property) (FailsEntry window budget shared property failure) ⊥ (entry_apart window budget shared property failure) instances entries failure.instance fails.1.here accepts
  listed_apart window budget shared property failure (Err many.TooMany) body.TooMany fails accepts = fails
  listed_apart window budget shared property failure (Err many.TooMany) (body.Entries entries) fails accepts = accepts
  listed_apart window budget shared property failure (Err many.Memory) told_body fails accepts = accepts

  listed_once : (window : WindowForm) (budget : ℕ) (shared : List Step) (property : PropertyForm) (one other : Failure) (due : Result (List Instance) InstancesFault) (told_body : PropertyBody)
      → FailsListed window budget shared property one due told_body → FailsListed window budget shared property other due told_body → SameInstance one other
  listed_once window budget shared property one other (Ok instances) body.TooMany fails fails' = of_property WrongProperty one other fails fails'
  listed_once window budget shared property one other (Ok instances) (body.Entries entries) (inl wrong) (inl wrong') = of_property WrongProperty one other wrong.0 wrong'.0
  listed_once window budget shared property one other (Ok instances) (body.Entries entries) (inl wrong) (inr fails) = absurd (wrong.1 fails.0)
  listed_once window budget shared property one other (Ok instances) (body.Entries entries) (inr fails) (inl wrong) = absurd (wrong.1 fails.0)
  listed_once window budget shared property one other (Ok instances) (body.Entries entries) (inr fails) (inr fails') =
      let both = first_both (AcceptsEntry window budget shared property) (FailsEntry window budget shared property one) (FailsEntry window budget shared property other) ⊥ ⊥ (SamePlace one.reason other.reason one.place other.place)
      (entry_apart window budget shared property one) (entry_apart window budget shared property other) instances entries one.instance other.instance
      (entry_once window budget shared property one other) (λ none none'. absurd none) fails.1 fails'.1 in
      record { inside = both.1; instances = both.0 }
  listed_once window budget shared property one other (Err why) body.TooMany fails fails' = absurd fails
  listed_once window budget shared property one other (Err why) (body.Entries entries) fails fails' = of_property WrongProperty one other fails fails'

  property_apart : (window : WindowForm) (budget : ℕ) (shared : List Step) (failure : Failure) (asked : ℕ × PropertyForm) (told_record : PropertyRecord) → FailsProperty window budget shared failure asked told_record
      → AcceptsProperty window budget shared asked told_record → ⊥
  property_apart window budget shared failure (number, property) told_record (inl wrong) accepts = wrong.1 accepts.0
  property_apart window budget shared failure (number, property) told_record (inr fails) accepts =
      listed_apart window budget shared property failure (due_instances window property number) told_record.body fails.1 accepts.1

  property_once : (window : WindowForm) (budget : ℕ) (shared : List Step) (one other : Failure) (asked : ℕ × PropertyForm) (told_record : PropertyRecord) → FailsProperty window budget shared one asked told_record
      → FailsProperty window budget shared other asked told_record → SameInstance one other
  property_once window budget shared one other (number, property) told_record (inl wrong) (inl wrong') = of_property WrongProperty one other wrong.0 wrong'.0
  property_once window budget shared one other (number, property) told_record (inl wrong) (inr fails) = absurd (wrong.1 fails.0)
  property_once window budget shared one other (number, property) told_record (inr fails) (inl wrong) = absurd (wrong.1 fails.0)
  property_once window budget shared one other (number, property) told_record (inr fails) (inr fails') =
      listed_once window budget shared property one other (due_instances window property number) told_record.body fails.1 fails'.1

  shared_apart : (problem : Problem) (shared : List Step) (failure : Failure) → FailsShared problem shared failure → SharedPasses problem shared → ⊥
  shared_apart problem shared failure fails passes = fails.3.fails (first_pass problem.edges problem.kinds (λ clauses. clauses) (λ clauses. clauses) problem.clauses shared (failure.place + 1) passes)

  shared_once : (problem : Problem) (shared : List Step) (one other : Failure) → FailsShared problem shared one → FailsShared problem shared other → SameProperty one other
  shared_once problem shared one other fails fails' = record {
    inside = record {
      inside = record {
        reasons = fails.0 ∙ sym fails'.0;
        places = fails_once (λ n. StepsCheck problem.edges problem.kinds problem.clauses (take n shared)) (fewer_pass problem.edges problem.kinds (λ clauses. clauses) (λ clauses. clauses) problem.clauses shared) one.place other.place
            fails.3.before fails.3.fails fails'.3.before fails'.3.fails;
      };
      instances = fails.2 ∙ sym fails'.2;
    };
    properties = fails.1 ∙ sym fails'.1;
  }

  body_apart : (window : WindowForm) (budget : ℕ) (properties : List PropertyForm) (shared : List Step) (failure : Failure) (due : Result WindowForm BaseFault) (told_body : WindowBody)
      → FailsBody window budget properties shared failure due told_body → AcceptsBody window budget properties shared due told_body → ⊥
  body_apart window budget properties shared failure (Ok encoded) (told.TooLarge events clauses) fails accepts = accepts
  body_apart window budget properties shared failure (Ok encoded) (told.Answers records) (inl fails) accepts = shared_apart (base_of window) shared failure fails accepts.0
  body_apart window budget properties shared failure (Ok encoded) (told.Answers records) (inr fails) accepts =
      here_not_all (AcceptsProperty window budget shared) (FailsProperty window budget shared failure) (IsOfProperty WrongProperty failure) (property_apart window budget shared failure) (enumerate_from 0 properties) records failure.property
      fails.1.here accepts.1
  body_apart window budget properties shared failure (Err (fault.TooLarge events clauses)) told_body fails accepts = fails.1 accepts
  body_apart window budget properties shared failure (Err fault.Memory) told_body fails accepts = fails

  body_once : (window : WindowForm) (budget : ℕ) (properties : List PropertyForm) (shared : List Step) (one other : Failure) (due : Result WindowForm BaseFault) (told_body : WindowBody)
      → FailsBody window budget properties shared one due told_body → FailsBody window budget properties shared other due told_body → SameProperty one other
  body_once window budget properties shared one other (Ok encoded) (told.TooLarge events clauses) fails fails' = of_window WrongSize one other fails fails'
  body_once window budget properties shared one other (Ok encoded) (told.Answers records) (inl fails) (inl fails') = shared_once (base_of window) shared one other fails fails'
  body_once window budget properties shared one other (Ok encoded) (told.Answers records) (inl fails) (inr fails') = absurd (shared_apart (base_of window) shared one fails fails'.0)
  body_once window budget properties shared one other (Ok encoded) (told.Answers records) (inr fails) (inl fails') = absurd (shared_apart (base_of window) shared other fails' fails.0)
  body_once window budget properties shared one other (Ok encoded) (told.Answers records) (inr fails) (inr fails') =
      let both = first_both (AcceptsProperty window budget shared) (FailsProperty window budget shared one) (FailsProperty window budget shared other) (IsOfProperty WrongProperty one) (IsOfProperty WrongProperty other) (SameInstance one other)
      (property_apart window budget shared one) (property_apart window budget shared other) (enumerate_from 0 properties) records one.property other.property
      (property_once window budget shared one other) (of_property WrongProperty one other) fails.1 fails'.1 in
      record { inside = both.1; properties = both.0 }
  body_once window budget properties shared one other (Err (fault.TooLarge events clauses)) told_body fails fails' = of_window WrongSize one other fails.0 fails'.0
  body_once window budget properties shared one other (Err fault.Memory) told_body fails fails' = absurd fails

  window_apart : (properties : List PropertyForm) (budget : ℕ) (failure : Failure) (window : WindowForm) (told_record : WindowRecord) → FailsWindow properties budget failure window told_record
      → AcceptsWindow properties budget window told_record → ⊥
  window_apart properties budget failure window told_record fails accepts = body_apart window budget properties told_record.shared failure (base_due window) told_record.body fails accepts

  window_once : (properties : List PropertyForm) (budget : ℕ) (one other : Failure) (window : WindowForm) (told_record : WindowRecord) → FailsWindow properties budget one window told_record
      → FailsWindow properties budget other window told_record → SameProperty one other
  window_once properties budget one other window told_record fails fails' = body_once window budget properties told_record.shared one other (base_due window) told_record.body fails fails'

  same_failure : (one other : Failure) → one.window ≡ other.window → SameProperty one other → one ≡ other
  same_failure one other window same = λ i. record {
    window = window i;
    property = same.properties i;
    instance = same.inside.instances i;
    reason = same.inside.inside.reasons i;
    place = same.inside.inside.places i;
  }

  rejected_once : (recording : RecordingForm) (properties : List PropertyForm) (report : ReportForm) (one other : Failure) → IsRejected recording properties report one → IsRejected recording properties report other → one ≡ other
  rejected_once recording properties report one other fails fails' =
      let both = first_both (AcceptsWindow properties report.budget) (FailsWindow properties report.budget one) (FailsWindow properties report.budget other) (IsOfWindow WindowCount one) (IsOfWindow WindowCount other) (SameProperty one other)
      (window_apart properties report.budget one) (window_apart properties report.budget other) (all_windows recording) report.windows fails.0 fails'.0
      (window_once properties report.budget one other) (of_window WindowCount one other) fails.2 fails'.2 in
      same_failure one other (fails.1 ∙ ap (λ (n : ℕ). n + 1) both.0 ∙ sym fails'.1) both.1

  pub checks_exact : ChecksAreExact
  checks_exact = record {
    not_both = λ recording properties report failure accepted fails.
        here_not_all (AcceptsWindow properties report.budget) (FailsWindow properties report.budget failure) (IsOfWindow WindowCount failure) (window_apart properties report.budget failure)
        (all_windows recording) report.windows fails.0 fails.2.here accepted;
    one = rejected_once;
  }

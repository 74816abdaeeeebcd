-- The answers of an accepted report of deadlocks are true.
use Rattle.std.proofs.Common.{◌≡◌, refl, sym, subst, ℕ, ◌+◌, ◌<◌, true, List, Result, Some, Ok, Err, append-nil, arith}
use Rattle.std.specs.List.{slice_get}
use Rattle.std.proofs.lemmas.Option.{none-some}
use Rattle.gp_clause.specs.declared.kind.Kind.{Kind}
use Rattle.gp_clause.specs.Valuation.{IsValuation}
use Rattle.gp_certificate.specs.declared.certificate.Certificate.{Certificate}
use Rattle.gp_certificate.specs.declared.step.Step.{Step}
use Rattle.gp_certificate.specs.Shared.{SharedPasses}
use Rattle.gp_checker.specs.PlaceLaws.{all_at, counted_at, zip_at}
use Rattle.gp_constraint.specs.declared.fault.BaseFault.{BaseFault}
use Rattle.gp_constraint.specs.declared.fault.BaseFault.TheVariants as fault
use Rattle.gp_constraint.specs.Base.{base_of}
use Rattle.gp_constraint.specs.Encoded.{IsEncodable, base_due}
use Rattle.gp_constraint.specs.EncodedLaws.{is_encoded, is_valid}
use Rattle.gp_instance.specs.declared.instance.Instance.{Instance}
use Rattle.gp_instance.specs.declared.instance.InstancesFault.{InstancesFault}
use Rattle.gp_instance.specs.declared.instance.InstancesFault.TheVariants as many
use Rattle.gp_instance.specs.ListedLaws.{ListsEach}
use Rattle.gp_report.specs.Records.{Answer, Entry, PropertyBody, PropertyRecord, WindowBody}
use Rattle.gp_report.specs.declared.record.AnswerOf.TheVariants.{Found, Impossible, Undecided}
use Rattle.gp_report.specs.declared.record.PropertyBodyOf.TheVariants as body
use Rattle.gp_report.specs.declared.record.WindowBodyOf.TheVariants as told
use Rattle.gp_report.specs.Entries.{entries_in, properties_in}
use Rattle.gp_stuck.specs.Cycle.{is_cycle}
use Rattle.gp_stuck.specs.Cycles.{due_cycles}
use Rattle.gp_stuck.specs.Stuck.{IsStuck}
use Rattle.gp_stuck.specs.StuckQuery.{stuck_query_of}
use Rattle.gp_window.specs.declared.schedule.EventId.{EventId}
use Rattle.gp_window.specs.RecordingForm.{IsRecording, RecordingForm}
use Rattle.gp_window.specs.WindowForm.{IsWindow, WindowForm, window_of}
use Rattle.gp_window.specs.Windows.{all_windows}
use Rattle.gp_deadlock_checker.specs.Accepted.{AcceptsAnswer, AcceptsBody, AcceptsEntry, AcceptsListed, AcceptsProperty, AcceptsWindow, subjects}
use Rattle.gp_deadlock_checker.specs.Laws.{Laws}
use Rattle.gp_deadlock_checker.specs.Sound.{AcceptedDeadlocksAreTrue, IsTrueAnswer}
use Rattle.gp_deadlock_checker.proofs.Listed.{IsCycle, cycles_listed}

module _ (laws : Laws) (window : WindowForm) (budget : ℕ) (shared : List Step) (formed : IsWindow window) (is : IsEncodable window) (shares : SharedPasses (base_of window) shared) where
  -- a cycle whose query is refuted is not stuck
  not_stuck : (ids : List EventId) (certificate : Certificate) → is_cycle window ids ≡ true → AcceptsAnswer window budget shared ids (Impossible certificate) → IsStuck window ids → ⊥
  not_stuck ids certificate cycle accepts stuck =
      let m = laws.stuck window ids cycle stuck (laws.complete.base window stuck.0 formed (stuck.1, stuck.2)) in
      laws.refuted.no_valuation (base_of window) shared (stuck_query_of window ids) certificate (is_valid laws.valid window is) (laws.queries window ids cycle)
      (record { checks = record { shares = shares; own = accepts.0 }; ends = accepts.1 }) m.truth m.place
      (subst (λ (kinds : List Kind). IsValuation (base_of window).points (base_of window).edges kinds m.truth m.place) (sym (append-nil (base_of window).kinds)) m.valuation) m.clauses m.assumed

  -- an answer to a cycle that is accepted
  answer_true : (ids : List EventId) → is_cycle window ids ≡ true → (answer : Answer) → AcceptsAnswer window budget shared ids answer → IsTrueAnswer window ids answer
  answer_true ids cycle (Found schedule) accepts = accepts
  answer_true ids cycle (Impossible certificate) accepts = λ schedule ends. not_stuck ids certificate cycle accepts ((laws.block.stuck window ids formed cycle).1 (schedule, ends))
  answer_true ids cycle (Undecided worker from to) accepts = tt

-- the entry at a place has the cycle at that place
entry_at : (window : WindowForm) (budget : ℕ) (shared : List Step) (due : Result (List Instance) InstancesFault) (told_body : PropertyBody) (i : ℕ) (entry : Entry)
    → AcceptsListed window budget shared due told_body → slice_get (entries_in told_body) i ≡ Some entry
    → (cycles : List Instance) × (due ≡ Ok cycles) × (cycle : Instance) × (slice_get cycles i ≡ Some cycle) × AcceptsEntry window budget shared cycle entry
entry_at window budget shared (Ok cycles) (body.Entries entries) i entry accepts got =
    let at = zip_at (AcceptsEntry window budget shared) cycles entries i entry accepts got in (cycles, refl, at.0, at.1, at.2)
entry_at window budget shared (Ok cycles) body.TooMany i entry accepts got = absurd (none-some entry got)
entry_at window budget shared (Err many.TooMany) (body.Entries entries) i entry accepts got = absurd accepts
entry_at window budget shared (Err many.TooMany) body.TooMany i entry accepts got = absurd (none-some entry got)
entry_at window budget shared (Err many.Memory) told_body i entry accepts got = absurd accepts

entry_true : Laws → (window : WindowForm) (budget : ℕ) (shared : List Step) (told_body : PropertyBody) (i : ℕ) (entry : Entry) → IsWindow window → IsEncodable window
    → SharedPasses (base_of window) shared → AcceptsListed window budget shared (due_cycles window) told_body → slice_get (entries_in told_body) i ≡ Some entry
    → IsTrueAnswer window entry.events entry.answer
entry_true laws window budget shared told_body i entry formed is shares accepts got =
    let at = entry_at window budget shared (due_cycles window) told_body i entry accepts got in
    let all = subst (ListsEach (IsCycle window)) at.1 (cycles_listed laws.listed window) in
    let cycle = all_at (λ (one : Instance). IsCycle window one.events) at.0 i at.2 all.1 at.3 in
    subst (λ ids. IsTrueAnswer window ids entry.answer) (sym at.4.0) (answer_true laws window budget shared formed is shares at.2.events cycle entry.answer at.4.1)

-- the record at a place is that of a property
record_at : (window : WindowForm) (budget : ℕ) (shared : List Step) (due : Result WindowForm BaseFault) (window_body : WindowBody) (p : ℕ) (record_told : PropertyRecord)
    → AcceptsBody window budget shared due window_body → slice_get (properties_in window_body) p ≡ Some record_told
    → (encoded : WindowForm) × (due ≡ Ok encoded) × SharedPasses (base_of window) shared × AcceptsListed window budget shared (due_cycles window) record_told.body
record_at window budget shared (Ok encoded) (told.Answers records) p record_told accepts there =
    let at = zip_at (AcceptsProperty window budget shared) subjects records p record_told accepts.1 there in
    (encoded, refl, accepts.0, at.2.1)
record_at window budget shared (Ok encoded) (told.TooLarge events clauses) p record_told accepts there = absurd accepts
record_at window budget shared (Err (fault.TooLarge events clauses)) (told.Answers records) p record_told accepts there = absurd accepts
record_at window budget shared (Err (fault.TooLarge events clauses)) (told.TooLarge more_events more_clauses) p record_told accepts there = absurd (none-some record_told there)
record_at window budget shared (Err fault.Memory) window_body p record_told accepts there = absurd accepts

formed_at : (recording : RecordingForm) (k : ℕ) → IsRecording recording → k < recording.manifest.epochs → IsWindow (window_of recording (1 + k))
formed_at recording k rules below = record { recording = recording; rules = rules; first = omega arith; last = omega arith; is = refl }

pub accepted_true : Laws → AcceptedDeadlocksAreTrue
accepted_true laws recording report rules accepted k p i window record_told entry window_is record_is entry_is =
    let own_window = zip_at (AcceptsWindow report.budget) (all_windows recording) report.windows k window accepted window_is in
    let counted = counted_at (window_of recording) 1 recording.manifest.epochs k own_window.0 own_window.1 in
    let own = subst (λ (w : WindowForm). AcceptsWindow report.budget w window) counted.1 own_window.2 in
    let at = record_at (window_of recording (1 + k)) report.budget window.shared (base_due (window_of recording (1 + k))) window.body p record_told own record_is in
    let number : 1 + k ≡ k + 1 = omega arith in
    subst (λ n. IsTrueAnswer (window_of recording n) entry.events entry.answer) number
    (entry_true laws (window_of recording (1 + k)) report.budget window.shared record_told.body i entry (formed_at recording k rules counted.0)
    (is_encoded (window_of recording (1 + k)) at.0 at.1).encodable at.2 at.3 entry_is)

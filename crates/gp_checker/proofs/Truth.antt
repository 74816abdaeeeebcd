-- The answers of an accepted report are true.
use Rattle.std.proofs.Common.{◌≡◌, refl, sym, subst, ℕ, ◌+◌, ◌<◌, List, Result, Some, Ok, Err, arith}
use Rattle.std.specs.List.{enumerate_from, slice_get}
use Rattle.std.proofs.lemmas.Option.{none-some}
use Rattle.gp_constraint.specs.declared.fault.BaseFault.{BaseFault}
use Rattle.gp_constraint.specs.declared.fault.BaseFault.TheVariants as fault
use Rattle.gp_constraint.specs.Base.{base_of}
use Rattle.gp_constraint.specs.Encoded.{IsEncodable, base_due}
use Rattle.gp_constraint.specs.Query.{query_of}
use Rattle.gp_certificate.specs.declared.step.Step.{Step}
use Rattle.gp_certificate.specs.Shared.{SharedPasses}
use Rattle.gp_instance.specs.declared.instance.Instance.{Instance}
use Rattle.gp_instance.specs.declared.instance.InstancesFault.{InstancesFault}
use Rattle.gp_instance.specs.declared.instance.InstancesFault.TheVariants as many
use Rattle.gp_instance.specs.Instances.{due_instances}
use Rattle.gp_property.specs.Property.{IsProperty}
use Rattle.gp_property.specs.PropertyForm.{PropertyForm}
use Rattle.gp_report.specs.Records.{Answer, Entry, PropertyBody, PropertyRecord, WindowBody}
use Rattle.gp_report.specs.declared.record.AnswerOf.TheVariants.{Found, Impossible, Undecided}
use Rattle.gp_report.specs.declared.record.PropertyBodyOf.TheVariants as body
use Rattle.gp_report.specs.declared.record.WindowBodyOf.TheVariants as told
use Rattle.gp_report.specs.Entries.{entries_in, properties_in}
use Rattle.gp_window.specs.declared.schedule.EventId.{EventId}
use Rattle.gp_window.specs.RecordingForm.{IsRecording, RecordingForm}
use Rattle.gp_window.specs.WindowForm.{IsWindow, WindowForm, window_of}
use Rattle.gp_window.specs.Windows.{all_windows}
use Rattle.gp_checker.specs.Accepted.{AcceptsAnswer, AcceptsBody, AcceptsEntry, AcceptsListed, AcceptsProperty, AcceptsWindow}
use Rattle.gp_checker.specs.Laws.{Laws}
use Rattle.gp_checker.specs.Sound.{AcceptedIsTrue, IsTrueAnswer}
use Rattle.gp_constraint.specs.EncodedLaws.{is_encoded, is_valid}
use Rattle.gp_instance.specs.ListedLaws.{AreListed, IsListed, are_listed}
use Rattle.gp_checker.specs.PlaceLaws.{all_at, counted_at, numbered_at, zip_at}

-- an answer to a listed instance that is accepted over shared steps that pass
answer_true : Laws → (window : WindowForm) (budget : ℕ) (shared : List Step) (property : PropertyForm) (ids : List EventId) → IsWindow window → IsEncodable window
    → SharedPasses (base_of window) shared → IsListed window property ids → (answer : Answer) → AcceptsAnswer window budget shared property ids answer → IsTrueAnswer window property ids answer
answer_true laws window budget shared property ids formed is shares listed (Found schedule) accepts = accepts
answer_true laws window budget shared property ids formed is shares listed (Impossible certificate) accepts =
    laws.complete.impossible window property ids formed
    (λ truth place valuation holds assumed.
    laws.refuted.no_valuation (base_of window) shared (query_of window property ids) certificate (is_valid laws.valid window is) (laws.valid.query window property ids is.points listed.few listed.instance)
    (record { checks = record { shares = shares; own = accepts.0 }; ends = accepts.1 }) truth place valuation holds assumed)
answer_true laws window budget shared property ids formed is shares listed (Undecided worker from to) accepts = tt

-- the entry at a place has the instance at that place
entry_at : (window : WindowForm) (budget : ℕ) (shared : List Step) (property : PropertyForm) (due : Result (List Instance) InstancesFault) (told_body : PropertyBody) (i : ℕ) (entry : Entry)
    → AcceptsListed window budget shared property due told_body → slice_get (entries_in told_body) i ≡ Some entry
    → (instances : List Instance) × (due ≡ Ok instances) × (instance : Instance) × (slice_get instances i ≡ Some instance) × AcceptsEntry window budget shared property instance entry
entry_at window budget shared property (Ok instances) (body.Entries entries) i entry accepts got =
    let at = zip_at (AcceptsEntry window budget shared property) instances entries i entry accepts got in (instances, refl, at.0, at.1, at.2)
entry_at window budget shared property (Ok instances) body.TooMany i entry accepts got = absurd (none-some entry got)
entry_at window budget shared property (Err many.TooMany) (body.Entries entries) i entry accepts got = absurd accepts
entry_at window budget shared property (Err many.TooMany) body.TooMany i entry accepts got = absurd (none-some entry got)
entry_at window budget shared property (Err many.Memory) told_body i entry accepts got = absurd accepts

entry_true : Laws → (window : WindowForm) (budget number : ℕ) (shared : List Step) (property : PropertyForm) (told_body : PropertyBody) (i : ℕ) (entry : Entry) → IsWindow window → IsEncodable window
    → IsProperty property → SharedPasses (base_of window) shared → AcceptsListed window budget shared property (due_instances window property number) told_body → slice_get (entries_in told_body) i ≡ Some entry
    → IsTrueAnswer window property entry.events entry.answer
entry_true laws window budget number shared property told_body i entry formed is language shares accepts got =
    let at = entry_at window budget shared property (due_instances window property number) told_body i entry accepts got in
    let all = subst (AreListed window property) at.1 (are_listed laws.atoms window property number language) in
    let listed = all_at (λ (one : Instance). IsListed window property one.events) at.0 i at.2 all.1 at.3 in
    subst (λ ids. IsTrueAnswer window property ids entry.answer) (sym at.4.0) (answer_true laws window budget shared property at.2.events formed is shares listed entry.answer at.4.1)

-- the record at a place has the property of that number
record_at : (window : WindowForm) (budget : ℕ) (properties : List PropertyForm) (shared : List Step) (due : Result WindowForm BaseFault) (window_body : WindowBody) (p : ℕ) (property : PropertyForm) (record_told : PropertyRecord)
    → AcceptsBody window budget properties shared due window_body → slice_get properties p ≡ Some property → slice_get (properties_in window_body) p ≡ Some record_told
    → (encoded : WindowForm) × (due ≡ Ok encoded) × SharedPasses (base_of window) shared × AcceptsProperty window budget shared (0 + p, property) record_told
record_at window budget properties shared (Ok encoded) (told.Answers records) p property record_told accepts got there =
    let at = zip_at (AcceptsProperty window budget shared) (enumerate_from 0 properties) records p record_told accepts.1 there in
    let same : (0 + p, property) ≡ at.0 = numbered_at 0 properties p property at.0 got at.1 in
    (encoded, refl, accepts.0, subst (λ (pair : ℕ × PropertyForm). AcceptsProperty window budget shared pair record_told) (sym same) at.2)
record_at window budget properties shared (Ok encoded) (told.TooLarge events clauses) p property record_told accepts got there = absurd accepts
record_at window budget properties shared (Err (fault.TooLarge events clauses)) (told.Answers records) p property record_told accepts got there = absurd accepts
record_at window budget properties shared (Err (fault.TooLarge events clauses)) (told.TooLarge more_events more_clauses) p property record_told accepts got there = absurd (none-some record_told there)
record_at window budget properties shared (Err fault.Memory) window_body p property record_told accepts got there = absurd accepts

formed_at : (recording : RecordingForm) (k : ℕ) → IsRecording recording → k < recording.manifest.epochs → IsWindow (window_of recording (1 + k))
formed_at recording k rules below = record { recording = recording; rules = rules; first = omega arith; last = omega arith; is = refl }

pub accepted_true : Laws → AcceptedIsTrue
accepted_true laws recording properties report rules language accepted k p i window property record_told entry window_is property_is record_is entry_is =
    let own_window = zip_at (AcceptsWindow properties report.budget) (all_windows recording) report.windows k window accepted window_is in
    let counted = counted_at (window_of recording) 1 recording.manifest.epochs k own_window.0 own_window.1 in
    let own = subst (λ (w : WindowForm). AcceptsWindow properties report.budget w window) counted.1 own_window.2 in
    let at = record_at (window_of recording (1 + k)) report.budget properties window.shared (base_due (window_of recording (1 + k))) window.body p property record_told own property_is record_is in
    let number : 1 + k ≡ k + 1 = omega arith in
    subst (λ n. IsTrueAnswer (window_of recording n) property entry.events entry.answer) number
    (entry_true laws (window_of recording (1 + k)) report.budget (0 + p) window.shared property record_told.body i entry (formed_at recording k rules counted.0)
    (is_encoded (window_of recording (1 + k)) at.0 at.1).encodable (all_at IsProperty properties p property language property_is) at.2 at.3.1 entry_is)

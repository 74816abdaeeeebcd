-- Each answer is accepted over the new shared list exactly where it is over the old one.
use Rattle.std.proofs.Common.{◌≡◌, refl, ℕ, ◌+◌, ◌-◌, ◌^◌, ◌≤◌, ◌↔◌, Bool, true, false, List, [], ◌∷◌, ◌++◌, Result, Ok, Err, length, map, All, arith}
use Rattle.std.specs.Prelude.{if◌then◌else◌}
use Rattle.std.specs.List.{AllZip}
use Rattle.std.proofs.lemmas.List.Elements.{All-append, All-cons, All-head, All-nil, All-tail}
use Rattle.gp_clause.specs.declared.kind.Kind.{Kind}
use Rattle.gp_clause.specs.declared.problem.Query.{Query}
use Rattle.gp_constraint.specs.Base.{base_of}
use Rattle.gp_constraint.specs.Query.{query_of}
use Rattle.gp_certificate.specs.declared.step.Step.{Step}
use Rattle.gp_certificate.specs.Certificate.{clauses_of}
use Rattle.gp_derivation.specs.Numbering.{with_hints}
use Rattle.gp_certificate.specs.Shared.{OwnStepsPass, SharedPasses}
use Rattle.gp_instance.specs.declared.instance.Instance.{Instance}
use Rattle.gp_instance.specs.declared.instance.InstancesFault.{InstancesFault}
use Rattle.gp_instance.specs.declared.instance.InstancesFault.TheVariants as fault
use Rattle.gp_instance.specs.Instances.{due_instances}
use Rattle.gp_property.specs.PropertyForm.{PropertyForm}
use Rattle.gp_report.specs.Records.{Answer, Entry, PropertyBody, PropertyRecord}
use Rattle.gp_report.specs.declared.record.AnswerOf.TheVariants.{Found, Impossible, Undecided}
use Rattle.gp_report.specs.declared.record.PropertyBodyOf.TheVariants as body
use Rattle.gp_report.specs.Entries.{entries_among, entries_in}
use Rattle.gp_window.specs.declared.schedule.EventId.{EventId}
use Rattle.gp_window.specs.WindowForm.{WindowForm}
use Rattle.gp_sharing.specs.declared.sizes.Sizes.{Sizes}
use Rattle.gp_checker.specs.Accepted.{AcceptsAnswer, AcceptsEntry, AcceptsListed, AcceptsProperty}
use Rattle.gp_sharing.specs.Compacted.{answer_by, entries_by, entry_by, own_steps, property_by, with_entries}
use Rattle.gp_sharing.specs.Moving.{are_movable, compacted_steps, first_own, new_number, places_of, raised, staying, with_certificate}
use Rattle.gp_compact.proofs.Ends.{EndAlike, hints_alike, refutes_alike, staying_alike}
use Rattle.gp_sharing.specs.GrownLaws.{BeginsWith, begins_length, begins_through, certificate_begins}
use Rattle.gp_compact.proofs.Gathered.{gather_certificate}
use Rattle.gp_compact.proofs.Raised.{raised_steps}
use Rattle.gp_compact.proofs.Sized.{IsSized}
use Rattle.gp_compact.proofs.Stays.{movable_stays}

-- what holds of two lists together holds of each
pub all_left : {X : Type 0} (P : X → Type 0) (xs ys : List X) → All P (xs ++ ys) → All P xs
all_left P [] ys all = All-nil P
all_left P (x ∷ xs) ys all = All-cons P x xs (All-head P x (xs ++ ys) all) (all_left P xs ys (All-tail P x (xs ++ ys) all))

pub all_right : {X : Type 0} (P : X → Type 0) (xs ys : List X) → All P (xs ++ ys) → All P ys
all_right P [] ys all = all
all_right P (x ∷ xs) ys all = all_right P xs ys (All-tail P x (xs ++ ys) all)

-- with a certificate whose steps do not move, all numbers over the new list fit
abbrev pub Fits : Sizes → ℕ → Entry → Type 0
Fits sizes gained entry = are_movable (first_own sizes) (own_steps entry.answer) ≡ false → first_own sizes + gained + gained + length (own_steps entry.answer) ≤ 2 ^ 32

module _ (window : WindowForm) (budget : ℕ) (old : List Step) (sizes : Sizes) (is : IsSized (base_of window).kinds (base_of window).clauses old sizes)
    (list : List Step) (begins : BeginsWith old list) (checks : SharedPasses (base_of window) list) where
  -- the steps of a certificate pass where they passed, and end with the same clause
  steps_kept : (query : Query) (steps : List Step) → (are_movable (first_own sizes) steps ≡ false → first_own sizes + (length list - sizes.shared) + (length list - sizes.shared) + length steps ≤ 2 ^ 32)
      → (OwnStepsPass (base_of window).edges ((base_of window).kinds ++ query.locals) (base_of window).clauses (clauses_of old) [] steps
      ↔ OwnStepsPass (base_of window).edges ((base_of window).kinds ++ query.locals) (base_of window).clauses (clauses_of list) [] (compacted_steps sizes list steps))
      × EndAlike steps (compacted_steps sizes list steps)
  steps_kept query steps fits = by (are_movable (first_own sizes) steps) refl
    where
      by : (b : Bool) → are_movable (first_own sizes) steps ≡ b
          → (OwnStepsPass (base_of window).edges ((base_of window).kinds ++ query.locals) (base_of window).clauses (clauses_of old) [] steps
          ↔ OwnStepsPass (base_of window).edges ((base_of window).kinds ++ query.locals) (base_of window).clauses (clauses_of list) []
          (if b then map (with_hints (new_number sizes (length list) (places_of sizes list steps))) (staying (places_of sizes list steps) steps) else map (with_hints (raised sizes (length list - sizes.shared))) steps))
          × EndAlike steps
          (if b then map (with_hints (new_number sizes (length list) (places_of sizes list steps))) (staying (places_of sizes list steps) steps) else map (with_hints (raised sizes (length list - sizes.shared))) steps)
      by true movable = (
        movable_stays (base_of window).edges (base_of window).kinds query.locals (base_of window).clauses old sizes is list begins checks steps movable,
        staying_alike sizes list (new_number sizes (length list) (places_of sizes list steps)) steps,
      )
      by false fixed =
          let longer : length old ≤ length list = begins_length old list begins in
          let gains : length list ≡ length old + (length list - sizes.shared) = omega (arith, longer, is.shared) in
          let room : first_own sizes + (length list - sizes.shared) + (length list - sizes.shared) + 0 + length steps ≤ 2 ^ 32 = omega (arith, fits fixed) in (
            raised_steps (base_of window).kinds (base_of window).clauses old sizes is list begins (length list - sizes.shared) gains (base_of window).edges ((base_of window).kinds ++ query.locals) [] steps room,
            hints_alike (raised sizes (length list - sizes.shared)) steps,
          )

  answer_kept : (property : PropertyForm) (ids : List EventId) (answer : Answer)
      → (are_movable (first_own sizes) (own_steps answer) ≡ false → first_own sizes + (length list - sizes.shared) + (length list - sizes.shared) + length (own_steps answer) ≤ 2 ^ 32)
      → AcceptsAnswer window budget old property ids answer ↔ AcceptsAnswer window budget list property ids (answer_by (compacted_steps sizes list) answer)
  answer_kept property ids (Found schedule) fits = (λ h. h, λ h. h)
  answer_kept property ids (Undecided worker from to) fits = (λ h. h, λ h. h)
  answer_kept property ids (Impossible certificate) fits =
      let query = query_of window property ids in
      let kept = steps_kept query certificate.steps fits in
      let ends = refutes_alike query certificate.steps (compacted_steps sizes list certificate.steps) kept.1 in
      (λ h. (kept.0.0 h.0, ends.0 h.1), λ h. (kept.0.1 h.0, ends.1 h.1))

  entry_kept : (property : PropertyForm) (instance : Instance) (entry : Entry) → Fits sizes (length list - sizes.shared) entry
      → AcceptsEntry window budget old property instance entry ↔ AcceptsEntry window budget list property instance (entry_by (compacted_steps sizes list) entry)
  entry_kept property instance entry fits =
      let kept = answer_kept property instance.events entry.answer fits in
      (λ h. (h.0, kept.0 h.1), λ h. (h.0, kept.1 h.1))

  entries_kept : (property : PropertyForm) (instances : List Instance) (entries : List Entry) → All (Fits sizes (length list - sizes.shared)) entries
      → AllZip (AcceptsEntry window budget old property) instances entries ↔ AllZip (AcceptsEntry window budget list property) instances (map (entry_by (compacted_steps sizes list)) entries)
  entries_kept property [] [] fit = (λ h. h, λ h. h)
  entries_kept property [] (entry ∷ entries) fit = (λ h. h, λ h. h)
  entries_kept property (instance ∷ instances) [] fit = (λ h. h, λ h. h)
  entries_kept property (instance ∷ instances) (entry ∷ entries) fit =
      let first = entry_kept property instance entry (All-head (Fits sizes (length list - sizes.shared)) entry entries fit) in
      let rest = entries_kept property instances entries (All-tail (Fits sizes (length list - sizes.shared)) entry entries fit) in
      (λ h. (first.0 h.0, rest.0 h.1), λ h. (first.1 h.0, rest.1 h.1))

  listed_kept : (property : PropertyForm) (due : Result (List Instance) InstancesFault) (told : PropertyBody) → All (Fits sizes (length list - sizes.shared)) (entries_in told)
      → AcceptsListed window budget old property due told ↔ AcceptsListed window budget list property due (entries_by (compacted_steps sizes list) told)
  listed_kept property (Ok instances) body.TooMany fit = (λ h. h, λ h. h)
  listed_kept property (Ok instances) (body.Entries entries) fit = entries_kept property instances entries fit
  listed_kept property (Err fault.TooMany) body.TooMany fit = (λ h. h, λ h. h)
  listed_kept property (Err fault.TooMany) (body.Entries entries) fit = (λ h. h, λ h. h)
  listed_kept property (Err fault.Memory) body.TooMany fit = (λ h. h, λ h. h)
  listed_kept property (Err fault.Memory) (body.Entries entries) fit = (λ h. h, λ h. h)

  pub properties_kept : (properties : List (ℕ × PropertyForm)) (records : List PropertyRecord) → All (Fits sizes (length list - sizes.shared)) (entries_among records)
      → AllZip (AcceptsProperty window budget old) properties records ↔ AllZip (AcceptsProperty window budget list) properties (map (property_by (compacted_steps sizes list)) records)
  properties_kept [] [] fit = (λ h. h, λ h. h)
  properties_kept [] (told ∷ records) fit = (λ h. h, λ h. h)
  properties_kept (property ∷ properties) [] fit = (λ h. h, λ h. h)
  properties_kept ((number, property) ∷ properties) (told ∷ records) fit =
      let first = listed_kept property (due_instances window property number) told.body (all_left (Fits sizes (length list - sizes.shared)) (entries_in told.body) (entries_among records) fit) in
      let rest = properties_kept properties records (all_right (Fits sizes (length list - sizes.shared)) (entries_in told.body) (entries_among records) fit) in
      (λ h. ((h.0.0, first.0 h.0.1), rest.0 h.1), λ h. ((h.0.0, first.1 h.0.1), rest.1 h.1))

-- the steps of an entry pass over a list, with some locals
abbrev pub PassesSomehow : WindowForm → List Step → Entry → Type 0
PassesSomehow window old entry =
    (locals : List Kind) × OwnStepsPass (base_of window).edges ((base_of window).kinds ++ locals) (base_of window).clauses (clauses_of old) [] (own_steps entry.answer)

module _ (window : WindowForm) (budget : ℕ) (old : List Step) where
  answer_passes : (property : PropertyForm) (ids : List EventId) (answer : Answer) → AcceptsAnswer window budget old property ids answer
      → (locals : List Kind) × OwnStepsPass (base_of window).edges ((base_of window).kinds ++ locals) (base_of window).clauses (clauses_of old) [] (own_steps answer)
  answer_passes property ids (Found schedule) accepted = ([], tt)
  answer_passes property ids (Undecided worker from to) accepted = ([], tt)
  answer_passes property ids (Impossible certificate) accepted = ((query_of window property ids).locals, accepted.0)

  entries_pass : (property : PropertyForm) (instances : List Instance) (entries : List Entry) → AllZip (AcceptsEntry window budget old property) instances entries → All (PassesSomehow window old) entries
  entries_pass property [] [] accepted = All-nil (PassesSomehow window old)
  entries_pass property [] (entry ∷ entries) accepted = absurd accepted
  entries_pass property (instance ∷ instances) [] accepted = absurd accepted
  entries_pass property (instance ∷ instances) (entry ∷ entries) accepted =
      All-cons (PassesSomehow window old) entry entries (answer_passes property instance.events entry.answer accepted.0.1) (entries_pass property instances entries accepted.1)

  listed_pass : (property : PropertyForm) (due : Result (List Instance) InstancesFault) (told : PropertyBody) → AcceptsListed window budget old property due told → All (PassesSomehow window old) (entries_in told)
  listed_pass property due body.TooMany accepted = All-nil (PassesSomehow window old)
  listed_pass property (Ok instances) (body.Entries entries) accepted = entries_pass property instances entries accepted
  listed_pass property (Err fault.TooMany) (body.Entries entries) accepted = absurd accepted
  listed_pass property (Err fault.Memory) (body.Entries entries) accepted = absurd accepted

  -- where all properties are accepted, so do all their certificates
  pub properties_pass : (properties : List (ℕ × PropertyForm)) (records : List PropertyRecord) → AllZip (AcceptsProperty window budget old) properties records → All (PassesSomehow window old) (entries_among records)
  properties_pass [] [] accepted = All-nil (PassesSomehow window old)
  properties_pass [] (told ∷ records) accepted = absurd accepted
  properties_pass (property ∷ properties) [] accepted = absurd accepted
  properties_pass ((number, property) ∷ properties) (told ∷ records) accepted =
      All-append (PassesSomehow window old) (entries_in told.body) (entries_among records)
      (listed_pass property (due_instances window property number) told.body accepted.0.1) (properties_pass properties records accepted.1)

-- the new shared list checks
pub gather_entries : (window : WindowForm) (old : List Step) (sizes : Sizes) → IsSized (base_of window).kinds (base_of window).clauses old sizes → (list : List Step) → BeginsWith old list → (entries : List Entry)
    → All (PassesSomehow window old) entries → SharedPasses (base_of window) list → SharedPasses (base_of window) (with_entries sizes list entries)
gather_entries window old sizes is list begins [] pass checks = checks
gather_entries window old sizes is list begins (entry ∷ entries) pass checks =
    let more = with_certificate sizes list (own_steps entry.answer) in
    let here = All-head (PassesSomehow window old) entry entries pass in
    let longer : BeginsWith old more = begins_through old list more begins (certificate_begins sizes list (own_steps entry.answer)) in
    gather_entries window old sizes is more longer entries (All-tail (PassesSomehow window old) entry entries pass)
    (gather_certificate (base_of window).edges (base_of window).kinds (base_of window).clauses old sizes is here.0 list begins (own_steps entry.answer) checks here.1)

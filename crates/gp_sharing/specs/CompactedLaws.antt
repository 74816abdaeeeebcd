-- Laws: a text can tell what a window becomes, and its number stays.
use Rattle.std.proofs.Common.{◌≡◌, refl, ℕ, ◌-◌, Bool, true, false, List, [], ◌∷◌, ◌++◌, Option, length, map, All, arith}
use Rattle.std.specs.Prelude.{if◌then◌else◌}
use Rattle.std.specs.List.{list_any}
use Rattle.std.proofs.lemmas.List.{length-map}
use Rattle.std.proofs.lemmas.List.Elements.{All-append, All-head, All-map, All-nil, All-push, All-tail, All-take, All-weaker}
use Rattle.gp_certificate.specs.declared.step.Step.{Step}
use Rattle.gp_derivation.specs.Numbering.{with_hints}
use Rattle.gp_report.specs.declared.record.AnswerOf.{AnswerOf}
use Rattle.gp_report.specs.declared.record.AnswerOf.TheVariants.{Found, Impossible, Undecided}
use Rattle.gp_report.specs.declared.record.EntryOf.{EntryOf}
use Rattle.gp_report.specs.declared.record.PropertyBodyOf.{PropertyBodyOf}
use Rattle.gp_report.specs.declared.record.PropertyBodyOf.TheVariants.{TooMany, Entries}
use Rattle.gp_report.specs.declared.record.PropertyRecordOf.{PropertyRecordOf}
use Rattle.gp_report.specs.declared.record.WindowBodyOf.{WindowBodyOf}
use Rattle.gp_report.specs.declared.record.WindowBodyOf.TheVariants.{TooLarge, Answers}
use Rattle.gp_report.specs.declared.record.WindowRecordOf.{WindowRecordOf}
use Rattle.gp_report.specs.Entries.{entries_among, entries_in}
use Rattle.gp_report.specs.Report.{IsEntry, IsPropertyBody, IsPropertyRecord, IsPrintableAnswer, IsPrintableStep, IsWindowBody, IsWindowRecord}
use Rattle.gp_sharing.specs.declared.sizes.Sizes.{Sizes}
use Rattle.gp_sharing.specs.Compacted.{answer_by, are_few, body_by, compacted_by, entries_by, entries_in_body, entry_by, over_list, own_steps, property_by, with_entries}
use Rattle.gp_sharing.specs.Moving.{are_movable, compacted_steps, first_own, front_of, moved_step, moves, new_number, place_of, places_of, raised, staying, step_eq, with_certificate, with_moved, with_step, with_steps}
use Rattle.gp_sharing.specs.PlaceLaws.{staying_all}

-- new hints keep a step such that it can be told
hinted_told : (f : ℕ → ℕ) (steps : List Step) → All IsPrintableStep steps → All IsPrintableStep (map (with_hints f) steps)
hinted_told f steps told = All-map IsPrintableStep (with_hints f) steps told

compacted_told : (sizes : Sizes) (list steps : List Step) → All IsPrintableStep steps → All IsPrintableStep (compacted_steps sizes list steps)
compacted_told sizes list steps told = by (are_movable (first_own sizes) steps)
  where
    by : (b : Bool) → All IsPrintableStep (if b then map (with_hints (new_number sizes (length list) (places_of sizes list steps))) (staying (places_of sizes list steps) steps) else map (with_hints (raised sizes (length list - sizes.shared))) steps)
    by true = hinted_told (new_number sizes (length list) (places_of sizes list steps)) (staying (places_of sizes list steps) steps) (staying_all IsPrintableStep (places_of sizes list steps) steps told)
    by false = hinted_told (raised sizes (length list - sizes.shared)) steps told

-- the shared list can be told with what moves into it
moved_told : (sizes : Sizes) (list : List Step) (places : List (Option ℕ)) (step : Step) → All IsPrintableStep list → IsPrintableStep step → All IsPrintableStep (with_moved sizes list places step)
moved_told sizes list places step told one = by (moves sizes places step)
  where
    pushed : (b : Bool) → All IsPrintableStep (if b then list else (list ++ moved_step sizes places step ∷ []))
    pushed true = told
    pushed false = All-push IsPrintableStep list (moved_step sizes places step) told one

    by : (b : Bool) → All IsPrintableStep (if b then with_step list (moved_step sizes places step) else list)
    by true = pushed (list_any (step_eq (moved_step sizes places step)) list)
    by false = told

steps_told : (sizes : Sizes) (list : List Step) (places : List (Option ℕ)) (steps : List Step) → All IsPrintableStep list → All IsPrintableStep steps → All IsPrintableStep (with_steps sizes list places steps)
steps_told sizes list places [] told own = told
steps_told sizes list places (step ∷ steps) told own =
    let more = with_moved sizes list places step in
    steps_told sizes more (places ++ place_of sizes more places step ∷ []) steps
    (moved_told sizes list places step told (All-head IsPrintableStep step steps own)) (All-tail IsPrintableStep step steps own)

certificate_told : (sizes : Sizes) (list steps : List Step) → All IsPrintableStep list → All IsPrintableStep steps → All IsPrintableStep (with_certificate sizes list steps)
certificate_told sizes list steps told own = by (are_movable (first_own sizes) steps)
  where
    by : (b : Bool) → All IsPrintableStep (if b then with_steps sizes list [] (front_of steps) else list)
    by true = steps_told sizes list [] (front_of steps) told (All-take IsPrintableStep (length steps - 1) steps own)
    by false = told

abbrev OwnTold : {Shown : Type 0} → EntryOf Shown → Type 0
OwnTold entry = All IsPrintableStep (own_steps entry.answer)

entries_list_told : {Shown : Type 0} (sizes : Sizes) (list : List Step) (entries : List (EntryOf Shown)) → All IsPrintableStep list → All OwnTold entries → All IsPrintableStep (with_entries sizes list entries)
entries_list_told sizes list [] told own = told
entries_list_told sizes list (entry ∷ entries) told own =
    entries_list_told sizes (with_certificate sizes list (own_steps entry.answer)) entries
    (certificate_told sizes list (own_steps entry.answer) told (All-head OwnTold entry entries own)) (All-tail OwnTold entry entries own)

-- the steps of the entries of a window can be told
answer_own : {Shown : Type 0} (answer : AnswerOf Shown) → IsPrintableAnswer answer → All IsPrintableStep (own_steps answer)
answer_own (Found schedule) told = All-nil IsPrintableStep
answer_own (Impossible certificate) told = told
answer_own (Undecided worker from to) told = All-nil IsPrintableStep

property_own : {Shown : Type 0} (body : PropertyBodyOf Shown) → IsPropertyBody body → All OwnTold (entries_in body)
property_own TooMany told = All-nil OwnTold
property_own (Entries entries) told = All-weaker IsEntry OwnTold (λ entry is. answer_own entry.answer is.answer) entries told.1

properties_own : {Shown : Type 0} (properties : List (PropertyRecordOf Shown)) → All IsPropertyRecord properties → All OwnTold (entries_among properties)
properties_own [] told = All-nil OwnTold
properties_own (property ∷ properties) told =
    All-append OwnTold (entries_in property.body) (entries_among properties)
    (property_own property.body (All-head IsPropertyRecord property properties told)) (properties_own properties (All-tail IsPropertyRecord property properties told))

body_own : {Shown : Type 0} (shared : List Step) (body : WindowBodyOf Shown) → IsWindowBody shared body → All OwnTold (entries_in_body body)
body_own shared (TooLarge events clauses) told = All-nil OwnTold
body_own shared (Answers properties) told = properties_own properties told

-- and so can its answers over another list
module _ {Shown : Type 0} (f : List Step → List Step) (keeps : (steps : List Step) → All IsPrintableStep steps → All IsPrintableStep (f steps)) where
  answer_told : (answer : AnswerOf Shown) → IsPrintableAnswer answer → IsPrintableAnswer (answer_by f answer)
  answer_told (Found schedule) told = told
  answer_told (Impossible certificate) told = keeps certificate.steps told
  answer_told (Undecided worker from to) told = told

  property_told : (body : PropertyBodyOf Shown) → IsPropertyBody body → IsPropertyBody (entries_by f body)
  property_told TooMany told = told
  property_told (Entries entries) told = (
    omega (arith, told.0, length-map entries (entry_by f)),
    All-map IsEntry (entry_by f) entries (All-weaker IsEntry (λ (entry : EntryOf Shown). IsEntry (entry_by f entry)) (λ entry is. record { some = is.some; few = is.few; answer = answer_told entry.answer is.answer }) entries told.1),
  )

  answers_told : (shared : List Step) (properties : List (PropertyRecordOf Shown)) → IsWindowBody shared (Answers properties) → All IsPropertyRecord (map (property_by f) properties)
  answers_told shared properties told =
      All-map IsPropertyRecord (property_by f) properties
      (All-weaker IsPropertyRecord (λ (property : PropertyRecordOf Shown). IsPropertyRecord (property_by f property)) (λ property is. property_told property.body is) properties told)

over_told : {Shown : Type 0} (sizes : Sizes) (shared : List Step) (body : WindowBodyOf Shown) → IsWindowBody shared body
    → IsWindowBody (with_entries sizes shared (entries_in_body body)) (body_by (compacted_steps sizes (with_entries sizes shared (entries_in_body body))) body)
over_told sizes shared (TooLarge events clauses) told = told
over_told sizes shared (Answers properties) told =
    answers_told (compacted_steps sizes (with_entries sizes shared (entries_in_body (Answers properties)))) (compacted_told sizes (with_entries sizes shared (entries_in_body (Answers properties)))) shared properties told

-- what can be told can be told in format 2
pub in_second : {Shown : Type 0} (format : ℕ) (told : WindowRecordOf Shown) → IsWindowRecord format told → IsWindowRecord 2 told
in_second format told is = record { shared = is.shared; first_format = λ wrong. absurd (omega (arith, wrong)); body = is.body }

-- so can be told what a window becomes, in format 2
pub by_told : {Shown : Type 0} (format : ℕ) (sizes : Sizes) (told : WindowRecordOf Shown) → IsWindowRecord format told → IsWindowRecord 2 (compacted_by sizes told)
by_told format sizes told is = by (are_few sizes told.body)
  where
    by : (b : Bool) → IsWindowRecord 2 (if b then over_list sizes (with_entries sizes told.shared (entries_in_body told.body)) told else told)
    by true = record {
      shared = entries_list_told sizes told.shared (entries_in_body told.body) is.shared (body_own told.shared told.body is.body);
      first_format = λ wrong. absurd (omega (arith, wrong));
      body = over_told sizes told.shared told.body is.body;
    }
    by false = in_second format told is

-- its number stays
pub by_number : {Shown : Type 0} (sizes : Sizes) (told : WindowRecordOf Shown) → (compacted_by sizes told).number ≡ told.number
by_number sizes told = by (are_few sizes told.body)
  where
    by : (b : Bool) → (if b then over_list sizes (with_entries sizes told.shared (entries_in_body told.body)) told else told).number ≡ told.number
    by true = refl
    by false = refl

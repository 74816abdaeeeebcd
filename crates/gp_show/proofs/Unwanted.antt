-- A window without an answer that may be asked for in a pass has no instance that is asked for in it.
use Rattle.std.proofs.Common.{◌≡◌, refl, sym, ap, ◌∙◌, ℕ, ◌+◌, ◌-◌, Bool, true, false, cond, List, [], ◌∷◌, ◌++◌, length, take, subst}
use Rattle.std.specs.Prelude.{◌&&◌, Result, Ok, Err}
use Rattle.std.specs.List.{list_any}
use Rattle.std.proofs.lemmas.Bool.{or_parts}
use Rattle.std.proofs.lemmas.List.Elements.{filter-append}
use Rattle.gp_certificate.specs.declared.step.Step.{Step}
use Rattle.gp_constraint.specs.Encoded.{base_due}
use Rattle.gp_constraint.specs.declared.fault.BaseFault.{BaseFault}
use Rattle.gp_property.specs.PropertyForm.{PropertyForm}
use Rattle.gp_report.specs.Entries.{entries_in, properties_in}
use Rattle.gp_report.specs.Records.{Answer, Entry, PropertyRecord, WindowRecord}
use Rattle.gp_view.specs.Answered.{AnsweredForm}
use Rattle.gp_window.specs.WindowForm.{WindowForm}
use Rattle.gp_words.specs.Showing.{ShowForm}
use Rattle.gp_show.specs.Answers.{answers_among, answers_from, answers_in, answers_over}
use Rattle.gp_show.specs.Choice.{asked_in, asks_answer, asks_in, asks_kind, asks_name, asks_number, is_told_in, wants, wants_property, wants_window}
use Rattle.gp_show.specs.Request.{RequestForm}
use Rattle.gp_show.specs.Show.{asked_count, text_after, told_from}
use Rattle.gp_show.specs.declared.choice.Pass.{Pass}
use Rattle.gp_show.proofs.Further.{take_none}

all_but : (a b c d e f : Bool) → (d && e && f) ≡ false → ((a && b && c && d && e) && f) ≡ false
all_but false b c d e f is = refl
all_but true false c d e f is = refl
all_but true true false d e f is = refl
all_but true true true false e f is = refl
all_but true true true true e f is = is

module _ (command : ShowForm) (pass : Pass) where
  unasked : (answered : AnsweredForm) → wants command pass answered.entry.answer ≡ false → asks_in command pass answered ≡ false
  unasked answered unwanted =
      let answer : Answer = answered.entry.answer in
      all_but (asks_number command.window answered.window.number) (asks_name command.property answered.property.name) (asks_number command.instance answered.number)
      (asks_kind command.answer answer) (asks_answer command.style answer) (is_told_in pass answer) unwanted

  none_from : (window : WindowForm) (shared : List Step) (property : PropertyForm) (number : ℕ) (entries : List Entry)
      → list_any (λ (entry : Entry). wants command pass entry.answer) entries ≡ false → asked_in command pass (answers_from window shared property number entries) ≡ []
  none_from window shared property number [] none = refl
  none_from window shared property number (entry ∷ entries) none =
      let both = or_parts (wants command pass entry.answer) (list_any (λ (entry : Entry). wants command pass entry.answer) entries) none in
      let answered : AnsweredForm = record { window = window; shared = shared; property = property; number = number; entry = entry } in
      let rest : List AnsweredForm = asked_in command pass (answers_from window shared property (number + 1) entries) in
      subst (λ (b : Bool). cond b (answered ∷ rest) rest ≡ []) (sym (unasked answered both.0)) (none_from window shared property (number + 1) entries both.1)

  none_among : (window : WindowForm) (shared : List Step) (properties : List PropertyForm) (records : List PropertyRecord)
      → list_any (wants_property command pass) records ≡ false → asked_in command pass (answers_among window shared properties records) ≡ []
  none_among window shared [] records none = refl
  none_among window shared (property ∷ properties) [] none = refl
  none_among window shared (property ∷ properties) (told ∷ records) none =
      let both = or_parts (wants_property command pass told) (list_any (wants_property command pass) records) none in
      filter-append (asks_in command pass) (answers_from window shared property 0 (entries_in told.body)) (answers_among window shared properties records)
      ∙ ap (λ (xs : List AnsweredForm). xs ++ asked_in command pass (answers_among window shared properties records)) (none_from window shared property 0 (entries_in told.body) both.0)
      ∙ none_among window shared properties records both.1

  none_over : (properties : List PropertyForm) (told : WindowRecord) (base : Result WindowForm BaseFault) → wants_window command pass told ≡ false
      → asked_in command pass (answers_over properties told base) ≡ []
  none_over properties told (Ok window) none = none_among window told.shared properties (properties_in told.body) none
  none_over properties told (Err fault) none = refl

module _ (request : RequestForm) (properties : List PropertyForm) (window : WindowForm) (told : WindowRecord) (unwanted : wants_window request.command request.pass told ≡ false) where
  nothing : asked_in request.command request.pass (answers_in properties window told) ≡ []
  nothing = none_over request.command request.pass properties told (base_due window) unwanted

  -- so none is counted
  pub unwanted_count : asked_count request (answers_in properties window told) ≡ 0
  unfolding asked_count
  unwanted_count = ap (λ (xs : List AnsweredForm). length xs) nothing

  -- nor shown
  pub unwanted_text : (before : ℕ) → text_after request before (answers_in properties window told) ≡ []
  unfolding text_after
  unwanted_text before =
      ap (λ (xs : List AnsweredForm). told_from request.command.style request.properties request.beside before (take (request.command.most - before) xs)) nothing
      ∙ ap (told_from request.command.style request.properties request.beside before) (take_none (request.command.most - before))

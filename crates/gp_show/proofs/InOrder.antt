-- Two passes over a report show what is to be shown of it: those that are found, and then the others.
use Rattle.std.proofs.Common.{◌≡◌, refl, sym, ap, ◌∙◌, ℕ, ◌+◌, ◌-◌, min, Bool, true, false, cond, List, [], ◌∷◌, ◌++◌, length, take, length-append, subst, arith}
use Rattle.std.specs.Prelude.{not, filter, Option}
use Rattle.std.proofs.lemmas.List.{length-take}
use Rattle.gp_base.specs.FilterLaws.{filter-filter}
use Rattle.gp_outside.specs.Sinks.{Appends, AppendsFront}
use Rattle.gp_beside.specs.declared.beside.Noted.{Noted}
use Rattle.gp_place.specs.declared.beside.Beside.{Beside}
use Rattle.gp_predict.specs.WrittenLaws.{appends_both, front_first, front_second}
use Rattle.gp_predict.specs.declared.submission.Submission.{Submission}
use Rattle.gp_property.specs.PropertyForm.{PropertyForm}
use Rattle.gp_view.specs.Answered.{AnsweredForm}
use Rattle.gp_words.specs.Showing.{ShowForm}
use Rattle.gp_show.specs.Choice.{asked_in, asked_of, asks, found_first, is_found, is_told_in, shown_of, told_in}
use Rattle.gp_show.specs.Request.{RequestForm, request_with}
use Rattle.gp_show.specs.Show.{answers_text, asked_count, shown_text, text_after, told_from}
use Rattle.gp_show.specs.declared.choice.Pass.{Pass}
use Rattle.gp_show.specs.declared.choice.Pass.TheVariants.{Found, Others}
use Rattle.gp_show.proofs.Further.{take_append, told_append, told_left}

-- what a test keeps and what it does not are all
parted : {A : Type 0} (p : A → Bool) (xs : List A) → length (filter p xs) + length (filter (λ x. not (p x)) xs) ≡ length xs
parted p [] = refl
parted p (x ∷ xs) =
    let rest = parted p xs in
    elim (p x) as (λ v. length (cond v (x ∷ filter p xs) (filter p xs)) + length (cond (not v) (x ∷ filter (λ y. not (p y)) xs) (filter (λ y. not (p y)) xs)) ≡ length (x ∷ xs)) [
      | true ↦ omega (arith, rest)
      | false ↦ omega (arith, rest)
    ]

-- all are there, in the other order
all_first : (answers : List AnsweredForm) → length (found_first answers) ≡ length answers
all_first answers =
    length-append (told_in Found answers) (told_in Others answers) ∙ parted (λ (answered : AnsweredForm). is_found answered.entry.answer) answers

-- those asked for in the two passes
both_passes : (command : ShowForm) (answers : List AnsweredForm) → found_first (asked_of command answers) ≡ asked_in command Found answers ++ asked_in command Others answers
both_passes command answers =
    ap (λ (xs : List AnsweredForm). xs ++ told_in Others (asked_of command answers)) (filter-filter (asks command) (λ (answered : AnsweredForm). is_told_in Found answered.entry.answer) answers)
    ∙ ap (λ (xs : List AnsweredForm). asked_in command Found answers ++ xs) (filter-filter (asks command) (λ (answered : AnsweredForm). is_told_in Others answered.entry.answer) answers)

module _ (command : ShowForm) (properties : List PropertyForm) (beside : Beside) where
  -- what a pass tells
  abbrev pub pass_of : Pass → RequestForm
  pass_of pass = record { command = command; pass = pass; properties = properties; beside = beside }

  -- how many are asked for
  pub both_counted : (answers : List AnsweredForm) → asked_count (pass_of Found) answers + asked_count (pass_of Others) answers ≡ length (asked_of command answers)
  unfolding asked_count
  both_counted answers =
      sym (length-append (asked_in command Found answers) (asked_in command Others answers))
      ∙ ap (λ (xs : List AnsweredForm). length xs) (sym (both_passes command answers))
      ∙ all_first (asked_of command answers)

  -- the text of those that are shown
  pub both_told : (answers : List AnsweredForm)
      → told_from command.style properties beside 0 (shown_of command answers)
      ≡ text_after (pass_of Found) 0 answers ++ text_after (pass_of Others) (0 + asked_count (pass_of Found) answers) answers
  unfolding asked_count text_after
  both_told answers =
      let first : List AnsweredForm = asked_in command Found answers in
      let second : List AnsweredForm = asked_in command Others answers in
      let all : command.most ≡ command.most - 0 = omega arith in
      let left : command.most - length first ≡ command.most - (0 + length first) = omega arith in
      ap (λ (xs : List AnsweredForm). told_from command.style properties beside 0 (take command.most xs)) (both_passes command answers)
      ∙ ap (told_from command.style properties beside 0) (take_append command.most first second)
      ∙ told_append command.style properties beside 0 (take command.most first) (take (command.most - length first) second)
      ∙ ap (λ rest. told_from command.style properties beside 0 (take command.most first) ++ rest) (told_left command.style properties beside 0 command.most first second)
      ∙ ap (λ k. told_from command.style properties beside 0 (take command.most first) ++ told_from command.style properties beside (0 + length first) (take k second)) left
      ∙ ap (λ k. told_from command.style properties beside 0 (take k first) ++ told_from command.style properties beside (0 + length first) (take (command.most - (0 + length first)) second)) all

  -- how many are shown
  pub shown_count : (answers : List AnsweredForm) → length (shown_of command answers) ≡ min command.most (length (asked_of command answers))
  shown_count answers = length-take command.most (found_first (asked_of command answers)) ∙ ap (min command.most) (all_first (asked_of command answers))

  -- the instances, and then how many of how many
  pub told_both : (old middle new : Option (List ℕ)) (answers : List AnsweredForm) (asked : ℕ) → asked ≡ length (asked_of command answers)
      → Appends old middle (told_from command.style properties beside 0 (shown_of command answers))
      → Appends middle new (shown_text command.style (min command.most asked) asked) → Appends old new (answers_text command properties beside answers)
  told_both old middle new answers asked is first second =
      appends_both old middle new (told_from command.style properties beside 0 (shown_of command answers)) (shown_text command.style (length (shown_of command answers)) (length (asked_of command answers))) first
      (subst (λ (n : ℕ). Appends middle new (shown_text command.style n (length (asked_of command answers)))) (sym (shown_count answers))
      (subst (λ (n : ℕ). Appends middle new (shown_text command.style (min command.most n) n)) is second))

  -- the instances, and a prefix of that
  pub told_cut : (old middle new : Option (List ℕ)) (answers : List AnsweredForm) (asked : ℕ) → asked ≡ length (asked_of command answers)
      → Appends old middle (told_from command.style properties beside 0 (shown_of command answers))
      → AppendsFront middle new (shown_text command.style (min command.most asked) asked) → AppendsFront old new (answers_text command properties beside answers)
  told_cut old middle new answers asked is first cut =
      front_second old middle new (told_from command.style properties beside 0 (shown_of command answers)) (shown_text command.style (length (shown_of command answers)) (length (asked_of command answers))) first
      (subst (λ (n : ℕ). AppendsFront middle new (shown_text command.style n (length (asked_of command answers)))) (sym (shown_count answers))
      (subst (λ (n : ℕ). AppendsFront middle new (shown_text command.style (min command.most n) n)) is cut))

  -- a prefix of the instances alone
  pub told_begun : (old new : Option (List ℕ)) (answers : List AnsweredForm) → AppendsFront old new (told_from command.style properties beside 0 (shown_of command answers))
      → AppendsFront old new (answers_text command properties beside answers)
  told_begun old new answers cut =
      front_first old new (told_from command.style properties beside 0 (shown_of command answers)) (shown_text command.style (length (shown_of command answers)) (length (asked_of command answers))) cut

module _ (command : ShowForm) (submission : Submission) (noted : Noted) (answers : List AnsweredForm) where
  abbrev text : List ℕ
  text = told_from command.style submission.listing.properties noted.beside 0 (shown_of command answers)

  -- the second pass counts on from the first one
  pub passes_count : (found asked : ℕ) → found ≡ 0 + asked_count (request_with command Found submission noted) answers
      → asked ≡ found + asked_count (request_with command Others submission noted) answers → asked ≡ length (asked_of command answers)
  passes_count found asked first second =
      let all = both_counted command submission.listing.properties noted.beside answers in omega (arith, first, second, all)

  two_texts : (found : ℕ) → found ≡ 0 + asked_count (request_with command Found submission noted) answers
      → text ≡ text_after (request_with command Found submission noted) 0 answers ++ text_after (request_with command Others submission noted) found answers
  two_texts found is =
      both_told command submission.listing.properties noted.beside answers
      ∙ ap (λ n. text_after (request_with command Found submission noted) 0 answers ++ text_after (request_with command Others submission noted) n answers) (sym is)

  -- and writes on
  pub passes_told : (old middle new : Option (List ℕ)) (found : ℕ) → found ≡ 0 + asked_count (request_with command Found submission noted) answers
      → Appends old middle (text_after (request_with command Found submission noted) 0 answers)
      → Appends middle new (text_after (request_with command Others submission noted) found answers) → Appends old new text
  passes_told old middle new found is first second =
      subst (Appends old new) (sym (two_texts found is))
      (appends_both old middle new (text_after (request_with command Found submission noted) 0 answers) (text_after (request_with command Others submission noted) found answers) first second)

  -- a prefix of the second one
  pub passes_cut : (old middle new : Option (List ℕ)) (found : ℕ) → found ≡ 0 + asked_count (request_with command Found submission noted) answers
      → Appends old middle (text_after (request_with command Found submission noted) 0 answers)
      → AppendsFront middle new (text_after (request_with command Others submission noted) found answers) → AppendsFront old new text
  passes_cut old middle new found is first cut =
      subst (AppendsFront old new) (sym (two_texts found is))
      (front_second old middle new (text_after (request_with command Found submission noted) 0 answers) (text_after (request_with command Others submission noted) found answers) first cut)

  -- a prefix of the first one alone
  pub passes_begun : (old new : Option (List ℕ)) → AppendsFront old new (text_after (request_with command Found submission noted) 0 answers) → AppendsFront old new text
  passes_begun old new cut =
      subst (AppendsFront old new) (sym (both_told command submission.listing.properties noted.beside answers))
      (front_first old new (text_after (request_with command Found submission noted) 0 answers)
      (text_after (request_with command Others submission noted) (0 + asked_count (request_with command Found submission noted) answers) answers) cut)

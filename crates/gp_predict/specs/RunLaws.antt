-- Laws: how what was come to was told, against what is due. One lemma serves all results of all tasks, and other programs.
use Rattle.std.proofs.Common.{◌≡◌, ◌≤◌, inl, inr, refl, sym, subst, ap, ℕ, List, true, arith, ◌∙◌}
use Rattle.std.specs.Prelude.{◌⊎◌, Option, None, Some, Result, Ok, Err}
use Rattle.gp_outside.specs.Faults.{Rose}
use Rattle.gp_outside.specs.Folders.{File}
use Rattle.gp_predict.specs.declared.outcome.Outcome.{Outcome}
use Rattle.gp_predict.specs.declared.reply.Reply.{Reply}
use Rattle.gp_predict.specs.declared.stop.Stop.{Stop}
use Rattle.gp_predict.specs.declared.stop.Stop.TheVariants as stop
use Rattle.gp_predict.specs.AbsentTextLaws.{told_absent}
use Rattle.gp_predict.specs.Finished.{CameToBy, IsFinished, IsPut, told_by}
use Rattle.gp_predict.specs.Refused.{reply_of, stops_absent}
use Rattle.gp_predict.specs.Run.{IsNothing, IsRefused, IsRunBy, WhereDue}
use Rattle.gp_predict.specs.Telling.{of_reply}
use Rattle.gp_predict.specs.Told.{IsDone, Nothing, Told, ends_with}

not_done_four : (status : ℕ) → IsDone status → status ≡ 4 → ⊥
not_done_four status (inl least) four = omega (arith, least, four)
not_done_four status (inr seven) four = omega (arith, seven, four)

not_done_six : (status : ℕ) → IsDone status → status ≡ 6 → ⊥
not_done_six status (inl least) six = omega (arith, least, six)
not_done_six status (inr seven) six = omega (arith, seven, six)

done_range : (status : ℕ) → IsDone status → status ≤ 7
done_range status (inl least) = omega (arith, least)
done_range status (inr seven) = omega (arith, seven)

nothing : (status : ℕ) (outcome : Outcome) (old new : Option (List ℕ)) → outcome ≡ ends_with status Nothing → new ≡ old → IsNothing outcome old new
nothing status outcome old new is same = (subst (λ (o : Outcome). o ≡ ends_with o.status Nothing) (sym is) refl, same)

module _ (status before after : ℕ) where
  not_four : IsDone status ⊎ (status ≡ 5) ⊎ (status ≡ 6) → status ≡ 4 → ⊥
  not_four (inl done) four = not_done_four status done four
  not_four (inr (inl five)) four = omega (arith, four, five)
  not_four (inr (inr six)) four = omega (arith, four, six)

  in_range : IsDone status ⊎ (status ≡ 5) ⊎ (status ≡ 6) → status ≤ 7
  in_range (inl done) = done_range status done
  in_range (inr (inl five)) = omega (arith, five)
  in_range (inr (inr six)) = omega (arith, six)

  completes : ¬ (Rose before after) → (status ≡ 5 → Rose before after) → IsDone status ⊎ (status ≡ 5) ⊎ (status ≡ 6) → IsDone status ⊎ (status ≡ 6)
  completes sink fault (inl done) = inl done
  completes sink fault (inr (inl five)) = absurd (sink (fault five))
  completes sink fault (inr (inr six)) = inr six

module _ {E : Type 0} (means : E → Told → Type 0) (due : Option E) (files : Option (List File)) (outcome : Outcome) (old new : Option (List ℕ)) (before after folder_before folder_after : ℕ) where
  -- what was put is what is due
  pub ran_put : (told : Told) → WhereDue due (λ expected. means expected told) → (outcome.status ≡ 3 → IsRefused outcome files (Rose folder_before folder_after) old new)
      → IsPut told outcome old new before after → IsRunBy means due files outcome old new before after folder_before folder_after
  ran_put told is_due refused put = record {
    given = λ done expected is. let given = put.given done in (told, is_due expected is, given.0, given.1);
    complete = λ folder sink. completes outcome.status before after sink put.fault put.range;
    read_fault = λ four. absurd (not_four outcome.status before after put.range four);
    write_fault = λ five. (put.fault five, λ expected is. let begun = put.begun (inl five) in (told, is_due expected is, begun.0, begun.1));
    memory = λ six. inr (λ expected is. let begun = put.begun (inr six) in (told, is_due expected is, begun.0, begun.1));
    refused = refused;
    range = in_range outcome.status before after put.range;
  }

  no_refusal : (told : Told) → told.status ≤ 1 → IsPut told outcome old new before after → outcome.status ≡ 3 → IsRefused outcome files (Rose folder_before folder_after) old new
  no_refusal told few put three =
      let given = put.given (inl (omega (arith, three))) in
      let same : outcome.status ≡ told.status = ap (λ (o : Outcome). o.status) given.0 in
      absurd (omega (arith, few, three, same))

  -- what was come to was told, or why there is nothing to tell; of what a text is, that text may be told
  pub ran : (text : Reply → E) → ((reply : Reply) → means (text reply) (of_reply reply)) → {T : Type 0} (tells : T → Told) (result : Result T Stop)
      → WhereDue due (CameToBy means text (told_by tells result))
      → (result ≡ Err stop.FolderFailed → Rose folder_before folder_after)
      → (stops_absent result ≡ true → files ≡ None → Rose folder_before folder_after)
      → IsFinished (told_by tells result) outcome old new before after → IsRunBy means due files outcome old new before after folder_before folder_after
  ran text is_told tells (Ok whole) came fault absent finished = ran_put (tells whole) came (no_refusal (tells whole) finished.0 finished.1) finished.1
  ran text is_told tells (Err (stop.Refused why)) came fault absent finished =
      ran_put (of_reply (reply_of why))
      (λ expected is. subst (λ (e : E). means e (of_reply (reply_of why))) (sym (came expected is)) (is_told (reply_of why)))
      (λ three.
      let given = finished.given (inl (omega (arith, three))) in
      let own : (reply_of why).status ≡ 3 = sym (ap (λ (o : Outcome). o.status) given.0) ∙ three in
      record {
        refusal = why;
        status = own;
        nothing = given.0 ∙ ap (λ (status : ℕ). ends_with status Nothing) own;
        written = given.1;
        absent = λ name same. absent (told_absent why name own same);
      })
      finished
  ran text is_told tells (Err stop.FolderFailed) came fault absent finished = let four : outcome.status ≡ 4 = ap (λ (o : Outcome). o.status) finished.0 in record {
    given = λ done expected is. absurd (not_done_four outcome.status done four);
    complete = λ folder sink. absurd (folder (fault refl));
    read_fault = λ _. (fault refl, nothing 4 outcome old new finished.0 finished.1);
    write_fault = λ five. absurd (omega (arith, four, five));
    memory = λ six. inl (nothing 4 outcome old new finished.0 finished.1);
    refused = λ three. absurd (omega (arith, four, three));
    range = omega (arith, four);
  }
  ran text is_told tells (Err stop.Memory) came fault absent finished = let six : outcome.status ≡ 6 = ap (λ (o : Outcome). o.status) finished.0 in record {
    given = λ done expected is. absurd (not_done_six outcome.status done six);
    complete = λ folder sink. inr six;
    read_fault = λ four. absurd (omega (arith, six, four));
    write_fault = λ five. absurd (omega (arith, six, five));
    memory = λ _. inl (nothing 6 outcome old new finished.0 finished.1);
    refused = λ three. absurd (omega (arith, six, three));
    range = omega (arith, six);
  }

-- what is due meets the fact that it meets
pub where_due : {E : Type 0} (given : E) (P : E → Type 0) → P given → WhereDue (Some given) P
where_due given P holds = λ expected is. let same : given ≡ expected = cc in subst P same holds

-- where nothing is due, it meets any fact
pub where_none : {E : Type 0} (P : E → Type 0) → WhereDue None P
where_none P = λ expected is. absurd (cc)

-- the refusal of the words is none of a file
pub not_three : (status own : ℕ) → own ≡ 2 → (status ≡ own) ⊎ (status ≡ 5) ⊎ (status ≡ 6) → status ≡ 3 → ⊥
not_three status own two (inl same) three = omega (arith, two, same, three)
not_three status own two (inr (inl five)) three = omega (arith, five, three)
not_three status own two (inr (inr six)) three = omega (arith, six, three)

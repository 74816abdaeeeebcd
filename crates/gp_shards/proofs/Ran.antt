-- How what a command came to was told, against what is due.
use Rattle.std.proofs.Common.{◌≡◌, ◌≢◌, ◌≤◌, inl, inr, refl, sym, subst, ap, ◌∙◌, ℕ, List, arith}
use Rattle.std.specs.Prelude.{◌⊎◌, IfSome, Option, None, Some, Result, Ok, Err}
use Rattle.gp_base.specs.Results.{and_then}
use Rattle.gp_outside.specs.Faults.{Rose}
use Rattle.gp_outside.specs.Folders.{File}
use Rattle.gp_predict.specs.Analysing.{of_report}
use Rattle.gp_predict.specs.declared.outcome.Outcome.{Outcome}
use Rattle.gp_predict.specs.declared.reply.Reply.{Reply}
use Rattle.gp_predict.specs.Due.{words_refused}
use Rattle.gp_predict.specs.Finished.{IsPut}
use Rattle.gp_predict.specs.Run.{IsNothing, WhereDue}
use Rattle.gp_predict.specs.RunLaws.{where_due, where_none}
use Rattle.gp_predict.specs.Telling.{of_reply}
use Rattle.gp_predict.specs.Told.{IsDone, Nothing, Told, ends_with}
use Rattle.gp_report.specs.ReportForm.{ReportForm}
use Rattle.gp_window.specs.Gives.{Gives}
use Rattle.gp_shards.specs.declared.stop.ShardStop.{ShardStop}
use Rattle.gp_shards.specs.declared.stop.ShardStop.TheVariants.{Refused, FolderFailed, Memory}
use Rattle.gp_shards.specs.Came.{CameTo}
use Rattle.gp_shards.specs.Due.{Expected, Means, Text, expected_or_refused, where_told}
use Rattle.gp_shards.specs.Finishing.{IsStopped}
use Rattle.gp_shards.specs.Refusing.{shard_reply}
use Rattle.gp_shards.specs.Run.{IsShardRefused, IsShardRun}
use Rattle.gp_shards.specs.Stage.{IsShardStage, refusal_of}
use Rattle.gp_shards.proofs.AbsentText.{told_absent}

-- an end that keeps nothing, with nothing written
nothing : (status : ℕ) (outcome : Outcome) (old new : Option (List ℕ)) → outcome ≡ ends_with status Nothing → new ≡ old → IsNothing outcome old new
nothing status outcome old new is same = (subst (λ (o : Outcome). o ≡ ends_with o.status Nothing) (sym is) refl, same)

not_six : (status : ℕ) → IsDone status → status ≡ 6 → ⊥
not_six status (inl least) six = omega (arith, least, six)
not_six status (inr seven) six = omega (arith, seven, six)

module _ (status before after : ℕ) where
  not_four : IsDone status ⊎ (status ≡ 5) ⊎ (status ≡ 6) → status ≡ 4 → ⊥
  not_four (inl (inl least)) four = omega (arith, least, four)
  not_four (inl (inr seven)) four = omega (arith, seven, four)
  not_four (inr (inl five)) four = omega (arith, five, four)
  not_four (inr (inr six)) four = omega (arith, six, four)

  pub in_range : IsDone status ⊎ (status ≡ 5) ⊎ (status ≡ 6) → status ≢ 7 → status ≤ 6
  in_range (inl (inl least)) unlimited = omega (arith, least)
  in_range (inl (inr seven)) unlimited = absurd (unlimited seven)
  in_range (inr (inl five)) unlimited = omega (arith, five)
  in_range (inr (inr six)) unlimited = omega (arith, six)

  completes : ¬ (Rose before after) → (status ≡ 5 → Rose before after) → IsDone status ⊎ (status ≡ 5) ⊎ (status ≡ 6) → IsDone status ⊎ (status ≡ 6)
  completes sink fault (inl done) = inl done
  completes sink fault (inr (inl five)) = absurd (sink (fault five))
  completes sink fault (inr (inr six)) = inr six

module _ (due : Option Expected) (files : Option (List File)) (outcome : Outcome) (old new : Option (List ℕ)) (before after folder_before folder_after : ℕ) where
  -- what was put is what is due
  pub ran_put : (told : Told) → outcome.status ≤ 6 → WhereDue due (λ expected. Means expected told) → (outcome.status ≡ 3 → IsShardRefused files (Rose folder_before folder_after) old new)
      → IsPut told outcome old new before after → IsShardRun due files outcome old new before after folder_before folder_after
  ran_put told range is_due refused put = record {
    given = λ done expected is. let given = put.given done in (told, is_due expected is, given.0, given.1);
    complete = λ folder sink. completes outcome.status before after sink put.fault put.range;
    read_fault = λ four. absurd (not_four outcome.status before after put.range four);
    write_fault = λ five. (put.fault five, λ expected is. let begun = put.begun (inl five) in (told, is_due expected is, begun.0, begun.1));
    memory = λ six. inr (λ expected is. let begun = put.begun (inr six) in (told, is_due expected is, begun.0, begun.1));
    refused = refused;
    range = range;
  }

  -- the folder failed
  pub ran_failed : Rose folder_before folder_after → outcome.status ≡ 4 → IsNothing outcome old new → IsShardRun due files outcome old new before after folder_before folder_after
  ran_failed rose four none = record {
    given = λ done expected is. absurd (not_four outcome.status before after (inl done) four);
    complete = λ folder sink. absurd (folder rose);
    read_fault = λ _. (rose, none);
    write_fault = λ five. absurd (omega (arith, four, five));
    memory = λ six. absurd (omega (arith, four, six));
    refused = λ three. absurd (omega (arith, four, three));
    range = omega (arith, four);
  }

  -- memory was wanting
  pub ran_wanting : outcome.status ≡ 6 → IsNothing outcome old new → IsShardRun due files outcome old new before after folder_before folder_after
  ran_wanting six none = record {
    given = λ done expected is. absurd (not_six outcome.status done six);
    complete = λ folder sink. inr six;
    read_fault = λ four. absurd (omega (arith, six, four));
    write_fault = λ five. absurd (omega (arith, six, five));
    memory = λ _. inl none;
    refused = λ three. absurd (omega (arith, six, three));
    range = omega (arith, six);
  }

-- words that are none of a command were refused
pub ran_words : (reply : Reply) (outcome : Outcome) (old new : Option (List ℕ)) (before after : ℕ) → reply ≡ words_refused → IsPut (of_reply reply) outcome old new before after
    → (outcome.status ≡ reply.status) ⊎ (outcome.status ≡ 5) ⊎ (outcome.status ≡ 6) → IsShardRun (Some (Text words_refused)) None outcome old new before after 0 0
ran_words reply outcome old new before after is put status =
    ran_put (Some (Text words_refused)) None outcome old new before after 0 0
    (of_reply words_refused) (few status) (where_due (Text words_refused) (λ expected. Means expected (of_reply words_refused)) refl)
    (λ three. absurd (other status three))
    (subst (λ (own : Reply). IsPut (of_reply own) outcome old new before after) is put)
  where
    two : reply.status ≡ 2
    two = ap (λ (own : Reply). own.status) is

    few : (outcome.status ≡ reply.status) ⊎ (outcome.status ≡ 5) ⊎ (outcome.status ≡ 6) → outcome.status ≤ 6
    few (inl same) = omega (arith, same, two)
    few (inr (inl five)) = omega (arith, five)
    few (inr (inr six)) = omega (arith, six)

    other : (outcome.status ≡ reply.status) ⊎ (outcome.status ≡ 5) ⊎ (outcome.status ≡ 6) → outcome.status ≡ 3 → ⊥
    other (inl same) three = omega (arith, same, two, three)
    other (inr (inl five)) three = omega (arith, five, three)
    other (inr (inr six)) three = omega (arith, six, three)

-- what a stage gave that is told by a text may be told
came_given : {A : Type 0} (reply : A → Reply) (result : Result A ShardStop) (due : Result A Reply) → Gives refusal_of result due
    → CameTo (λ value. of_reply (reply value)) result (expected_or_refused (and_then due (λ value. Ok (Text (reply value)))))
came_given {A} reply (Ok value) due gives =
    subst (λ (own : Result A Reply). Means (expected_or_refused (and_then own (λ value. Ok (Text (reply value))))) (of_reply (reply value))) (sym gives) refl
came_given {A} reply (Err (Refused why)) due gives =
    subst (λ (own : Result A Reply). Means (expected_or_refused (and_then own (λ value. Ok (Text (reply value))))) (of_reply (shard_reply why))) (sym gives) refl
came_given reply (Err FolderFailed) due gives = tt
came_given reply (Err Memory) due gives = tt

pub stage_came : {A : Type 0} (reply : A → Reply) (result : Result A ShardStop) (due : List File → Result A Reply) (files left : Option (List File)) (before after : ℕ)
    → IsShardStage result (λ told. Gives refusal_of result (due told)) files left before after
    → IsShardStage result (λ told. CameTo (λ value. of_reply (reply value)) result (expected_or_refused (and_then (due told) (λ value. Ok (Text (reply value)))))) files left before after
stage_came reply result due files left before after stage = record {
  later = stage.later;
  kept = stage.kept;
  told = λ told is. came_given reply result (due told) (stage.told told is);
  fault = stage.fault;
  absent = stage.absent;
  limit = stage.limit;
}

-- where the files are told, something due may be told so
due_told : (due : List File → Expected) (files : Option (List File)) (own : Told) → ((told : List File) → files ≡ Some told → Means (due told) own)
    → WhereDue (where_told due files) (λ expected. Means expected own)
due_told due None own means = where_none _
due_told due (Some told) own means = where_due (due told) (λ expected. Means expected own) (means told refl)

module _ {A : Type 0} (tell : A → Told) (due : List File → Expected) (files left : Option (List File)) (outcome : Outcome) (old new : Option (List ℕ)) (before after folder_before folder_after : ℕ) where
  abbrev Ran : Type 0
  Ran = IsShardRun (where_told due files) files outcome old new before after folder_before folder_after

  stop_range : (outcome.status ≡ 3) ⊎ (outcome.status ≡ 5) ⊎ (outcome.status ≡ 6) → outcome.status ≤ 6
  stop_range (inl three) = omega (arith, three)
  stop_range (inr (inl five)) = omega (arith, five)
  stop_range (inr (inr six)) = omega (arith, six)

  -- a stage that was stopped was told
  pub ran_stopped : (stop : ShardStop) → IsShardStage {A = A} (Err stop) (λ told. CameTo tell (Err stop) (due told)) files left folder_before folder_after
      → IsStopped stop outcome old new before after → Ran
  ran_stopped (Refused why) stage stopped =
      ran_put (where_told due files) files outcome old new before after folder_before folder_after
      (of_reply (shard_reply why)) (stop_range stopped.status) (due_told due files (of_reply (shard_reply why)) stage.told)
      (λ three.
      let given = stopped.put.given (inl (omega (arith, three))) in
      let own : (shard_reply why).status ≡ 3 = sym (ap (λ (o : Outcome). o.status) given.0) ∙ three in
      record { refusal = why; written = given.1; absent = λ path same. stage.absent (told_absent why path own same) })
      stopped.put
  ran_stopped FolderFailed stage stopped =
      ran_failed (where_told due files) files outcome old new before after folder_before folder_after
      (stage.fault refl) (ap (λ (o : Outcome). o.status) stopped.0) (nothing 4 outcome old new stopped.0 stopped.1)
  ran_stopped Memory stage stopped =
      ran_wanting (where_told due files) files outcome old new before after folder_before folder_after
      (ap (λ (o : Outcome). o.status) stopped.0) (nothing 6 outcome old new stopped.0 stopped.1)

  -- what a stage came to was told
  pub ran_told : (value : A) → IsShardStage {A = A} (Ok value) (λ told. CameTo tell (Ok value) (due told)) files left folder_before folder_after
      → (tell value).status ≤ 1 → IsPut (tell value) outcome old new before after → outcome.status ≢ 7 → Ran
  ran_told value stage few put unlimited =
      ran_put (where_told due files) files outcome old new before after folder_before folder_after
      (tell value) (in_range outcome.status before after put.range unlimited) (due_told due files (tell value) stage.told)
      (λ three.
      let own : outcome.status ≡ (tell value).status = ap (λ (o : Outcome). o.status) (put.given (inl (omega (arith, three)))).0 in
      absurd (omega (arith, three, own, few)))
      put

  -- what a stage came to was told behind what was written, or the folder failed there
  pub ran_part : (value : A) (between : ℕ) → IsShardStage {A = A} (Ok value) (λ told. CameTo tell (Ok value) (due told)) files left folder_before between
      → (outcome.status ≢ 4 → IsPut (tell value) outcome old new before after) → (outcome.status ≡ 4 → Rose between folder_after × IsNothing outcome old new)
      → (outcome.status ≡ 0) ⊎ (outcome.status ≡ 4) ⊎ (outcome.status ≡ 5) ⊎ (outcome.status ≡ 6) → Ran
  ran_part value between stage put failed status = by_status status
    where
      was_told : outcome.status ≤ 6 → outcome.status ≢ 3 → outcome.status ≢ 4 → Ran
      was_told range other whole =
          ran_put (where_told due files) files outcome old new before after folder_before folder_after
          (tell value) range (due_told due files (tell value) stage.told) (λ three. absurd (other three)) (put whole)

      by_status : (outcome.status ≡ 0) ⊎ (outcome.status ≡ 4) ⊎ (outcome.status ≡ 5) ⊎ (outcome.status ≡ 6) → Ran
      by_status (inl zero) = was_told (omega (arith, zero)) (λ three. omega (arith, zero, three)) (λ four. omega (arith, zero, four))
      by_status (inr (inl four)) =
          let rose = (failed four).0 in
          ran_failed (where_told due files) files outcome old new before after folder_before folder_after (omega (arith, stage.later, rose)) four (failed four).1
      by_status (inr (inr (inl five))) = was_told (omega (arith, five)) (λ three. omega (arith, five, three)) (λ four. omega (arith, five, four))
      by_status (inr (inr (inr six))) = was_told (omega (arith, six)) (λ three. omega (arith, six, three)) (λ four. omega (arith, six, four))

  -- a stop that was told has a status of its own
  pub stopped_status : (stop : ShardStop) → IsStopped stop outcome old new before after → (3 ≤ outcome.status) × (outcome.status ≤ 6)
  stopped_status (Refused why) stopped = status_of stopped.status
    where
      status_of : (outcome.status ≡ 3) ⊎ (outcome.status ≡ 5) ⊎ (outcome.status ≡ 6) → (3 ≤ outcome.status) × (outcome.status ≤ 6)
      status_of (inl three) = (omega (arith, three), omega (arith, three))
      status_of (inr (inl five)) = (omega (arith, five), omega (arith, five))
      status_of (inr (inr six)) = (omega (arith, six), omega (arith, six))
  stopped_status FolderFailed stopped = let four : outcome.status ≡ 4 = ap (λ (o : Outcome). o.status) stopped.0 in (omega (arith, four), omega (arith, four))
  stopped_status Memory stopped = let six : outcome.status ≡ 6 = ap (λ (o : Outcome). o.status) stopped.0 in (omega (arith, six), omega (arith, six))

-- the report of a merge is kept, however far it was told
pub kept_report : (report : ReportForm) (outcome : Outcome) (old new : Option (List ℕ)) (before after : ℕ) (P : ReportForm → Type 0) → IsPut (of_report report) outcome old new before after
    → P report → IfSome outcome.report P
kept_report report outcome old new before after P put holds = kept_by put.range
  where
    kept_by : IsDone outcome.status ⊎ (outcome.status ≡ 5) ⊎ (outcome.status ≡ 6) → IfSome outcome.report P
    kept_by (inl done) = subst (λ (o : Outcome). IfSome o.report P) (sym (put.given done).0) holds
    kept_by (inr (inl five)) = subst (λ (o : Outcome). IfSome o.report P) (sym (put.begun (inl five)).0) holds
    kept_by (inr (inr six)) = subst (λ (o : Outcome). IfSome o.report P) (sym (put.begun (inr six)).0) holds

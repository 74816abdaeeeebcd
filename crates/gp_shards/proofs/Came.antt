-- What a merge came to behind what was read.
use Rattle.std.proofs.Common.{◌≡◌, refl, sym, ap, subst, ◌∙◌, ℕ, ◌≤◌, List, arith}
use Rattle.std.specs.Prelude.{Option, Result, Ok, Err}
use Rattle.gp_base.specs.Results.{and_then}
use Rattle.gp_outside.specs.Faults.{Rose}
use Rattle.gp_outside.specs.Folders.{File}
use Rattle.gp_predict.specs.Analysing.{of_report}
use Rattle.gp_predict.specs.declared.listing.Listing.{Listing}
use Rattle.gp_predict.specs.declared.reply.Reply.{Reply}
use Rattle.gp_predict.specs.Listing.{listing_at}
use Rattle.gp_predict.specs.Telling.{of_reply}
use Rattle.gp_predict.specs.Told.{Told}
use Rattle.gp_report.specs.ReportForm.{ReportForm}
use Rattle.gp_window.specs.Gives.{Gives, StopsAs}
use Rattle.gp_words.specs.Sharding.{MergeForm}
use Rattle.gp_shards.specs.Came.{CameTo, IsMergeChecked}
use Rattle.gp_shards.specs.declared.merging.AllParts.{AllParts}
use Rattle.gp_shards.specs.declared.stop.ShardStop.{ShardStop}
use Rattle.gp_shards.specs.declared.stop.ShardStop.TheVariants.{Refused, FolderFailed, Memory}
use Rattle.gp_shards.specs.Due.{Expected, Means, Whole, due_to_merge, expected_or_refused}
use Rattle.gp_shards.specs.Merging.{parts_in}
use Rattle.gp_shards.specs.Refusing.{shard_reply}
use Rattle.gp_shards.specs.Stage.{IsShardStage, refusal_of}

-- a refusal is what is due
refused_first : {A B : Type 0} (tell : B → Told) (stop : ShardStop) (due : Result A Reply) (next : A → Result Expected Reply) → StopsAs (refusal_of stop) due
    → CameTo {A = B} tell (Err stop) (expected_or_refused (and_then due next))
refused_first {A} tell (Refused why) due next is =
    subst (λ (own : Result A Reply). Means (expected_or_refused (and_then own next)) (of_reply (shard_reply why))) (sym is) refl
refused_first tell FolderFailed due next is = tt
refused_first tell Memory due next is = tt

-- a fault behind other calls is one of all
earlier : (before between after : ℕ) → before ≤ between → Rose between after → Rose before after
earlier before between after later rose = omega (arith, later, rose)

module _ (merge : MergeForm) (old : Option (List File)) (before : ℕ) where
  -- what is due behind what was read
  abbrev behind : List File → Listing → Result Expected Reply
  behind files listing = and_then (parts_in files listing.recording merge.outs) (λ all. Ok (Whole listing all))

  -- the recording or its properties were not read
  pub listing_stopped : (stop : ShardStop) (new : Option (List File)) (after : ℕ)
      → IsShardStage {A = Listing} (Err stop) (λ files. Gives refusal_of (Err stop) (listing_at files merge.folder)) old new before after
      → IsShardStage {A = ReportForm} (Err stop) (λ files. CameTo of_report (Err stop) (due_to_merge merge files)) old new before after
  listing_stopped stop new after stage = record {
    later = stage.later;
    kept = stage.kept;
    told = λ files is. refused_first of_report stop (listing_at files merge.folder) (behind files) (stage.told files is);
    fault = λ failed. stage.fault (let same : stop ≡ FolderFailed = cc in ap Err same);
    absent = stage.absent;
    limit = stage.limit;
  }

  module _ (listing : Listing) (middle : Option (List File)) (between : ℕ)
      (first : IsShardStage (Ok listing) (λ files. Gives refusal_of (Ok listing) (listing_at files merge.folder)) old middle before between) where
    -- the parts were not read
    pub parts_stopped : (stop : ShardStop) (new : Option (List File)) (after : ℕ)
        → IsShardStage {A = AllParts} (Err stop) (λ files. Gives refusal_of (Err stop) (parts_in files listing.recording merge.outs)) middle new between after
        → IsShardStage {A = ReportForm} (Err stop) (λ files. CameTo of_report (Err stop) (due_to_merge merge files)) old new before after
    parts_stopped stop new after stage = record {
      later = omega (arith, first.later, stage.later);
      kept = stage.kept ∙ first.kept;
      told = λ files is.
          subst (λ (read : Result Listing Reply). CameTo of_report (Err stop) (expected_or_refused (and_then read (behind files)))) (sym (first.told files is))
          (refused_first of_report stop (parts_in files listing.recording merge.outs) (λ all. Ok (Whole listing all)) (stage.told files (first.kept ∙ is)));
      fault = λ failed. earlier before between after first.later
          (stage.fault (let same : stop ≡ FolderFailed = cc in ap Err same));
      absent = λ absent none. earlier before between after first.later (stage.absent absent (first.kept ∙ none));
      limit = stage.limit;
    }

    -- what was merged was checked
    pub whole_came : (all : AllParts) (result : Result ReportForm ShardStop) (new : Option (List File)) (after : ℕ)
        → IsShardStage (Ok all) (λ files. Gives refusal_of (Ok all) (parts_in files listing.recording merge.outs)) middle new between after
        → IsMergeChecked listing all result → IsShardStage result (λ files. CameTo of_report result (due_to_merge merge files)) old new before after
    whole_came all result new after stage checked = record {
      later = omega (arith, first.later, stage.later);
      kept = stage.kept ∙ first.kept;
      told = λ files is.
          subst (λ (read : Result Listing Reply). CameTo of_report result (expected_or_refused (and_then read (behind files)))) (sym (first.told files is))
          (subst (λ (read : Result AllParts Reply). CameTo of_report result (expected_or_refused (and_then read (λ own. Ok (Whole listing own))))) (sym (stage.told files (first.kept ∙ is)))
          checked.came);
      fault = λ failed. absurd (checked.no_fault failed);
      absent = λ absent none. let present = checked.present in absurd (cc);
      limit = checked.limit;
    }

-- What may be told where something is due to the program that cuts recordings and merges reports is never the answer without a text.
use Rattle.std.proofs.Common.{ap, subst, sym, Bool, true, false, List, Option, Some, None, Result, Ok, Err, if◌then◌else◌}
use Rattle.gp_base.specs.Results.{and_then}
use Rattle.gp_merge.specs.declared.checking.CheckedMerge.{CheckedMerge}
use Rattle.gp_merge.specs.declared.checking.CheckedMerge.TheVariants as check
use Rattle.gp_outside.specs.Folders.{File}
use Rattle.gp_report.specs.Entries.{any_found, entries_of}
use Rattle.gp_words.specs.Sharding.{Cut, Merge, ShardForm, shard_command_of}
use Rattle.gp_predict.specs.declared.reply.Reply.{Reply}
use Rattle.gp_predict.specs.Listing.{listing_at}
use Rattle.gp_predict.specs.Refusal.{never_due}
use Rattle.gp_predict.specs.Telling.{of_reply}
use Rattle.gp_predict.specs.Told.{IsDone, Told}
use Rattle.gp_shards.specs.Cutting.{cutting_at}
use Rattle.gp_shards.specs.Due.{Expected, IsToldOf, Means, Text, Whole, due_in, due_to, expected_or_refused, where_told}
use Rattle.gp_shards.specs.declared.merging.AllParts.{AllParts}
use Rattle.gp_due.specs.Saying.{OnlySays}
use Rattle.gp_due.specs.ShardsNeverDue.{ShardsAreDone, ShardsNeverDue}
use Rattle.gp_due.proofs.Cuts.{cutting_answers}
use Rattle.gp_due.proofs.Folder.{listing_answers}
use Rattle.gp_due.proofs.Merges.{parts_in_answer}
use Rattle.gp_due.proofs.Refusals.{IsAnswer, found, not_done, refused, stuck, unread}

-- a checked merge, or a reply of a run that is done
abbrev IsDue : Expected → Type 0
IsDue (Text reply) = IsAnswer reply
IsDue (Whole listing all) = Unit {0}

-- nothing is due, or such a thing
abbrev MayBeDue : Option Expected → Type 0
MayBeDue None = Unit {0}
MayBeDue (Some expected) = IsDue expected

-- what was reached is due, or the refusal that came before it
reached : {A : Type 0} (expect : A → Expected) (first : Result A Reply) → OnlySays IsAnswer first → ((value : A) → IsDue (expect value))
    → IsDue (expected_or_refused (and_then first (λ value. Ok (expect value))))
reached expect (Ok value) says is_due = is_due value
reached expect (Err refusal) says is_due = says.fault

reached_behind : {A B : Type 0} (next : A → Result B Reply) (expect : A → B → Expected) (first : Result A Reply) → OnlySays IsAnswer first
    → ((value : A) → OnlySays IsAnswer (next value)) → ((value : A) (other : B) → IsDue (expect value other))
    → IsDue (expected_or_refused (and_then first (λ value. and_then (next value) (λ other. Ok (expect value other)))))
reached_behind next expect (Ok value) says answers is_due = reached (expect value) (next value) (answers value) (is_due value)
reached_behind next expect (Err refusal) says answers is_due = says.fault

command_due : (command : ShardForm) (files : List File) → IsDue (due_to command files)
command_due (Cut cut) files = reached _ (cutting_at files cut) (cutting_answers files cut) (λ cutting. found)
command_due (Merge merge) files =
    reached_behind _ Whole (listing_at files merge.folder) (listing_answers files merge.folder)
    (λ listing. parts_in_answer files listing.recording merge.outs) (λ listing all. tt)

where_is_due : (command : ShardForm) (told : Option (List File)) → MayBeDue (where_told (due_to command) told)
where_is_due command None = tt
where_is_due command (Some files) = command_due command files

in_is_due : (told : Option (List File)) (command : Option ShardForm) → MayBeDue (due_in told command)
in_is_due told None = unread
in_is_due told (Some command) = where_is_due command told

report_done : (some : Bool) → IsDone (if some then 1 else 0)
report_done true = stuck
report_done false = found

-- how a checked merge is told is done
merge_done : (all : AllParts) (checked : CheckedMerge) (own : Told) → IsToldOf all.folders checked own → IsDone own.status
merge_done all (check.Accepted report) own told =
    subst IsDone (sym (ap (λ (t : Told). t.status) told)) (report_done (any_found (entries_of report.windows)))
merge_done all (check.Rejected failed) own told = subst IsDone (sym (ap (λ (t : Told). t.status) told.2)) refused

means_done : (due : Expected) (own : Told) → IsDue due → Means due own → IsDone own.status
means_done (Text reply) own is means = subst IsDone (sym (ap (λ (t : Told). t.status) means)) is
means_done (Whole listing all) own is means = merge_done all means.0 own means.2

pub all_done : ShardsAreDone
all_done words told due own is means = means_done due own (subst MayBeDue is (in_is_due told (shard_command_of words))) means

pub never_comes : ShardsNeverDue
never_comes words told due is means = not_done (all_done words told due (of_reply never_due) is means)

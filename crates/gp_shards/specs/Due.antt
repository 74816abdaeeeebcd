-- What is due to the words and to the told files: a function of these alone.
use Rattle.std.specs.Prelude.{ℕ, ◌≡◌, List, Option, Some, None, Result, Ok, Err, slice_get}
use Rattle.gp_base.specs.Results.{and_then}
use Rattle.gp_merge.specs.Checking.{IsCheckedMerge, parts_alone}
use Rattle.gp_merge.specs.declared.checking.CheckedMerge.{CheckedMerge}
use Rattle.gp_merge.specs.declared.checking.CheckedMerge.TheVariants as check
use Rattle.gp_outside.specs.Folders.{File}
use Rattle.gp_predict.specs.Analysing.{of_report}
use Rattle.gp_predict.specs.declared.listing.Listing.{Listing}
use Rattle.gp_predict.specs.declared.reply.Reply.{Reply}
use Rattle.gp_predict.specs.Due.{words_refused}
use Rattle.gp_predict.specs.Listing.{listing_at}
use Rattle.gp_predict.specs.Telling.{of_reply}
use Rattle.gp_predict.specs.Told.{Told}
use Rattle.gp_words.specs.Sharding.{Cut, CutForm, Merge, MergeForm, ShardForm, shard_command_of}
use Rattle.gp_shards.specs.Cutting.{cut_answer, cutting_at}
use Rattle.gp_shards.specs.Merging.{parts_in, whole_of}
use Rattle.gp_shards.specs.PartFolders.{PartFolderForm}
use Rattle.gp_shards.specs.Refusing.{part_refusal}
use Rattle.gp_shards.specs.declared.merging.AllParts.{AllParts}
use Rattle.gp_shards.specs.declared.refusal.PartFault.TheVariants.{Rejected}

-- what is due: a text with its status, or the report of a recording with its properties out of those of all its parts, which is checked
pub data Expected : Type 0 where
  Text : Reply → Expected
  Whole : Listing → AllParts → Expected

-- what was reached, or the refusal that came before it
abbrev pub expected_or_refused : Result Expected Reply → Expected
expected_or_refused (Ok expected) = expected
expected_or_refused (Err refusal) = Text refusal

-- what is due to a cut, and to a merge, on these files
abbrev pub due_to_cut : CutForm → List File → Expected
due_to_cut cut files = expected_or_refused (and_then (cutting_at files cut) (λ cutting. Ok (Text (cut_answer cutting.shard))))

abbrev pub due_to_merge : MergeForm → List File → Expected
due_to_merge merge files =
    expected_or_refused
    (and_then (listing_at files merge.folder) (λ listing.
    and_then (parts_in files listing.recording merge.outs) (λ all. Ok (Whole listing all))))

-- what is due to a command
abbrev pub due_to : ShardForm → List File → Expected
due_to (Cut cut) files = due_to_cut cut files
due_to (Merge merge) files = due_to_merge merge files

-- what is due where these files are told; where none are, nothing is said
abbrev pub where_told : (List File → Expected) → Option (List File) → Option Expected
where_told due None = None
where_told due (Some files) = Some (due files)

-- what is due where the words are this command
abbrev pub due_in : Option (List File) → Option ShardForm → Option Expected
due_in told None = Some (Text words_refused)
due_in told (Some command) = where_told (due_to command) told

-- what is due to the words and the told files; wrong words are refused whatever is told
abbrev pub due_answer : List (List ℕ) → Option (List File) → Option Expected
due_answer words told = due_in told (shard_command_of words)

-- how a checked merge is told: the report of the whole; or its first failure, as what is wrong in the folder of the part that has it
abbrev pub IsToldOf : List PartFolderForm → CheckedMerge → Told → Type 0
IsToldOf folders (check.Accepted report) told = told ≡ of_report report
IsToldOf folders (check.Rejected failed) told =
    (folder : PartFolderForm) × (slice_get folders failed.place ≡ Some folder) × (told ≡ of_reply (part_refusal folder.out (Rejected failed.failure)))

-- what may be told where this is due: a text, and that alone; or the report of the whole where it is accepted for the recording, and else
-- its first failure
abbrev pub Means : Expected → Told → Type 0
Means (Text reply) told = told ≡ of_reply reply
Means (Whole listing all) told =
    (checked : CheckedMerge) × IsCheckedMerge listing.recording listing.properties (whole_of all.parts) (parts_alone all.parts) checked
    × IsToldOf all.folders checked told

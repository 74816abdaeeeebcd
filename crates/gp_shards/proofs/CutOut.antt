-- What a cut wrote is read as the part of the recording.
use Rattle.std.proofs.Common.{◌≡◌, refl, sym, ap, subst, ◌∙◌, ℕ, ◌<◌, ◌≤◌, Bool, true, false, nat_lt, List, [], ◌∷◌, ◌++◌, length}
use Rattle.std.specs.Prelude.{All, Option, None, Some, Result, Ok, Err, find, if◌then◌else◌, option_map}
use Rattle.std.proofs.lemmas.Bool.{le-ltb, ltb-false, ltb-true}
use Rattle.std.proofs.lemmas.List.{map-append}
use Rattle.std.proofs.lemmas.List.Elements.{All-from_recursion, recursion_from_All}
use Rattle.std.specs.List.{AllByRecursion}
use Rattle.gp_base.specs.ListLaws.{recursion_parts}
use Rattle.gp_base.specs.Results.{and_then, or_refused}
use Rattle.gp_cut.specs.Laws.{CutWindowsAreTheSame}
use Rattle.gp_cut_files.specs.CutFiles.{cut_files}
use Rattle.gp_cut_files.specs.Reading.{CutsAreRead, WhatIsReadCanBeSpelled}
use Rattle.gp_files.specs.MadeFileForm.{MadeFileForm}
use Rattle.gp_files.specs.Writing.{AreAllMade, WhereTold, files_at}
use Rattle.gp_outside.specs.Folders.{File, file_named}
use Rattle.gp_predict.specs.Content.{content_at, recording_at}
use Rattle.gp_predict.specs.Making as making
use Rattle.gp_predict.specs.Refusal.{content_refusal, properties_refusal, recording_refusal}
use Rattle.gp_property.specs.Reading.{properties_of}
use Rattle.gp_shard.specs.Laws.{ShardsReadAgain}
use Rattle.gp_shard.specs.declared.shard.Shard.{Shard}
use Rattle.gp_shard.specs.Reading.{shard_of_text}
use Rattle.gp_shard.specs.Shard.{IsShard, shard_text}
use Rattle.gp_window.specs.Contents.{content_of, content_where}
use Rattle.gp_window.specs.declared.content.ContentFault.{ContentFault}
use Rattle.gp_window.specs.declared.content.ContentFault.TheVariants.{TooLong}
use Rattle.gp_window.specs.declared.file_name.FileName.{FileName}
use Rattle.gp_window.specs.declared.file_name.FileName.TheVariants as file
use Rattle.gp_window.specs.FileNames.{limit_of, path_of}
use Rattle.gp_window.specs.Recording.{recording_of}
use Rattle.gp_window.specs.RecordingForm.{RecordingForm}
use Rattle.gp_words.specs.Sharding.{CutForm}
use Rattle.gp_shards.specs.declared.cutting.Cutting.{Cutting}
use Rattle.gp_shards.specs.declared.refusal.PartFault.TheVariants.{Content, ManyWindows}
use Rattle.gp_shards.specs.Cutting.{cutting_at, cutting_with, is_too_long, part_files, properties_text, shard_of, within_limits}
use Rattle.gp_shards.specs.Headline.{IsCutOut}
use Rattle.gp_shards.specs.Refusing as refusing
use Rattle.gp_shards.specs.Refusing.{part_refusal, shard_refusal, unless_wrong}
use Rattle.gp_shards.specs.Sparing.{unless_recording}
use Rattle.gp_shards.proofs.Merged.{then_came, was_read}

-- of a part of a recording: its files are within their limits
pub record IsCutting (r : RecordingForm) (properties : List ℕ) (shard : Shard) (cutting : Cutting) : Type 0 where
  pub few : shard.count < 4096
  pub same : cutting ≡ record { shard = shard; files = part_files r properties shard }
  pub fit : All (λ (made : MadeFileForm). length made.text ≤ limit_of made.name) (part_files r properties shard)

abbrev Fits : MadeFileForm → Type 0
Fits made = length made.text ≤ limit_of made.name

first_fits : (long : Bool) (made : MadeFileForm) (files : List MadeFileForm) → is_too_long made ≡ long → (if long then Some made else find is_too_long files) ≡ None
    → (find is_too_long files ≡ None → AllByRecursion Fits files) → Fits made × AllByRecursion Fits files
first_fits true made files is none rest = absurd (cc)
first_fits false made files is none rest = (ltb-false (limit_of made.name) (length made.text) is, rest none)

none_too_long : (files : List MadeFileForm) → find is_too_long files ≡ None → AllByRecursion Fits files
none_too_long [] none = tt
none_too_long (made ∷ files) none = first_fits (is_too_long made) made files refl none (none_too_long files)

module _ (r : RecordingForm) (properties out : List ℕ) (shard : Shard) (cutting : Cutting) where
  limits_of : shard.count < 4096 → (found : Option MadeFileForm) → find is_too_long (part_files r properties shard) ≡ found
      → unless_wrong out (option_map (λ made. Content (TooLong made.name)) found) (record { shard = shard; files = part_files r properties shard }) ≡ Ok cutting
      → IsCutting r properties shard cutting
  limits_of few None is came =
      let same : record { shard = shard; files = part_files r properties shard } ≡ cutting = cc in
      record { few = few; same = sym same; fit = All-from_recursion Fits (part_files r properties shard) (none_too_long (part_files r properties shard) is) }
  limits_of few (Some made) is came = absurd (cc)

  few_of : (few : Bool) → nat_lt shard.count 4096 ≡ few
      → (if few then within_limits out shard (part_files r properties shard) else Err (part_refusal out ManyWindows)) ≡ Ok cutting → IsCutting r properties shard cutting
  few_of true is came = limits_of (ltb-true shard.count 4096 is) (find is_too_long (part_files r properties shard)) refl came
  few_of false is came = absurd (cc)

  pub cutting_was : cutting_with r properties out shard ≡ Ok cutting → IsCutting r properties shard cutting
  cutting_was came = few_of (nat_lt shard.count 4096) refl came

-- a file that stands in a directory, within its limit, is read as its text
stands : (files : List File) (directory : List ℕ) (name : FileName) (text : List ℕ) → file_named files (path_of directory name) ≡ Some text → length text ≤ limit_of name
    → content_of files directory name ≡ Ok text
stands files directory name text there fits =
    let short : nat_lt (limit_of name) (length text) ≡ false = le-ltb (limit_of name) (length text) fits in
    ap (content_where name) there ∙ ap (λ (long : Bool). if long then Err (TooLong name) else Ok text) short

module _ (reads : CutsAreRead) (spelled : WhatIsReadCanBeSpelled) (alike : CutWindowsAreTheSame) (again : ShardsReadAgain) where
  module _ (cut : CutForm) (cutting : Cutting) (old new : List File) (r : RecordingForm) (properties : List ℕ) where
    abbrev shard : Shard
    shard = shard_of r cut.part cut.parts

    abbrev made : List MadeFileForm
    made = cut_files shard.before shard.count r

    abbrev more : List MadeFileForm
    more = record { name = file.Properties; text = properties } ∷ record { name = file.Shard; text = shard_text shard } ∷ []

    -- the texts of the cut's files, and of the two behind them
    texts_of : All (λ (one : File). file_named new one.name ≡ Some one.bytes) (files_at cut.out (made ++ more))
        → All (λ (one : File). file_named new one.name ≡ Some one.bytes) (files_at cut.out made)
        × All (λ (one : File). file_named new one.name ≡ Some one.bytes) (files_at cut.out more)
    texts_of texts =
        let Stands : File → Type 0 = λ (one : File). file_named new one.name ≡ Some one.bytes in
        let parted : AllByRecursion Stands (files_at cut.out made ++ files_at cut.out more) =
        subst (AllByRecursion Stands) (map-append _ made more) (recursion_from_All Stands (files_at cut.out (made ++ more)) texts) in
        let both = recursion_parts Stands (files_at cut.out made) (files_at cut.out more) parted in
        (All-from_recursion Stands (files_at cut.out made) both.0, All-from_recursion Stands (files_at cut.out more) both.1)

    pub cut_read : recording_of old cut.folder ≡ Ok r → content_of old cut.folder file.Properties ≡ Ok properties → IsShard shard → IsCutting r properties shard cutting
        → AreAllMade (files_at cut.out cutting.files) old new → IsCutOut cut old new
    cut_read whole props rules is written =
        let texts =
        texts_of (subst (λ (files : List MadeFileForm). All (λ (one : File). file_named new one.name ≡ Some one.bytes) (files_at cut.out files)) (ap (λ (c : Cutting). c.files) is.same) written.texts) in
        let fit = recursion_parts Fits made more (recursion_from_All Fits (made ++ more) is.fit) in
        let there = recursion_from_All (λ (one : File). file_named new one.name ≡ Some one.bytes) (files_at cut.out more) texts.1 in
        record {
          recording = r;
          whole = whole;
          read = reads old new cut.folder cut.out r shard.before shard.count whole rules.inside is.few (record { texts = texts.0; fit = All-from_recursion Fits made fit.0 });
          windows = λ number first last.
              alike r shard.before shard.count number
              (record { rules = (spelled old cut.folder r whole).rules; there = rules.inside; few = is.few }) first last;
          properties = stands new cut.out file.Properties properties there.0 fit.1.0 ∙ sym props;
          shard =
              ap (λ (content : Result (List ℕ) ContentFault). and_then (or_refused (refusing.content_refusal cut.out) content) (λ bytes. or_refused (shard_refusal cut.out) (shard_of_text bytes)))
              (stands new cut.out file.Shard (shard_text shard) there.1.0 fit.1.1.0)
              ∙ ap (or_refused (shard_refusal cut.out)) (again shard rules);
        }

  -- a cut that was written, where the files were told
  cut_out : (cut : CutForm) (cutting : Cutting) (old new : List File) → IsShard cutting.shard → cutting_at old cut ≡ Ok cutting → AreAllMade (files_at cut.out cutting.files) old new → IsCutOut cut old new
  cut_out cut cutting old new rules came written =
      let spared = then_came (unless_recording old cut.out) _ cutting came in
      let first = then_came (recording_at old cut.folder) _ cutting spared.2 in
      let second = then_came (properties_text old cut.folder) _ cutting first.2 in
      let content = then_came (content_at old cut.folder file.Properties) _ second.0 second.1 in
      let parsed = then_came (or_refused properties_refusal (properties_of content.0)) _ second.0 content.2 in
      let same : content.0 ≡ second.0 = cc in
      let is = cutting_was first.0 second.0 cut.out (shard_of first.0 cut.part cut.parts) cutting second.2 in
      cut_read cut cutting old new first.0 second.0
      (was_read recording_refusal (recording_of old cut.folder) first.0 first.1)
      (was_read content_refusal (content_of old cut.folder file.Properties) content.0 content.1 ∙ ap Ok same)
      (subst IsShard (ap (λ (c : Cutting). c.shard) is.same) rules) is written

  pub where_cut_out : (cut : CutForm) (cutting : Cutting) (status : ℕ) (middle before after : Option (List File)) → IsShard cutting.shard → status ≡ 0 → middle ≡ before
      → ((told : List File) → before ≡ Some told → cutting_at told cut ≡ Ok cutting) → making.LeavesMade (files_at cut.out cutting.files) status middle after
      → WhereTold before after (IsCutOut cut)
  where_cut_out cut cutting status middle None after rules zero same came left =
      subst (λ (old : Option (List File)). making.LeavesMade (files_at cut.out cutting.files) status old after) same left
  where_cut_out cut cutting status middle (Some told) after rules zero same came left =
      let moved : making.LeavesMade (files_at cut.out cutting.files) status (Some told) after =
      subst (λ (old : Option (List File)). making.LeavesMade (files_at cut.out cutting.files) status old after) same left in
      (moved.0, moved.1, cut_out cut cutting told moved.0 rules (came told refl) (moved.2.all zero))

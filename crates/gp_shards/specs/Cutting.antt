-- What a cut writes: the files of a part of the recording in a folder, or why there are none, as a function of the files.
use Rattle.std.specs.Prelude.{ℕ, ◌+◌, ◌++◌, All, Bool, nat_lt, List, [], ◌∷◌, length, find, Option, option_map, Result, Ok, Err, if◌then◌else◌, codes, decimal}
use Rattle.gp_base.specs.Results.{and_then, or_refused}
use Rattle.gp_cut.specs.declared.parting.Part.{Part}
use Rattle.gp_cut.specs.Parts.{part_of, weights_of}
use Rattle.gp_cut_files.specs.CutFiles.{cut_files}
use Rattle.gp_files.specs.MadeFileForm.{MadeFileForm}
use Rattle.gp_files.specs.Naming.{DifferInName, IsNumbered}
use Rattle.gp_outside.specs.Folders.{File}
use Rattle.gp_predict.specs.Content.{content_at, recording_at}
use Rattle.gp_predict.specs.declared.reply.Reply.{Reply}
use Rattle.gp_predict.specs.Refusal.{one_line, properties_refusal}
use Rattle.gp_property.specs.Reading.{properties_of}
use Rattle.gp_shard.specs.declared.shard.Shard.{Shard}
use Rattle.gp_shard.specs.Shard.{IsShard, shard_text}
use Rattle.gp_window.specs.declared.content.ContentFault.TheVariants.{TooLong}
use Rattle.gp_window.specs.declared.file_name.FileName.TheVariants as file
use Rattle.gp_window.specs.FileNames.{limit_of}
use Rattle.gp_window.specs.RecordingForm.{RecordingForm}
use Rattle.gp_words.specs.Sharding.{CutForm}
use Rattle.gp_shards.specs.declared.cutting.Cutting.{Cutting}
use Rattle.gp_shards.specs.declared.refusal.PartFault.{PartFault}
use Rattle.gp_shards.specs.declared.refusal.PartFault.TheVariants.{Content, ManyWindows}
use Rattle.gp_shards.specs.Refusing.{part_refusal, unless_wrong}
use Rattle.gp_shards.specs.Sparing.{unless_recording}

-- the text of the properties in a folder, where they are properties
abbrev pub properties_text : List File → List ℕ → Result (List ℕ) Reply
properties_text files folder =
    and_then (content_at files folder file.Properties) (λ text.
    and_then (or_refused properties_refusal (properties_of text)) (λ properties. Ok text))

-- a part of a recording with these windows
abbrev pub shard_with : RecordingForm → ℕ → ℕ → Part → Shard
shard_with r part parts windows =
    record { part = part; parts = parts; before = windows.before; count = windows.count; epochs = r.manifest.epochs }

-- the part of this number, of so many
abbrev pub shard_of : RecordingForm → ℕ → ℕ → Shard
shard_of r part parts = shard_with r part parts (part_of part parts (weights_of r))

-- the files of a part: its windows as a recording of their own, the properties as they are, and which part it is
abbrev pub part_files : RecordingForm → List ℕ → Shard → List MadeFileForm
part_files r properties shard =
    cut_files shard.before shard.count r
    ++ record { name = file.Properties; text = properties } ∷ record { name = file.Shard; text = shard_text shard } ∷ []

-- a part that can be written: it keeps its rules, and its files have different names
pub record CanBeWritten (cutting : Cutting) : Type 0 where
  pub rules : IsShard cutting.shard
  pub differ : DifferInName cutting.files
  pub numbered : All (λ (made : MadeFileForm). IsNumbered made.name) cutting.files

-- whether a file has more bytes than its limit
abbrev pub is_too_long : MadeFileForm → Bool
is_too_long made = nat_lt (limit_of made.name) (length made.text)

-- why these files cannot be written: the first that is too long, if one is
abbrev pub length_fault : List MadeFileForm → Option PartFault
length_fault files = option_map (λ made. Content (TooLong made.name)) (find is_too_long files)

-- the part with these files, the first of which that is too long is refused
abbrev pub within_limits : List ℕ → Shard → List MadeFileForm → Result Cutting Reply
within_limits out shard files = unless_wrong out (length_fault files) (record { shard = shard; files = files })

-- a part of a recording with these properties; a manifest can tell 4,095 windows behind a stage
abbrev pub cutting_with : RecordingForm → List ℕ → List ℕ → Shard → Result Cutting Reply
cutting_with r properties out shard =
    if nat_lt shard.count 4096 then within_limits out shard (part_files r properties shard)
    else Err (part_refusal out ManyWindows)

-- the part that is asked for
abbrev pub cutting_of : RecordingForm → List ℕ → CutForm → Result Cutting Reply
cutting_of r properties cut = cutting_with r properties cut.out (shard_of r cut.part cut.parts)

-- the part that is asked for of the recording in a folder, with the properties there
abbrev pub cutting_from : List File → CutForm → Result Cutting Reply
cutting_from files cut =
    and_then (recording_at files cut.folder) (λ recording.
    and_then (properties_text files cut.folder) (λ properties.
    cutting_of recording properties cut))

-- that part, for a folder that holds no recording but a part
abbrev pub cutting_at : List File → CutForm → Result Cutting Reply
cutting_at files cut = and_then (unless_recording files cut.out) (λ spared. cutting_from files cut)

-- a part was written: which of how many, the number of its first window, and how many windows it has
abbrev pub cut_answer : Shard → Reply
cut_answer shard =
    one_line 0 (codes "cut " ++ decimal shard.part ++ codes " " ++ decimal shard.parts ++ codes " " ++ decimal (shard.before + 1) ++ codes " " ++ decimal shard.count)

-- What is wrong with a part is told by a text, and so is a cut.
use Rattle.std.proofs.Common.{ℕ, Bool, true, false, List, Option, Some, None, Result, Ok, Err, find, option_map, if◌then◌else◌, nat_lt}
use Rattle.std.specs.Prelude.{IfSome}
use Rattle.gp_files.specs.MadeFileForm.{MadeFileForm}
use Rattle.gp_outside.specs.Folders.{File}
use Rattle.gp_predict.specs.declared.reply.Reply.{Reply}
use Rattle.gp_predict.specs.Refusal.{properties_refusal}
use Rattle.gp_report.specs.declared.fault.ReportFault.{ReportFault}
use Rattle.gp_report.specs.declared.fault.ReportFault.TheVariants as report
use Rattle.gp_shard.specs.declared.reading.ShardFault.{ShardFault}
use Rattle.gp_shard.specs.declared.reading.ShardFault.TheVariants as shard
use Rattle.gp_shard.specs.declared.shard.Shard.{Shard}
use Rattle.gp_text.specs.declared.lines.TextFault.{TextFault}
use Rattle.gp_text.specs.declared.lines.TextFault.TheVariants as text
use Rattle.gp_window.specs.declared.content.ContentFault.{ContentFault}
use Rattle.gp_window.specs.declared.content.ContentFault.TheVariants as content
use Rattle.gp_window.specs.declared.file_name.FileName.{FileName}
use Rattle.gp_window.specs.declared.file_name.FileName.TheVariants as file
use Rattle.gp_window.specs.RecordingForm.{RecordingForm}
use Rattle.gp_words.specs.Sharding.{CutForm}
use Rattle.gp_shards.specs.Cutting.{cutting_at, cutting_with, is_too_long, length_fault, part_files, properties_text, shard_of, within_limits}
use Rattle.gp_shards.specs.Refusing.{content_refusal, part_refusal, report_refusal, shard_refusal, text_in, unless_wrong}
use Rattle.gp_shards.specs.declared.refusal.PartFault.{PartFault}
use Rattle.gp_shards.specs.declared.refusal.PartFault.TheVariants as wrong
use Rattle.gp_shards.specs.Sparing.{holds_recording}
use Rattle.gp_due.specs.Saying.{ContentSays, OnlySays, ReportSays, ShardSays, TextSays}
use Rattle.gp_due.proofs.Folder.{content_answers, recording_answers}
use Rattle.gp_due.proofs.Properties.{properties_say}
use Rattle.gp_due.proofs.Refusals.{IsAnswer, properties_refused, refused}
use Rattle.gp_due.proofs.Results as of

-- what is wrong in the folder of a part says something of the files
abbrev pub PartSays : PartFault → Type 0
PartSays wrong.HoldsRecording = Unit {0}
PartSays wrong.ManyWindows = Unit {0}
PartSays (wrong.Content fault) = ContentSays fault
PartSays (wrong.Shard fault) = ShardSays fault
PartSays wrong.OtherParts = Unit {0}
PartSays wrong.Twice = Unit {0}
PartSays wrong.OtherWindows = Unit {0}
PartSays (wrong.Report fault) = ReportSays fault
PartSays wrong.OtherFormat = Unit {0}
PartSays wrong.OtherBudget = Unit {0}
PartSays wrong.WindowCount = Unit {0}
PartSays (wrong.Rejected failure) = Unit {0}

-- what is wrong, if something is, says something
pub record MaySay (fault : Option PartFault) : Type 0 where
  pub said : IfSome fault PartSays

pub right : MaySay None
right = record { said = tt }

pub is_wrong : {fault : PartFault} → PartSays fault → MaySay (Some fault)
is_wrong says = record { said = says }

pub either_wrong : (test : Bool) {one other : Option PartFault} → MaySay one → MaySay other → MaySay (if test then one else other)
either_wrong true one other = one
either_wrong false one other = other

text_refused : (folder : List ℕ) (name : FileName) (fault : TextFault) → TextSays fault → IsAnswer (text_in folder name fault)
text_refused folder name (text.NotAscii line) says = refused
text_refused folder name (text.LongLine line) says = refused
text_refused folder name (text.NoLastNewline line) says = refused
text_refused folder name text.Memory says = absurd says

pub content_refused : (folder : List ℕ) (fault : ContentFault) → ContentSays fault → IsAnswer (content_refusal folder fault)
content_refused folder (content.Absent name) says = refused
content_refused folder (content.TooLong name) says = refused
content_refused folder content.ReadFailed says = absurd says
content_refused folder content.Memory says = absurd says

pub shard_refused : (folder : List ℕ) (fault : ShardFault) → ShardSays fault → IsAnswer (shard_refusal folder fault)
shard_refused folder (shard.Text fault) says = text_refused folder file.Shard fault says
shard_refused folder (shard.Line line) says = refused
shard_refused folder shard.Memory says = absurd says

pub report_refused : (folder : List ℕ) (fault : ReportFault) → ReportSays fault → IsAnswer (report_refusal folder fault)
report_refused folder (report.Text fault) says = text_refused folder file.Report fault says
report_refused folder (report.Rule line rule) says = refused
report_refused folder report.Memory says = absurd says

part_refused : (folder : List ℕ) (fault : PartFault) → PartSays fault → IsAnswer (part_refusal folder fault)
part_refused folder wrong.HoldsRecording says = refused
part_refused folder wrong.ManyWindows says = refused
part_refused folder (wrong.Content fault) says = content_refused folder fault says
part_refused folder (wrong.Shard fault) says = shard_refused folder fault says
part_refused folder wrong.OtherParts says = refused
part_refused folder wrong.Twice says = refused
part_refused folder wrong.OtherWindows says = refused
part_refused folder (wrong.Report fault) says = report_refused folder fault says
part_refused folder wrong.OtherFormat says = refused
part_refused folder wrong.OtherBudget says = refused
part_refused folder wrong.WindowCount says = refused
part_refused folder (wrong.Rejected failure) says = refused

pub unless_says : {A : Type 0} (folder : List ℕ) (fault : Option PartFault) (value : A) → MaySay fault → OnlySays IsAnswer (unless_wrong folder fault value)
unless_says folder None value says = of.value
unless_says folder (Some fault) value says = of.fault (part_refused folder fault says.said)

length_says : (found : Option MadeFileForm) → MaySay (option_map (λ (made : MadeFileForm). wrong.Content (content.TooLong made.name)) found)
length_says None = right
length_says (Some made) = is_wrong tt

within_says : (out : List ℕ) (part : Shard) (files : List MadeFileForm) → OnlySays IsAnswer (within_limits out part files)
within_says out part files = unless_says out (length_fault files) _ (length_says (find is_too_long files))

with_says : (r : RecordingForm) (properties out : List ℕ) (part : Shard) → OnlySays IsAnswer (cutting_with r properties out part)
with_says r properties out part = of.either (nat_lt part.count 4096) (within_says out part (part_files r properties part)) (of.fault refused)

properties_answer : (files : List File) (folder : List ℕ) → OnlySays IsAnswer (properties_text files folder)
properties_answer files folder =
    of.in_turn (content_answers files folder file.Properties) (λ bytes.
    of.in_turn (of.refused properties_refusal properties_refused (properties_say bytes)) (λ properties. of.value))

abbrev unless_held : Bool → List ℕ → Result (Unit {0}) Reply
unless_held holds out = if holds then Err (part_refusal out wrong.HoldsRecording) else Ok tt

unless_answers : (holds : Bool) (out : List ℕ) → OnlySays IsAnswer (unless_held holds out)
unless_answers true out = of.fault refused
unless_answers false out = of.value

pub cutting_answers : (files : List File) (cut : CutForm) → OnlySays IsAnswer (cutting_at files cut)
cutting_answers files cut =
    of.in_turn (unless_answers (holds_recording files cut.out) cut.out) (λ spared.
    of.in_turn (recording_answers files cut.folder) (λ recording.
    of.in_turn (properties_answer files cut.folder) (λ properties. with_says recording properties cut.out (shard_of recording cut.part cut.parts))))

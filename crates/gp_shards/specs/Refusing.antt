-- Why nothing is cut or merged, and how that is told: what gpredict refuses too by its text, and a file in the folder of a part by its
-- path, the line and the rule.
use Rattle.std.specs.Prelude.{ℕ, ◌++◌, List, Option, None, Some, Result, Ok, Err, codes, decimal, string_bytes}
use Rattle.gp_checker.specs.declared.failure.Failure.{Failure}
use Rattle.gp_checker.specs.Reasons.{number_of}
use Rattle.gp_predict.specs.declared.reply.Reply.{Reply}
use Rattle.gp_predict.specs.Refusal.{never_due, one_line, rule_word}
use Rattle.gp_predict.specs.Refused.{reply_of}
use Rattle.gp_predict.specs.Verdict.{then_number}
use Rattle.gp_report.specs.declared.fault.ReportFault.{ReportFault}
use Rattle.gp_report.specs.declared.fault.ReportFault.TheVariants as report
use Rattle.gp_shard.specs.declared.reading.ShardFault.{ShardFault}
use Rattle.gp_shard.specs.declared.reading.ShardFault.TheVariants as shard
use Rattle.gp_text.specs.declared.lines.TextFault.{TextFault}
use Rattle.gp_text.specs.declared.lines.TextFault.TheVariants as text
use Rattle.gp_window.specs.declared.content.ContentFault.{ContentFault}
use Rattle.gp_window.specs.declared.content.ContentFault.TheVariants as content
use Rattle.gp_window.specs.declared.file_name.FileName.{FileName}
use Rattle.gp_window.specs.declared.file_name.FileName.TheVariants as file
use Rattle.gp_window.specs.FileNames.{path_of}
use Rattle.gp_shards.specs.declared.refusal.PartFault.{PartFault}
use Rattle.gp_shards.specs.declared.refusal.PartFault.TheVariants as wrong
use Rattle.gp_shards.specs.declared.refusal.ShardRefusal.{ShardRefusal}
use Rattle.gp_shards.specs.declared.refusal.ShardRefusal.TheVariants as refusal

-- a file in this folder that is refused as a whole
abbrev pub refused_in : List ℕ → FileName → List ℕ → Reply
refused_in folder name rule = one_line 3 (codes "refused " ++ path_of folder name ++ codes " " ++ rule)

-- a file in this folder that is refused at a line
abbrev pub refused_in_at : List ℕ → FileName → ℕ → List ℕ → Reply
refused_in_at folder name line rule =
    one_line 3 (codes "refused " ++ path_of folder name ++ codes " " ++ decimal line ++ codes " " ++ rule)

-- a part that no folder has
abbrev pub missing : ℕ → Reply
missing part = one_line 3 (codes "refused shard missing " ++ decimal part)

-- a file whose text has no lines
abbrev pub text_in : List ℕ → FileName → TextFault → Reply
text_in folder name (text.NotAscii line) = refused_in_at folder name line (codes "notascii")
text_in folder name (text.LongLine line) = refused_in_at folder name line (codes "longline")
text_in folder name (text.NoLastNewline line) = refused_in_at folder name line (codes "nolastnewline")
text_in folder name text.Memory = never_due

-- a file whose bytes are not told
abbrev pub content_refusal : List ℕ → ContentFault → Reply
content_refusal folder (content.Absent name) = refused_in folder name (codes "absent")
content_refusal folder (content.TooLong name) = refused_in folder name (codes "toolong")
content_refusal folder content.ReadFailed = never_due
content_refusal folder content.Memory = never_due

-- a text that does not say which part the folder has
abbrev pub shard_refusal : List ℕ → ShardFault → Reply
shard_refusal folder (shard.Text fault) = text_in folder file.Shard fault
shard_refusal folder (shard.Line line) = refused_in_at folder file.Shard line (codes "form")
shard_refusal folder shard.Memory = never_due

-- a text that is no report
abbrev pub report_refusal : List ℕ → ReportFault → Reply
report_refusal folder (report.Text fault) = text_in folder file.Report fault
report_refusal folder (report.Rule line rule) = refused_in_at folder file.Report line (rule_word rule)
report_refusal folder report.Memory = never_due

-- the words by which task check tells a failure: its window, property and instance, the number of the reason, and the place
abbrev pub failure_words : Failure → List ℕ
failure_words failure =
    let instance = then_number (then_number (then_number (codes "rejected") failure.window) failure.property) failure.instance in
    then_number (then_number instance (number_of failure.reason)) failure.place

-- what is wrong in the folder of a part
abbrev pub part_refusal : List ℕ → PartFault → Reply
part_refusal folder wrong.HoldsRecording = refused_in folder file.Manifest (codes "exists")
part_refusal folder wrong.ManyWindows = refused_in folder file.Manifest (codes "epochs")
part_refusal folder (wrong.Content fault) = content_refusal folder fault
part_refusal folder (wrong.Shard fault) = shard_refusal folder fault
part_refusal folder wrong.OtherParts = refused_in_at folder file.Shard 2 (codes "parts")
part_refusal folder wrong.Twice = refused_in_at folder file.Shard 2 (codes "twice")
part_refusal folder wrong.OtherWindows = refused_in_at folder file.Shard 3 (codes "windows")
part_refusal folder (wrong.Report fault) = report_refusal folder fault
part_refusal folder wrong.OtherFormat = refused_in_at folder file.Report 1 (codes "format")
part_refusal folder wrong.OtherBudget = refused_in_at folder file.Report 2 (codes "budget")
part_refusal folder wrong.WindowCount = refused_in folder file.Report (codes "windows")
part_refusal folder (wrong.Rejected failure) = refused_in folder file.Report (failure_words failure)

-- a value, or the refusal of what is wrong in the folder of a part
abbrev pub unless_wrong : {A : Type 0} → List ℕ → Option PartFault → A → Result A Reply
unless_wrong folder None value = Ok value
unless_wrong folder (Some fault) value = Err (part_refusal folder fault)

-- the status and the text of a refusal
abbrev pub shard_reply : ShardRefusal → Reply
shard_reply (refusal.Usual why) = reply_of why
shard_reply (refusal.InPart folder fault) = part_refusal (string_bytes folder) fault
shard_reply (refusal.Missing number) = missing number

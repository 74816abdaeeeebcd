-- Only an absent file is told as `refused PATH absent`, whatever the path: each other refusal ends with another word, or with a digit.
use Rattle.std.proofs.Common.{◌≡◌, refl, ap, ◌∙◌, ℕ, zero, suc, ◌/◌, ◌%◌, ◌==◌, ◌<◌, ◌&&◌, Bool, true, false, List, [], ◌∷◌, ◌++◌, append_assoc, append-nil, reverse, sym, arith}
use Rattle.std.specs.Prelude.{codes, decimal, string_bytes}
use Rattle.std.specs.Fmt.{digit_glyph, digits, digits_onto}
use Rattle.std.proofs.lemmas.List.{reverse-append}
use Rattle.gp_checker.specs.declared.failure.Failure.{Failure}
use Rattle.gp_checker.specs.Reasons.{number_of}
use Rattle.gp_property.specs.declared.fault.PropertyFault.TheVariants as property
use Rattle.gp_replay.specs.declared.schedule.ScheduleFault.TheVariants as schedule
use Rattle.gp_report.specs.declared.fault.ReportFault.TheVariants as report
use Rattle.gp_report.specs.declared.fault.ReportRule.{ReportRule}
use Rattle.gp_report.specs.declared.fault.ReportRule.TheVariants as rule
use Rattle.gp_shard.specs.declared.reading.ShardFault.TheVariants as shard
use Rattle.gp_text.specs.declared.lines.TextFault.{TextFault}
use Rattle.gp_text.specs.declared.lines.TextFault.TheVariants as text
use Rattle.gp_trace.specs.declared.fault.TraceFault.{TraceFault}
use Rattle.gp_trace.specs.declared.fault.TraceFault.TheVariants as trace
use Rattle.gp_window.specs.declared.content.ContentFault.TheVariants as content
use Rattle.gp_window.specs.declared.fault.RecordingFault.TheVariants as recording
use Rattle.gp_window.specs.declared.file_name.FileName.{FileName}
use Rattle.gp_window.specs.declared.file_name.FileName.TheVariants as file
use Rattle.gp_window.specs.FileNames.{name_of, path_of}
use Rattle.gp_predict.specs.declared.refusal.Refusal.{Refusal}
use Rattle.gp_predict.specs.declared.refusal.Refusal.TheVariants as usual
use Rattle.gp_predict.specs.declared.reply.Reply.{Reply}
use Rattle.gp_predict.specs.Refusal.{one_line, refused_as, refused_at, rule_word, text_refusal, trace_refusal}
use Rattle.gp_predict.specs.Refused.{is_absent, reply_of}
use Rattle.gp_predict.specs.Telling.{text_of}
use Rattle.gp_predict.specs.Verdict.{then_number}
use Rattle.gp_shards.specs.declared.refusal.PartFault.{PartFault}
use Rattle.gp_shards.specs.declared.refusal.PartFault.TheVariants as wrong
use Rattle.gp_shards.specs.declared.refusal.ShardRefusal.{ShardRefusal}
use Rattle.gp_shards.specs.declared.refusal.ShardRefusal.TheVariants as refusal
use Rattle.gp_shards.specs.Refusing.{part_refusal, refused_in, refused_in_at, shard_reply, text_in}
use Rattle.gp_shards.specs.Run.{absent_at}
use Rattle.gp_shards.specs.Stage.{is_absence, is_absent_in}

-- whether some bytes begin with these
abbrev begins : List ℕ → List ℕ → Bool
begins [] bytes = true
begins (first ∷ more) [] = false
begins (first ∷ more) (b ∷ bytes) = (b == first) && begins more bytes

-- whether a text that is read from its end begins as that of an absent file, behind its last byte
abbrev past_first : List ℕ → Bool
past_first [] = false
past_first (b ∷ bytes) = begins (codes "tnes") bytes

abbrev ends_so : List ℕ → Bool
ends_so bytes = past_first (reverse bytes)

-- a line ends as its last words
line_ends : (status : ℕ) (before words : List ℕ) → ends_so (text_of (one_line status (before ++ words))) ≡ begins (codes "tnes") (reverse words ++ reverse before)
line_ends status before words =
    ap past_first
    (ap reverse (append-nil ((before ++ words) ++ codes "\n")) ∙ reverse-append (before ++ words) (codes "\n")
    ∙ ap (λ (bytes : List ℕ). 10 ∷ bytes) (reverse-append before words))

-- the decimal of a number ends with its last digit
onto_step : (last : Bool) (k n : ℕ) (rest : List ℕ) → (n / 10 == 0) ≡ last
    → (front : List ℕ) × (digits_onto k 10 false (n / 10) (digit_glyph false (n % 10) ∷ rest) ≡ front ++ digit_glyph false (n % 10) ∷ rest)
    → (front : List ℕ) × (digits_onto (suc k) 10 false n rest ≡ front ++ digit_glyph false (n % 10) ∷ rest)
onto_step true k n rest is more = ([], rw is refl)
onto_step false k n rest is more = (more.0, rw is more.1)

onto_front : (k n : ℕ) (rest : List ℕ) → (front : List ℕ) × (digits_onto k 10 false n rest ≡ front ++ rest)
onto_front zero n rest = ([], refl)
onto_front (suc k) n rest =
    let more = onto_step (n / 10 == 0) k n rest refl (onto_front k (n / 10) (digit_glyph false (n % 10) ∷ rest)) in
    (more.0 ++ digit_glyph false (n % 10) ∷ [], more.1 ∙ sym (append_assoc more.0 (digit_glyph false (n % 10) ∷ []) rest))

onto_last : (k n : ℕ) → (front : List ℕ) × (digits_onto (suc k) 10 false n [] ≡ front ++ digit_glyph false (n % 10) ∷ [])
onto_last k n = onto_step (n / 10 == 0) k n [] refl (onto_front k (n / 10) (digit_glyph false (n % 10) ∷ []))

decimal_last : (n : ℕ) → (front : List ℕ) × (decimal n ≡ front ++ digit_glyph false (n % 10) ∷ [])
unfolding digits
decimal_last n = onto_last 63 n

digit_no_t : (d : ℕ) (rest : List ℕ) → d < 10 → begins (codes "tnes") (digit_glyph false d ∷ rest) ≡ false
digit_no_t d rest few = let other : (digit_glyph false d == 116) ≡ false = grind (arith, few) in rw other refl

number_ends : (status : ℕ) (before : List ℕ) (n : ℕ) → ends_so (text_of (one_line status (before ++ decimal n))) ≡ false
number_ends status before n =
    let last = decimal_last n in
    let turned : reverse (decimal n) ≡ digit_glyph false (n % 10) ∷ reverse last.0 = ap reverse last.1 ∙ reverse-append last.0 (digit_glyph false (n % 10) ∷ []) in
    line_ends status before (decimal n) ∙ ap (λ (bytes : List ℕ). begins (codes "tnes") (bytes ++ reverse before)) turned ∙ digit_no_t (n % 10) (reverse last.0 ++ reverse before) (omega arith)

-- that of an absent file ends so
absent_ends : (path : List ℕ) → ends_so (text_of (absent_at path)) ≡ true
absent_ends path = line_ends 3 (codes "refused " ++ path) (codes " absent")

-- a reply that is a refusal does not
abbrev EndsElse : Reply → Type 0
EndsElse reply = reply.status ≡ 3 → ends_so (text_of reply) ≡ false

-- refusals of gpredict
as_ends : (name : FileName) (rule : List ℕ) → ends_so (text_of (refused_as name rule)) ≡ begins (codes "tnes") (reverse rule ++ reverse (codes "refused " ++ name_of name ++ codes " "))
as_ends name rule = line_ends 3 (codes "refused " ++ name_of name ++ codes " ") rule

at_ends : (name : FileName) (line : ℕ) (rule : List ℕ)
    → ends_so (text_of (refused_at name line rule)) ≡ begins (codes "tnes") (reverse rule ++ reverse (codes "refused " ++ name_of name ++ codes " " ++ decimal line ++ codes " "))
at_ends name line rule = line_ends 3 (codes "refused " ++ name_of name ++ codes " " ++ decimal line ++ codes " ") rule

text_ends : (name : FileName) (fault : TextFault) → EndsElse (text_refusal name fault)
text_ends name (text.NotAscii line) three = at_ends name line (codes "notascii")
text_ends name (text.LongLine line) three = at_ends name line (codes "longline")
text_ends name (text.NoLastNewline line) three = at_ends name line (codes "nolastnewline")
text_ends name text.Memory three = absurd (omega (arith, three))

trace_ends : (thread : ℕ) (fault : TraceFault) → EndsElse (trace_refusal thread fault)
trace_ends thread (trace.Text fault) three = text_ends (file.Trace thread) fault three
trace_ends thread (trace.AfterExit line) three = at_ends (file.Trace thread) line (codes "afterexit")
trace_ends thread (trace.BadWord line) three = at_ends (file.Trace thread) line (codes "badword")
trace_ends thread (trace.NameSelf line) three = at_ends (file.Trace thread) line (codes "nameself")
trace_ends thread (trace.ReleaseUnheld line) three = at_ends (file.Trace thread) line (codes "releaseunheld")
trace_ends thread (trace.AcquireHeld line) three = at_ends (file.Trace thread) line (codes "acquireheld")
trace_ends thread (trace.RegionUnmatched line) three = at_ends (file.Trace thread) line (codes "regionunmatched")
trace_ends thread (trace.MarkCount line) three = at_ends (file.Trace thread) line (codes "markcount")
trace_ends thread trace.Memory three = absurd (omega (arith, three))

rule_ends : (name : FileName) (line : ℕ) (broken : ReportRule) → ends_so (text_of (refused_at name line (rule_word broken))) ≡ false
rule_ends name line rule.Form = at_ends name line (codes "form")
rule_ends name line rule.Order = at_ends name line (codes "order")
rule_ends name line rule.Length = at_ends name line (codes "length")
rule_ends name line rule.Clause = at_ends name line (codes "clause")
rule_ends name line rule.End = at_ends name line (codes "end")
rule_ends name line rule.After = at_ends name line (codes "after")

usual_ends : (why : Refusal) → is_absent why ≡ false → EndsElse (reply_of why)
usual_ends (usual.Content (content.Absent name)) other three = absurd (cc)
usual_ends (usual.Content (content.TooLong name)) other three = as_ends name (codes "toolong")
usual_ends (usual.Content content.ReadFailed) other three = absurd (omega (arith, three))
usual_ends (usual.Content content.Memory) other three = absurd (omega (arith, three))
usual_ends (usual.Recording (recording.Absent name)) other three = absurd (cc)
usual_ends (usual.Recording (recording.TooLong name)) other three = as_ends name (codes "toolong")
usual_ends (usual.Recording recording.ReadFailed) other three = absurd (omega (arith, three))
usual_ends (usual.Recording (recording.ManifestText fault)) other three = text_ends file.Manifest fault three
usual_ends (usual.Recording (recording.ManifestLine line)) other three = at_ends file.Manifest line (codes "badline")
usual_ends (usual.Recording (recording.Trace thread fault)) other three = trace_ends thread fault three
usual_ends (usual.Recording (recording.UnknownThread thread)) other three = number_ends 3 (codes "refused recording " ++ codes "unknownthread" ++ codes " ") thread
usual_ends (usual.Recording (recording.StartsRoot thread)) other three = number_ends 3 (codes "refused recording " ++ codes "startsroot" ++ codes " ") thread
usual_ends (usual.Recording (recording.TwoStarts thread)) other three = number_ends 3 (codes "refused recording " ++ codes "twostarts" ++ codes " ") thread
usual_ends (usual.Recording (recording.TwoHolders lock window)) other three = number_ends 3 (codes "refused recording twoholders " ++ lock ++ codes " ") window
usual_ends (usual.Recording recording.Memory) other three = absurd (omega (arith, three))
usual_ends (usual.Schedule (schedule.Text fault)) other three = text_ends file.Schedule fault three
usual_ends (usual.Schedule (schedule.BadLine line)) other three = at_ends file.Schedule line (codes "badline")
usual_ends (usual.Schedule schedule.Memory) other three = absurd (omega (arith, three))
usual_ends (usual.Properties (property.Text fault)) other three = text_ends file.Properties fault three
usual_ends (usual.Properties (property.Empty line)) other three = at_ends file.Properties line (codes "empty")
usual_ends (usual.Properties (property.BadWord line)) other three = at_ends file.Properties line (codes "badword")
usual_ends (usual.Properties (property.RepeatedName line)) other three = at_ends file.Properties line (codes "repeatedname")
usual_ends (usual.Properties (property.TooManyAtoms line)) other three = at_ends file.Properties line (codes "toomanyatoms")
usual_ends (usual.Properties (property.UnknownEvent line)) other three = at_ends file.Properties line (codes "unknownevent")
usual_ends (usual.Properties (property.RegionUse line)) other three = at_ends file.Properties line (codes "regionuse")
usual_ends (usual.Properties property.Memory) other three = absurd (omega (arith, three))
usual_ends (usual.Report (report.Text fault)) other three = text_ends file.Report fault three
usual_ends (usual.Report (report.Rule line broken)) other three = rule_ends file.Report line broken
usual_ends (usual.Report report.Memory) other three = absurd (omega (arith, three))
usual_ends (usual.Limit total budget) other three = absurd (omega (arith, three))

-- refusals in the folder of a part
module _ (folder : List ℕ) where
  in_ends : (name : FileName) (rule : List ℕ) → ends_so (text_of (refused_in folder name rule)) ≡ begins (codes "tnes") (reverse rule ++ reverse (codes "refused " ++ path_of folder name ++ codes " "))
  in_ends name rule = line_ends 3 (codes "refused " ++ path_of folder name ++ codes " ") rule

  in_at_ends : (name : FileName) (line : ℕ) (rule : List ℕ)
      → ends_so (text_of (refused_in_at folder name line rule)) ≡ begins (codes "tnes") (reverse rule ++ reverse (codes "refused " ++ path_of folder name ++ codes " " ++ decimal line ++ codes " "))
  in_at_ends name line rule = line_ends 3 (codes "refused " ++ path_of folder name ++ codes " " ++ decimal line ++ codes " ") rule

  text_in_ends : (name : FileName) (fault : TextFault) → EndsElse (text_in folder name fault)
  text_in_ends name (text.NotAscii line) three = in_at_ends name line (codes "notascii")
  text_in_ends name (text.LongLine line) three = in_at_ends name line (codes "longline")
  text_in_ends name (text.NoLastNewline line) three = in_at_ends name line (codes "nolastnewline")
  text_in_ends name text.Memory three = absurd (omega (arith, three))

  rule_in_ends : (name : FileName) (line : ℕ) (broken : ReportRule) → ends_so (text_of (refused_in_at folder name line (rule_word broken))) ≡ false
  rule_in_ends name line rule.Form = in_at_ends name line (codes "form")
  rule_in_ends name line rule.Order = in_at_ends name line (codes "order")
  rule_in_ends name line rule.Length = in_at_ends name line (codes "length")
  rule_in_ends name line rule.Clause = in_at_ends name line (codes "clause")
  rule_in_ends name line rule.End = in_at_ends name line (codes "end")
  rule_in_ends name line rule.After = in_at_ends name line (codes "after")

  number_in_ends : (name : FileName) (front : List ℕ) (n : ℕ) → ends_so (text_of (refused_in folder name (front ++ decimal n))) ≡ false
  number_in_ends name front n =
      let last = decimal_last n in
      let turned : reverse (decimal n) ≡ digit_glyph false (n % 10) ∷ reverse last.0 = ap reverse last.1 ∙ reverse-append last.0 (digit_glyph false (n % 10) ∷ []) in
      let before = reverse (codes "refused " ++ path_of folder name ++ codes " ") in
      in_ends name (front ++ decimal n)
      ∙ ap (λ (bytes : List ℕ). begins (codes "tnes") (bytes ++ before)) (reverse-append front (decimal n))
      ∙ ap (λ (bytes : List ℕ). begins (codes "tnes") ((bytes ++ reverse front) ++ before)) turned
      ∙ digit_no_t (n % 10) ((reverse last.0 ++ reverse front) ++ before) (omega arith)

  -- the words of a failure before its place
  abbrev before_place : Failure → List ℕ
  before_place failure =
      then_number (then_number (then_number (then_number (codes "rejected") failure.window) failure.property) failure.instance) (number_of failure.reason) ++ codes " "

  part_ends : (fault : PartFault) → is_absent_in fault ≡ false → EndsElse (part_refusal folder fault)
  part_ends wrong.HoldsRecording other three = in_ends file.Manifest (codes "exists")
  part_ends wrong.ManyWindows other three = in_ends file.Manifest (codes "epochs")
  part_ends (wrong.Content (content.Absent name)) other three = absurd (cc)
  part_ends (wrong.Content (content.TooLong name)) other three = in_ends name (codes "toolong")
  part_ends (wrong.Content content.ReadFailed) other three = absurd (omega (arith, three))
  part_ends (wrong.Content content.Memory) other three = absurd (omega (arith, three))
  part_ends (wrong.Shard (shard.Text fault)) other three = text_in_ends file.Shard fault three
  part_ends (wrong.Shard (shard.Line line)) other three = in_at_ends file.Shard line (codes "form")
  part_ends (wrong.Shard shard.Memory) other three = absurd (omega (arith, three))
  part_ends wrong.OtherParts other three = in_at_ends file.Shard 2 (codes "parts")
  part_ends wrong.Twice other three = in_at_ends file.Shard 2 (codes "twice")
  part_ends wrong.OtherWindows other three = in_at_ends file.Shard 3 (codes "windows")
  part_ends (wrong.Report (report.Text fault)) other three = text_in_ends file.Report fault three
  part_ends (wrong.Report (report.Rule line broken)) other three = rule_in_ends file.Report line broken
  part_ends (wrong.Report report.Memory) other three = absurd (omega (arith, three))
  part_ends wrong.OtherFormat other three = in_at_ends file.Report 1 (codes "format")
  part_ends wrong.OtherBudget other three = in_at_ends file.Report 2 (codes "budget")
  part_ends wrong.WindowCount other three = in_ends file.Report (codes "windows")
  part_ends (wrong.Rejected failure) other three = number_in_ends file.Report (before_place failure) failure.place

shard_ends : (why : ShardRefusal) → is_absence why ≡ false → EndsElse (shard_reply why)
shard_ends (refusal.Usual why) other three = usual_ends why other three
shard_ends (refusal.InPart folder fault) other three = part_ends (string_bytes folder) fault other three
shard_ends (refusal.Missing number) other three = number_ends 3 (codes "refused shard missing ") number

said_absent : (absent : Bool) (why : ShardRefusal) (path : List ℕ) → is_absence why ≡ absent → (shard_reply why).status ≡ 3
    → text_of (shard_reply why) ≡ text_of (absent_at path) → absent ≡ true
said_absent true why path is three same = refl
said_absent false why path is three same =
    let both : false ≡ true = sym (shard_ends why is three) ∙ ap ends_so same ∙ absent_ends path in both

-- what is told as absent is absent
pub told_absent : (why : ShardRefusal) (path : List ℕ) → (shard_reply why).status ≡ 3 → text_of (shard_reply why) ≡ text_of (absent_at path) → is_absence why ≡ true
told_absent why path three same = said_absent (is_absence why) why path refl three same

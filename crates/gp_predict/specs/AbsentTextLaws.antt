-- Laws: no refusal but that of an absent file is told as `refused FILE absent`: each other has one more space, or a letter that no
-- name of a file has.
use Rattle.std.proofs.Common.{◌≡◌, refl, ap, ◌∙◌, ℕ, zero, suc, ◌+◌, ◌/◌, ◌%◌, ◌<◌, ◌≤◌, ◌==◌, Bool, true, false, if◌then◌else◌, List, [], ◌∷◌, ◌++◌, sum_by, arith}
use Rattle.std.specs.Prelude.{codes, decimal}
use Rattle.std.specs.Fmt.{digit_glyph, digits, digits_onto}
use Rattle.std.proofs.lemmas.List.Sums.{sum_by-append, sum_by-cons}
use Rattle.gp_text.specs.declared.lines.TextFault.{TextFault}
use Rattle.gp_text.specs.declared.lines.TextFault.TheVariants as text
use Rattle.gp_trace.specs.declared.fault.TraceFault.{TraceFault}
use Rattle.gp_trace.specs.declared.fault.TraceFault.TheVariants as trace
use Rattle.gp_window.specs.declared.content.ContentFault.TheVariants as content
use Rattle.gp_window.specs.declared.file_name.FileName.{FileName}
use Rattle.gp_window.specs.declared.file_name.FileName.TheVariants as file
use Rattle.gp_window.specs.FileNames.{name_of}
use Rattle.gp_window.specs.declared.fault.RecordingFault.TheVariants as recording
use Rattle.gp_property.specs.declared.fault.PropertyFault.TheVariants as property
use Rattle.gp_replay.specs.declared.schedule.ScheduleFault.TheVariants as schedule
use Rattle.gp_report.specs.declared.fault.ReportFault.TheVariants as report
use Rattle.gp_predict.specs.declared.refusal.Refusal.{Refusal}
use Rattle.gp_predict.specs.declared.refusal.Refusal.TheVariants as refusal
use Rattle.gp_predict.specs.declared.reply.Reply.{Reply}
use Rattle.gp_predict.specs.Telling.{text_of}
use Rattle.gp_predict.specs.Refusal.{recording_refused, refused_as, refused_at, rule_word, text_refusal, trace_refusal, two_holders}
use Rattle.gp_predict.specs.Refused.{is_absent, reply_of}

-- a space, and the letter g
abbrev weight : ℕ → ℕ
weight c = if c == 32 then 1 else (if c == 103 then 1 else 0)

both : (first second : List ℕ) → sum_by weight (first ++ second) ≡ sum_by weight first + sum_by weight second
both first second = sum_by-append weight first second

digit_weighs : (d : ℕ) → d < 10 → weight (digit_glyph false d) ≡ 0
digit_weighs d few = grind (arith, few)

added : (n : ℕ) (rest : List ℕ) → sum_by weight (digit_glyph false (n % 10) ∷ rest) ≡ sum_by weight rest
added n rest =
    let parts = sum_by-cons weight (digit_glyph false (n % 10)) rest in
    let digit = digit_weighs (n % 10) (omega arith) in omega (arith, parts, digit)

onto_step : (last : Bool) (k n : ℕ) (rest : List ℕ) → (n / 10 == 0) ≡ last
    → sum_by weight (digits_onto k 10 false (n / 10) (digit_glyph false (n % 10) ∷ rest)) ≡ sum_by weight (digit_glyph false (n % 10) ∷ rest)
    → sum_by weight (digits_onto (suc k) 10 false n rest) ≡ sum_by weight rest
onto_step true k n rest is more = rw is (added n rest)
onto_step false k n rest is more = rw is (more ∙ added n rest)

onto_weighs : (k n : ℕ) (rest : List ℕ) → sum_by weight (digits_onto k 10 false n rest) ≡ sum_by weight rest
onto_weighs zero n rest = refl
onto_weighs (suc k) n rest = onto_step (n / 10 == 0) k n rest refl (onto_weighs k (n / 10) (digit_glyph false (n % 10) ∷ rest))

decimal_weighs : (n : ℕ) → sum_by weight (decimal n) ≡ 0
unfolding digits
decimal_weighs n = onto_weighs 64 n []

name_weighs : (name : FileName) → sum_by weight (name_of name) ≡ 0
name_weighs file.Manifest = refl
name_weighs (file.Trace thread) =
    let first = both (codes "t" ++ decimal thread) (codes ".trace") in
    let second = both (codes "t") (decimal thread) in
    let t : sum_by weight (codes "t") ≡ 0 = refl in
    let end : sum_by weight (codes ".trace") ≡ 0 = refl in
    omega (arith, first, second, t, end, decimal_weighs thread)
name_weighs file.Properties = refl
name_weighs file.Schedule = refl
name_weighs file.Report = refl
name_weighs file.Shard = refl

-- a line weighs what its text does
line_weighs : (status : ℕ) (line : List ℕ) → sum_by weight (text_of (record { status = status; lines = (line ++ codes "\n") ∷ [] })) ≡ sum_by weight line
line_weighs status line =
    let whole = sum_by-append weight (line ++ codes "\n") [] in
    let parts = sum_by-append weight line (codes "\n") in
    let end : sum_by weight (codes "\n") ≡ 0 = refl in
    let none : sum_by weight [] ≡ 0 = refl in
    omega (arith, whole, parts, end, none)

refused_weighs : sum_by weight (codes "refused ") ≡ 1
refused_weighs = refl

space_weighs : sum_by weight (codes " ") ≡ 1
space_weighs = refl

-- a file's name behind its first word weighs one, and with a space two
named_weighs : (name : FileName) → sum_by weight (codes "refused " ++ name_of name ++ codes " ") ≡ 2
named_weighs name =
    let last = both (codes "refused " ++ name_of name) (codes " ") in
    let first = both (codes "refused ") (name_of name) in
    omega (arith, last, first, name_weighs name, refused_weighs, space_weighs)

-- the refusal of a whole file weighs two, and what its rule does
as_weighs : (name : FileName) (rule : List ℕ) → sum_by weight (text_of (refused_as name rule)) ≡ 2 + sum_by weight rule
as_weighs name rule =
    let line = line_weighs 3 (codes "refused " ++ name_of name ++ codes " " ++ rule) in
    let last = both (codes "refused " ++ name_of name ++ codes " ") rule in
    omega (arith, line, last, named_weighs name)

-- with a line it weighs three at least
at_weighs : (name : FileName) (line : ℕ) (rule : List ℕ) → 3 ≤ sum_by weight (text_of (refused_at name line rule))
at_weighs name line rule =
    let whole = line_weighs 3 (codes "refused " ++ name_of name ++ codes " " ++ decimal line ++ codes " " ++ rule) in
    let last = both (codes "refused " ++ name_of name ++ codes " " ++ decimal line ++ codes " ") rule in
    let space = both (codes "refused " ++ name_of name ++ codes " " ++ decimal line) (codes " ") in
    let number = both (codes "refused " ++ name_of name ++ codes " ") (decimal line) in
    omega (arith, whole, last, space, number, named_weighs name, space_weighs)

recording_weighs : (rule : List ℕ) (thread : ℕ) → 3 ≤ sum_by weight (text_of (recording_refused rule thread))
recording_weighs rule thread =
    let whole = line_weighs 3 (codes "refused recording " ++ rule ++ codes " " ++ decimal thread) in
    let last = both (codes "refused recording " ++ rule ++ codes " ") (decimal thread) in
    let space = both (codes "refused recording " ++ rule) (codes " ") in
    let first = both (codes "refused recording ") rule in
    let recording : sum_by weight (codes "refused recording ") ≡ 3 = refl in
    omega (arith, whole, last, space, first, recording, space_weighs)

holders_weigh : (lock : List ℕ) (window : ℕ) → 3 ≤ sum_by weight (text_of (two_holders lock window))
holders_weigh lock window =
    let whole = line_weighs 3 (codes "refused recording twoholders " ++ lock ++ codes " " ++ decimal window) in
    let last = both (codes "refused recording twoholders " ++ lock ++ codes " ") (decimal window) in
    let space = both (codes "refused recording twoholders " ++ lock) (codes " ") in
    let first = both (codes "refused recording twoholders ") lock in
    let recording : sum_by weight (codes "refused recording twoholders ") ≡ 4 = refl in
    omega (arith, whole, last, space, first, recording, space_weighs)

long_weighs : (name : FileName) → 3 ≤ sum_by weight (text_of (refused_as name (codes "toolong")))
long_weighs name =
    let rule : sum_by weight (codes "toolong") ≡ 1 = refl in
    omega (arith, as_weighs name (codes "toolong"), rule)

abbrev Weighs : Reply → Type 0
Weighs reply = reply.status ≡ 3 → 3 ≤ sum_by weight (text_of reply)

text_weighs : (name : FileName) (fault : TextFault) → Weighs (text_refusal name fault)
text_weighs name (text.NotAscii line) three = at_weighs name line _
text_weighs name (text.LongLine line) three = at_weighs name line _
text_weighs name (text.NoLastNewline line) three = at_weighs name line _
text_weighs name text.Memory three = absurd (omega (arith, three))

trace_weighs : (thread : ℕ) (fault : TraceFault) → Weighs (trace_refusal thread fault)
trace_weighs thread (trace.Text fault) three = text_weighs (file.Trace thread) fault three
trace_weighs thread (trace.AfterExit line) three = at_weighs (file.Trace thread) line _
trace_weighs thread (trace.BadWord line) three = at_weighs (file.Trace thread) line _
trace_weighs thread (trace.NameSelf line) three = at_weighs (file.Trace thread) line _
trace_weighs thread (trace.ReleaseUnheld line) three = at_weighs (file.Trace thread) line _
trace_weighs thread (trace.AcquireHeld line) three = at_weighs (file.Trace thread) line _
trace_weighs thread (trace.RegionUnmatched line) three = at_weighs (file.Trace thread) line _
trace_weighs thread (trace.MarkCount line) three = at_weighs (file.Trace thread) line _
trace_weighs thread trace.Memory three = absurd (omega (arith, three))

refusal_weighs : (why : Refusal) → is_absent why ≡ false → Weighs (reply_of why)
refusal_weighs (refusal.Content (content.Absent name)) other three = absurd (cc)
refusal_weighs (refusal.Content (content.TooLong name)) other three = long_weighs name
refusal_weighs (refusal.Content content.ReadFailed) other three = absurd (omega (arith, three))
refusal_weighs (refusal.Content content.Memory) other three = absurd (omega (arith, three))
refusal_weighs (refusal.Recording (recording.Absent name)) other three = absurd (cc)
refusal_weighs (refusal.Recording (recording.TooLong name)) other three = long_weighs name
refusal_weighs (refusal.Recording recording.ReadFailed) other three = absurd (omega (arith, three))
refusal_weighs (refusal.Recording (recording.ManifestText fault)) other three = text_weighs file.Manifest fault three
refusal_weighs (refusal.Recording (recording.ManifestLine line)) other three = at_weighs file.Manifest line _
refusal_weighs (refusal.Recording (recording.Trace thread fault)) other three = trace_weighs thread fault three
refusal_weighs (refusal.Recording (recording.UnknownThread thread)) other three = recording_weighs (codes "unknownthread") thread
refusal_weighs (refusal.Recording (recording.StartsRoot thread)) other three = recording_weighs (codes "startsroot") thread
refusal_weighs (refusal.Recording (recording.TwoStarts thread)) other three = recording_weighs (codes "twostarts") thread
refusal_weighs (refusal.Recording (recording.TwoHolders lock window)) other three = holders_weigh lock window
refusal_weighs (refusal.Recording recording.Memory) other three = absurd (omega (arith, three))
refusal_weighs (refusal.Schedule (schedule.Text fault)) other three = text_weighs file.Schedule fault three
refusal_weighs (refusal.Schedule (schedule.BadLine line)) other three = at_weighs file.Schedule line _
refusal_weighs (refusal.Schedule schedule.Memory) other three = absurd (omega (arith, three))
refusal_weighs (refusal.Properties (property.Text fault)) other three = text_weighs file.Properties fault three
refusal_weighs (refusal.Properties (property.Empty line)) other three = at_weighs file.Properties line _
refusal_weighs (refusal.Properties (property.BadWord line)) other three = at_weighs file.Properties line _
refusal_weighs (refusal.Properties (property.RepeatedName line)) other three = at_weighs file.Properties line _
refusal_weighs (refusal.Properties (property.TooManyAtoms line)) other three = at_weighs file.Properties line _
refusal_weighs (refusal.Properties (property.UnknownEvent line)) other three = at_weighs file.Properties line _
refusal_weighs (refusal.Properties (property.RegionUse line)) other three = at_weighs file.Properties line _
refusal_weighs (refusal.Properties property.Memory) other three = absurd (omega (arith, three))
refusal_weighs (refusal.Report (report.Text fault)) other three = text_weighs file.Report fault three
refusal_weighs (refusal.Report (report.Rule line rule)) other three = at_weighs file.Report line (rule_word rule)
refusal_weighs (refusal.Report report.Memory) other three = absurd (omega (arith, three))
refusal_weighs (refusal.Limit total budget) other three = absurd (omega (arith, three))

absent_where : (why : Refusal) (name : FileName) (absent : Bool) → is_absent why ≡ absent → (reply_of why).status ≡ 3
    → text_of (reply_of why) ≡ text_of (refused_as name (codes "absent")) → absent ≡ true
absent_where why name true is three same = refl
absent_where why name false is three same =
    let rule : sum_by weight (codes "absent") ≡ 0 = refl in
    absurd (omega (arith, refusal_weighs why is three, ap (sum_by weight) same, as_weighs name (codes "absent"), rule))

-- what is told as the refusal of an absent file is one
pub told_absent : (why : Refusal) (name : FileName) → (reply_of why).status ≡ 3 → text_of (reply_of why) ≡ text_of (refused_as name (codes "absent"))
    → is_absent why ≡ true
told_absent why name three same = absent_where why name (is_absent why) refl three same

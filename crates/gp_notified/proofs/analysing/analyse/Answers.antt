-- What is recorded of all windows answers the recording.
use Rattle.std.proofs.Common.{refl, sym, subst, ◌*◌, ◌≤◌, List}
use Rattle.gp_property.specs.PropertyForm.{PropertyForm}
use Rattle.gp_report.specs.declared.record.WindowRecordOf.{WindowRecordOf}
use Rattle.gp_window.specs.Windows.{all_windows}
use Rattle.gp_analysis.specs.Recorded.{RecordEach}
use Rattle.gp_analysis.specs.Tickets.{asked_total}
use Rattle.gp_notified.specs.declared.paired.Paired.{Paired}
use Rattle.gp_notified.specs.Question.{notified}
use Rattle.gp_notified.specs.Unasked.{AreRecordsOf}
use Rattle.gp_notified.proofs.Records.{are_records, report_answers}
use Rattle.gp_notified.proofs.analysing.analyse.Goals as goal

pub analyse-requires-clause-limit : goal.analyse-requires-clause-limit
analyse-requires-clause-limit g c _ _ =
    subst (λ (ps : List PropertyForm). asked_total (notified ps) c.args.recording.now * c.args.budget ≤ 1000000) (sym c.of-question.ensures) c.requires.limit

pub unpaired_of-requires : goal.unpaired_of-requires
unpaired_of-requires g c =
    let r = c.args.recording.now in
    let each = subst (λ (ps : List PropertyForm). RecordEach (notified ps) c.args.workers c.args.budget (all_windows r) c.in_ok-windows.windows) c.of-question.ensures c.in_ok-windows.ensures in
    subst (λ (records : List (WindowRecordOf Paired)). AreRecordsOf r records) (sym c.as_slice.ensures)
    (are_records c.args.properties.now c.args.workers c.args.budget r c.in_ok-windows.windows each)

pub returns : goal.returns
returns g c =
    let r = c.args.recording.now in
    let each = subst (λ (ps : List PropertyForm). RecordEach (notified ps) c.args.workers c.args.budget (all_windows r) c.in_ok-windows.windows) c.of-question.ensures c.in_ok-windows.ensures in
    report_answers c.args.properties.now c.args.workers c.args.budget r (record { budget = c.args.budget; windows = c.in_ok-windows.windows; unpaired = c.in_ok-unpaired.unpaired }) refl each c.in_ok-unpaired.ensures

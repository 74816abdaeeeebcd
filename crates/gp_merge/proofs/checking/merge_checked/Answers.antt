-- The merged report has a window for each of the recording, which the parts have.
use Rattle.std.proofs.Common.{◌∙◌, ap, sym, subst, List, length}
use Rattle.gp_cut.specs.declared.parting.Part.{Part}
use Rattle.gp_report.specs.ReportForm.{ReportForm}
use Rattle.gp_merge.specs.Checking.{AreNeighbours, parts_alone}
use Rattle.gp_merge.proofs.Checked.{alone_in_row, merged_length}
use Rattle.gp_merge.proofs.checking.merge_checked.Goals as goal

pub check_merged-checked-requires-clause-row : goal.check_merged-checked-requires-clause-row
check_merged-checked-requires-clause-row c =
    let epochs = c.args.recording.now.manifest.epochs in
    subst (λ (alone : List Part). AreNeighbours 0 alone epochs) (sym (c.as_slice-2.ensures ∙ c.in_ok-alone.ensures ∙ ap parts_alone c.as_slice.ensures))
    (alone_in_row 0 epochs c.args.parts c.requires.row)

pub check_merged-checked-requires-clause-windows : goal.check_merged-checked-requires-clause-windows
check_merged-checked-requires-clause-windows c =
    ap (λ (report : ReportForm). length report.windows) c.in_ok-report.ensures
    ∙ merged_length c.args.format c.args.budget c.args.recording.now.manifest.epochs c.args.parts c.requires.row c.requires.parts.reports

use Rattle.std.proofs.Common.{List, subst, sym}
use Rattle.gp_report.specs.Records.{WindowRecord}
use Rattle.gp_report.specs.Report.{IsReport}
use Rattle.gp_merge.proofs.Moved.{parts_can_move}
use Rattle.gp_merge.proofs.Told.{parts_told}
use Rattle.gp_merge.proofs.merging.merge.Goals as goal

pub merge_windows-requires : goal.merge_windows-requires
merge_windows-requires c = parts_can_move c.args.format c.args.budget c.args.parts c.requires

pub new-requires : goal.new-requires
new-requires c =
    subst (λ (windows : List WindowRecord). IsReport (record { format = c.args.format; budget = c.args.budget; windows = windows })) (sym c.in_ok-windows.ensures)
    (parts_told c.args.format c.args.budget c.args.parts c.requires)

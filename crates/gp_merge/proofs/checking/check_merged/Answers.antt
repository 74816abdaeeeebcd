-- The window of the first failure is one that the parts have.
use Rattle.std.proofs.Common.{subst}
use Rattle.gp_checker.specs.declared.failure.Checked.{Checked}
use Rattle.gp_checker.specs.Checked.{IsChecked}
use Rattle.gp_merge.proofs.Checked.{failure_reached}
use Rattle.gp_merge.proofs.checking.check_merged.Goals as goal

pub failure_in-requires : goal.failure_in-requires
failure_in-requires c =
    failure_reached c.args.recording.now c.args.properties.now c.args.report c.args.parts.now c.in-Ok-Rejected.failure
    c.requires.row c.requires.windows c.requires.most
    (subst (λ (checked : Checked). IsChecked c.args.recording.now c.args.properties.now c.args.report checked) c.in-Ok-Rejected.field-0-is c.in-Ok-Rejected.ensures)

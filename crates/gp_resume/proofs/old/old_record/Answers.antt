use Rattle.std.proofs.Common.{◌∙◌, ap, List, ◌-◌}
use Rattle.std.specs.List.{slice_get}
use Rattle.gp_report.specs.Records.{WindowRecord}
use Rattle.gp_resume.proofs.Lent.{lent_at}
use Rattle.gp_resume.proofs.Numbered.{at_place}
use Rattle.gp_resume.proofs.old.old_record.Goals as goal

-- src/old.rt:9:1
pub returns : goal.returns
returns c =
    lent_at c.windows.result.now (c.args.number - 1) c.get.result c.get.ensures.lookup
    ∙ ap (λ (windows : List WindowRecord). slice_get windows (c.args.number - 1)) c.windows.ensures.value
    ∙ at_place c.args.number c.args.old.now.windows 1 c.windows.ensures.report.numbered c.requires

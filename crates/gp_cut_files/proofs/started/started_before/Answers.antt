use Rattle.std.proofs.Common.{◌∙◌, ◌++◌, ap, add-one}
use Rattle.gp_window.specs.WindowForm.{started_in}
use Rattle.gp_cut_files.proofs.started.started_before.Goals as goal

pub loop-passed-preserved : goal.loop-passed-preserved
loop-passed-preserved c =
    rw add-one
    (c.in_ok-add_started.ensures ∙ ap (λ started. started ++ started_in c.loop-passed.passed c.args.traces.now) c.loop-passed.invariant)

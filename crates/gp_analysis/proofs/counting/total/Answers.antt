-- What the runs have together is what all windows have.
use Rattle.std.proofs.Common.{◌≡◌, ◌∙◌, ap, subst, sum, IfOk}
use Rattle.gp_analysis.specs.Runs.{PartAll}
use Rattle.gp_analysis.proofs.Counted.{all_counted}
use Rattle.gp_analysis.proofs.counting.total.Goals as goal

pub returns : goal.returns
returns g c =
    let r = c.args.recording.now in
    let parted = subst (λ n. PartAll n c.in_ok-runs.runs.items) (c.epochs-epochs.ensures.value ∙ ap (λ m. m.epochs) c.manifest.ensures.value) c.in_ok-runs.ensures.parted in
    let same = ap sum c.as_slice.ensures.value ∙ all_counted (g.Q.Question.form c.args.question.now) c.args.counted r c.in_ok-runs.runs.items c.in_ok-counts.counts.items parted c.in_ok-counts.ensures in
    record { total = subst (λ n. IfOk c.sum_of.result (λ total. total ≡ n)) same c.sum_of.ensures }

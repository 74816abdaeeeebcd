-- What was collected is what each run has.
use Rattle.std.proofs.Common.{◌∙◌}
use Rattle.std.specs.Prelude.{Contains, Err}
use Rattle.gp_analysis.specs.Runs.{run_count}
use Rattle.gp_analysis.proofs.Counted.{collected}
use Rattle.gp_analysis.proofs.counting.run_counts.Goals as goal

pub returns : goal.returns
returns g c =
    let calls = c.in_ok-collect.ensures in
    let chain = rw (c.map.ensures.base, c.map.ensures.f, c.with_min_len.ensures.base) at calls.1 in
    collected (run_count (g.Q.Question.form c.args.question.now) c.args.counted c.args.recording.now) (λ counts. counts.items) c.in_ok-collect.field-0 chain.0 c.args.runs.items calls.0 (λ fault. Contains calls.0 (Err fault))
    (chain.1 ∙ c.into_par_iter.ensures) chain.2 calls.2

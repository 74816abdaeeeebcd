-- The report that is kept is the one that was made, or why there is none is told.
use Rattle.gp_predict.specs.Analysing.{of_report}
use Rattle.gp_words.specs.Sharding.{merge_form}
use Rattle.gp_shards.specs.Due.{due_to_merge}
use Rattle.gp_shards.proofs.Ran.{kept_report, ran_stopped, ran_told}
use Rattle.gp_shards.proofs.merging.merge_at.Goals as goal

pub returns-in-Ok-clause-merged : goal.returns-in-Ok-clause-merged
returns-in-Ok-clause-merged g c = kept_report c.in-Ok.report c.finish.result _ _ _ _ _ c.finish.ensures.finished.1 c.in-Ok.ensures.whole

pub returns-in-Ok-clause-run : goal.returns-in-Ok-clause-run
returns-in-Ok-clause-run g c =
    ran_told of_report (due_to_merge (merge_form c.args.merge.now)) _ _ _ _ _ _ _ _ _ c.in-Ok.report c.in-Ok.ensures.stage
    c.finish.ensures.finished.0 c.finish.ensures.finished.1 (λ seven. let limit = c.finish.ensures.limit seven in absurd (cc))

pub returns-in-Err-clause-run : goal.returns-in-Err-clause-run
returns-in-Err-clause-run g c =
    ran_stopped of_report (due_to_merge (merge_form c.args.merge.now)) _ _ _ _ _ _ _ _ _ c.in-Err.stop c.in-Err.ensures.stage c.put_stop.ensures

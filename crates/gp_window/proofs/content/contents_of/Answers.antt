-- The text of this thread joins those that were read before; where it is refused, so is the whole.
use Rattle.std.proofs.Common.{◌∙◌, arith, rules}
use Rattle.std.proofs.lemmas.Result.{err_from_is_err_and}
use Rattle.std.proofs.lemmas.Grind.{common_steps}
use Rattle.gp_window.specs.Contents.{content_cause, contents_from}
use Rattle.gp_window.proofs.Contents.{one_more, stops}
use Rattle.gp_window.proofs.content.contents_of.Goals as goal

pub returns-in_err-content-clause-told : goal.returns-in_err-content-clause-told
returns-in_err-content-clause-told g c = λ files told.
    let failed = err_from_is_err_and c.from_residual.result c.from_residual.ensures.1 in
    rw (failed.1, failed.2)
    (stops (content_cause c.in_err-content.field-0.0) files c.args.directory.now c.loop-before.contents c.loop-before.before c.args.threads
    (contents_from files c.args.directory.now 1 c.args.threads)
    c.loop-before-test.true (c.in_err-content.ensures.told files (c.loop-before.invariant.1 ∙ told)) (c.loop-before.invariant.4 files told))

pub loop-before-preserved : goal.loop-before-preserved
loop-before-preserved g c = (
  search rules,
  search rules,
  grind (arith, common_steps),
  grind (arith, common_steps),
  λ files told. rw c.in_ok-push.ensures.ok
      (one_more files c.args.directory.now c.loop-before.contents c.in_ok-content.content c.loop-before.before c.args.threads
      (contents_from files c.args.directory.now 1 c.args.threads)
      c.loop-before-test.true (c.in_ok-content.ensures.told files (c.loop-before.invariant.1 ∙ told)) (c.loop-before.invariant.4 files told)),
)

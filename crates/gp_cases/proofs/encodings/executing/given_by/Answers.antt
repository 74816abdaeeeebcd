use Rattle.gp_cases.proofs.Bounds.{answers_window}
use Rattle.gp_cases.proofs.encodings.executing.given_by.Goals as goal

pub executed-requires : goal.executed-requires
executed-requires c =
    answers_window c.args.encoded.now c.problem-problem.result.now c.args.valuation.now c.problem-problem.ensures.problem
    (c.is_answer.ensures c.if-not-is_answer.false)

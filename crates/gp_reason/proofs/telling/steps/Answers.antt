use Rattle.std.proofs.Common.{length}
use Rattle.gp_constraint.specs.Base.{base_of}
use Rattle.gp_reason.proofs.Drafted.{steps_are}
use Rattle.gp_reason.proofs.telling.steps.Goals as goal

pub returns : goal.returns
returns c =
    steps_are c.args.vocabulary.now.window c.args.vocabulary.now.names c.args.vocabulary.now.clauses c.in_ok-marks.marks.items c.as_slice.result.now c.as_slice-2.result.now c.clause_count-base.result
    (length (base_of c.args.vocabulary.now.window).clauses) c.args.shared.now c.args.own.now c.in_ok-draft.draft c.in_ok-behind.behind c.in_ok-whole.whole c.into_steps.result
    c.clause_count-base.ensures.count c.as_slice.ensures.value c.as_slice-2.ensures.value c.in_ok-draft.ensures c.in_ok-behind.ensures c.in_ok-whole.ensures
    c.into_steps.ensures c.in_ok-marks.ensures

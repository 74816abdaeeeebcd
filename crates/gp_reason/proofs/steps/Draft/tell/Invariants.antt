use Rattle.std.proofs.Common.{◌≡◌, drop}
use Rattle.gp_reason.specs.Draft.{after_steps}
use Rattle.gp_reason.proofs.steps.Draft.tell.Given as goal

abbrev pub invariant-loop-step : goal.invariant-loop-step
invariant-loop-step l =
    after_steps l.vocabulary.window l.vocabulary.names l.vocabulary.clauses l.marks l.draft (drop l.step-index l.steps)
    ≡ after_steps l.vocabulary.window l.vocabulary.names l.vocabulary.clauses l.marks l.initial.draft l.steps

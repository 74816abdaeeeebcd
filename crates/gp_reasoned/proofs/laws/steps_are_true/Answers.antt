use Rattle.gp_reasoned.proofs.Scheduled.{scheduled}
use Rattle.gp_reasoned.proofs.Truly.{grounds_truly, says_truly}
use Rattle.gp_reasoned.proofs.laws.steps_are_true.Goals as goal

pub returns : goal.returns
returns c = record {
  says = says_truly c.reasons_tell_what_they_rest_on.ensures c.facts_are_true.ensures c.shared_follows.ensures c.locals_change_nothing.ensures c.problems_are_valid.ensures c.truths_are_numbered.ensures;
  grounds = grounds_truly c.families_are_told.ensures c.facts_are_true.ensures c.problems_are_valid.ensures c.truths_are_numbered.ensures;
  schedules = scheduled c.schedules_are_complete.ensures c.valuations_meet.ensures c.answers_mean.ensures c.problems_are_valid.ensures;
}

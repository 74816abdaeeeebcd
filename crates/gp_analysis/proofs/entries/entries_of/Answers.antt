-- One ask more is recorded, until all are.
use Rattle.gp_analysis.specs.Certificates.{steps_by}
use Rattle.gp_analysis.proofs.Recordings.{all_recorded, one_recorded}
use Rattle.gp_analysis.proofs.entries.entries_of.Goals as goal

pub loop-asked-preserved : goal.loop-asked-preserved
loop-asked-preserved g c =
    one_recorded (g.Q.Question.form c.args.question.now) (g.Q.Question.lists c.args.question.now) c.args.certifying.now.source.records.now (steps_by c.args.certifying.now.moved) (g.Q.Question.window_in c.args.encoded.now) c.args.subject.now
    c.args.asked c.next.new.self c.loop-asked.left c.in-Some.asked c.args.answers.now c.loop-asked.entries c.push.new.self c.in_ok-entry_of.field-0 c.loop-asked.answers c.entry_of.new.answers
    c.in-Some.ensures c.loop-asked.invariant c.in_ok-entry_of.ensures.events c.in_ok-entry_of.ensures.records c.in_ok-entry_of.ensures.left c.in_ok-push.ensures.ok

pub returns : goal.returns
returns g c =
    all_recorded (g.Q.Question.form c.args.question.now) (g.Q.Question.lists c.args.question.now) c.args.certifying.now.source.records.now (steps_by c.args.certifying.now.moved) (g.Q.Question.window_in c.args.encoded.now) c.args.subject.now
    c.args.asked c.loop-asked.left c.args.answers.now c.loop-asked.entries c.loop-asked.answers c.in_default.ensures.0 c.loop-asked.invariant

-- One subject more is recorded, until all are.
use Rattle.std.proofs.Common.{subst}
use Rattle.gp_window.specs.WindowForm.{IsWindow}
use Rattle.gp_analysis.specs.Certificates.{certificates_all, steps_by}
use Rattle.gp_analysis.proofs.Evidence.{CanAnswer}
use Rattle.gp_analysis.proofs.SubjectsTold.{all_told, next_can, one_told}
use Rattle.gp_analysis.proofs.subjects.left_records.Goals as goal

pub subject_record-requires-clause-can : goal.subject_record-requires-clause-can
subject_record-requires-clause-can g c =
    let task = c.args.task.now in
    let question = g.Q.Question.form task.question.now in
    let lists = g.Q.Question.lists task.question.now in
    let window = g.Q.Question.window_in c.args.encoded.now in
    let source = c.args.certifying.now.source in
    let can : CanAnswer question lists window = record { lawful = c.laws.ensures; formed = subst IsWindow c.window_of.ensures c.comes_from_recording.ensures; fits = c.requires.fits; refuted = c.refuted_means.ensures; alone = c.shares_nothing.ensures; raises = c.raised_refutes.ensures } in
    next_can question lists window task.budget source.records.now (steps_by c.args.certifying.now.moved) can (certificates_all source.clauses source.gained source.records.now c.args.listed.now c.args.answers.now)
    c.in-Some.subject.now c.in-Some.more.now c.loop-subject.left.now c.take_first-asked.result c.take_first-asked.new.self c.loop-subject.listed c.loop-subject.answers c.loop-subject.own
    c.in-Some.ensures.cases.0 c.take_first-asked.ensures c.loop-subject.invariant

pub loop-subject-preserved : goal.loop-subject-preserved
loop-subject-preserved g c =
    let task = c.args.task.now in
    let question = g.Q.Question.form task.question.now in
    let lists = g.Q.Question.lists task.question.now in
    let window = g.Q.Question.window_in c.args.encoded.now in
    let source = c.args.certifying.now.source in
    let can : CanAnswer question lists window = record { lawful = c.laws.ensures; formed = subst IsWindow c.window_of.ensures c.comes_from_recording.ensures; fits = c.requires.fits; refuted = c.refuted_means.ensures; alone = c.shares_nothing.ensures; raises = c.raised_refutes.ensures } in
    one_told question lists window task.budget source.records.now (steps_by c.args.certifying.now.moved) can (certificates_all source.clauses source.gained source.records.now c.args.listed.now c.args.answers.now)
    c.in-Some.subject.now c.in-Some.more.now c.loop-subject.left.now c.take_first-asked.result c.take_first-asked.new.self c.loop-subject.listed c.loop-subject.answers c.subject_record.new.answers
    c.loop-subject.own c.push.new.self c.in_ok-subject_record.field-0
    c.in-Some.ensures.cases.0 c.take_first-asked.ensures c.loop-subject.invariant c.in_ok-subject_record.ensures.name c.in_ok-subject_record.ensures.body c.in_ok-push.ensures.ok

pub returns : goal.returns
returns g c =
    let task = c.args.task.now in
    let question = g.Q.Question.form task.question.now in
    let lists = g.Q.Question.lists task.question.now in
    let window = g.Q.Question.window_in c.args.encoded.now in
    let source = c.args.certifying.now.source in
    all_told question lists window task.budget source.records.now (steps_by c.args.certifying.now.moved) (certificates_all source.clauses source.gained source.records.now c.args.listed.now c.args.answers.now)
    c.loop-subject.left.now c.loop-subject.listed c.loop-subject.answers c.loop-subject.own c.in_default.ensures.cases c.loop-subject.invariant

-- The queries can be asked, and what is told of the subjects is the record of the window.
use Rattle.std.proofs.Common.{◌≡◌, ◌∙◌, refl, sym, subst, ap, List}
use Rattle.gp_clause.specs.declared.problem.Problem.{Problem}
use Rattle.gp_clause.specs.declared.problem.Query.{Query}
use Rattle.gp_derivation.specs.declared.record.WorkerRecord.{WorkerRecord}
use Rattle.gp_window.specs.WindowForm.{IsWindow, WindowForm}
use Rattle.gp_workers.specs.Work.{AnswerEach}
use Rattle.gp_analysis.specs.Answered.{known_of}
use Rattle.gp_analysis.specs.Listed.{queries_from}
use Rattle.gp_analysis.specs.Telling.{TellsAll}
use Rattle.gp_analysis.proofs.Answering.{can_be_asked}
use Rattle.gp_analysis.proofs.Compacted.{recorded_as}
use Rattle.gp_analysis.proofs.Evidence.{CanAnswer}
use Rattle.gp_analysis.proofs.Fitting.{is_recorded}
use Rattle.gp_analysis.proofs.window.answered_record.Goals as goal

pub work-worked-requires-clause-asked : goal.work-worked-requires-clause-asked
work-worked-requires-clause-asked g c _ _ =
    let task = c.args.task.now in
    let question = g.Q.Question.form task.question.now in
    let lists = g.Q.Question.lists task.question.now in
    let window = g.Q.Question.window_in c.args.encoded.now in
    let can : CanAnswer question lists window = record { lawful = c.laws.ensures; formed = subst IsWindow c.window_of.ensures c.number-number.ensures.window; fits = c.requires.fits; refuted = c.refuted_means.ensures; alone = c.shares_nothing.ensures; raises = c.raised_refutes.ensures } in
    can_be_asked question lists window task.budget can c.problem-problem.result.now c.as_slice.result.now c.problem-problem.ensures (c.as_slice.ensures.value ∙ c.in-Ok.ensures.queries) c.requires.can

pub told_subjects-requires-clause-answers : goal.told_subjects-requires-clause-answers
told_subjects-requires-clause-answers g c =
    let task = c.args.task.now in
    let question = g.Q.Question.form task.question.now in
    let window = g.Q.Question.window_in c.args.encoded.now in
    let done = c.in-Ok-worked.done in
    let queries : c.as_slice.result.now ≡ queries_from question window 0 question.subjects = c.as_slice.ensures.value ∙ c.in-Ok.ensures.queries in
    subst (λ (workers : List WorkerRecord). AnswerEach (question.problem window) task.budget workers 0 (queries_from question window 0 question.subjects) done.answers) (sym c.as_slice-2.ensures)
    (subst (λ (qs : List Query). AnswerEach (question.problem window) task.budget done.records 0 qs done.answers) queries
    (subst (λ (p : Problem). AnswerEach p task.budget done.records 0 c.as_slice.result.now done.answers) c.problem-problem.ensures c.in-Ok-worked.ensures.work.answers))

pub returns-in-Ok-told_subjects-clause-records : goal.returns-in-Ok-told_subjects-clause-records
returns-in-Ok-told_subjects-clause-records g c =
    let task = c.args.task.now in
    let question = g.Q.Question.form task.question.now in
    let lists = g.Q.Question.lists task.question.now in
    let window = g.Q.Question.window_in c.args.encoded.now in
    let done = c.in-Ok-worked.done in
    let can : CanAnswer question lists window = record { lawful = c.laws.ensures; formed = subst IsWindow c.window_of.ensures c.number-number.ensures.window; fits = c.requires.fits; refuted = c.refuted_means.ensures; alone = c.shares_nothing.ensures; raises = c.raised_refutes.ensures } in
    let tells : TellsAll question task.telling window (known_of question window task.budget done.records) c.in-Ok-told_subjects.told.shared c.in-Ok-told_subjects.told.body =
    subst (λ (workers : List WorkerRecord). TellsAll question task.telling window (known_of question window task.budget workers) c.in-Ok-told_subjects.told.shared c.in-Ok-told_subjects.told.body) c.as_slice-2.ensures c.in-Ok-told_subjects.ensures in
    recorded_as question window task.workers task.budget c.number-number.result done.records task.telling c.in-Ok-told_subjects.told.shared c.in-Ok-told_subjects.told.body c.requires.fits
    (λ told answers. is_recorded question lists window can task.workers task.budget c.number-number.result c.requires.workers.1 c.problem-problem.result.now c.as_slice.result.now done (question.shared window) told
    (c.number-number.ensures.value ∙ ap (λ (w : WindowForm). w.number) c.window_of.ensures) c.problem-problem.ensures (c.as_slice.ensures.value ∙ c.in-Ok.ensures.queries) c.in-Ok-worked.ensures.work c.in-Ok-worked.ensures.alone c.in-Ok-worked.ensures.shared refl answers)
    tells

-- What each task came to was told.
use Rattle.std.proofs.Common.{refl, subst}
use Rattle.gp_words.specs.Command.{form_of}
use Rattle.gp_words.specs.declared.task.Task.TheVariants as task
use Rattle.gp_predict.specs.declared.analysing.Asked.{Asked}
use Rattle.gp_predict.specs.Analysing.{analysing_at, of_report}
use Rattle.gp_predict.specs.Compacting.{of_compact_form}
use Rattle.gp_predict.specs.Deadlocks.{deadlocks_at, of_deadlocks}
use Rattle.gp_predict.specs.Linking.{linking_at, of_links}
use Rattle.gp_predict.specs.Listing.{of_to_list}
use Rattle.gp_predict.specs.Notifying.{notifying_at, of_notified}
use Rattle.gp_predict.specs.Resuming.{resuming_at}
use Rattle.gp_predict.specs.Tasks.{as_analysis, as_deadlocks, as_linking, as_notifying, as_resumption, either_expected}
use Rattle.gp_predict.specs.Telling.{of_answer}
use Rattle.gp_predict.specs.Finished.{CameTo, told_by}
use Rattle.gp_predict.specs.Stage.{IsStage}
use Rattle.gp_predict.proofs.Ran.{ran_stage}
use Rattle.gp_predict.proofs.top.answer.Goals as goal

pub returns-in-Replay-clause-run : goal.returns-in-Replay-clause-run
returns-in-Replay-clause-run g c =
    ran_stage of_answer c.replayed-made.result (form_of c.args.command.now) task.Replay _ _ _ _ _ _ _ _ _ c.in-Replay.is refl c.replayed-made.ensures c.finish.ensures.finished

pub returns-in-List-clause-run : goal.returns-in-List-clause-run
returns-in-List-clause-run g c =
    ran_stage of_to_list c.listed-made.result (form_of c.args.command.now) task.List _ _ _ _ _ _ _ _ _ c.in-List.is refl c.listed-made.ensures c.finish-in-List.ensures.finished

pub returns-in-Analyse-clause-run : goal.returns-in-Analyse-clause-run
returns-in-Analyse-clause-run g c =
    ran_stage of_report c.analysed-made.result (form_of c.args.command.now) task.Analyse _ _ _ _ _ _ _ _ _ c.in-Analyse.is refl
    (subst (λ (asked : Asked). IsStage c.analysed-made.result (λ files. CameTo (told_by of_report c.analysed-made.result) (either_expected (as_analysis (analysing_at files c.args.command.now.folder.now asked)))) (g.F.Folder.files c.args.folder.now) (g.F.Folder.files c.analysed-made.new.folder) (g.F.Folder.faults c.args.folder.now) (g.F.Folder.faults c.analysed-made.new.folder))
    c.asked_of.ensures.numbers c.analysed-made.ensures) c.finish-in-Analyse.ensures.finished

pub returns-in-Check-clause-run : goal.returns-in-Check-clause-run
returns-in-Check-clause-run g c =
    ran_stage of_answer c.checked-made.result (form_of c.args.command.now) task.Check _ _ _ _ _ _ _ _ _ c.in-Check.is refl c.checked-made.ensures c.finish-in-Check.ensures.finished

pub returns-in-Compact-clause-run : goal.returns-in-Compact-clause-run
returns-in-Compact-clause-run g c =
    ran_stage of_compact_form c.compacted-made.result (form_of c.args.command.now) task.Compact _ _ _ _ _ _ _ _ _ c.in-Compact.is refl c.compacted-made.ensures c.finish-in-Compact.ensures.finished

pub returns-in-Link-clause-run : goal.returns-in-Link-clause-run
returns-in-Link-clause-run g c =
    ran_stage of_links c.linked-made.result (form_of c.args.command.now) task.Link _ _ _ _ _ _ _ _ _ c.in-Link.is refl
    (subst (λ (asked : Asked). IsStage c.linked-made.result (λ files. CameTo (told_by of_links c.linked-made.result) (either_expected (as_linking (linking_at files c.args.command.now.folder.now asked.budget)))) (g.F.Folder.files c.args.folder.now) (g.F.Folder.files c.linked-made.new.folder) (g.F.Folder.faults c.args.folder.now) (g.F.Folder.faults c.linked-made.new.folder))
    c.asked_of-in-Link.ensures.numbers c.linked-made.ensures) c.finish-in-Link.ensures.finished

pub returns-in-Stuck-clause-run : goal.returns-in-Stuck-clause-run
returns-in-Stuck-clause-run g c =
    ran_stage of_deadlocks c.deadlocks_at-made.result (form_of c.args.command.now) task.Stuck _ _ _ _ _ _ _ _ _ c.in-Stuck.is refl
    (subst (λ (asked : Asked). IsStage c.deadlocks_at-made.result (λ files. CameTo (told_by of_deadlocks c.deadlocks_at-made.result) (either_expected (as_deadlocks (deadlocks_at files c.args.command.now.folder.now asked)))) (g.F.Folder.files c.args.folder.now) (g.F.Folder.files c.deadlocks_at-made.new.folder) (g.F.Folder.faults c.args.folder.now) (g.F.Folder.faults c.deadlocks_at-made.new.folder))
    c.asked_of-in-Stuck.ensures.numbers c.deadlocks_at-made.ensures) c.finish-in-Stuck.ensures.finished

pub returns-in-Notify-clause-run : goal.returns-in-Notify-clause-run
returns-in-Notify-clause-run g c =
    ran_stage of_notified c.notified-made.result (form_of c.args.command.now) task.Notify _ _ _ _ _ _ _ _ _ c.in-Notify.is refl
    (subst (λ (asked : Asked). IsStage c.notified-made.result (λ files. CameTo (told_by of_notified c.notified-made.result) (either_expected (as_notifying (notifying_at files c.args.command.now.folder.now asked)))) (g.F.Folder.files c.args.folder.now) (g.F.Folder.files c.notified-made.new.folder) (g.F.Folder.faults c.args.folder.now) (g.F.Folder.faults c.notified-made.new.folder))
    c.asked_of-in-Notify.ensures.numbers c.notified-made.ensures) c.finish-in-Notify.ensures.finished

pub returns-in-Resume-clause-run : goal.returns-in-Resume-clause-run
returns-in-Resume-clause-run g c =
    ran_stage of_report c.resumed-made.result (form_of c.args.command.now) task.Resume _ _ _ _ _ _ _ _ _ c.in-Resume.is refl
    (subst (λ (asked : Asked). IsStage c.resumed-made.result (λ files. CameTo (told_by of_report c.resumed-made.result) (either_expected (as_resumption (resuming_at files c.args.command.now.folder.now asked)))) (g.F.Folder.files c.args.folder.now) (g.F.Folder.files c.resumed-made.new.folder) (g.F.Folder.faults c.args.folder.now) (g.F.Folder.faults c.resumed-made.new.folder))
    c.asked_of-in-Resume.ensures.numbers c.resumed-made.ensures) c.finish-in-Resume.ensures.finished

-- How what a task came to was told, against what is due to it.
use Rattle.std.proofs.Common.{◌≡◌, refl, sym, subst, ap, ℕ, List, true, ◌∙◌}
use Rattle.std.specs.Prelude.{Option, None, Some, Result}
use Rattle.gp_outside.specs.Folders.{File}
use Rattle.gp_words.specs.Command.{CommandForm}
use Rattle.gp_words.specs.declared.task.Task.{Task}
use Rattle.gp_predict.specs.declared.outcome.Outcome.{Outcome}
use Rattle.gp_predict.specs.declared.reply.Reply.{Reply}
use Rattle.gp_predict.specs.declared.stop.Stop.{Stop}
use Rattle.gp_predict.specs.Due.{due_by}
use Rattle.gp_predict.specs.Tasks.{Expected, Means, Text, either_expected, reads_files, task_at}
use Rattle.gp_predict.specs.Telling.{of_reply}
use Rattle.gp_predict.specs.Finished.{CameTo, IsFinished, told_by}
use Rattle.gp_predict.specs.Run.{IsRun, WhereDue}
use Rattle.gp_predict.specs.RunLaws.{ran, where_none}
use Rattle.gp_predict.specs.Stage.{IsStage}
use Rattle.gp_predict.specs.Told.{Told}

-- where a text is due to a task, it may be told
pub text_means : (reply : Reply) → Means (Text reply) (of_reply reply)
text_means reply = refl

reached : (command : CommandForm) (asked : Task) (files : Option (List File)) (P : Expected → Type 0) → command.task ≡ asked
    → ((told : List File) → files ≡ Some told → P (either_expected (task_at command asked told))) → WhereDue (due_by true command files) P
reached command asked None P is holds = where_none P
reached command asked (Some told) P is holds = λ expected due.
    let same : either_expected (task_at command command.task told) ≡ expected = cc in
    subst P (ap (λ task. either_expected (task_at command task told)) (sym is) ∙ same) (holds told refl)

-- what a task that reads files came to was told
pub ran_stage : {T : Type 0} (tells : T → Told) (result : Result T Stop) (command : CommandForm) (asked : Task) (files files_new : Option (List File)) (outcome : Outcome)
    (old new : Option (List ℕ)) (before after folder_before folder_after : ℕ) → command.task ≡ asked → reads_files asked ≡ true
    → IsStage result (λ told. CameTo (told_by tells result) (either_expected (task_at command asked told))) files files_new folder_before folder_after
    → IsFinished (told_by tells result) outcome old new before after
    → IsRun (due_by (reads_files command.task) command files) files outcome old new before after folder_before folder_after
ran_stage tells result command asked files files_new outcome old new before after folder_before folder_after is reads stage finished =
    let read : true ≡ reads_files command.task = sym (ap reads_files is ∙ reads) in
    subst (λ b. IsRun (due_by b command files) files outcome old new before after folder_before folder_after) read
    (ran Means (due_by true command files) files outcome old new before after folder_before folder_after Text text_means tells result
    (reached command asked files (CameTo (told_by tells result)) is stage.told) stage.fault stage.absent finished)

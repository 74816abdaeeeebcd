-- A text that is due to a task has a status of a run that is done.
use Rattle.std.proofs.Common.{ℕ, ◌*◌, List, Result, Ok, Err, length, nat_lt}
use Rattle.gp_outside.specs.Folders.{File}
use Rattle.gp_replay.specs.declared.running.ReplayFault.{ReplayFault}
use Rattle.gp_replay.specs.declared.running.ReplayFault.TheVariants.{Memory, Stuck}
use Rattle.gp_replay.specs.declared.schedule.WindowSchedule.{WindowSchedule}
use Rattle.gp_replay.specs.declared.state.State.{State}
use Rattle.gp_replay.specs.Feasible.{end_of}
use Rattle.gp_window.specs.RecordingForm.{RecordingForm}
use Rattle.gp_window.specs.WindowForm.{window_of}
use Rattle.gp_words.specs.Command.{CommandForm}
use Rattle.gp_words.specs.declared.task.Task.{Task}
use Rattle.gp_words.specs.declared.task.Task.TheVariants as task
use Rattle.gp_predict.specs.declared.listing.Listing.{Listing}
use Rattle.gp_predict.specs.declared.reply.Reply.{Reply}
use Rattle.gp_predict.specs.declared.submission.Submission.{Submission}
use Rattle.gp_predict.specs.Analysing.{analysing_at, analysis_of}
use Rattle.gp_predict.specs.declared.analysing.Asked.{Asked}
use Rattle.gp_predict.specs.Asking.{asked_of}
use Rattle.gp_predict.specs.Deadlocks.{deadlocks_at, deadlocks_of}
use Rattle.gp_predict.specs.Linking.{link_count, linking_at, linking_of}
use Rattle.gp_predict.specs.Notifying.{notifying_at, notifying_of}
use Rattle.gp_predict.specs.Replaying.{replay_answer, verdict_on}
use Rattle.gp_predict.specs.Resuming.{resuming_at, resumption_of}
use Rattle.gp_predict.specs.Tasks.{Analysis, Compacted, Deadlocks, Expected, Linking, Notifying, Resumption, Text, Verdict, as_text, either_expected, task_at}
use Rattle.gp_base.specs.Results.{and_then}
use Rattle.gp_due.specs.Saying.{OnlySays, ReplaySays}
use Rattle.gp_due.proofs.Folder.{listing_answers, recording_answers, schedule_answers, submission_answers}
use Rattle.gp_due.proofs.Refusals.{IsAnswer, found, limit_refused, limited, stuck}
use Rattle.gp_due.proofs.Replays.{replays_say}
use Rattle.gp_due.proofs.Results as of

-- what is due, where it is a text, is a reply of a run that is done
abbrev pub IsDue : Expected → Type 0
IsDue (Text reply) = IsAnswer reply
IsDue (Analysis analysis) = Unit {0}
IsDue (Verdict submission) = Unit {0}
IsDue (Compacted submission) = Unit {0}
IsDue (Linking linking) = Unit {0}
IsDue (Deadlocks analysis) = Unit {0}
IsDue (Notifying analysis) = Unit {0}
IsDue (Resumption resumption) = Unit {0}

-- a value, from which something is due, or its refusal
due_as : {A : Type 0} (make : A → Expected) (first : Result A Reply) → OnlySays IsAnswer first → ((value : A) → IsDue (make value))
    → IsDue (either_expected (and_then first (λ value. Ok (make value))))
due_as make (Ok value) says makes = makes value
due_as make (Err refusal) says makes = says.fault

-- a text that is due, from a value or its refusal
text_from : {A : Type 0} (next : A → Result Reply Reply) (first : Result A Reply) → OnlySays IsAnswer first → ((value : A) → IsDue (either_expected (as_text (next value))))
    → IsDue (either_expected (as_text (and_then first next)))
text_from next (Ok value) says nexts = nexts value
text_from next (Err refusal) says nexts = says.fault

verdict_answers : (count : ℕ) (replayed : Result State ReplayFault) → OnlySays ReplaySays replayed → IsAnswer (verdict_on count replayed)
verdict_answers count (Ok last) says = found
verdict_answers count (Err (Stuck place rule)) says = stuck
verdict_answers count (Err Memory) says = absurd says.fault

replay_answers : (recording : RecordingForm) (read : WindowSchedule) → IsAnswer (replay_answer recording read)
replay_answers recording read =
    verdict_answers (length read.schedule.events) (end_of (window_of recording read.window) read.schedule.events) (replays_say (window_of recording read.window) read.schedule.events)

analysis_answers : (listing : Listing) (asked : Asked) → OnlySays IsAnswer (analysis_of listing asked)
analysis_answers listing asked = limit_refused _ _ _

deadlocks_answer : (recording : RecordingForm) (asked : Asked) → OnlySays IsAnswer (deadlocks_of recording asked)
deadlocks_answer recording asked = limit_refused _ _ _

notifying_answers : (listing : Listing) (asked : Asked) → OnlySays IsAnswer (notifying_of listing asked)
notifying_answers listing asked = limit_refused _ _ _

resumption_answers : (submission : Submission) (asked : Asked) → OnlySays IsAnswer (resumption_of submission asked)
resumption_answers submission asked = limit_refused _ _ _

linking_answers : (recording : RecordingForm) (budget : ℕ) → OnlySays IsAnswer (linking_of recording budget)
linking_answers recording budget = of.either (nat_lt 1000000 (link_count recording * budget)) (of.fault limited) of.value

module _ (command : CommandForm) (files : List File) where
  analysing_answers : (asked : Asked) → OnlySays IsAnswer (analysing_at files command.folder asked)
  analysing_answers asked = of.in_turn (listing_answers files command.folder) (λ listing. analysis_answers listing asked)

  stuck_answers : (asked : Asked) → OnlySays IsAnswer (deadlocks_at files command.folder asked)
  stuck_answers asked = of.in_turn (recording_answers files command.folder) (λ recording. deadlocks_answer recording asked)

  notified_answers : (asked : Asked) → OnlySays IsAnswer (notifying_at files command.folder asked)
  notified_answers asked = of.in_turn (listing_answers files command.folder) (λ listing. notifying_answers listing asked)

  resuming_answers : (asked : Asked) → OnlySays IsAnswer (resuming_at files command.folder asked)
  resuming_answers asked = of.in_turn (submission_answers files command.folder) (λ submission. resumption_answers submission asked)

  linked_answers : (budget : ℕ) → OnlySays IsAnswer (linking_at files command.folder budget)
  linked_answers budget = of.in_turn (recording_answers files command.folder) (λ recording. linking_answers recording budget)

  pub task_is_due : (asked : Task) → IsDue (either_expected (task_at command asked files))
  task_is_due task.Replay =
      text_from _ _ (recording_answers files command.folder) (λ recording.
      text_from _ _ (schedule_answers files command.folder recording.manifest.epochs) (λ read. replay_answers recording read))
  task_is_due task.List = text_from _ _ (listing_answers files command.folder) (λ listing. found)
  task_is_due task.Analyse = due_as Analysis _ (analysing_answers (asked_of command)) (λ analysis. tt)
  task_is_due task.Check = due_as Verdict _ (submission_answers files command.folder) (λ submission. tt)
  task_is_due task.Compact = due_as Compacted _ (submission_answers files command.folder) (λ submission. tt)
  task_is_due task.Link = due_as Linking _ (linked_answers command.budget) (λ linking. tt)
  task_is_due task.Stuck = due_as Deadlocks _ (stuck_answers (asked_of command)) (λ analysis. tt)
  task_is_due task.Notify = due_as Notifying _ (notified_answers (asked_of command)) (λ analysis. tt)
  task_is_due task.Resume = due_as Resumption _ (resuming_answers (asked_of command)) (λ resumption. tt)
  task_is_due task.Make = found

-- The answer of task replay: whether a schedule can happen, as a function of the files.
use Rattle.std.specs.Prelude.{ℕ, ◌++◌, List, Result, Ok, Err, length, codes, decimal}
use Rattle.gp_outside.specs.Folders.{File}
use Rattle.gp_window.specs.declared.file_name.FileName.TheVariants.{Schedule}
use Rattle.gp_window.specs.RecordingForm.{RecordingForm}
use Rattle.gp_window.specs.WindowForm.{window_of}
use Rattle.gp_replay.specs.Feasible.{end_of}
use Rattle.gp_replay.specs.Rule.{number_of_rule}
use Rattle.gp_replay.specs.Schedule.{schedule_of_text}
use Rattle.gp_replay.specs.declared.rule.Rule.{Rule}
use Rattle.gp_replay.specs.declared.running.ReplayFault.{ReplayFault}
use Rattle.gp_replay.specs.declared.running.ReplayFault.TheVariants.{Stuck, Memory}
use Rattle.gp_replay.specs.declared.schedule.WindowSchedule.{WindowSchedule}
use Rattle.gp_replay.specs.declared.state.State.{State}
use Rattle.gp_predict.specs.declared.reply.Reply.{Reply}
use Rattle.gp_predict.specs.Content.{content_at, recording_at}
use Rattle.gp_predict.specs.Refusal.{never_due, one_line, schedule_refusal}
use Rattle.gp_base.specs.Results.{and_then, or_refused}

-- the schedule in the folder, for a recording of so many epochs
abbrev pub schedule_at : List File → List ℕ → ℕ → Result WindowSchedule Reply
schedule_at files folder epochs =
    and_then (content_at files folder Schedule) (λ bytes. or_refused schedule_refusal (schedule_of_text epochs bytes))

-- a schedule of so many events can happen
abbrev pub feasible : ℕ → Reply
feasible count = one_line 0 (codes "feasible " ++ decimal count)

-- the event at this place is the first that may not happen, by this rule
abbrev pub stuck : ℕ → Rule → Reply
stuck place rule = one_line 1 (codes "stuck " ++ decimal place ++ codes " " ++ decimal (number_of_rule rule))

-- the answer to what replaying so many events gave
abbrev pub verdict_on : ℕ → Result State ReplayFault → Reply
verdict_on count (Ok last) = feasible count
verdict_on count (Err (Stuck place rule)) = stuck place rule
verdict_on count (Err Memory) = never_due

-- what replaying the schedule in its window answers
abbrev pub replay_answer : RecordingForm → WindowSchedule → Reply
replay_answer recording read = verdict_on (length read.schedule.events) (end_of (window_of recording read.window) read.schedule.events)

-- the answer of task replay on the files of a folder
abbrev pub replay_at : List File → List ℕ → Result Reply Reply
replay_at files folder =
    and_then (recording_at files folder) (λ recording.
    and_then (schedule_at files folder recording.manifest.epochs) (λ read.
    Ok (replay_answer recording read)))

-- What stands in a folder is told, or is refused by a text.
use Rattle.std.proofs.Common.{ℕ, List}
use Rattle.gp_outside.specs.Folders.{File}
use Rattle.gp_window.specs.declared.file_name.FileName.{FileName}
use Rattle.gp_window.specs.declared.file_name.FileName.TheVariants.{Properties, Report, Schedule}
use Rattle.gp_predict.specs.Content.{content_at, recording_at}
use Rattle.gp_predict.specs.Listing.{listing_at, properties_at}
use Rattle.gp_predict.specs.Refusal.{content_refusal, properties_refusal, recording_refusal, report_refusal, schedule_refusal}
use Rattle.gp_predict.specs.Replaying.{schedule_at}
use Rattle.gp_predict.specs.Submission.{report_at, submission_at}
use Rattle.gp_due.specs.Saying.{OnlySays}
use Rattle.gp_due.proofs.Contents.{contents_say}
use Rattle.gp_due.proofs.Properties.{properties_say}
use Rattle.gp_due.proofs.Recordings.{recordings_say}
use Rattle.gp_due.proofs.Refusals.{IsAnswer, content_refused, properties_refused, recording_refused, report_refused, schedule_refused}
use Rattle.gp_due.proofs.Reports.{reports_say}
use Rattle.gp_due.proofs.Schedules.{schedules_say}
use Rattle.gp_due.proofs.Results as of

pub content_answers : (files : List File) (folder : List ℕ) (file : FileName) → OnlySays IsAnswer (content_at files folder file)
content_answers files folder file = of.refused content_refusal content_refused (contents_say files folder file)

pub recording_answers : (files : List File) (folder : List ℕ) → OnlySays IsAnswer (recording_at files folder)
recording_answers files folder = of.refused recording_refusal recording_refused (recordings_say files folder)

pub schedule_answers : (files : List File) (folder : List ℕ) (epochs : ℕ) → OnlySays IsAnswer (schedule_at files folder epochs)
schedule_answers files folder epochs =
    of.in_turn (content_answers files folder Schedule) (λ bytes. of.refused schedule_refusal schedule_refused (schedules_say epochs bytes))

properties_answer : (files : List File) (folder : List ℕ) → OnlySays IsAnswer (properties_at files folder)
properties_answer files folder =
    of.in_turn (content_answers files folder Properties) (λ bytes. of.refused properties_refusal properties_refused (properties_say bytes))

pub listing_answers : (files : List File) (folder : List ℕ) → OnlySays IsAnswer (listing_at files folder)
listing_answers files folder = of.in_turn (recording_answers files folder) (λ recording. of.in_turn (properties_answer files folder) (λ properties. of.value))

report_answers : (files : List File) (folder : List ℕ) → OnlySays IsAnswer (report_at files folder)
report_answers files folder = of.in_turn (content_answers files folder Report) (λ bytes. of.refused report_refusal report_refused (reports_say bytes))

pub submission_answers : (files : List File) (folder : List ℕ) → OnlySays IsAnswer (submission_at files folder)
submission_answers files folder = of.in_turn (listing_answers files folder) (λ listing. of.in_turn (report_answers files folder) (λ report. of.value))

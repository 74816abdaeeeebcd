-- What is shown of a report, as one value: as JSON, and as SARIF.
use Rattle.std.specs.Prelude.{List, [], length, map}
use Rattle.gp_beside.specs.declared.beside.Noted.{Noted}
use Rattle.gp_checker.specs.declared.failure.Checked.{Checked}
use Rattle.gp_checker.specs.declared.failure.Checked.TheVariants.{Accepted, Rejected}
use Rattle.gp_json.specs.Json.{Json, Named}
use Rattle.gp_predict.specs.declared.submission.Submission.{Submission}
use Rattle.gp_values.specs.Instances.{answered_value}
use Rattle.gp_values.specs.Report.{counted_members, overview_members, report_value, uncounted_members}
use Rattle.gp_sarif.specs.Log as sarif
use Rattle.gp_sarif.specs.Results.{result_value}
use Rattle.gp_words.specs.Showing.{ShowForm}
use Rattle.gp_show.specs.Choice.{asked_of, shown_of}
use Rattle.gp_show.specs.Show.{submitted_answers}

-- the instances that are shown: none of a report that is rejected
abbrev pub instances_shown : ShowForm → Submission → Noted → Checked → List Json
instances_shown command submission noted Accepted =
    map (answered_value noted.beside) (shown_of command (submitted_answers submission))
instances_shown command submission noted (Rejected failure) = []

-- how many of how many they are
abbrev pub counts_shown : ShowForm → Submission → Checked → List Named
counts_shown command submission Accepted =
    counted_members (length (shown_of command (submitted_answers submission))) (length (asked_of command (submitted_answers submission)))
counts_shown command submission (Rejected failure) = uncounted_members

-- what is shown of a report that was checked so, beside which this stands
abbrev pub shown_value : ShowForm → Submission → Noted → Checked → Json
shown_value command submission noted checked =
    report_value (overview_members submission.listing.properties submission.report.windows checked) noted.left_out
    (instances_shown command submission noted checked) (counts_shown command submission checked)

-- the results that are shown: none of a report that is rejected
abbrev pub results_shown : ShowForm → Submission → Noted → Checked → List Json
results_shown command submission noted Accepted =
    map (result_value submission.listing.properties noted.beside.places) (shown_of command (submitted_answers submission))
results_shown command submission noted (Rejected failure) = []

-- how many of how many they are, where the report is accepted
abbrev pub findings_counted : ShowForm → Submission → Checked → List Named
findings_counted command submission Accepted =
    sarif.counted_members (length (shown_of command (submitted_answers submission))) (length (asked_of command (submitted_answers submission)))
findings_counted command submission (Rejected failure) = []

-- the log that is shown of a report that was checked so, beside which this stands
abbrev pub log_shown : ShowForm → Submission → Noted → Checked → Json
log_shown command submission noted checked =
    sarif.log_value (sarif.run_value submission.listing.properties submission.report.windows checked noted.left_out
    (results_shown command submission noted checked) (findings_counted command submission checked))

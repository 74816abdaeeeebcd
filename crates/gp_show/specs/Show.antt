-- What is shown of a report: the verdict, the table, which files beside it are left out, and where the report is accepted the instances
-- that are asked for, with what stands beside it.
use Rattle.std.specs.Prelude.{ℕ, ◌+◌, ◌-◌, List, [], ◌∷◌, ◌++◌, codes, decimal, flat_map, length, map, take}
use Rattle.gp_beside.specs.Refusal.{fault_words}
use Rattle.gp_beside.specs.declared.beside.Noted.{Noted}
use Rattle.gp_beside.specs.declared.fault.NoteFault.{NoteFault}
use Rattle.gp_checker.specs.declared.failure.Checked.{Checked}
use Rattle.gp_checker.specs.declared.failure.Checked.TheVariants.{Accepted, Rejected}
use Rattle.gp_drawing.specs.Escaped.{escaped}
use Rattle.gp_drawing.specs.Svg.{tip}
use Rattle.gp_overview.specs.Page.{table_part, verdict_part}
use Rattle.gp_overview.specs.Table.{table_text}
use Rattle.gp_overview.specs.Verdict.{verdict_words}
use Rattle.gp_place.specs.declared.beside.Beside.{Beside}
use Rattle.gp_predict.specs.Told.{Nothing, Told}
use Rattle.gp_predict.specs.declared.submission.Submission.{Submission}
use Rattle.gp_property.specs.PropertyForm.{PropertyForm}
use Rattle.gp_sarif.specs.Log as sarif
use Rattle.gp_sarif.specs.Results.{result_value}
use Rattle.gp_text.specs.Spelling.{joined, spelling}
use Rattle.gp_view.specs.Answered.{AnsweredForm}
use Rattle.gp_view.specs.Page.{answered_part}
use Rattle.gp_view.specs.Text.{answered_lines}
use Rattle.gp_json.specs.Json.{comma, json_text}
use Rattle.gp_values.specs.Instances.{answered_value}
use Rattle.gp_values.specs.Report.{counted_members, instances_begun, instances_ended, overview_begun, report_ended, uncounted_members}
use Rattle.gp_window.specs.Windows.{all_windows}
use Rattle.gp_words.specs.Showing.{ShowForm}
use Rattle.gp_words.specs.declared.showing.Style.{Style}
use Rattle.gp_words.specs.declared.showing.Style.TheVariants.{Text, Page, Json, Sarif}
use Rattle.gp_show.specs.Answers.{answers_of}
use Rattle.gp_show.specs.Choice.{asked_in, asked_of, shown_of}
use Rattle.gp_show.specs.Request.{RequestForm}

-- how a page looks, by light and by dark
unfoldable pub style_sheet : List ℕ
style_sheet = codes ":root{color-scheme:light dark;--ink:#1f2328;--soft:#59636e;--line:#d1d9e0;--mark:#bc4c00;--read:#0969da;--lock:#8250df;--flow:#1a7f37}@media(prefers-color-scheme:dark){:root{--ink:#e6edf3;--soft:#9198a1;--line:#3d444d;--mark:#f0883e;--read:#58a6ff;--lock:#bc8cff;--flow:#3fb950}}\nbody{font:15px/1.5 system-ui,sans-serif;color:var(--ink);max-width:72rem;margin:1.5rem auto;padding:0 1rem}h1{font-size:1.4rem}h2{font-size:1.1rem}\ntable{border-collapse:collapse;display:block;overflow-x:auto}th,td{padding:.2rem .7rem;text-align:right;border-bottom:1px solid var(--line)}th:first-child,td:first-child{text-align:left}\nsection{margin:2rem 0;overflow-x:auto}ul,pre,.words,.thread{font-family:ui-monospace,monospace;font-size:13px}ul{padding-left:1.2rem}summary{cursor:pointer;color:var(--soft)}\n.tips{position:absolute}.tip{fill:var(--soft);fill:context-stroke}.lane{stroke:var(--line)}.bar{stroke:var(--lock);stroke-width:5;stroke-opacity:.4}.shared{stroke-dasharray:4 3}\n.arrow{stroke-width:1.3}.read{stroke:var(--read)}.lock{stroke:var(--lock)}.join,.start{stroke:var(--flow)}\ncircle{fill:var(--soft)}.run{fill:none;stroke:var(--soft)}.marked{fill:var(--mark)}text{fill:var(--ink)}.thread{fill:var(--soft);text-anchor:middle}\n"

-- the head of a page: its style sheet, and the tip of the arrows of its drawings
unfoldable pub page_head : List ℕ
page_head =
    codes "<!doctype html>\n<html lang='en'>\n<head>\n<meta charset='utf-8'>\n<meta name='viewport' content='width=device-width'>\n<title>gpshow</title>\n<style>\n"
    ++ style_sheet ++ codes "</style>\n</head>\n<body>\n" ++ tip ++ codes "<h1>gpshow</h1>\n"

-- the foot of a page
unfoldable pub page_foot : List ℕ
page_foot = codes "</body>\n</html>\n"

-- the verdict and the table
abbrev pub head_text : Style → Submission → Checked → List ℕ
head_text Text submission checked =
    spelling (verdict_words submission.report.windows checked ∷ [] ∷ []) ++ table_text submission.listing.properties submission.report.windows
head_text Page submission checked =
    page_head ++ verdict_part submission.report.windows checked ++ table_part submission.listing.properties submission.report.windows
head_text Json submission checked = overview_begun submission.listing.properties submission.report.windows checked
head_text Sarif submission checked = sarif.log_begun submission.listing.properties submission.report.windows checked

-- that a file beside the report is left out
unfoldable pub left_out_line : NoteFault → List (List ℕ)
left_out_line fault = fault_words fault

-- which of them are, behind an empty line
abbrev pub left_out_lines : List NoteFault → List (List (List ℕ))
left_out_lines [] = []
left_out_lines (fault ∷ faults) = [] ∷ left_out_line fault ∷ map left_out_line faults

-- the same of one on a page
unfoldable pub left_out_part : NoteFault → List ℕ
left_out_part fault = codes "<p>" ++ escaped (joined (fault_words fault)) ++ codes "</p>\n"

-- which files beside the report are left out
abbrev pub left_out_text : Style → List NoteFault → List ℕ
left_out_text Text faults = spelling (left_out_lines faults)
left_out_text Page faults = flat_map left_out_part faults
left_out_text Json faults = instances_begun faults
left_out_text Sarif faults = sarif.results_begun faults

-- what stands before the instances of a report beside which this stands
abbrev pub before_text : Style → Submission → Noted → Checked → List ℕ
before_text style submission noted checked = head_text style submission checked ++ left_out_text style noted.left_out

-- an instance, with what stands beside the report that answers these properties
abbrev pub answered_text : Style → List PropertyForm → Beside → AnsweredForm → List ℕ
answered_text Text properties beside answered = spelling (answered_lines beside answered)
answered_text Page properties beside answered = answered_part beside answered
answered_text Json properties beside answered = json_text (answered_value beside answered)
answered_text Sarif properties beside answered = json_text (result_value properties beside.places answered)

-- what parts an instance from those before it, so many
abbrev pub separator : Style → ℕ → List ℕ
separator Text before = []
separator Page before = []
separator Json before = comma before
separator Sarif before = comma before

-- instances one after another, where so many are shown before them
abbrev pub told_from : Style → List PropertyForm → Beside → ℕ → List AnsweredForm → List ℕ
told_from style properties beside before [] = []
told_from style properties beside before (answered ∷ answers) =
    separator style before ++ answered_text style properties beside answered ++ told_from style properties beside (before + 1) answers

-- how many of some instances are asked for in a pass
unfoldable pub asked_count : RequestForm → List AnsweredForm → ℕ
asked_count request answers = length (asked_in request.command request.pass answers)

-- those of further instances that are shown in a pass, where so many that are asked for were before them
unfoldable pub text_after : RequestForm → ℕ → List AnsweredForm → List ℕ
text_after request before answers =
    told_from request.command.style request.properties request.beside before (take (request.command.most - before) (asked_in request.command request.pass answers))

-- how many of so many instances that are asked for are shown
abbrev pub shown_words : ℕ → ℕ → List (List ℕ)
shown_words shown asked = codes "shown" ∷ decimal shown ∷ codes "of" ∷ decimal asked ∷ []

-- the same behind the instances
abbrev pub shown_text : Style → ℕ → ℕ → List ℕ
shown_text Text shown asked = spelling ([] ∷ shown_words shown asked ∷ [])
shown_text Page shown asked = codes "<p>" ++ escaped (joined (shown_words shown asked)) ++ codes "</p>\n"
shown_text Json shown asked = instances_ended (counted_members shown asked)
shown_text Sarif shown asked = sarif.results_ended (sarif.counted_members shown asked)

-- what stands in place of instances where the report is rejected
abbrev pub unshown_text : Style → List ℕ
unshown_text Text = []
unshown_text Page = []
unshown_text Json = instances_ended uncounted_members
unshown_text Sarif = sarif.results_ended []

-- what stands at the end
abbrev pub foot_text : Style → List ℕ
foot_text Text = []
foot_text Page = page_foot
foot_text Json = report_ended
foot_text Sarif = sarif.log_ended

-- those of a report's instances that are shown, with what stands beside the report that answers these properties, and how many of how many
abbrev pub answers_text : ShowForm → List PropertyForm → Beside → List AnsweredForm → List ℕ
answers_text command properties beside answers =
    told_from command.style properties beside 0 (shown_of command answers)
    ++ shown_text command.style (length (shown_of command answers)) (length (asked_of command answers))

-- all instances of what was submitted
abbrev pub submitted_answers : Submission → List AnsweredForm
submitted_answers submission = answers_of submission.listing.properties (all_windows submission.listing.recording) submission.report.windows

-- which instances are shown: none of a report that is rejected
abbrev pub body_text : ShowForm → Submission → Noted → Checked → List ℕ
body_text command submission noted Accepted = answers_text command submission.listing.properties noted.beside (submitted_answers submission)
body_text command submission noted (Rejected failure) = unshown_text command.style

-- what is shown of a report that was checked so, beside which this stands
abbrev pub show_text : ShowForm → Submission → Noted → Checked → List ℕ
show_text command submission noted checked =
    before_text command.style submission noted checked ++ body_text command submission noted checked ++ foot_text command.style

-- 0 where it is accepted, and 1 where it is rejected
abbrev pub show_status : Checked → ℕ
show_status Accepted = 0
show_status (Rejected failure) = 1

-- what is told, of which nothing is kept
abbrev pub of_shown : ShowForm → Submission → Noted → Checked → Told
of_shown command submission noted checked =
    record { status = show_status checked; text = show_text command submission noted checked; kept = Nothing }

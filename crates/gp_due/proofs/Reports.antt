-- A text is no report by a rule, or by a fault of the text.
use Rattle.std.proofs.Common.{ℕ, zero, suc, ◌+◌, ◌^◌, ◌==◌, ◌&&◌, List, [], ◌∷◌, Option, Some, None, Result, Ok, Err, codes, length, nat_le, nat_lt}
use Rattle.gp_text.specs.declared.line.Line.{Line}
use Rattle.gp_text.specs.declared.lines.TextFault.{TextFault}
use Rattle.gp_text.specs.Lines.{end_line_of, lines_of}
use Rattle.gp_window.specs.EventIds.{event_id_of}
use Rattle.gp_report.specs.declared.fault.ReportRule.TheVariants.{Form, Order}
use Rattle.gp_report.specs.Records.{WindowRecord}
use Rattle.gp_report.specs.Reading.{answer_at, at_end, begins_with, is_at, name_and_count, number_and_words, one_number, read_answer, read_answers, read_between, read_body, read_entries, read_entry, read_found, read_impossible, read_instance, read_properties, read_property, read_shared, read_summary, read_too_large, read_undecided, read_window, read_window_body, read_window_number, read_windows, report_from, report_in, shared_in, three_numbers, two_numbers}
use Rattle.gp_due.specs.Readers.{ReportsWantNoMemory}
use Rattle.gp_due.specs.Saying.{OnlySays, ReportSays, TextSays}
use Rattle.gp_due.proofs.Lines.{lines_say}
use Rattle.gp_due.proofs.Lists.{front_says, kept, list_says, next_says, steps_say, told_says, words_say}
use Rattle.gp_due.proofs.Results as of

found_says : (end : ℕ) (line : Line) (lines : List Line) → OnlySays ReportSays (read_found end line lines)
unfolding read_found
found_says end line lines =
    of.in_turn (told_says (codes "found") one_number line) (λ count. of.in_turn (list_says event_id_of end line.number count lines) (λ events. of.value))

impossible_says : (end : ℕ) (line : Line) (lines : List Line) → OnlySays ReportSays (read_impossible end line lines)
unfolding read_impossible
impossible_says end line lines =
    of.in_turn (told_says (codes "impossible") one_number line) (λ count. of.in_turn (steps_say end count lines) (λ steps. of.value))

undecided_says : (line : Line) → OnlySays ReportSays (read_undecided line)
unfolding read_undecided
undecided_says line = of.in_turn (told_says (codes "undecided") three_numbers line) (λ numbers. kept _ _ _ _)

answer_at_says : (end : ℕ) (line : Line) (lines : List Line) → OnlySays ReportSays (answer_at end line lines)
unfolding answer_at
answer_at_says end line lines =
    of.either (begins_with (codes "found") line.words) (found_says end line lines)
    (of.either (begins_with (codes "impossible") line.words) (impossible_says end line lines)
    (of.in_turn (undecided_says line) (λ answer. of.value)))

answer_says : (end : ℕ) (lines : List Line) → OnlySays ReportSays (read_answer end lines)
unfolding read_answer
answer_says end lines = of.in_turn (next_says end lines) (λ line. answer_at_says end line.0 line.1)

instance_says : (due : ℕ) (line : Line) → OnlySays ReportSays (read_instance due line)
unfolding read_instance
instance_says due line =
    of.in_turn (told_says (codes "instance") number_and_words line) (λ told.
    of.in_turn (words_say event_id_of line.number told.1) (λ events.
    of.in_turn (kept (nat_le 1 (length events) && nat_le (length events) 6) Form line.number events) (λ few. kept (told.0 == due) Order line.number few)))

entry_says : (end due : ℕ) (lines : List Line) → OnlySays ReportSays (read_entry end due lines)
unfolding read_entry
entry_says end due lines =
    of.in_turn (next_says end lines) (λ line.
    of.in_turn (instance_says due line.0) (λ events.
    of.in_turn (answer_says end line.1) (λ answer. of.value)))

entries_say : (end due count : ℕ) (lines : List Line) → OnlySays ReportSays (read_entries end due count lines)
entries_say end due zero lines = of.value
entries_say end due (suc more) lines =
    of.in_turn (entry_says end due lines) (λ entry. front_says (entry.0 ∷ []) (read_entries end (due + 1) more entry.1) (entries_say end (due + 1) more entry.1))

body_says : (end : ℕ) (count : Option ℕ) (lines : List Line) → OnlySays ReportSays (read_body end count lines)
body_says end None lines = of.value
body_says end (Some count) lines = of.in_turn (entries_say end 0 count lines) (λ entries. of.value)

property_says : (end : ℕ) (lines : List Line) → OnlySays ReportSays (read_property end lines)
unfolding read_property
property_says end lines =
    of.in_turn (next_says end lines) (λ line.
    of.in_turn (told_says (codes "property") name_and_count line.0) (λ told.
    of.in_turn (body_says end told.1 line.1) (λ body. of.value)))

properties_say : (end most : ℕ) (lines : List Line) → OnlySays ReportSays (read_properties end most lines)
properties_say end zero lines = of.value
properties_say end (suc most) lines =
    of.either (is_at (codes "property") lines)
    (of.in_turn (property_says end lines) (λ property. front_says (property.0 ∷ []) (read_properties end most property.1) (properties_say end most property.1)))
    of.value

shared_says : (end : ℕ) (lines : List Line) → OnlySays ReportSays (read_shared end lines)
unfolding read_shared
shared_says end lines =
    of.in_turn (next_says end lines) (λ line.
    of.in_turn (told_says (codes "shared") one_number line.0) (λ count. steps_say end count line.1))

shared_in_says : (end format : ℕ) (lines : List Line) → OnlySays ReportSays (shared_in end format lines)
shared_in_says end format lines = of.either (format == 2) (shared_says end lines) of.value

too_large_says : (end : ℕ) (lines : List Line) → OnlySays ReportSays (read_too_large end lines)
unfolding read_too_large
too_large_says end lines =
    of.in_turn (next_says end lines) (λ line. of.in_turn (told_says (codes "toolarge") two_numbers line.0) (λ sizes. of.value))

answers_say : (end format : ℕ) (lines : List Line) → OnlySays ReportSays (read_answers end format lines)
unfolding read_answers
answers_say end format lines =
    of.in_turn (shared_in_says end format lines) (λ shared. of.in_turn (properties_say end (length shared.1) shared.1) (λ properties. of.value))

window_body_says : (end format : ℕ) (lines : List Line) → OnlySays ReportSays (read_window_body end format lines)
window_body_says end format lines = of.either (is_at (codes "toolarge") lines) (too_large_says end lines) (answers_say end format lines)

window_number_says : (due : ℕ) (line : Line) → OnlySays ReportSays (read_window_number due line)
unfolding read_window_number
window_number_says due line =
    of.in_turn (told_says (codes "window") one_number line) (λ number.
    of.in_turn (kept (nat_lt number (2 ^ 32)) Form line.number number) (λ small. kept (small == due) Order line.number small))

window_says : (end format due : ℕ) (lines : List Line) → OnlySays ReportSays (read_window end format due lines)
unfolding read_window
window_says end format due lines =
    of.in_turn (next_says end lines) (λ line.
    of.in_turn (window_number_says due line.0) (λ number.
    of.in_turn (window_body_says end format line.1) (λ body. of.value)))

windows_say : (end format due most : ℕ) (lines : List Line) → OnlySays ReportSays (read_windows end format due most lines)
windows_say end format due zero lines = of.value
windows_say end format due (suc most) lines =
    of.either (is_at (codes "window") lines)
    (of.in_turn (window_says end format due lines) (λ window.
    front_says (window.0 ∷ []) (read_windows end format (due + 1) most window.1) (windows_say end format (due + 1) most window.1)))
    of.value

between_says : (end : ℕ) (keyword : List ℕ) (low high : ℕ) (lines : List Line) → OnlySays ReportSays (read_between end keyword low high lines)
unfolding read_between
between_says end keyword low high lines =
    of.in_turn (next_says end lines) (λ line. of.in_turn (told_says keyword one_number line.0) (λ number. kept _ _ _ _))

summary_says : (end : ℕ) (windows : List WindowRecord) (lines : List Line) → OnlySays ReportSays (read_summary end windows lines)
unfolding read_summary
summary_says end windows lines =
    of.in_turn (next_says end lines) (λ line. of.in_turn (told_says (codes "summary") three_numbers line.0) (λ numbers. kept _ _ _ _))

end_says : (lines : List Line) → OnlySays ReportSays (at_end lines)
end_says [] = of.value
end_says (line ∷ lines) = of.fault tt

report_says : (end : ℕ) (lines : List Line) → OnlySays ReportSays (report_from end lines)
unfolding report_from
report_says end lines =
    of.in_turn (between_says end (codes "gpredict") 1 2 lines) (λ format.
    of.in_turn (between_says end (codes "budget") 1 1000000 format.1) (λ budget.
    of.in_turn (windows_say end format.0 1 (length budget.1) budget.1) (λ windows.
    of.in_turn (summary_says end windows.0 windows.1) (λ summary.
    of.in_turn (end_says summary.1) (λ last. of.value)))))

in_says : (end : ℕ) (lines : Result (List Line) TextFault) → OnlySays TextSays lines → OnlySays ReportSays (report_in end lines)
in_says end (Ok lines) says = report_says end lines
in_says end (Err fault) says = of.fault says.fault

pub reports_say : ReportsWantNoMemory
reports_say bytes = in_says (end_line_of bytes) (lines_of bytes) (lines_say bytes)

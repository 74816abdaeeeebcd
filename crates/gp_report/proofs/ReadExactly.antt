-- The laws of reading.
use Rattle.std.proofs.Common.{◌≡◌, refl, sym, ap, ◌∙◌, subst, ℕ, ◌+◌, List, [], ◌∷◌, ◌++◌, map, Result, Ok, Err}
use Rattle.std.specs.List.{flat_map}
use Rattle.gp_text.specs.declared.line.Line.{Line}
use Rattle.gp_text.specs.declared.lines.TextFault.{TextFault}
use Rattle.gp_text.specs.Lines.{end_line_of, lines_of}
use Rattle.gp_text.specs.Numbers.{OneSpelling}
use Rattle.gp_text.specs.Spelling.{numbered, spelling}
use Rattle.gp_window.specs.EventIds.{EventIdsReadExactly}
use Rattle.gp_report.specs.Records.{WindowRecord}
use Rattle.gp_report.specs.Laws.{ReportsArePlain}
use Rattle.gp_report.specs.Printed.{report_lines, window_lines}
use Rattle.gp_report.specs.Reading.{report_in, report_of}
use Rattle.gp_report.specs.ReportForm.{ReportForm}
use Rattle.gp_report.specs.Telling.{IsWhole, ReadsExactly, ReportsReadAgain, Tells, window_without_records, without_records}
use Rattle.gp_report.proofs.Forms.{bare_entries, report_bare, report_to, report_whole}
use Rattle.gp_report.proofs.ReportRead.{ReportIs, report_again, report_was}
use Rattle.gp_report.proofs.Taking.{ok_is, words_in}

tells : OneSpelling → EventIdsReadExactly → (bytes : List ℕ) (text : Result (List Line) TextFault) (report : ReportForm) → lines_of bytes ≡ text → report_in (end_line_of bytes) text ≡ Ok report → Tells bytes report
tells spelled exactly bytes (Ok lines) report is e =
    let was = report_was spelled exactly (end_line_of bytes) lines report e in
    record { lines = lines; text = is; words = was.0; whole = report_whole report was.1; bare = report_bare report was.1 }
tells spelled exactly bytes (Err fault) report is e = absurd (cc)

told : OneSpelling → EventIdsReadExactly → (bytes : List ℕ) (report : ReportForm) → Tells bytes report → report_of bytes ≡ Ok report
told spelled exactly bytes report is =
    ap (report_in (end_line_of bytes)) is.text
    ∙ report_again spelled exactly (end_line_of bytes) is.lines report (subst ReportIs is.bare (report_to report is.whole)) is.words

pub reads_exactly_lem : OneSpelling → EventIdsReadExactly → ReadsExactly
reads_exactly_lem spelled exactly bytes report =
    (λ e. tells spelled exactly bytes (lines_of bytes) report refl e, λ is. told spelled exactly bytes report is)

numbered_words : (n : ℕ) (lines : List (List (List ℕ))) → words_in (numbered n lines) ≡ lines
numbered_words n [] = refl
numbered_words n (words ∷ lines) = ap (λ ls. words ∷ ls) (numbered_words (n + 1) lines)

bare_windows : (format : ℕ) (windows : List WindowRecord) → flat_map (window_lines format) (map window_without_records windows) ≡ flat_map (window_lines format) windows
bare_windows format [] = refl
bare_windows format (window ∷ windows) = ap (λ ls. window_lines format window ++ ls) (bare_windows format windows)

-- the lines of a report do not tell its workers' records
bare_lines : (report : ReportForm) → report_lines (without_records report) ≡ report_lines report
bare_lines report = rw (bare_windows report.format report.windows, bare_entries report.windows) refl

again : OneSpelling → EventIdsReadExactly → ReportsArePlain → (report : ReportForm) → IsWhole report → report_of (spelling (report_lines report)) ≡ Ok (without_records report)
again spelled exactly plain report whole =
    let lines = report_lines report in
    let end = end_line_of (spelling lines) in
    ap (report_in end) (plain.again report whole.told whole.typed)
    ∙ report_again spelled exactly end (numbered 1 lines) (without_records report) (report_to report whole) (numbered_words 1 lines ∙ sym (bare_lines report))

pub read_again_lem : OneSpelling → EventIdsReadExactly → ReportsArePlain → ReportsReadAgain
read_again_lem spelled exactly plain = record {
  again = again spelled exactly plain;
  same = λ report other whole others text.
      ok_is (without_records report) (without_records other) (sym (again spelled exactly plain report whole) ∙ ap report_of text ∙ again spelled exactly plain other others);
}

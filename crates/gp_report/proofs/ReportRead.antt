-- The lines of a report are read as it.
use Rattle.std.proofs.Common.{◌≡◌, refl, ap, ◌∙◌, subst, ℕ, ◌+◌, ◌<◌, ◌≤◌, ◌^◌, true, List, [], ◌∷◌, ◌++◌, length, codes, decimal, Ok, arith}
use Rattle.std.specs.Prelude.{◌==◌, ◌&&◌, nat_le}
use Rattle.std.specs.List.{flat_map}
use Rattle.std.proofs.lemmas.Bool.Decides.{nat_tests}
use Rattle.gp_text.specs.declared.line.Line.{Line}
use Rattle.gp_text.specs.Numbers.{OneSpelling}
use Rattle.gp_window.specs.EventIds.{EventIdsReadExactly}
use Rattle.gp_report.specs.declared.fault.ReportRule.TheVariants.{End, Form}
use Rattle.gp_report.specs.Records.{WindowRecord}
use Rattle.gp_report.specs.Entries.{count_of, entries_of, is_found, is_impossible, is_undecided}
use Rattle.gp_report.specs.Printed.{report_lines, summary_words, window_lines}
use Rattle.gp_report.specs.Reading.{◌>>=◌, are_counts, at_end, kept_if, next_line, one_number, read_between, read_summary, read_windows, report_from, three_numbers, told_by}
use Rattle.gp_report.specs.ReportForm.{ReportForm}
use Rattle.gp_report.specs.Tally.{tally_of}
use Rattle.gp_report.specs.Typed.{AreCounted}
use Rattle.gp_report.proofs.NumbersRead.{line_of_one, line_of_three, one_again, three_again}
use Rattle.gp_report.proofs.Taking.{Again, Next, Takes, bind_ok, kept_ok, next_again, next_was, ok_is, words_in}
use Rattle.gp_report.proofs.WindowsAgain.{Follows, windows_again}
use Rattle.gp_report.proofs.WindowsRead.{WindowsAre, windows_was}

-- a report that can be told and read again
pub record ReportIs (report : ReportForm) : Type 0 where
  pub format_low : 1 ≤ report.format
  pub format_high : report.format ≤ 2
  pub budget_some : 1 ≤ report.budget
  pub budget_few : report.budget ≤ 1000000
  pub windows : WindowsAre report.format 1 report.windows
  pub counted : AreCounted (entries_of report.windows)

-- a line of this keyword and number was read
pub record BetweenWas (keyword : List ℕ) (low high : ℕ) (lines : List Line) (y : ℕ × List Line) : Type 0 where
  pub takes : Takes lines ((keyword ∷ decimal y.0 ∷ []) ∷ []) y.1
  pub least : low ≤ y.0
  pub most : y.0 ≤ high

within_was : (low high n : ℕ) → (nat_le low n && nat_le n high) ≡ true → (low ≤ n) × (n ≤ high)
within_was low high n test = (grind (arith, nat_tests), grind (arith, nat_tests))

within_again : (low high n : ℕ) → low ≤ n → n ≤ high → (nat_le low n && nat_le n high) ≡ true
within_again low high n some few = grind (arith, nat_tests)

between_was : OneSpelling → (end : ℕ) (keyword : List ℕ) (low high : ℕ) (lines : List Line) (y : ℕ × List Line) → read_between end keyword low high lines ≡ Ok y → BetweenWas keyword low high lines y
unfolding read_between
between_was spelled end keyword low high lines y e =
    let a = bind_ok (next_line end lines) (λ line. told_by keyword one_number line.0 >>= λ number. kept_if (nat_le low number && nat_le number high) Form line.0.number (number, line.1)) y e in
    let b = bind_ok (told_by keyword one_number a.0.0) (λ number. kept_if (nat_le low number && nat_le number high) Form a.0.0.number (number, a.0.1)) y a.2 in
    let kept = kept_ok (nat_le low b.0 && nat_le b.0 high) Form a.0.0.number (b.0, a.0.1) y b.2 in
    let within = within_was low high b.0 kept.0 in
    let first = next_was end lines a.0 a.1 in
    let number = line_of_one spelled keyword a.0.0 b.0 b.1 in
    subst (BetweenWas keyword low high lines) {x = (b.0, a.0.1)} kept.1 (record {
      takes = ap words_in first ∙ ap (λ v. v ∷ words_in a.0.1) number.0;
      least = within.0;
      most = within.1;
    })

between_again : OneSpelling → (end : ℕ) (keyword : List ℕ) (low high : ℕ) (lines : List Line) (n : ℕ) (rest : List (List (List ℕ)))
    → low ≤ n → n ≤ high → high < 2 ^ 64 → words_in lines ≡ (keyword ∷ decimal n ∷ []) ∷ rest → Again (read_between end keyword low high lines) n rest
unfolding read_between
between_again spelled end keyword low high lines n rest some few fits words =
    let head = keyword ∷ decimal n ∷ [] in
    let first : Next lines head rest = next_again lines head rest words in
    let number : told_by keyword one_number first.line ≡ Ok n = one_again spelled keyword first.line n (omega arith) first.words in
    let within = within_again low high n some few in
    record {
      left = first.left;
      is = ap (read_between end keyword low high) first.is ∙ rw (number, within) refl;
      words = first.behind;
    }

-- the summary of these windows was read
record SummaryWas (windows : List WindowRecord) (lines left : List Line) : Type 0 where
  takes : Takes lines (summary_words (entries_of windows) ∷ []) left
  counted : AreCounted (entries_of windows)

equal_parts : (a b c d e f : ℕ) → (a == 0 + d && b == 0 + e && c == 0 + f) ≡ true → (a ≡ d) × (b ≡ e) × (c ≡ f)
equal_parts a b c d e f test = (grind (arith, nat_tests), grind (arith, nat_tests), grind (arith, nat_tests))

equal_again : (d e f : ℕ) → (d == 0 + d && e == 0 + e && f == 0 + f) ≡ true
equal_again d e f = grind (arith, nat_tests)

summary_was : OneSpelling → (end : ℕ) (windows : List WindowRecord) (lines : List Line) (y : Unit {0} × List Line) → read_summary end windows lines ≡ Ok y → SummaryWas windows lines y.1
unfolding read_summary
summary_was spelled end windows lines y e =
    let entries = entries_of windows in
    let a = bind_ok (next_line end lines) (λ line. told_by (codes "summary") three_numbers line.0 >>= λ numbers. kept_if (are_counts numbers (tally_of (entries_of windows))) End line.0.number (tt, line.1)) y e in
    let b = bind_ok (told_by (codes "summary") three_numbers a.0.0) (λ numbers. kept_if (are_counts numbers (tally_of (entries_of windows))) End a.0.0.number (tt, a.0.1)) y a.2 in
    let kept = kept_ok (are_counts b.0 (tally_of (entries_of windows))) End a.0.0.number (tt, a.0.1) y b.2 in
    let numbers = line_of_three spelled (codes "summary") a.0.0 b.0 b.1 in
    let same = equal_parts b.0.0 b.0.1.0 b.0.1.1 (count_of is_found entries) (count_of is_impossible entries) (count_of is_undecided entries) kept.0 in
    let first = next_was end lines a.0 a.1 in
    let words : a.0.0.words ≡ summary_words entries =
    numbers.0 ∙ ap (λ n. codes "summary" ∷ decimal n ∷ decimal b.0.1.0 ∷ decimal b.0.1.1 ∷ []) same.0
    ∙ ap (λ n. codes "summary" ∷ decimal (count_of is_found entries) ∷ decimal n ∷ decimal b.0.1.1 ∷ []) same.1
    ∙ ap (λ n. codes "summary" ∷ decimal (count_of is_found entries) ∷ decimal (count_of is_impossible entries) ∷ decimal n ∷ []) same.2 in
    subst (λ (z : Unit {0} × List Line). SummaryWas windows lines z.1) {x = (tt, a.0.1)} kept.1 (record {
      takes = ap words_in first ∙ ap (λ v. v ∷ words_in a.0.1) words;
      counted = record {
        found = subst (λ n. n < 2 ^ 64) same.0 numbers.1;
        impossible = subst (λ n. n < 2 ^ 64) same.1 numbers.2;
        undecided = subst (λ n. n < 2 ^ 64) same.2 numbers.3;
      };
    })

summary_again : OneSpelling → (end : ℕ) (windows : List WindowRecord) (lines : List Line) → AreCounted (entries_of windows) → words_in lines ≡ summary_words (entries_of windows) ∷ []
    → Again (read_summary end windows lines) tt []
unfolding read_summary
summary_again spelled end windows lines counted words =
    let entries = entries_of windows in
    let first : Next lines (summary_words entries) [] = next_again lines (summary_words entries) [] words in
    let numbers : told_by (codes "summary") three_numbers first.line ≡ Ok (count_of is_found entries, (count_of is_impossible entries, count_of is_undecided entries)) =
    three_again spelled (codes "summary") first.line (count_of is_found entries) (count_of is_impossible entries) (count_of is_undecided entries) counted.found counted.impossible counted.undecided first.words in
    let same = equal_again (count_of is_found entries) (count_of is_impossible entries) (count_of is_undecided entries) in
    record {
      left = first.left;
      is = ap (read_summary end windows) first.is ∙ rw (numbers, same) refl;
      words = first.behind;
    }

end_was : (lines : List Line) (u : Unit {0}) → at_end lines ≡ Ok u → lines ≡ []
end_was [] u e = refl
end_was (line ∷ lines) u e = absurd (cc)

no_lines : (lines : List Line) → words_in lines ≡ [] → lines ≡ []
no_lines [] e = refl
no_lines (line ∷ lines) e = absurd (cc)

-- a report that is read was written
pub report_was : OneSpelling → EventIdsReadExactly → (end : ℕ) (lines : List Line) (report : ReportForm) → report_from end lines ≡ Ok report → (words_in lines ≡ report_lines report) × ReportIs report
unfolding report_from
report_was spelled exactly end lines report e =
    let a = bind_ok (read_between end (codes "gpredict") 1 2 lines) (λ format. read_between end (codes "budget") 1 1000000 format.1 >>= λ budget. read_windows end format.0 1 (length budget.1) budget.1 >>= λ windows. read_summary end windows.0 windows.1 >>= λ summary. at_end summary.1 >>= λ last. Ok (record { format = format.0; budget = budget.0; windows = windows.0 })) report e in
    let b = bind_ok (read_between end (codes "budget") 1 1000000 a.0.1) (λ budget. read_windows end a.0.0 1 (length budget.1) budget.1 >>= λ windows. read_summary end windows.0 windows.1 >>= λ summary. at_end summary.1 >>= λ last. Ok (record { format = a.0.0; budget = budget.0; windows = windows.0 })) report a.2 in
    let c = bind_ok (read_windows end a.0.0 1 (length b.0.1) b.0.1) (λ windows. read_summary end windows.0 windows.1 >>= λ summary. at_end summary.1 >>= λ last. Ok (record { format = a.0.0; budget = b.0.0; windows = windows.0 })) report b.2 in
    let d = bind_ok (read_summary end c.0.0 c.0.1) (λ summary. at_end summary.1 >>= λ last. Ok (record { format = a.0.0; budget = b.0.0; windows = c.0.0 })) report c.2 in
    let f = bind_ok (at_end d.0.1) (λ last. Ok (record { format = a.0.0; budget = b.0.0; windows = c.0.0 })) report d.2 in
    let format = between_was spelled end (codes "gpredict") 1 2 lines a.0 a.1 in
    let budget = between_was spelled end (codes "budget") 1 1000000 a.0.1 b.0 b.1 in
    let windows = windows_was spelled exactly end a.0.0 1 (length b.0.1) b.0.1 c.0 c.1 in
    let summary = summary_was spelled end c.0.0 c.0.1 d.0 d.1 in
    let none : d.0.1 ≡ [] = end_was d.0.1 f.0 f.1 in
    let last : words_in c.0.1 ≡ summary_words (entries_of c.0.0) ∷ [] = summary.takes ∙ ap (λ (ls : List Line). (summary_words (entries_of c.0.0) ∷ []) ++ words_in ls) none in
    let made : ReportForm = record { format = a.0.0; budget = b.0.0; windows = c.0.0 } in
    subst (λ (r : ReportForm). (words_in lines ≡ report_lines r) × ReportIs r) {x = made} (ok_is made report f.2) (
      format.takes
          ∙ ap (λ vs. (codes "gpredict" ∷ decimal a.0.0 ∷ []) ∷ vs) (budget.takes ∙ ap (λ vs. (codes "budget" ∷ decimal b.0.0 ∷ []) ∷ vs) (windows.0 ∙ ap (λ vs. flat_map (window_lines a.0.0) c.0.0 ++ vs) last)),
      record {
        format_low = format.least;
        format_high = format.most;
        budget_some = budget.least;
        budget_few = budget.most;
        windows = windows.1;
        counted = summary.counted;
      },
    )

-- a report that is written is read
pub report_again : OneSpelling → EventIdsReadExactly → (end : ℕ) (lines : List Line) (report : ReportForm) → ReportIs report → words_in lines ≡ report_lines report → report_from end lines ≡ Ok report
unfolding report_from
report_again spelled exactly end lines report is words =
    let entries = entries_of report.windows in
    let windows_lines = flat_map (window_lines report.format) report.windows ++ summary_words entries ∷ [] in
    let format : Again (read_between end (codes "gpredict") 1 2 lines) report.format ((codes "budget" ∷ decimal report.budget ∷ []) ∷ windows_lines) =
    between_again spelled end (codes "gpredict") 1 2 lines report.format ((codes "budget" ∷ decimal report.budget ∷ []) ∷ windows_lines) is.format_low is.format_high (omega arith) words in
    let budget : Again (read_between end (codes "budget") 1 1000000 format.left) report.budget windows_lines =
    between_again spelled end (codes "budget") 1 1000000 format.left report.budget windows_lines is.budget_some is.budget_few (omega arith) format.words in
    let follows : Follows (summary_words entries ∷ []) = record { no_property = refl; not_large = refl } in
    let windows : Again (read_windows end report.format 1 (length budget.left) budget.left) report.windows (summary_words entries ∷ []) =
    windows_again spelled exactly end report.format 1 (length budget.left) budget.left report.windows (summary_words entries ∷ []) (omega arith) refl follows is.windows budget.words in
    let summary = summary_again spelled end report.windows windows.left is.counted windows.words in
    let none = no_lines summary.left summary.words in
    rw (format.is, budget.is, windows.is, summary.is, none) refl

-- a report of parts that were read one after another
pub report_made : (end : ℕ) (lines first second third fourth : List Line) (format budget : ℕ) (windows : List WindowRecord)
    → read_between end (codes "gpredict") 1 2 lines ≡ Ok (format, first) → read_between end (codes "budget") 1 1000000 first ≡ Ok (budget, second)
    → read_windows end format 1 (length second) second ≡ Ok (windows, third) → read_summary end windows third ≡ Ok (tt, fourth) → at_end fourth ≡ Ok tt
    → report_from end lines ≡ Ok (record { format = format; budget = budget; windows = windows })
unfolding report_from
report_made end lines first second third fourth format budget windows a b c d e = rw (a, b, c, d, e) refl

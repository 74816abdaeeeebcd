use Rattle.std.proofs.Common.{[], ◌∷◌, ◌∙◌, ap, subst, codes, flat_map, All}
use Rattle.std.specs.Fmt.{decimal}
use Rattle.gp_report.specs.Entries.{entries_of}
use Rattle.gp_report.specs.Printed.{summary_words, window_lines}
use Rattle.gp_report.specs.Reading.{report_of}
use Rattle.gp_report.specs.Telling.{AreClauses}
use Rattle.gp_report.specs.Typed.{AreCounted, IsTypedWindow}
use Rattle.gp_report.proofs.Texts.{report_put}
use Rattle.gp_report.proofs.printing.print_report.Goals as goal

pub returns-clause-text : goal.returns-clause-text
returns-clause-text c =
    let report = c.args.report.now in
    rw (c.from_vec.ensures, c.in_ok-put_summary.ensures.text, c.in_ok-put_windows.ensures, c.windows-windows.ensures.value, c.format-2.ensures.value, c.in_ok-put_line-2.ensures, c.budget.ensures.value, c.in_ok-put_line.ensures, c.new-text.ensures.items, c.from.ensures, c.format.ensures.value)
    (report_put (codes "gpredict" ∷ decimal report.format ∷ []) (codes "budget" ∷ decimal report.budget ∷ []) (summary_words (entries_of report.windows)) (flat_map (window_lines report.format) report.windows))

pub returns-clause-whole : goal.returns-clause-whole
returns-clause-whole c =
    let same = c.windows-windows.ensures.value in
    record {
      told = c.windows-windows.ensures.report;
      typed = record {
        windows = subst (λ windows. All IsTypedWindow windows) same c.windows_fit.ensures.typed;
        counted = subst (λ windows. AreCounted (entries_of windows)) same c.in_ok-put_summary.ensures.counted;
      };
      clauses = subst (λ windows. AreClauses windows) same c.windows_fit.ensures.clauses;
    }

pub returns-clause-again : goal.returns-clause-again
returns-clause-again c = ap report_of (returns-clause-text c) ∙ c.reports_read_again.ensures.again c.args.report.now (returns-clause-whole c)

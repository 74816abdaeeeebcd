-- The verdict with an empty line, and the table.
use Rattle.std.proofs.Common.{◌≡◌, [], ◌∷◌, ◌++◌, List, OnOk, subst}
use Rattle.std.proofs.lemmas.Result.{on_ok_weaker}
use Rattle.gp_overview.specs.Table.{table_text}
use Rattle.gp_overview.specs.Verdict.{verdict_words}
use Rattle.gp_property.specs.PropertyForm.{PropertyForm}
use Rattle.gp_report.specs.Records.{WindowRecord}
use Rattle.gp_text.specs.Spelling.{spelling}
use Rattle.gp_show.proofs.Pieces.{two_put}
use Rattle.gp_show.proofs.head.add_lines.Goals as goal

pub returns : goal.returns
returns c =
    let IsPut : List PropertyForm → List WindowRecord → Type 0 = λ properties windows.
    OnOk c.put_table.result (c.put_table.new.text.items ≡ c.args.text.now.items ++ (spelling (verdict_words windows c.args.checked ∷ [] ∷ []) ++ table_text properties windows)) in
    let put : IsPut c.as_slice.result.now c.windows-windows.result.now =
    on_ok_weaker c.put_table.result
    (λ last. two_put c.args.text.now.items c.add_verdict.new.text.items c.put_table.new.text.items (spelling (verdict_words c.windows-windows.result.now c.args.checked ∷ [] ∷ []))
    (table_text c.as_slice.result.now c.windows-windows.result.now) c.in_ok-add_verdict.ensures last)
    c.put_table.ensures in
    subst (λ (properties : List PropertyForm). IsPut properties c.args.submission.now.report.windows) c.as_slice.ensures
    (subst (λ (windows : List WindowRecord). IsPut c.as_slice.result.now windows) c.windows-windows.ensures.value put)

use Rattle.std.proofs.Common.{◌≡◌, ◌++◌, codes, flat_map, List, ℕ, OnOk, subst}
use Rattle.gp_overview.specs.Counts.{total_of}
use Rattle.gp_overview.specs.Table.{counts_line, head_line, property_line, table_text}
use Rattle.gp_overview.proofs.Told.{three_put}
use Rattle.gp_overview.proofs.table.put_table.Goals as goal

pub returns : goal.returns
returns c =
    let text : List ℕ = c.args.text.now.items in
    let lines : List ℕ = flat_map (property_line c.args.windows.now) c.args.properties.now in
    let whole : c.put_property_lines.new.text.items ++ counts_line (codes "all") c.in_ok-total_of.field-0 ≡ text ++ table_text c.args.properties.now c.args.windows.now =
    rw (c.in_ok-put_property_lines.ensures, c.in_ok-put_head_line.ensures, c.in_ok-total_of.ensures)
    (three_put text head_line lines (counts_line (codes "all") (total_of c.args.windows.now))) in
    subst (λ (told : List ℕ). OnOk c.put_counts_line.result (c.put_counts_line.new.text.items ≡ told)) whole c.put_counts_line.ensures

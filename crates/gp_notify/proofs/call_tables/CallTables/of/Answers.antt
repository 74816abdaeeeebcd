use Rattle.std.proofs.Common.{◌∙◌, List, ap}
use Rattle.std.specs.Prelude.{filter, is_some}
use Rattle.gp_constraint.specs.declared.point.Point.{Point}
use Rattle.gp_notify.specs.Calls.{call_at}
use Rattle.gp_notify.proofs.call_tables.CallTables.of.Goals as goal

pub tables_of-tables-requires : goal.tables_of-tables-requires
tables_of-tables-requires c =
    c.as_slice.ensures ∙ c.in_ok-calls.ensures ∙ ap (λ (points : List Point). filter (λ p. is_some (call_at c.args.window.now p.id)) points) c.requires

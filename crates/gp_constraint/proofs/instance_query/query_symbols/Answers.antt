use Rattle.std.proofs.Common.{◌≡◌, ◌∙◌, ap, List}
use Rattle.std.proofs.lemmas.Result.{IfOk-weaker}
use Rattle.gp_window.specs.declared.schedule.EventId.{EventId}
use Rattle.gp_constraint.specs.declared.symbol.Symbol.{Symbol}
use Rattle.gp_constraint.specs.Query.{query_names}
use Rattle.gp_constraint.specs.QueryNames.{all_names}
use Rattle.gp_constraint.proofs.instance_query.query_symbols.Goals as goal

pub returns : goal.returns
returns c =
    IfOk-weaker c.all-symbols.result (λ (symbols : List Symbol). symbols ≡ all_names c.in_ok-names.names)
    (λ (symbols : List Symbol). symbols ≡ query_names c.args.encoded.now c.args.property.now c.args.instance.now.events)
    (λ symbols is. is ∙ c.in_ok-names.ensures.all ∙ ap (λ (ids : List EventId). query_names c.args.encoded.now c.args.property.now ids) c.as_slice-ids.ensures)
    c.all-symbols.ensures

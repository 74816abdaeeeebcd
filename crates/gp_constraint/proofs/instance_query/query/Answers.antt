use Rattle.std.proofs.Common.{◌≡◌, ◌∙◌, refl, ap, List, ◌++◌}
use Rattle.std.specs.Prelude.{map}
use Rattle.std.proofs.lemmas.Result.{IfOk-weaker}
use Rattle.gp_clause.specs.declared.problem.Query.{Query}
use Rattle.gp_property.specs.PropertyForm.{PropertyForm}
use Rattle.gp_window.specs.declared.schedule.EventId.{EventId}
use Rattle.gp_window.specs.WindowForm.{WindowForm}
use Rattle.gp_constraint.specs.declared.symbol.SymbolicLit.{SymbolicLit}
use Rattle.gp_constraint.specs.Numbering.{numbered_lit}
use Rattle.gp_constraint.specs.Query.{executed_lits, query_of}
use Rattle.gp_constraint.specs.QueryNames.{all_names, QueryNamesForm}
use Rattle.gp_constraint.specs.Symbols.{kind_of}
use Rattle.gp_constraint.proofs.QueryNamed.{query_is}
use Rattle.gp_constraint.proofs.instance_query.query.Goals as goal

pub query_names-requires : goal.query_names-requires
query_names-requires c = c.as_slice.ensures ∙ c.in_ok-lits.ensures

pub returns : goal.returns
returns c =
    let window : WindowForm = c.args.encoded.now in
    let property : PropertyForm = c.args.property.now in
    let ids : List EventId = c.as_slice-ids.result.now in
    let lits : List SymbolicLit = c.in_ok-lits.lits in
    let names : QueryNamesForm = c.in_ok-names.names in
    let given : List SymbolicLit = c.as_slice-2.result.now in
    IfOk-weaker c.numbered_query-query.result
    (λ (query : Query). query ≡ record { locals = map kind_of names.own; assumed = map (numbered_lit (all_names names)) (executed_lits window ids ++ given) })
    (λ (query : Query). query ≡ query_of window property c.args.instance.now.events)
    (λ query is. is
    ∙ query_is window property ids names given (map kind_of names.own) (map (numbered_lit (all_names names)) (executed_lits window ids ++ given))
    (c.in_ok-names.ensures.base, c.in_ok-names.ensures.all) (c.as_slice-2.ensures ∙ c.in_ok-lits.ensures) refl refl
    ∙ ap (λ (es : List EventId). query_of window property es) c.as_slice-ids.ensures)
    c.numbered_query-query.ensures

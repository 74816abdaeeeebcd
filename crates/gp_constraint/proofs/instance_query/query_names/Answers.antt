use Rattle.std.proofs.Common.{◌≡◌, ◌∙◌, ◌++◌, ap, subst, List, []}
use Rattle.std.specs.Prelude.{flat_map, map}
use Rattle.gp_instance.specs.Matches.{groups_of}
use Rattle.gp_property.specs.declared.property.PatternStep.{PatternStep}
use Rattle.gp_property.specs.PropertyForm.{PropertyForm}
use Rattle.gp_window.specs.declared.schedule.EventId.{EventId}
use Rattle.gp_window.specs.WindowForm.{WindowForm}
use Rattle.gp_constraint.specs.declared.symbol.Symbol.{Symbol}
use Rattle.gp_constraint.specs.declared.symbol.SymbolicLit.{SymbolicLit}
use Rattle.gp_constraint.specs.Base.{names_in}
use Rattle.gp_constraint.specs.Query.{sides_of}
use Rattle.gp_constraint.specs.QueryNames.{AreMentioned, QueryNamesForm}
use Rattle.gp_constraint.proofs.QueryNamed.{names_are}
use Rattle.gp_constraint.proofs.instance_query.query_names.Goals as goal

pub returns-in-Ok : goal.returns-in-Ok
returns-in-Ok c =
    let window : WindowForm = c.args.encoded.now in
    let property : PropertyForm = c.args.property.now in
    let ids : List EventId = c.args.ids.now in
    let lits : List SymbolicLit = c.args.lits.now in
    let start : QueryNamesForm = c.new-names.result in
    let names : QueryNamesForm = c.mention_all.new.names in
    let begin : start ≡ record { base = names_in window; own = [] } =
    c.new-names.ensures ∙ ap (λ (ns : List Symbol). record { base = ns; own = [] }) c.names.ensures in
    let all : AreMentioned start names (map (λ (lit : SymbolicLit). lit.symbol) lits ++ flat_map (sides_of window) (groups_of property.pattern ids)) =
    subst (λ (steps : List PatternStep). AreMentioned start names (map (λ (lit : SymbolicLit). lit.symbol) lits ++ flat_map (sides_of window) (groups_of steps ids))) c.pattern.ensures.value
    c.in-Ok.ensures in
    let are = names_are window property ids start names lits begin c.requires all in
    record { base = are.0; all = are.1 }

use Rattle.std.proofs.Common.{List}
use Rattle.std.specs.Prelude.{flat_map, map}
use Rattle.std.proofs.lemmas.Result.{on_ok_weaker}
use Rattle.gp_instance.specs.Matches.{groups_of}
use Rattle.gp_constraint.specs.declared.symbol.Symbol.{Symbol}
use Rattle.gp_constraint.specs.declared.symbol.SymbolicLit.{SymbolicLit}
use Rattle.gp_constraint.specs.Query.{sides_of}
use Rattle.gp_constraint.specs.QueryNames.{QueryNamesForm}
use Rattle.gp_constraint.proofs.QueryNamed.{both_mentioned}
use Rattle.gp_constraint.proofs.instance_query.mention_all.Goals as goal

pub returns : goal.returns
returns c =
    let start : QueryNamesForm = c.args.names.now in
    let middle : QueryNamesForm = c.mention_lits.new.names in
    let end : QueryNamesForm = c.mention_sides.new.names in
    let one : List Symbol = map (λ (lit : SymbolicLit). lit.symbol) c.args.lits.now in
    let other : List Symbol = flat_map (sides_of c.args.encoded.now) (groups_of c.args.pattern.now c.args.ids.now) in
    on_ok_weaker c.mention_sides.result (both_mentioned start middle end one other c.in_ok-mention_lits.ensures) c.mention_sides.ensures

use Rattle.std.proofs.Common.{◌≡◌, ◌==◌, List, [], ◌∷◌, false, subst}
use Rattle.std.specs.Prelude.{OnOk}
use Rattle.std.proofs.lemmas.Bool.{ne_eqb}
use Rattle.gp_window.specs.declared.schedule.EventId.{EventId}
use Rattle.gp_constraint.specs.declared.point.Point.{Point}
use Rattle.gp_constraint.specs.declared.symbol.Symbol.{Symbol}
use Rattle.gp_constraint.specs.Query.{side}
use Rattle.gp_constraint.specs.QueryNames.{AreMentioned}
use Rattle.gp_constraint.proofs.Sided.{side_is}
use Rattle.gp_constraint.proofs.instance_query.mention_side.Goals as goal

pub returns : goal.returns
returns c =
    let id : EventId = c.args.id in
    let p : Point = c.args.p.now in
    let differ : (id.thread == p.id.thread) ≡ false = ne_eqb id.thread p.id.thread c.if-id-p.false in
    let is : c.order_of.result ∷ [] ≡ side c.args.encoded.now id p =
    side_is c.args.encoded.now id p c.args.number c.order_of.result c.requires.own c.requires.other differ c.order_of.ensures in
    subst (λ (symbols : List Symbol). OnOk c.mention.result (AreMentioned c.args.names.now c.mention.new.self symbols)) is c.mention.ensures

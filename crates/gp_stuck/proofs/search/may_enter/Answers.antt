-- What may follow is entered, unless nothing goes on with it.
use Rattle.std.proofs.Common.{◌≡◌, ◌∙◌, ◌∷◌, ap, map, sym, true}
use Rattle.gp_window.specs.WindowForm.{WindowForm}
use Rattle.gp_stuck.specs.Noted.{may_stand}
use Rattle.gp_stuck.specs.Search.{going_on}
use Rattle.gp_stuck.proofs.Standing.{entered}
use Rattle.gp_stuck.proofs.search.may_enter.Goals as goal

pub returns : goal.returns
returns c =
    let stands : may_stand c.args.waiting.now c.args.mode c.args.first.now.holding.id c.args.passed.now c.args.holder.now ≡ true =
    ap (λ (w : WindowForm). may_stand w c.args.mode c.args.first.now.holding.id c.args.passed.now c.args.holder.now) (sym c.window.ensures) ∙ sym c.if-not-may_stand.ensures in
    entered (going_on c.args.waiting.now c.args.first.now.holding.id c.args.passed.now c.args.fewer) c.args.holder.now.id c.may_go_on.result
    (may_stand c.args.waiting.now c.args.mode c.args.first.now.holding.id c.args.passed.now c.args.holder.now) stands
    (λ none. ap (map (λ rest. c.args.holder.now.id ∷ rest)) (c.may_go_on.ensures none))

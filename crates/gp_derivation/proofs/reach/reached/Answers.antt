use Rattle.gp_derivation.specs.Reach.{IsReached}
use Rattle.gp_derivation.proofs.Descending.{told_in_order}
use Rattle.gp_derivation.proofs.reach.reached.Goals as goal

pub returns : goal.returns
returns c = record {
  rising = c.turned.ensures.rising;
  reached = told_in_order (IsReached c.args.base_clauses c.args.log.now c.args.hints.now) c.in_ok-places.places.items c.turned.result.items c.turned.ensures.same c.in_ok-places.ensures.reached;
}

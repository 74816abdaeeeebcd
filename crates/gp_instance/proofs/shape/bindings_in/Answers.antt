-- One more parameter is bound at each place, up to the end of the shorter list.
use Rattle.std.proofs.Common.{◌∙◌, arith, sym}
use Rattle.gp_instance.proofs.Bound.{all_bound, bound_at}
use Rattle.gp_instance.proofs.shape.bindings_in.Goals as goal

pub loop-place-preserved : goal.loop-place-preserved
loop-place-preserved c =
    bound_at c.args.terms.now c.args.names.now c.loop-place.place c.index-terms-place.result c.index-names-place.result c.loop-place.bindings c.bind.new.bindings
    (omega arith) (omega arith) c.index-terms-place.is c.index-names-place.is c.in_ok-bind.ensures
    ∙ c.loop-place.invariant

pub returns : goal.returns
returns c =
    sym (all_bound c.args.terms.now c.args.names.now c.loop-place.place c.loop-place.bindings (omega arith)) ∙ c.loop-place.invariant

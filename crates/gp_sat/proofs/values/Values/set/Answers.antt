use Rattle.std.proofs.Common.{◌∙◌, ap, Some}
use Rattle.std.specs.Prelude.{slice_set}
use Rattle.gp_sat.specs.declared.values.Truth.{Truth}
use Rattle.gp_sat.proofs.Truths.{truths_set}
use Rattle.gp_sat.proofs.values.Values.set.Goals as goal

pub invariant_of-self : goal.invariant_of-self
invariant_of-self c =
    ap (λ (t : Truth). slice_set c.self.inside.truths.items c.args.variable t) c.of.ensures
    ∙ truths_set c.self.inside.truths.items c.self.inside.assigned.items c.args.variable (Some c.args.assigned) c.self.invariant

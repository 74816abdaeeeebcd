use Rattle.std.proofs.Common.{◌∙◌, ap, Option, None, List, ◌++◌}
use Rattle.std.specs.Prelude.{replicate}
use Rattle.gp_sat.specs.declared.assigned.Assigned.{Assigned}
use Rattle.gp_sat.specs.declared.values.Truth.{Truth}
use Rattle.gp_sat.specs.declared.values.Truth.TheVariants.{Unknown}
use Rattle.gp_sat.proofs.Truths.{truths_more}
use Rattle.gp_sat.proofs.values.Values.grow.Goals as goal

pub invariant_of-self-2 : goal.invariant_of-self-2
invariant_of-self-2 c = truths_more c.self.inside.truths.items c.add_free.new.truths.items c.self.inside.assigned.items c.add_free.new.assigned.items c.args.added
    (c.add_free.ensures.truths ∙ ap (λ (ts : List Truth). ts ++ replicate c.args.added Unknown) c.in_ok-reserve-2.ensures.items)
    (c.add_free.ensures.assigned ∙ ap (λ (vs : List (Option Assigned)). vs ++ replicate c.args.added None) c.in_ok-reserve.ensures.items) c.self.invariant

use Rattle.std.proofs.Common.{◌∙◌, ap, [], ◌∷◌, ◌++◌}
use Rattle.gp_clause.specs.declared.lit.Lit.{Lit}
use Rattle.gp_constraint.specs.Numbering.{numbered_lit}
use Rattle.gp_constraint.specs.QueryNames.{all_names}
use Rattle.gp_constraint.proofs.QueryNamed.{assumed_more}
use Rattle.gp_constraint.proofs.instance_query.assume_all.Goals as goal

pub loop-lit-preserved : goal.loop-lit-preserved
loop-lit-preserved c =
    assumed_more (numbered_lit (all_names c.args.names.now)) c.loop-lit.assumed c.push.new.self _ c.args.lits.now c.loop-lit.lit-index _ c.loop-lit-test.true
    (c.in_ok-push.ensures.ok ∙ ap (λ (l : Lit). c.loop-lit.assumed ++ l ∷ []) c.lit.ensures) c.loop-lit.invariant

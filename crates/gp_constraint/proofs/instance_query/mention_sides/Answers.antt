use Rattle.std.proofs.Common.{◌≡◌, ◌∙◌, ap, ℕ, List, get_or, drop, take, length}
use Rattle.gp_property.specs.declared.property.PatternStep.{PatternStep}
use Rattle.gp_window.specs.declared.schedule.EventId.{EventId}
use Rattle.gp_constraint.specs.QueryNames.{all_names}
use Rattle.gp_constraint.proofs.QueryWalk.{sides_more}
use Rattle.gp_constraint.proofs.instance_query.mention_sides.Goals as goal

pub loop-step-preserved : goal.loop-step-preserved
loop-step-preserved c =
    let pattern : List PatternStep = c.args.pattern.now in
    let i : ℕ = c.loop-step.step-index in
    let d : PatternStep = c.step-item.result in
    let rest : List EventId = c.loop-step.rest.now in
    let group : c.cut.result.0.now ≡ take (length (get_or pattern i d).atoms) rest = c.cut.ensures.group ∙ ap (λ (step : PatternStep). take (length step.atoms) rest) c.step-item.is in
    let after : c.cut.result.1.now ≡ drop (length (get_or pattern i d).atoms) rest = c.cut.ensures.rest ∙ ap (λ (step : PatternStep). drop (length step.atoms) rest) c.step-item.is in
    record {
      base = c.in_ok-mention_sides_of.ensures.base ∙ c.loop-step.invariant.base;
      all =
          sides_more c.args.encoded.now (all_names c.loop-step.names) (all_names c.mention_sides_of.new.names) pattern i d rest c.cut.result.0.now c.cut.result.1.now
          c.loop-step-test.true group after c.in_ok-mention_sides_of.ensures.all
          ∙ c.loop-step.invariant.all;
    }

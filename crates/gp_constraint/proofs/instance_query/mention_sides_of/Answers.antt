use Rattle.std.proofs.Common.{◌∙◌, ℕ, List}
use Rattle.std.specs.Prelude.{flat_map}
use Rattle.gp_window.specs.declared.schedule.EventId.{EventId}
use Rattle.gp_window.specs.WindowForm.{WindowForm}
use Rattle.gp_constraint.specs.Points.{points_of}
use Rattle.gp_constraint.specs.Query.{side}
use Rattle.gp_constraint.specs.QueryNames.{all_names}
use Rattle.gp_constraint.proofs.QueryWalk.{flat_more}
use Rattle.gp_constraint.proofs.instance_query.mention_sides_of.Goals as goal

pub loop-id-preserved : goal.loop-id-preserved
loop-id-preserved c =
    let window : WindowForm = c.args.encoded.now in
    let group : List EventId = c.args.group.now in
    let i : ℕ = c.loop-id.id-index in
    record {
      base = c.in_ok-mention_sides_at.ensures.base ∙ c.loop-id.invariant.base;
      all =
          flat_more (λ id. flat_map (side window id) (points_of window)) (all_names c.loop-id.names) (all_names c.mention_sides_at.new.names) group i (record { thread = 0; index = 0 })
          c.loop-id-test.true c.in_ok-mention_sides_at.ensures.all
          ∙ c.loop-id.invariant.all;
    }

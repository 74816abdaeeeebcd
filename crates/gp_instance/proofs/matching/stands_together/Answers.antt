-- No group begins at this place, so one that stands together does so later.
use Rattle.std.proofs.Common.{◌+◌, ◌-◌, ◌≤◌, ◌∙◌, ap, arith, drop, length, length-drop, refl, sym}
use Rattle.std.proofs.lemmas.List.{take_all}
use Rattle.gp_instance.specs.Matches.{begins_with_group}
use Rattle.gp_instance.proofs.Steps.{later_place}
use Rattle.gp_instance.proofs.matching.stands_together.Goals as goal

pub loop-start-preserved : goal.loop-start-preserved
loop-start-preserved c =
    let rest = drop c.loop-start.start c.args.schedule.now in
    let short : length rest ≤ length c.args.schedule.now - c.loop-start.start = omega (arith, length-drop c.loop-start.start c.args.schedule.now) in
    later_place c.args.group.now c.args.schedule.now c.loop-start.start (c.loop-start.start + 1) refl c.loop-start-test.true
    (sym (ap (begins_with_group c.args.group.now) (take_all _ rest short)) ∙ sym c.begins_with_group.ensures ∙ c.if-begins_with_group.false)
    ∙ c.loop-start.invariant

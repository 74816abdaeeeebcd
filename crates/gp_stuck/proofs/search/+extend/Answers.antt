-- One event after another, up to the limit.
use Rattle.std.proofs.Common.{◌≡◌, ◌∙◌, ◌∷◌, ap, arith, List, map, suc, sym}
use Rattle.std.specs.List.{flat_map}
use Rattle.std.proofs.lemmas.List.{drop_all}
use Rattle.gp_window.specs.declared.schedule.EventId.{EventId}
use Rattle.gp_instance.specs.LimitLaws.{full, no_more, within_limit}
use Rattle.gp_instance.specs.Search.{first_instances, instance_after}
use Rattle.gp_stuck.specs.Search.{completions, going_on, takers_of}
use Rattle.gp_stuck.proofs.Limit.{closed_then, one_step}
use Rattle.gp_stuck.proofs.search.+extend.Goals as goal

pub loop-id-init : goal.loop-id-init
loop-id-init t c =
    let more : c.args.left ≡ suc c.in-Some.fewer = omega (arith, c.in-Some.ensures) in
    record {
      room = rw c.in_ok-close.ensures (within_limit _ _);
      walk = closed_then c.args.waiting.now c.args.first.now.holding.id c.args.passed.now c.args.last c.args.left c.in-Some.fewer c.args.found.now c.close.new.found c.as_slice-id-items.result.now
          more (ap (flat_map (going_on c.args.waiting.now c.args.first.now.holding.id c.args.passed.now c.in-Some.fewer)) c.as_slice-id-items.ensures ∙ c.in_ok-nexts.ensures) c.in_ok-close.ensures;
    }

pub returns-then-len-gt-MOST_CYCLES : goal.returns-then-len-gt-MOST_CYCLES
returns-then-len-gt-MOST_CYCLES t c = full _ _ (omega arith) c.loop-id.invariant.room ∙ c.loop-id.invariant.walk

pub loop-id-preserved : goal.loop-id-preserved
loop-id-preserved t c = record {
  room = rw c.in_ok-extend.ensures (within_limit _ _);
  walk = one_step c.args.waiting.now c.args.first.now.holding.id c.args.passed.now c.as_slice.result.now c.in-Some.fewer c.loop-id.found c.extend.new.found c.as_slice-id-items.result.now c.loop-id.id-index
      (record { thread = 0; index = 0 })
      (first_instances c.args.found.now (map (instance_after 0 (c.args.first.now.holding.id ∷ c.args.passed.now)) (completions c.args.waiting.now (takers_of c.args.waiting.now) c.args.first.now.holding.id c.args.passed.now c.args.last c.args.left)))
      c.loop-id-test.true (c.as_slice.ensures ∙ c.in_ok-longer.ensures) c.in_ok-extend.ensures c.loop-id.invariant.walk;
}

pub returns : goal.returns
returns t c =
    no_more c.loop-id.found c.loop-id.invariant.room
    ∙ ap (λ (ids : List EventId). first_instances c.loop-id.found (map (instance_after 0 (c.args.first.now.holding.id ∷ c.args.passed.now)) (flat_map (going_on c.args.waiting.now c.args.first.now.holding.id c.args.passed.now c.in-Some.fewer) ids)))
    (sym (drop_all c.loop-id.id-index c.as_slice-id-items.result.now c.loop-id-test.false))
    ∙ c.loop-id.invariant.walk

-- The cycles of one first event after another, up to the limit.
use Rattle.std.proofs.Common.{◌≡◌, ◌∙◌, [], ◌∷◌, ap, arith, get_or, List, map, subst, sym}
use Rattle.std.specs.List.{flat_map}
use Rattle.std.proofs.lemmas.List.{drop_all}
use Rattle.std.proofs.lemmas.List.Elements.{Contains-get_or}
use Rattle.gp_window.specs.declared.schedule.EventId.{EventId}
use Rattle.gp_instance.specs.Instances.{numbered}
use Rattle.gp_instance.specs.LimitLaws.{full, no_more, within_limit}
use Rattle.gp_instance.specs.Search.{first_instances, instance_after}
use Rattle.gp_stuck.specs.Search.{completions, cycles_from, found_cycles, takers_of}
use Rattle.gp_stuck.proofs.Limit.{start_step}
use Rattle.gp_stuck.proofs.listing.find_all.Goals as goal

pub returns-then-len-gt-MOST_CYCLES : goal.returns-then-len-gt-MOST_CYCLES
returns-then-len-gt-MOST_CYCLES c = full _ _ (omega arith) c.loop-id.invariant.room ∙ c.loop-id.invariant.walk

pub loop-id-preserved : goal.loop-id-preserved
loop-id-preserved c = record {
  holding = c.in_ok-begin_with.ensures.first.holding;
  narrows = c.in_ok-begin_with.ensures.narrows ∙ c.loop-id.invariant.narrows;
  room = rw c.in_ok-extend_first.ensures (within_limit _ _);
  walk = start_step c.args.waiting.now c.loop-id.found c.extend_first.new.found c.starts-id-items.result.now c.loop-id.id-index (record { thread = 0; index = 0 })
      (first_instances [] (map (numbered 0) (found_cycles c.args.waiting.now)))
      c.loop-id-test.true
      (subst (λ (id : EventId). c.extend_first.new.found ≡ first_instances c.loop-id.found (map (instance_after 0 (id ∷ [])) (completions c.args.waiting.now (takers_of c.args.waiting.now) id [] id 3)))
      c.in_ok-begin_with.ensures.there c.in_ok-extend_first.ensures)
      c.loop-id.invariant.walk;
}

pub returns : goal.returns
returns c =
    no_more c.loop-id.found c.loop-id.invariant.room
    ∙ ap (λ (ids : List EventId). first_instances c.loop-id.found (map (numbered 0) (flat_map (cycles_from c.args.waiting.now (takers_of c.args.waiting.now)) ids)))
    (sym (drop_all c.loop-id.id-index c.starts-id-items.result.now c.loop-id-test.false))
    ∙ c.loop-id.invariant.walk

pub begin_with-requires-clause-among : goal.begin_with-requires-clause-among
begin_with-requires-clause-among c =
    let id : EventId = record { thread = 0; index = 0 } in
    c.starts-id-items.ensures.among (get_or c.starts-id-items.result.now c.loop-id.id-index id)
    (Contains-get_or c.starts-id-items.result.now c.loop-id.id-index id c.loop-id-test.true)

pub begin_with-requires-clause-linked : goal.begin_with-requires-clause-linked
begin_with-requires-clause-linked c = λ narrows. c.requires.linked (sym c.loop-id.invariant.narrows ∙ narrows)

pub extend_first-requires-clause-linked : goal.extend_first-requires-clause-linked
extend_first-requires-clause-linked c = λ narrows. c.requires.linked (sym c.loop-id.invariant.narrows ∙ sym c.in_ok-begin_with.ensures.narrows ∙ narrows)

use Rattle.std.proofs.Common.{◌≡◌, ◌∙◌, ◌+◌, ◌<◌, ◌++◌, All, sym, subst, List, length, map, arith}
use Rattle.std.specs.Vec.Iter.{into_iter_items}
use Rattle.std.proofs.lemmas.List.Elements.{All-head, All-tail}
use Rattle.gp_certificate.specs.declared.step.Step.{Step}
use Rattle.gp_derivation.specs.Numbering.{with_hints}
use Rattle.gp_sharing.specs.Moving.{by_numbers, first_own, staying}
use Rattle.gp_sharing.proofs.NewNumbers.{all_kept, kept_more, movable_hints}
use Rattle.gp_sharing.proofs.Walks.{none_left}
use Rattle.gp_sharing.proofs.renumbering.renumber_staying.Goals as goal

pub loop-step-init : goal.loop-step-init
loop-step-init c =
    let all : into_iter_items c.into_iter-step-iterator.result ≡ c.args.steps = c.into_iter-step-iterator.ensures.into_iter_gives.0 ∙ c.into_vec-step-items.ensures in
    let bound = first_own c.args.sizes + length c.args.numbers.now in
    record {
      made = λ i. c.new-made.ensures.items i ++ map (with_hints (by_numbers c.args.sizes c.args.numbers.now)) (staying c.args.places.now (all i));
      below = subst (All (λ (step : Step). All (λ hint. hint < first_own c.args.sizes + length c.args.numbers.now) step.hints)) (sym all)
          (movable_hints (first_own c.args.sizes) bound c.args.steps c.requires.movable (omega (arith, c.requires.count)));
    }

pub keep-requires : goal.keep-requires
keep-requires c =
    let below = subst (All (λ (step : Step). All (λ hint. hint < first_own c.args.sizes + length c.args.numbers.now) step.hints)) c.in-Some.ensures.steps.0 c.loop-step.invariant.below in
    All-head (λ (step : Step). All (λ hint. hint < first_own c.args.sizes + length c.args.numbers.now) step.hints) c.in-Some.step (into_iter_items c.next.new.self) below

pub loop-step-preserved : goal.loop-step-preserved
loop-step-preserved c =
    let f = with_hints (by_numbers c.args.sizes c.args.numbers.now) in
    let rest : List Step = into_iter_items c.next.new.self in
    let below = subst (All (λ (step : Step). All (λ hint. hint < first_own c.args.sizes + length c.args.numbers.now) step.hints)) c.in-Some.ensures.steps.0 c.loop-step.invariant.below in
    record {
      made = kept_more f c.loop-step.later.now c.next_place-place.result.1.now (into_iter_items c.loop-step.step-iterator) rest c.in-Some.step c.loop-step.made.items c.keep.new.made.items
          (map f (staying c.args.places.now c.args.steps)) c.next_place-place.result.0 c.in-Some.ensures.steps.0 c.next_place-place.ensures.place c.next_place-place.ensures.later c.in_ok-keep.ensures c.loop-step.invariant.made;
      below = All-tail (λ (step : Step). All (λ hint. hint < first_own c.args.sizes + length c.args.numbers.now) step.hints) c.in-Some.step rest below;
    }

pub returns : goal.returns
returns c =
    let f = with_hints (by_numbers c.args.sizes c.args.numbers.now) in
    let left : List Step = into_iter_items c.loop-step.step-iterator in
    let none = none_left (into_iter_items c.loop-step.step-iterator) (sym c.loop-step.step-iterator.rest.ok.0 ∙ c.in-None.ensures.steps.0) in
    c.from_vec.ensures ∙ all_kept f c.loop-step.later.now left c.loop-step.made.items (map f (staying c.args.places.now c.args.steps)) none c.loop-step.invariant.made

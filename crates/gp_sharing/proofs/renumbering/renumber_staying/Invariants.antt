use Rattle.std.proofs.Common.{◌≡◌, ◌+◌, ◌<◌, ◌++◌, All, length, map}
use Rattle.std.specs.Vec.Iter.{into_iter_items}
use Rattle.gp_derivation.specs.Numbering.{with_hints}
use Rattle.gp_sharing.specs.Moving.{by_numbers, first_own, staying}
use Rattle.gp_sharing.proofs.renumbering.renumber_staying.Given as goal

abbrev pub invariant-loop-step : goal.invariant-loop-step
invariant-loop-step l = record {
  made : l.made.items ++ map (with_hints (by_numbers l.sizes l.numbers)) (staying l.later (into_iter_items l.step-iterator)) ≡ map (with_hints (by_numbers l.sizes l.numbers)) (staying l.places l.fn.steps);
  below : All (λ step. All (λ hint. hint < first_own l.sizes + length l.numbers) step.hints) (into_iter_items l.step-iterator);
}

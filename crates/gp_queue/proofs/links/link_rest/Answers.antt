use Rattle.std.proofs.Common.{ℕ, ◌+◌, ◌<◌, ◌≤◌, List, [], ◌∷◌, ◌++◌, length, arith, subst, sym, ◌∙◌, ap}
use Rattle.std.proofs.lemmas.List.{append_assoc}
use Rattle.gp_queue.specs.Order.{numbers_between}
use Rattle.gp_queue.specs.Links.{IsRing}
use Rattle.gp_queue.proofs.Rings.{end_gap}
use Rattle.gp_queue.proofs.Orders.{numbers_more}
use Rattle.gp_queue.proofs.links.link_rest.Goals as goal

pub link-requires-clause-gap : goal.link-requires-clause-gap
link-requires-clause-gap c =
    let order = c.requires.ring.0 in
    let ring = c.loop-number.invariant.3 order c.requires.ring.1 in
    let room : c.loop-number.number + 1 < length c.loop-number.next = omega arith in
    (c.loop-number.number + 1, order ++ numbers_between c.args.first c.loop-number.number, [], end_gap _ _ _ _ room ring)

pub loop-number-preserved : goal.loop-number-preserved
loop-number-preserved c =
    let room : c.loop-number.number + 1 < length c.loop-number.next = omega arith in
    let up : c.args.first ≤ c.loop-number.number = omega arith in (
      omega arith,
      omega arith,
      omega arith,
      λ order ring.
          let before : List ℕ = order ++ numbers_between c.args.first c.loop-number.number in
          let gap = end_gap _ _ _ before room (c.loop-number.invariant.3 order ring) in
          let one_more = append_assoc order (numbers_between c.args.first c.loop-number.number) (c.loop-number.number ∷ [])
          ∙ ap (λ l. order ++ l) (sym (numbers_more c.args.first c.loop-number.number up)) in
          subst (λ l. IsRing c.link.new.next c.link.new.prev (c.loop-number.number + 1) l) one_more (c.link.ensures (c.loop-number.number + 1) before [] gap),
    )

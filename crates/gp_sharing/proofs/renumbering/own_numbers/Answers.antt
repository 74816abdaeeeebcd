use Rattle.std.proofs.Common.{◌≡◌, ◌+◌, ◌∙◌, ap, sym, subst, ℕ, List, Option, None, length, get_or}
use Rattle.std.proofs.lemmas.List.{get_or_default, length_push}
use Rattle.gp_sharing.proofs.NewNumbers.{AreListed, counted_more, listed_more}
use Rattle.gp_sharing.proofs.renumbering.own_numbers.Goals as goal

pub loop-place-preserved : goal.loop-place-preserved
loop-place-preserved c =
    let sizes = c.args.sizes in
    let places : List (Option ℕ) = c.args.places.now in
    let i = c.loop-place.place-index in
    let numbers : List ℕ = c.loop-place.numbers.items in
    let place : Option ℕ = get_or c.args.places.now i None in
    let is : get_or c.args.places.now c.loop-place.place-index None ≡ get_or c.args.places.now c.loop-place.place-index (get_or c.args.places.now c.loop-place.place-index None) =
    get_or_default c.args.places.now c.loop-place.place-index None (get_or c.args.places.now c.loop-place.place-index None) c.loop-place-test.true in
    let items = c.in_ok-push.ensures.items in
    let count : length c.push.new.self.items ≡ c.loop-place.place-index + 1 = ap length items ∙ length_push c.loop-place.numbers.items c.number_at.result ∙ ap (λ (n : ℕ). n + 1) c.loop-place.invariant.0 in (
      count,
      (
        counted_more sizes c.args.size c.args.places.now i (get_or c.args.places.now i None) c.loop-place.next c.next_after-next.result c.loop-place-test.true is c.loop-place.invariant.1.0 c.next_after-next.ensures,
        subst (λ (xs : List ℕ). AreListed c.args.sizes c.args.size c.args.places.now xs (c.loop-place.place-index + 1)) (sym items)
            (listed_more sizes c.args.size c.args.places.now c.loop-place.numbers.items i (get_or c.args.places.now i None) c.loop-place.next c.number_at.result c.loop-place-test.true c.loop-place.invariant.0 is
            c.loop-place.invariant.1.0 c.number_at.ensures c.loop-place.invariant.1.1),
      ),
    )

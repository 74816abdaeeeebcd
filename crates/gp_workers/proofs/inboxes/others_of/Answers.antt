-- The numbers on both sides.
use Rattle.std.proofs.Common.{◌≡◌, ◌∙◌, ap, ℕ, ◌+◌, ◌-◌, List, ◌++◌, arith}
use Rattle.std.specs.List.{range_with_len}
use Rattle.gp_workers.proofs.inboxes.others_of.Goals as goal

pub returns : goal.returns
returns c =
    let taker = c.args.taker in
    let low : taker + 1 - 1 ≡ taker = omega arith in
    let high : c.args.workers + 1 - (taker + 2) ≡ c.args.workers - (taker + 1) = omega arith in
    c.in_ok-add_range-2.ensures
    ∙ ap (λ (ns : List ℕ). ns ++ range_with_len (taker + 2) (c.args.workers + 1 - (taker + 2)))
    (c.in_ok-add_range.ensures ∙ ap (λ (ns : List ℕ). ns ++ range_with_len 1 (taker + 1 - 1)) c.new-numbers.ensures.items ∙ ap (λ (n : ℕ). range_with_len 1 n) low)
    ∙ ap (λ (n : ℕ). range_with_len 1 taker ++ range_with_len (taker + 2) n) high

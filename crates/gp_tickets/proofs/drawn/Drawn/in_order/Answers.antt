-- What the whole crew drew is sorted by its numbers.
use Rattle.std.proofs.Common.{rules}
use Rattle.std.proofs.lemmas.List.Sorted.{IsNonDecreasingBy-from_sort_by_key}
use Rattle.gp_tickets.specs.declared.drawn.Made.{Made}
use Rattle.gp_tickets.proofs.Parts.{all_in_order}
use Rattle.gp_tickets.proofs.drawn.Drawn.in_order.Goals as goal

pub returns : goal.returns
returns g c tickets drawn all =
    let sorted = c.sort_unstable_by_key.new.self.items in
    all_in_order tickets c.args.self sorted _ drawn all c.sort_unstable_by_key.ensures.permutation
    (IsNonDecreasingBy-from_sort_by_key (λ (m : Made _). m.number) sorted c.sort_unstable_by_key.ensures.sorted (λ a r f called. search rules)) c.in_ok-values.ensures

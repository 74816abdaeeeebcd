use Rattle.std.proofs.Common.{ℕ, ◌∙◌, refl, sym, get_or, List, set}
use Rattle.std.proofs.lemmas.Bool.{false≢true}
use Rattle.std.proofs.lemmas.Option.{slice_get-get_or}
use Rattle.gp_cycle.specs.declared.order.Order.{Order}
use Rattle.gp_cycle.proofs.Spared.{counts_more}
use Rattle.gp_cycle.proofs.ends.count.Goals as goal

pub returns : goal.returns
returns c =
    let orders : List Order = c.args.orders.now in
    let place : ℕ = c.args.place in
    let none : Order = record { one = record { thread = 0; index = 0 }; other = record { thread = 0; index = 0 } } in
    counts_more orders c.args.counts.now (set c.args.counts.now place c.next_place-next.result) place c.next_place-next.result (get_or orders place none) c.requires.counts c.requires.within
    (slice_get-get_or orders place none c.requires.within) (λ dead. false≢true (sym c.if-is_dead_end.false ∙ c.is_dead_end.ensures.1 dead)) c.next_place-next.ensures refl

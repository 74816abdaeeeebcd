use Rattle.std.proofs.Common.{ℕ, ◌≡◌, ◌+◌, ◌-◌, refl, ap, sym, ◌∙◌, arith, length}
use Rattle.gp_cycle.specs.Cycle.{shortest}
use Rattle.gp_cycle.proofs.Leveled.{level_none}
use Rattle.gp_cycle.proofs.Tried.{found_whole, none_whole, tried_more}
use Rattle.gp_cycle.proofs.cycles.shortest_by.Goals as goal

pub loop-count-init : goal.loop-count-init
loop-count-init c = record {
  levels = c.requires ∙ level_none c.args.orders.now c.args.order;
  far = refl;
  left = let all : length c.args.orders.now - 0 ≡ length c.args.orders.now = omega arith in ap (λ (n : ℕ). shortest c.args.orders.now n 0 c.args.order c.args.order) all;
}

pub returns-in-Some : goal.returns-in-Some
returns-in-Some c =
    found_whole c.args.orders.now c.args.order c.loop-count._count c.loop-count.levels (shortest c.args.orders.now (length c.args.orders.now) 0 c.args.order c.args.order)
    c.in_ok-chain.field-0 c.in-Some.chain (omega (arith, c.loop-count-test.true)) c.loop-count.invariant c.in_ok-chain.ensures c.in-Some.is

pub loop-count-preserved : goal.loop-count-preserved
loop-count-preserved c =
    tried_more c.args.orders.now c.args.order c.loop-count._count (c.loop-count._count + 1) c.loop-count.levels c.add_level.new.self
    (shortest c.args.orders.now (length c.args.orders.now) 0 c.args.order c.args.order) c.in_ok-chain.field-0 refl (omega (arith, c.loop-count-test.true)) c.loop-count.invariant
    c.in_ok-chain.ensures c.in_default.is c.in_ok-add_level.ensures

pub returns-then-is_over : goal.returns-then-is_over
returns-then-is_over c =
    none_whole c.args.orders.now c.args.order c.loop-count._count (c.loop-count._count + 1) c.add_level.new.self
    (shortest c.args.orders.now (length c.args.orders.now) 0 c.args.order c.args.order) refl
    (tried_more c.args.orders.now c.args.order c.loop-count._count (c.loop-count._count + 1) c.loop-count.levels c.add_level.new.self
    (shortest c.args.orders.now (length c.args.orders.now) 0 c.args.order c.args.order) c.in_ok-chain.field-0 refl (omega (arith, c.loop-count-test.true)) c.loop-count.invariant
    c.in_ok-chain.ensures c.in_default.is c.in_ok-add_level.ensures)
    (sym c.is_over.ensures ∙ c.if-is_over.true)

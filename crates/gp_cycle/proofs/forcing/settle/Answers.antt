use Rattle.std.proofs.Common.{◌≡◌, ◌+◌, ◌-◌, refl, arith, length}
use Rattle.gp_cycle.specs.Forced.{sweeps}
use Rattle.gp_cycle.proofs.Swept.{last_sweep, one_sweep}
use Rattle.gp_cycle.proofs.forcing.settle.Goals as goal

pub returns-then-len-count : goal.returns-then-len-count
returns-then-len-count c =
    let same : length c.go_over.new.known ≡ length c.loop-round.known = omega (arith, c.len.ensures, c.len-count.ensures, c.if-len-count.true) in
    last_sweep (length c.args.clauses.now - c.loop-round._round) c.loop-round.known c.go_over.new.known (sweeps (length c.args.clauses.now) c.args.known.now c.args.clauses.now)
    c.args.clauses.now c.in_ok-go_over.ensures same c.loop-round.invariant

pub loop-round-preserved : goal.loop-round-preserved
loop-round-preserved c =
    one_sweep (length c.args.clauses.now) c.loop-round._round (c.loop-round._round + 1) c.loop-round.known c.go_over.new.known
    (sweeps (length c.args.clauses.now) c.args.known.now c.args.clauses.now) c.args.clauses.now (omega (arith, c.loop-round-test.true)) refl c.in_ok-go_over.ensures
    c.loop-round.invariant

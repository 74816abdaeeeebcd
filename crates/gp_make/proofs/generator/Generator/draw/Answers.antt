use Rattle.std.proofs.Common.{ap, ℕ, ◌*◌, ◌^◌}
use Rattle.std.proofs.Math.Nat.{mod-add-mod}
use Rattle.gp_make.specs.Draws.{after_draw, drawn}
use Rattle.gp_make.specs.declared.generator.Generator.{Generator}
use Rattle.gp_make.proofs.generator.Generator.draw.Goals as goal

pub returns-clause-value : goal.returns-clause-value
unfolding after_draw drawn
returns-clause-value c =
    rw (c.from.ensures, mod-add-mod (c.args.self.now.state * 6364136223846793005) (2 ^ 64) 1442695040888963407)

pub returns-clause-after : goal.returns-clause-after
unfolding after_draw
returns-clause-after c =
    let record_of : ℕ → Generator = λ state. record { state = state } in
    ap record_of (mod-add-mod (c.args.self.now.state * 6364136223846793005) (2 ^ 64) 1442695040888963407)

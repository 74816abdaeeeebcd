use Rattle.std.proofs.Common.{arith}
use Rattle.gp_make.specs.Texts.{change_of}
use Rattle.gp_make.proofs.Growing.{all_put, one_more}
use Rattle.gp_make.proofs.manifest.put_changes.Goals as goal

pub loop-variable-preserved : goal.loop-variable-preserved
loop-variable-preserved c =
    let n = c.loop-variable.variable in
    rw c.in_ok-put_change.ensures
    (one_more (change_of c.args.window c.args.before.now c.args.values.now) c.args.text.now.items c.loop-variable.text.items 0 n n (omega arith) c.loop-variable.invariant)

pub returns : goal.returns
returns c =
    all_put (change_of c.args.window c.args.before.now c.args.values.now) c.args.text.now.items c.loop-variable.text.items 0 c.loop-variable.variable 20 (omega arith) c.loop-variable.invariant

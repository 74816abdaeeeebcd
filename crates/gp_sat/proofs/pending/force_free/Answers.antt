use Rattle.std.proofs.Common.{Some, inr}
use Rattle.gp_sat.proofs.Stepping.{added_true}
use Rattle.gp_sat.proofs.pending.force_free.Goals as goal

pub force-requires-clause-named : goal.force-requires-clause-named
force-requires-clause-named c = c.requires.sound.named c.args.number c.args.lit c.requires.open.0

pub returns-in-Free-clause-holds : goal.returns-in-Free-clause-holds
returns-in-Free-clause-holds c = record {
  holds = added_true c.args.kernel.now c.force.new.self c.args.lit (Some c.args.number) c.force.ensures.is (c.requires.sound.named c.args.number c.args.lit c.requires.open.0) c.in-Free.ensures;
  sound = c.force.ensures.sound;
  how = inr (c.in-Free.ensures, c.force.ensures.is);
}

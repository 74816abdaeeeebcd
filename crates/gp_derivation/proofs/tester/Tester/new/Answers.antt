use Rattle.std.proofs.Common.{refl}
use Rattle.gp_derivation.proofs.tester.Tester.new.Goals as goal

pub new-requires-clause-valid : goal.new-requires-clause-valid
new-requires-clause-valid c = c.requires.valid

pub new-requires-clause-few : goal.new-requires-clause-few
new-requires-clause-few c = c.requires.few

pub new-requires-clause-locals : goal.new-requires-clause-locals
new-requires-clause-locals c = c.requires.locals

pub invariant_of-result : goal.invariant_of-result
invariant_of-result c = rw c.in_ok-bench.ensures (record { empty = refl; nothing = refl })

pub returns : goal.returns
returns c = rw c.in_ok-bench.ensures

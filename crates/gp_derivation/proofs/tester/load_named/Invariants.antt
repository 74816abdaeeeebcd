use Rattle.std.proofs.Common.{◌≡◌, take}
use Rattle.gp_derivation.specs.Log.{logged}
use Rattle.gp_certificate.specs.Step.{named}
use Rattle.gp_derivation.proofs.tester.load_named.Given as goal

abbrev pub invariant-loop-hint : goal.invariant-loop-hint
invariant-loop-hint l = l.bench ≡ record l.fn.bench { loaded = named (logged l.problem l.log) (take l.hint-index l.hints) }

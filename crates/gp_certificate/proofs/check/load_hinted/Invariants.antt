use Rattle.std.proofs.Common.{◌≡◌, ◌++◌, take}
use Rattle.gp_certificate.specs.Certificate.{clauses_of}
use Rattle.gp_certificate.specs.Step.{named}
use Rattle.gp_certificate.proofs.check.load_hinted.Given as goal

abbrev pub invariant-loop-hint : goal.invariant-loop-hint
invariant-loop-hint l = l.bench ≡ record l.fn.bench { loaded = named (l.base ++ clauses_of l.shared ++ clauses_of l.own) (take l.hint-index l.hints) }

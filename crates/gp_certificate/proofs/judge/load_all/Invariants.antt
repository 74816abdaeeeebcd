use Rattle.std.proofs.Common.{◌≡◌, ◌++◌, take}
use Rattle.gp_certificate.proofs.judge.load_all.Given as goal

abbrev pub invariant-loop-clause : goal.invariant-loop-clause
invariant-loop-clause l =
    l.bench ≡ record l.fn.bench { loaded = l.fn.bench.loaded ++ take l.clause-index l.clauses }

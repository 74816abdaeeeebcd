use Rattle.std.proofs.Common.{◌≡◌, sym, subst, ℕ, arith}
use Rattle.gp_raise.specs.Raised.{raised}
use Rattle.gp_raise.specs.RaisedLaws.{raised_by_nothing}
use Rattle.gp_raise.proofs.raising.raise.Goals as goal

-- src/raising.rt:21:9
pub returns-then-gained-eq0-clause-raised : goal.returns-then-gained-eq0-clause-raised
returns-then-gained-eq0-clause-raised c =
    let none : 0 ≡ c.args.gained = omega (arith, c.if-gained-eq0.true) in
    subst (λ (gained : ℕ). c.args.certificate ≡ raised c.args.clauses gained c.args.certificate) none (sym (raised_by_nothing c.args.clauses c.args.certificate))

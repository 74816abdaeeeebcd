use Rattle.std.proofs.Common.{length, ap, sym, ◌∙◌, subst}
use Rattle.gp_clause.specs.Clause.{NamesBelow}
use Rattle.gp_certificate.specs.Bench.{BenchForm}
use Rattle.gp_certificate.proofs.Readying.{ready_pushed, ready_same, coded_below}
use Rattle.gp_certificate.proofs.bench.Bench.load.Goals as goal

pub push-requires : goal.push-requires
push-requires c =
    let b = c.self.inside in
    coded_below (length b.kinds.items) b.loaded.rows c.args.lits.now c.self.invariant.rows (subst (λ (v : BenchForm). NamesBelow (length v.kinds) c.args.lits.now) (sym c.self.view_is) c.requires.within)

pub invariant_of-self : goal.invariant_of-self
invariant_of-self c = ready_same c.self.inside c.push.new.self c.self.invariant c.in_err-push.ensures.err

pub invariant_of-self-2 : goal.invariant_of-self-2
invariant_of-self-2 c =
    let b = c.self.inside in
    ready_pushed b c.push.new.self c.args.lits.now c.self.invariant (ap (λ (v : BenchForm). v.assumed) c.self.view_is ∙ c.requires.nothing) c.in_ok-push.ensures.ok
    (subst (λ (v : BenchForm). NamesBelow (length v.kinds) c.args.lits.now) (sym c.self.view_is) c.requires.within) c.requires.once

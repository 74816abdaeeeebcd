use Rattle.std.proofs.Common.{Contains, refl, subst}
use Rattle.std.proofs.lemmas.List.Sorted.{All-permutation}
use Rattle.gp_certificate.specs.Bench.{BenchForm}
use Rattle.gp_derivation.specs.Log.{logged}
use Rattle.gp_certificate.specs.Step.{Passes, named}
use Rattle.gp_derivation.specs.Tight.{IsTight}
use Rattle.gp_derivation.proofs.LeavingOut.{passes_sorted, tight_sorted, not_twice}
use Rattle.gp_derivation.proofs.tester.tightened.Goals as goal

pub unreachable-requires : goal.unreachable-requires
unreachable-requires c = not_twice c.in_ok-lits.lits.items c.in_ok-lits.ensures.once (c.in-Err.ensures.bad.0 refl)

pub returns-clause-some : goal.returns-clause-some
returns-clause-some c = All-permutation (Contains c.args.clause) c.in_ok-lits.lits.items c.in-Ok.tight c.in-Ok.ensures.sorted c.in_ok-lits.ensures.some

pub returns-clause-passes : goal.returns-clause-passes
returns-clause-passes c =
    let bench = c.args.bench.now in
    let P : BenchForm → Type 0 = λ b. Passes b.edges b.kinds b.loaded c.in_ok-lits.lits.items in
    passes_sorted bench.edges bench.kinds (named (logged c.args.problem.now c.args.log.now) c.args.hints.now) c.in_ok-lits.lits.items c.in-Ok.tight c.in-Ok.ensures.sorted
    (subst P c.in_ok-load_named.ensures.ok c.in_ok-lits.ensures.passes)

pub returns-clause-tight : goal.returns-clause-tight
returns-clause-tight c =
    let bench = c.args.bench.now in
    let P : BenchForm → Type 0 = λ b. Passes b.edges b.kinds b.loaded c.in_ok-lits.lits.items in
    let Q : BenchForm → Type 0 = λ b. IsTight b.edges b.kinds b.loaded c.in_ok-lits.lits.items in
    tight_sorted bench.edges bench.kinds (named (logged c.args.problem.now c.args.log.now) c.args.hints.now) c.in_ok-lits.lits.items c.in-Ok.tight c.in-Ok.ensures.sorted
    (subst P c.in_ok-load_named.ensures.ok c.in_ok-lits.ensures.passes) (subst Q c.in_ok-load_named.ensures.ok c.in_ok-lits.ensures.tight)

use Rattle.std.proofs.Common.{List, length, ℕ, All, sym, subst}
use Rattle.gp_clause.specs.Clause.{NamesBelow}
use Rattle.gp_derivation.specs.Log.{logged}
use Rattle.gp_certificate.specs.Step.{Passes, named}
use Rattle.gp_derivation.specs.Tight.{IsTight}
use Rattle.gp_derivation.proofs.tightening.tightened_step.Goals as goal

pub tighten-requires-clause-within : goal.tighten-requires-clause-within
tighten-requires-clause-within c =
    subst (λ (hints : List ℕ). All (NamesBelow (length c.args.tester.now.kinds)) (named (logged c.args.problem.now c.args.log.now) hints)) (sym c.as_slice.ensures) c.requires.within

pub tighten-requires-clause-passes : goal.tighten-requires-clause-passes
tighten-requires-clause-passes c =
    subst (λ (hints : List ℕ). Passes c.args.tester.now.edges c.args.tester.now.kinds (named (logged c.args.problem.now c.args.log.now) hints) c.args.step.clause) (sym c.as_slice.ensures) c.requires.passes

pub returns-clause-some : goal.returns-clause-some
returns-clause-some c = c.in_ok-clause.ensures.some

pub returns-clause-passes : goal.returns-clause-passes
returns-clause-passes c =
    subst (λ (hints : List ℕ). Passes c.args.tester.now.edges c.args.tester.now.kinds (named (logged c.args.problem.now c.args.log.now) hints) c.in_ok-clause.clause) c.as_slice.ensures c.in_ok-clause.ensures.passes

pub returns-clause-tight : goal.returns-clause-tight
returns-clause-tight c =
    subst (λ (hints : List ℕ). IsTight c.args.tester.now.edges c.args.tester.now.kinds (named (logged c.args.problem.now c.args.log.now) hints) c.in_ok-clause.clause) c.as_slice.ensures c.in_ok-clause.ensures.tight

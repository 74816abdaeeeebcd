use Rattle.std.proofs.Common.{length, All}
use Rattle.gp_clause.specs.Clause.{NamesBelow}
use Rattle.gp_certificate.specs.Step.{Passes}
use Rattle.gp_search.proofs.Teaching.{named_within, tightened, to_tester}
use Rattle.gp_search.proofs.engine.Engine.tighten.Goals as goal

pub tighten-requires-clause-within : goal.tighten-requires-clause-within
tighten-requires-clause-within c =
    to_tester c.args.asked.now.problem.now c.args.asked.now.query.now c.args.self.now c.args.step.hints c.as_slice-2.result.now c.as_slice.result.now (λ es ks cs. All (NamesBelow (length ks)) cs) c.requires.turning c.as_slice.ensures.value c.as_slice-2.ensures
    (named_within c.args.asked.now.problem.now c.args.asked.now.query.now c.args.self.now c.args.step c.requires.turning c.requires.studied)

pub tighten-requires-clause-passes : goal.tighten-requires-clause-passes
tighten-requires-clause-passes c =
    to_tester c.args.asked.now.problem.now c.args.asked.now.query.now c.args.self.now c.args.step.hints c.as_slice-2.result.now c.as_slice.result.now (λ es ks cs. Passes es ks cs c.args.step.clause) c.requires.turning c.as_slice.ensures.value c.as_slice-2.ensures
    c.requires.studied.passes.passes

pub returns-in-Ok-clause-tightened : goal.returns-in-Ok-clause-tightened
returns-in-Ok-clause-tightened c =
    tightened c.closure_is_least.ensures c.args.asked.now.problem.now c.args.asked.now.query.now c.args.self.now c.args.step c.as_slice-2.result.now c.as_slice.result.now c.in-Ok.tight c.requires.turning c.places.ensures.feasible c.requires.above
    c.requires.studied c.as_slice.ensures.value c.as_slice-2.ensures c.in-Ok.ensures.some c.in-Ok.ensures.passes c.in-Ok.ensures.tight

use Rattle.std.proofs.Common.{◌↔◌, IsTrue, refl, ap, sym, ◌∙◌, subst}
use Rattle.gp_certificate.specs.Bench.{BenchForm, stack_of}
use Rattle.gp_certificate.specs.ClauseList.{joined}
use Rattle.gp_certificate.specs.Lost.{is_lost}
use Rattle.gp_certificate.specs.Step.{Passes}
use Rattle.gp_certificate.proofs.Levelling.{stack_refuted}
use Rattle.gp_certificate.proofs.bench.Bench.is_refuted.Goals as goal

pub returns : goal.returns
returns c =
    let b = c.self.inside in
    subst (λ (v : BenchForm). IsTrue c.is_lost.result ↔ Passes v.edges v.kinds v.loaded (joined v.assumed)) c.self.view_is
    (stack_refuted c.closure_is_least.ensures b.places.edges b.kinds.items b.loaded.clauses (stack_of b) b.assignment c.is_lost.result refl c.self.invariant.kept c.self.invariant.once c.self.invariant.below c.self.invariant.stack
    (λ empty. c.requires (sym (ap (λ (v : BenchForm). v.assumed) c.self.view_is) ∙ empty)) (c.is_lost.ensures ∙ ap is_lost c.deref.ensures.value))

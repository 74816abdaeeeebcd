use Rattle.std.proofs.Common.{◌↔◌, IsTrue, sym, subst, All, Contains, List}
use Rattle.std.proofs.lemmas.Bool.{false≢true}
use Rattle.gp_clause.specs.declared.lit.Lit.{Lit}
use Rattle.gp_clause.specs.Lit.{opposite}
use Rattle.gp_decided.specs.Refuting.{AreNegations}
use Rattle.gp_decided.proofs.Told.{end_told, no_end}
use Rattle.gp_decided.proofs.judging.refutes_at_last.Goals as goal

pub returns-in-Some : goal.returns-in-Some
returns-in-Some c =
    let told = c.are_negated.result in
    let lits = subst (λ (lits : List Lit). IsTrue told ↔ All (λ lit. Contains c.as_slice.result.now (opposite lit)) lits) c.lits.ensures.lits c.are_negated.ensures in
    let tells = subst (λ (held : List Lit). IsTrue told ↔ All (λ lit. Contains held (opposite lit)) c.in-Some.step.now.clause) c.as_slice.ensures lits in
    end_told (AreNegations c.args.query.now) c.args.steps.now c.in-Some.step.now told (sym c.in-Some.ensures.value) tells

pub returns-in-None : goal.returns-in-None
returns-in-None c = (λ told. absurd (false≢true told), λ ends. absurd (no_end (AreNegations c.args.query.now) c.args.steps.now (sym c.in-None.ensures.value) ends))

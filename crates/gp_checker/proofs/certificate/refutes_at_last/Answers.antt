use Rattle.std.proofs.Common.{sym}
use Rattle.std.proofs.lemmas.Bool.{false≢true}
use Rattle.gp_checker.proofs.Lasts.{ends_told, none_refutes}
use Rattle.gp_checker.proofs.certificate.refutes_at_last.Goals as goal

pub returns-in-Some : goal.returns-in-Some
returns-in-Some c =
    ends_told c.args.query.now c.as_slice.result.now c.lits.result.now c.args.steps.now c.in-Some.step.now c.are_negated.result c.as_slice.ensures c.lits.ensures.lits (sym c.in-Some.ensures.value) c.are_negated.ensures

pub returns-in-None : goal.returns-in-None
returns-in-None c = (λ told. absurd (false≢true told), λ refutes. absurd (none_refutes c.args.query.now c.args.steps.now (sym c.in-None.ensures.value) refutes))

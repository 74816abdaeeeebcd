use Rattle.gp_certificate.proofs.Standing.{closing_more}
use Rattle.gp_certificate.proofs.assignment.Assignment.look.Goals as goal

pub returns-in-Due-clause-closing : goal.returns-in-Due-clause-closing
returns-in-Due-clause-closing c = λ clauses one start closing.
    closing_more start clauses c.args.self.now c.assign.new.self c.args.clause.now c.in-Due.lit closing c.assign.ensures.kept one c.in-Due.ensures c.assign.ensures.trail

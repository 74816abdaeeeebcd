use Rattle.gp_cases.proofs.Asked.{lifted_query}
use Rattle.gp_cases.proofs.evidence.signals.refutes.Goals as goal

pub check_certificate-passes-requires-clause-asked : goal.check_certificate-passes-requires-clause-asked
check_certificate-passes-requires-clause-asked c =
    lifted_query c.problems_are_valid.ensures c.extended_is_valid.ensures c.args.extended.now c.args.property.now c.args.instance.now.events
    c.problem-problem.result.now c.in_ok-query.query
    c.problem-problem.ensures.problem c.in_ok-query.ensures c.requires.encodable.points c.requires.few c.requires.instance

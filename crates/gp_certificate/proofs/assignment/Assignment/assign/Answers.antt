use Rattle.std.proofs.Common.{rules}
use Rattle.gp_certificate.proofs.Standing.{kept_more}
use Rattle.gp_certificate.proofs.assignment.Assignment.assign.Goals as goal

pub returns-clause-kept : goal.returns-clause-kept
returns-clause-kept c =
    kept_more c.args.self.now _ c.args.lit c.requires.kept c.requires.within c.requires.unassigned (search rules) c.push_reserved.ensures.items c.push_reserved.ensures.capacity

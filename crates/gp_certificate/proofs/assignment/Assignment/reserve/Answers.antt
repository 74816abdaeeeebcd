use Rattle.std.proofs.Common.{refl}
use Rattle.gp_certificate.proofs.Settling.{kept_same}
use Rattle.gp_certificate.proofs.assignment.Assignment.reserve.Goals as goal

pub returns-in_err-reserve-clause-kept : goal.returns-in_err-reserve-clause-kept
returns-in_err-reserve-clause-kept c = kept_same c.args.self.now _ c.requires refl c.reserve.ensures.items c.reserve.ensures.capacity

pub returns-in_err-reserve-2-clause-kept : goal.returns-in_err-reserve-2-clause-kept
returns-in_err-reserve-2-clause-kept c = kept_same c.args.self.now _ c.requires c.reserve-2.ensures.items c.reserve.ensures.items c.reserve.ensures.capacity

pub returns-clause-kept : goal.returns-clause-kept
returns-clause-kept c = kept_same c.args.self.now _ c.requires c.reserve-2.ensures.items c.reserve.ensures.items c.reserve.ensures.capacity

use Rattle.std.proofs.Common.{refl}
use Rattle.gp_certificate.proofs.Owning.{tested_none}
use Rattle.gp_certificate.proofs.judge.first_with.Goals as goal

pub returns-in_err-set_locals-clause-all : goal.returns-in_err-set_locals-clause-all
returns-in_err-set_locals-clause-all c = tested_none c.args.all.now c.args.all.now c.args.all.now.kinds refl

pub returns-in_err-set_locals-2-clause-all : goal.returns-in_err-set_locals-2-clause-all
returns-in_err-set_locals-2-clause-all c = tested_none c.args.all.now c.set_locals-2.new.self c.args.all.now.lasting c.in_err-set_locals-2.ensures.err

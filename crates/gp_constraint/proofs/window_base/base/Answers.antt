use Rattle.std.proofs.Common.{◌∙◌, ap, sym}
use Rattle.std.specs.Prelude.{Ok, Err}
use Rattle.gp_constraint.specs.EncodedLaws.{is_due}
use Rattle.gp_constraint.proofs.window_base.base.Goals as goal

pub returns-in-Ok : goal.returns-in-Ok
returns-in-Ok c = λ apart. ap Ok c.new.ensures ∙ sym (is_due c.args.window c.in-Ok.ensures.encodable)

pub returns-in-Err : goal.returns-in-Err
returns-in-Err c = λ apart. c.in-Err.ensures (λ same. apart (ap Err same))

use Rattle.std.proofs.Common.{sym, ◌∙◌}
use Rattle.gp_certificate.proofs.Owning.{own_number}
use Rattle.gp_certificate.proofs.check.numbered.Goals as goal

pub returns : goal.returns
returns c = c.clause_at.ensures ∙ sym (own_number c.args.base.now c.args.shared.now c.args.own.now c.args.number c.if-number-base.false c.if-place-shared.false)

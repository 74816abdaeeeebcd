use Rattle.std.proofs.Common.{rules, ◌≡◌, length, ap, arith}
use Rattle.gp_certificate.specs.ClauseList.{ListForm}
use Rattle.gp_certificate.proofs.Splitting.{many}
use Rattle.gp_certificate.proofs.clause_list.ClauseList.len.Goals as goal

pub returns : goal.returns
returns c =
    let size : c.len.result ≡ length c.self.inside.ends.items = search rules in
    omega (arith, size, ap (λ (l : ListForm). length l.lists) c.self.view_is, many c.self.inside.lits.items c.self.inside.ends.items c.self.invariant)

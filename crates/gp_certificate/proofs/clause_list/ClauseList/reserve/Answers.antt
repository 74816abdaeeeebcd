use Rattle.std.proofs.Common.{rules, ◌≡◌, length, List, ℕ, ap, arith, vec_len}
use Rattle.gp_certificate.specs.ClauseList.{pieces}
use Rattle.gp_certificate.proofs.Splitting.{many}
use Rattle.gp_certificate.proofs.clause_list.ClauseList.reserve.Goals as goal

pub returns-clause-places : goal.returns-clause-places
returns-clause-places c =
    let same : length (pieces 0 c.reserve-2.new.self.items c.reserve.new.self.items) ≡ length (pieces 0 c.self.inside.ends.items c.self.inside.lits.items) =
    λ i. length (pieces 0 (c.reserve-2.ensures.items i) (c.reserve.ensures.items i)) in
    let size : vec_len c.reserve-2.new.self ≡ length c.reserve-2.new.self.items = search rules in
    omega (arith, same, size, ap (λ (es : List ℕ). length es) c.reserve-2.ensures.items, many c.self.inside.lits.items c.self.inside.ends.items c.self.invariant, c.in_ok-reserve-2.ensures.ok)

use Rattle.std.proofs.Common.{ap, ◌∙◌, ◌≡◌, ◌+◌, ℕ, suc, List, arith}
use Rattle.std.specs.Prelude.{find}
use Rattle.gp_constraint.specs.declared.point.Point.{Point}
use Rattle.gp_constraint.specs.Sections.{ends_hold}
use Rattle.gp_constraint.proofs.Tabled.{end_found}
use Rattle.gp_constraint.proofs.sections.end_of.Goals as goal

pub returns : goal.returns
returns c =
    let thread : ℕ = c.args.p.now.id.thread in
    let from : ℕ = c.from-from.result + 1 in
    let is : from ≡ suc c.args.p.now.id.index = (let own = c.from-from.ensures in omega (arith, own)) in
    c.first_end.ensures
    ∙ ap (λ (uses : List Point). find (ends_hold c.args.mode c.args.lock.now thread from) uses) c.uses_of.ensures
    ∙ end_found c.args.mode c.args.lock.now thread from c.args.points.now
    ∙ ap (λ (n : ℕ). find (ends_hold c.args.mode c.args.lock.now thread n) c.args.points.now) is

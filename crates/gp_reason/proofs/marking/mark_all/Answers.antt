use Rattle.std.proofs.Common.{◌≡◌, ℕ, ◌∙◌, ap, arith}
use Rattle.std.specs.Prelude.{◌&&◌, ◌||◌, nat_le, nat_lt}
use Rattle.gp_reason.specs.Marks.{is_marked}
use Rattle.gp_reason.proofs.Marked.{no_number, one_number}
use Rattle.gp_reason.proofs.marking.mark_all.Goals as goal

pub loop-other-init : goal.loop-other-init
loop-other-init c = λ one. no_number c.args.first one (is_marked c.args.marks.now one)

pub loop-other-preserved : goal.loop-other-preserved
loop-other-preserved c = λ one.
    one_number c.loop-other.marks c.args.first c.loop-other.other one (is_marked c.args.marks.now one) (omega arith) (omega arith) (c.loop-other.invariant one)

pub returns : goal.returns
returns c = λ one.
    let end : c.loop-other.other ≡ c.args.number = omega arith in
    c.loop-other.invariant one ∙ ap (λ (n : ℕ). is_marked c.args.marks.now one || (nat_le c.args.first one && nat_lt one n)) end

use Rattle.std.proofs.Common.{◌+◌, length, refl}
use Rattle.gp_reason.proofs.Marked.{none_told, told_marked}
use Rattle.gp_reason.proofs.marking.mark_told.Goals as goal

pub returns-in_default : goal.returns-in_default
returns-in_default c = none_told c.args.marks.now c.args.base c.args.shared.now c.args.own.now c.in_default.ensures.cases c.requires.fresh

pub returns : goal.returns
returns c =
    told_marked c.args.base (c.args.base + length c.args.shared.now) (c.args.base + length c.args.shared.now + length c.in-Some.earlier.now) c.args.shared.now c.args.own.now
    c.in-Some.earlier.now c.in-Some.last.now c.mark_last.new.marks c.mark_earlier.new.marks c.mark_earlier-2.new.marks c.in-Some.ensures.cases.0 refl refl
    c.mark_last.ensures.cited c.mark_last.ensures.last c.mark_earlier.ensures c.mark_earlier-2.ensures

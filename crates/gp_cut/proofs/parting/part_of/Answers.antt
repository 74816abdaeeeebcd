use Rattle.std.proofs.Common.{◌-◌, arith}
use Rattle.gp_cut.specs.Parts.{weights_of}
use Rattle.gp_cut.proofs.Parted.{ends, rises}
use Rattle.gp_cut.proofs.parting.part_of.Goals as goal

pub overflow_sub-result : goal.overflow_sub-result
overflow_sub-result c =
    let there = rises (c.args.part - 1) c.args.part c.args.parts (weights_of c.args.recording.now) (omega arith) in
    omega (arith, there, c.windows_to-before.ensures, c.windows_to.ensures)

pub returns-clause-within : goal.returns-clause-within
returns-clause-within c =
    let there = rises (c.args.part - 1) c.args.part c.args.parts (weights_of c.args.recording.now) (omega arith) in
    let later = rises c.args.part c.args.parts c.args.parts (weights_of c.args.recording.now) c.requires.last in
    let all = ends c.args.parts c.args.recording.now (omega arith) in
    omega (arith, there, later, all, c.windows_to-before.ensures, c.windows_to.ensures)

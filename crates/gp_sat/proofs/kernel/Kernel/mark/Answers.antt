use Rattle.std.proofs.Common.{◌≡◌, sym, ◌∙◌, ap, subst, ◌<◌, Some, length, arith}
use Rattle.std.proofs.lemmas.Result.{on_ok_weaker}
use Rattle.gp_sat.specs.State.{SolverForm, assigned}
use Rattle.gp_sat.specs.Sound.{IsSound}
use Rattle.gp_sat.specs.SolverLaws.{within_values}
use Rattle.std.specs.BinaryHeap.{heap_items}
use Rattle.gp_sat.proofs.Queueing.{added_marks, added_queued}
use Rattle.gp_sat.proofs.kernel.Kernel.mark.Goals as goal

pub returns-in-Some-clause-marked : goal.returns-in-Some-clause-marked
returns-in-Some-clause-marked c =
    let within : c.args.lit.variable < length c.args.marking.now.marks.items = omega (arith, c.requires.size, within_values c.args.self.now.values c.args.lit.variable c.requires.assigned.0 c.requires.assigned.1) in
    on_ok_weaker c.add.result (added_marks c.args.marking.now.marks.items c.add.new.self.marks.items (heap_items c.args.marking.now.places) (heap_items c.add.new.self.places) c.args.lit c.in-Some.a.place within) c.add.ensures.added

pub returns-in-Some-clause-queued : goal.returns-in-Some-clause-queued
returns-in-Some-clause-queued c =
    let s : SolverForm = c.args.self.now in
    let sound : IsSound s = subst (λ (t : SolverForm). IsSound t) c.self.view_is c.self.invariant.sound in
    let within : c.args.lit.variable < length c.args.marking.now.marks.items = omega (arith, c.requires.size, within_values s.values c.args.lit.variable c.requires.assigned.0 c.requires.assigned.1) in
    let is : assigned s c.args.lit.variable ≡ Some c.in-Some.a =
    sym (c.in-Some.ensures ∙ ap (λ (t : SolverForm). assigned t c.args.lit.variable) c.self.view_is) in
    on_ok_weaker c.add.result (added_queued s c.args.marking.now.marks.items c.add.new.self.marks.items (heap_items c.args.marking.now.places) (heap_items c.add.new.self.places) c.args.lit.variable c.in-Some.a sound within is) c.add.ensures.added

use Rattle.std.proofs.Common.{◌≡◌, sym, ap, subst, ℕ, ◌+◌, ◌<◌, Some, List, [], length, inr, arith}
use Rattle.std.specs.BinaryHeap.{heap_items, heap_len}
use Rattle.gp_clause.specs.declared.lit.Lit.{Lit}
use Rattle.gp_sat.specs.declared.analysis.Stop.{Stop}
use Rattle.gp_sat.specs.declared.assigned.Assigned.{Assigned}
use Rattle.gp_sat.specs.State.{SolverForm, assigned}
use Rattle.gp_sat.specs.Standing.{IsFalse, Each}
use Rattle.gp_sat.specs.Sound.{IsSound}
use Rattle.gp_sat.specs.Marking.{IsMarked}
use Rattle.gp_sat.specs.Queueing.{AreQueued, IsMarkedOrBefore}
use Rattle.gp_sat.specs.Walking.{IsWalked, IsSearched}
use Rattle.gp_sat.proofs.Starting.{walk_start}
use Rattle.gp_sat.proofs.Leading.{searched_start, searched_down, lowest_start}
use Rattle.gp_sat.proofs.Visiting.{walked_down}
use Rattle.gp_sat.proofs.Queueing.{IsTaken, queued_none, queued_taken, queued_over, nil_of}
use Rattle.gp_sat.proofs.kernel.Kernel.walk_down.Goals as goal

pub mark_all-requires-clause-assigned : goal.mark_all-requires-clause-assigned
mark_all-requires-clause-assigned c = λ lit among. let fell : IsFalse (assigned c.args.self.now) lit = c.requires.conflict lit among in (fell.0, fell.1)

pub loop-next-init : goal.loop-next-init
loop-next-init c =
    let s : SolverForm = c.args.self.now in
    let sound : IsSound s = subst (λ (t : SolverForm). IsSound t) c.self.view_is c.self.invariant.sound in
    let place : c.len-place.result ≡ length s.trail = omega (arith, c.len-place.ensures, ap (λ (t : SolverForm). length t.trail) c.self.view_is) in
    let each : Each (IsMarkedOrBefore s (length s.trail) c.args.marking.now.marks.items) c.args.conflict.now = λ lit among.
    let fell : IsFalse (assigned s) lit = c.requires.conflict lit among in inr (fell.0, fell.1, sound.ordered.within lit.variable fell.0 fell.1) in
    let queued : AreQueued s (length s.trail) c.mark_all.new.marking.marks.items (heap_items c.mark_all.new.marking.places) = c.in_ok-mark_all.ensures.queued (length s.trail) each
    (queued_none s (length s.trail) c.args.marking.now.marks.items (heap_items c.args.marking.now.places) c.requires.clear.empty c.requires.clear.ordered c.requires.clear.none) in
    let walked : IsWalked s c.args.stop (length s.trail) c.mark_all.new.marking.marks.items [] [] =
    walk_start s c.args.stop c.args.conflict.now c.args.marking.now.marks.items c.mark_all.new.marking.marks.items sound c.requires.clear.size c.requires.clear.none c.in_ok-mark_all.ensures.marked c.requires.conflict c.requires.present in
    let searched : IsSearched s c.args.conflict.now (length s.trail) c.mark_all.new.marking.marks.items [] =
    searched_start s c.args.conflict.now c.args.marking.now.marks.items c.mark_all.new.marking.marks.items sound c.requires.clear.none c.in_ok-mark_all.ensures.marked in
    record {
      within = omega (arith, place);
      listed = c.mark_all.ensures.listed;
      queued = subst (λ (n : ℕ). AreQueued s n c.mark_all.new.marking.marks.items (heap_items c.mark_all.new.marking.places)) (sym place) queued;
      walked = subst (λ (n : ℕ). IsWalked s c.args.stop n c.mark_all.new.marking.marks.items c.new.result.items c.new-2.result.items) (sym place)
          (subst (λ (ls : List Lit). IsWalked s c.args.stop (length s.trail) c.mark_all.new.marking.marks.items ls c.new-2.result.items) (sym c.new.ensures.items)
          (subst (λ (hs : List ℕ). IsWalked s c.args.stop (length s.trail) c.mark_all.new.marking.marks.items [] hs) (sym c.new-2.ensures.items) walked));
      started = c.in_ok-mark_all.ensures.marked.all;
      lowest = lowest_start s c.args.marking.now.marks.items c.mark_all.new.marking.marks.items c.args.conflict.now c.len-place.result c.lowest_of.result place c.requires.clear.none c.in_ok-mark_all.ensures.marked c.lowest_of.ensures;
      searched = λ _. subst (λ (n : ℕ). IsSearched s c.args.conflict.now n c.mark_all.new.marking.marks.items c.new.result.items) (sym place)
          (subst (λ (ls : List Lit). IsSearched s c.args.conflict.now (length s.trail) c.mark_all.new.marking.marks.items ls) (sym c.new.ensures.items) searched);
    }

pub visit-requires-clause-within : goal.visit-requires-clause-within
visit-requires-clause-within c =
    let taken : IsTaken c.args.self.now c.loop-next.place c.loop-next.marking.marks.items c.in-Some.next (heap_items c.pop.new.self) =
    queued_taken c.args.self.now c.loop-next.place c.loop-next.marking.marks.items (heap_items c.loop-next.marking.places) (heap_items c.pop.new.self) c.in-Some.next c.in-Some.ensures.permutation c.in-Some.ensures.heap_order c.loop-next.invariant.queued in
    omega (arith, taken.below, c.loop-next.invariant.within)

pub visit-requires-clause-marked : goal.visit-requires-clause-marked
visit-requires-clause-marked c =
    let taken : IsTaken c.args.self.now c.loop-next.place c.loop-next.marking.marks.items c.in-Some.next (heap_items c.pop.new.self) =
    queued_taken c.args.self.now c.loop-next.place c.loop-next.marking.marks.items (heap_items c.loop-next.marking.places) (heap_items c.pop.new.self) c.in-Some.next c.in-Some.ensures.permutation c.in-Some.ensures.heap_order c.loop-next.invariant.queued in
    taken.marked

pub visit-requires-clause-walked : goal.visit-requires-clause-walked
visit-requires-clause-walked c =
    let taken : IsTaken c.args.self.now c.loop-next.place c.loop-next.marking.marks.items c.in-Some.next (heap_items c.pop.new.self) =
    queued_taken c.args.self.now c.loop-next.place c.loop-next.marking.marks.items (heap_items c.loop-next.marking.places) (heap_items c.pop.new.self) c.in-Some.next c.in-Some.ensures.permutation c.in-Some.ensures.heap_order c.loop-next.invariant.queued in
    walked_down c.args.self.now c.args.stop c.loop-next.place (c.in-Some.next + 1) c.loop-next.marking.marks.items c.loop-next.walk.lits.items c.loop-next.walk.hints.items (omega (arith, taken.below)) taken.greatest c.loop-next.invariant.walked

pub visit-requires-clause-queued : goal.visit-requires-clause-queued
visit-requires-clause-queued c =
    let taken : IsTaken c.args.self.now c.loop-next.place c.loop-next.marking.marks.items c.in-Some.next (heap_items c.pop.new.self) =
    queued_taken c.args.self.now c.loop-next.place c.loop-next.marking.marks.items (heap_items c.loop-next.marking.places) (heap_items c.pop.new.self) c.in-Some.next c.in-Some.ensures.permutation c.in-Some.ensures.heap_order c.loop-next.invariant.queued in
    taken.queued

pub loop-next-smaller : goal.loop-next-smaller
loop-next-smaller c =
    let taken : IsTaken c.args.self.now c.loop-next.place c.loop-next.marking.marks.items c.in-Some.next (heap_items c.pop.new.self) =
    queued_taken c.args.self.now c.loop-next.place c.loop-next.marking.marks.items (heap_items c.loop-next.marking.places) (heap_items c.pop.new.self) c.in-Some.next c.in-Some.ensures.permutation c.in-Some.ensures.heap_order c.loop-next.invariant.queued in
    taken.below

pub loop-next-preserved : goal.loop-next-preserved
loop-next-preserved c =
    let s : SolverForm = c.args.self.now in
    let taken : IsTaken c.args.self.now c.loop-next.place c.loop-next.marking.marks.items c.in-Some.next (heap_items c.pop.new.self) =
    queued_taken c.args.self.now c.loop-next.place c.loop-next.marking.marks.items (heap_items c.loop-next.marking.places) (heap_items c.pop.new.self) c.in-Some.next c.in-Some.ensures.permutation c.in-Some.ensures.heap_order c.loop-next.invariant.queued in
    record {
      within = omega (arith, taken.below, c.loop-next.invariant.within);
      listed = c.visit.ensures.listed;
      queued = c.in_ok-visit.ensures.queued;
      walked = c.in_ok-visit.ensures.walked;
      started = λ lit among. c.in_ok-visit.ensures.kept lit.variable (c.loop-next.invariant.started lit among);
      lowest = c.in_ok-visit.ensures.lowest;
      searched = λ first. c.in_ok-visit.ensures.searched first c.args.conflict.now
          (searched_down s c.args.conflict.now c.loop-next.place (c.in-Some.next + 1) c.loop-next.marking.marks.items c.loop-next.walk.lits.items c.loop-next.walk.hints.items (omega (arith, taken.below)) taken.greatest
          (subst (λ (t : Stop). IsWalked s t c.loop-next.place c.loop-next.marking.marks.items c.loop-next.walk.lits.items c.loop-next.walk.hints.items) first c.loop-next.invariant.walked) (c.loop-next.invariant.searched first));
    }

pub returns-clause-walked : goal.returns-clause-walked
returns-clause-walked c =
    let s : SolverForm = c.args.self.now in
    let count : heap_len c.loop-next.marking.places ≡ 0 = c.in_default.ensures.none in
    let empty : heap_items c.loop-next.marking.places ≡ [] = nil_of (heap_items c.loop-next.marking.places) (omega (arith, count)) in
    let over : (v : ℕ) (a : Assigned) → assigned s v ≡ Some a → IsMarked c.loop-next.marking.marks.items v → a.place < c.loop-next.place → a.place < 0 = queued_over s c.loop-next.place c.loop-next.marking.marks.items (heap_items c.loop-next.marking.places) empty c.loop-next.invariant.queued in
    record {
      marks = c.loop-next.marking.marks.items;
      walked = walked_down s c.args.stop c.loop-next.place 0 c.loop-next.marking.marks.items c.loop-next.walk.lits.items c.loop-next.walk.hints.items (omega arith) over c.loop-next.invariant.walked;
      started = c.loop-next.invariant.started;
      searched = λ first. searched_down s c.args.conflict.now c.loop-next.place 0 c.loop-next.marking.marks.items c.loop-next.walk.lits.items c.loop-next.walk.hints.items (omega arith) over
          (subst (λ (t : Stop). IsWalked s t c.loop-next.place c.loop-next.marking.marks.items c.loop-next.walk.lits.items c.loop-next.walk.hints.items) first c.loop-next.invariant.walked) (c.loop-next.invariant.searched first);
    }

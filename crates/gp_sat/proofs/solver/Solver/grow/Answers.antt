use Rattle.std.proofs.Common.{◌≡◌, sym, ◌∙◌, ap, subst, ℕ, ◌+◌, ◌-◌, ◌*◌, ◌≤◌, Option, None, ◌++◌, length, arith}
use Rattle.std.specs.Prelude.{replicate}
use Rattle.std.proofs.lemmas.List.{length-append, length-replicate}
use Rattle.gp_sat.specs.declared.assigned.Assigned.{Assigned}
use Rattle.gp_sat.specs.State.{SolverForm}
use Rattle.gp_sat.specs.WatchesForm.{WatchesForm}
use Rattle.gp_sat.specs.Stepping.{IsReady}
use Rattle.gp_sat.specs.Queueing.{AreClear}
use Rattle.gp_sat.proofs.Outer.{ready_grown, ready_room}
use Rattle.gp_sat.proofs.solver.Solver.grow.Goals as goal

pub invariant_of-self : goal.invariant_of-self
invariant_of-self c = record {
  ready = ready_room c.self.inside.kernel c.self.inside.watches c.reserve_lists.new.self c.reserve_lists.new.self.heads_room c.self.inside.watches.slots_room c.self.inside.watches.shorts_room c.in_err-reserve_lists.ensures.same c.self.invariant.ready;
  clear = c.self.invariant.clear;
}

pub invariant_of-self-in_err-reserve : goal.invariant_of-self-in_err-reserve
invariant_of-self-in_err-reserve c = record {
  ready = ready_room c.self.inside.kernel c.self.inside.watches c.reserve_lists.new.self c.reserve_lists.new.self.heads_room c.self.inside.watches.slots_room c.self.inside.watches.shorts_room c.in_ok-reserve_lists.ensures.same c.self.invariant.ready;
  clear = c.reserve.ensures.clear (length c.self.inside.kernel.values) c.self.invariant.clear;
}

pub invariant_of-self-in_err-grow : goal.invariant_of-self-in_err-grow
invariant_of-self-in_err-grow c = record {
  ready = subst (λ (s : SolverForm). IsReady s c.reserve_lists.new.self) (sym c.in_err-grow.ensures.err)
      (ready_room c.self.inside.kernel c.self.inside.watches c.reserve_lists.new.self c.reserve_lists.new.self.heads_room c.self.inside.watches.slots_room c.self.inside.watches.shorts_room c.in_ok-reserve_lists.ensures.same c.self.invariant.ready);
  clear = subst (λ (s : SolverForm). AreClear (length s.values) c.reserve.new.self) (sym c.in_err-grow.ensures.err) (c.reserve.ensures.clear (length c.self.inside.kernel.values) c.self.invariant.clear);
}

pub invariant_of-self-2 : goal.invariant_of-self-2
invariant_of-self-2 c =
    let longer : length c.self.inside.kernel.values ≤ c.args.variables = omega (arith, c.requires, ap (λ (s : SolverForm). length s.values) c.self.view_is) in
    let size : length c.grow.new.self.values ≡ c.args.variables = omega (
      arith,
      longer,
      ap (λ (s : SolverForm). length s.values) c.in_ok-grow.ensures.ok,
      length-append c.self.inside.kernel.values (replicate {A = Option Assigned} (c.args.variables - length c.self.inside.kernel.values) None),
      length-replicate {A = Option Assigned} (c.args.variables - length c.self.inside.kernel.values) None,
    ) in
    record {
      ready = ready_grown c.self.inside.kernel c.grow.new.self c.self.inside.watches c.widen.new.self c.args.variables c.reserve_lists.new.self.heads_room
          longer c.ranges.variables.fits c.in_ok-grow.ensures.ok
          (c.widen.ensures ∙ ap (λ (l : WatchesForm). record l { heads = l.heads ++ replicate (2 * c.args.variables + 2 - length l.heads) 0 }) c.in_ok-reserve_lists.ensures.same) c.self.invariant.ready;
      clear = subst (λ (n : ℕ). AreClear n c.widen-2.new.self) (sym size) (c.widen-2.ensures (length c.self.inside.kernel.values) (c.reserve.ensures.clear (length c.self.inside.kernel.values) c.self.invariant.clear));
    }

pub returns-clause-sound : goal.returns-clause-sound
returns-clause-sound c =
    let ready : IsReady c.grow.new.self c.widen.new.self = ready_grown c.self.inside.kernel c.grow.new.self c.self.inside.watches c.widen.new.self c.args.variables c.reserve_lists.new.self.heads_room
    (omega (arith, c.requires, ap (λ (s : SolverForm). length s.values) c.self.view_is)) c.ranges.variables.fits c.in_ok-grow.ensures.ok
    (c.widen.ensures ∙ ap (λ (l : WatchesForm). record l { heads = l.heads ++ replicate (2 * c.args.variables + 2 - length l.heads) 0 }) c.in_ok-reserve_lists.ensures.same) c.self.invariant.ready in
    ready.idle.sound

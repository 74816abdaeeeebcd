use Rattle.std.proofs.Common.{◌≡◌, sym, ap, subst, length, arith}
use Rattle.gp_search.specs.declared.engine.Engine.{Engine}
use Rattle.gp_search.specs.Inside.{IsIdle}
use Rattle.gp_search.proofs.Turns.{retired_more, retired_same, retired_enough, same_more, undone_more, finished}
use Rattle.gp_search.proofs.engine.Engine.finish.Goals as goal

pub loop-place-preserved : goal.loop-place-preserved
loop-place-preserved c =
    let next = ap (λ (e : Engine). e.solver) c.retire_unless_pure.ensures in
    let marks : c.loop-place.self.pure.items ≡ c.args.self.now.pure.items = ap (λ (e : Engine). e.pure.items) c.loop-place.invariant.same in
    record {
      done = retired_more (length c.args.asked.now.problem.now.clauses) c.args.self.now.begins c.loop-place.place c.args.self.now.pure.items c.args.self.now.solver c.loop-place.self.solver c.retire_unless_pure.new.self.solver c.loop-place.auto.place
          (retired_same c.loop-place.self.pure.items c.args.self.now.pure.items c.len-bases.result (length c.args.asked.now.problem.now.clauses) c.loop-place.place c.loop-place.self.solver c.retire_unless_pure.new.self.solver next marks c.len-bases.ensures)
          c.loop-place.invariant.done;
      same = same_more c.args.self.now c.loop-place.self c.retire_unless_pure.new.self _ c.loop-place.invariant.same c.retire_unless_pure.ensures;
      undone = undone_more c.args.self.now.graph c.loop-place.self c.retire_unless_pure.new.self _ c.loop-place.invariant.undone c.retire_unless_pure.ensures;
    }

pub returns-clause-idle : goal.returns-clause-idle
returns-clause-idle c =
    let P : Engine → Type 0 = λ e. IsIdle c.args.asked.now.problem.now e in
    subst P (sym c.loop-place.invariant.same)
    (finished c.args.asked.now.problem.now c.args.asked.now.query.now c.args.self.now c.loop-place.self.solver c.loop-place.self.graph c.log_grows.ensures c.requires
    (retired_enough (length c.args.asked.now.problem.now.clauses) c.args.self.now.begins c.loop-place.place (length c.args.self.now.log.items) c.args.self.now.pure.items c.args.self.now.solver c.loop-place.self.solver
    (omega (arith, c.len-place-end.ensures, c.loop-place-test.false)) c.loop-place.invariant.done) c.loop-place.invariant.undone)

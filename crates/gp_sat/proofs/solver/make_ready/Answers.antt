use Rattle.std.proofs.Common.{◌≡◌, refl, sym, subst, ℕ, ◌≤◌, length}
use Rattle.gp_sat.specs.declared.propagation.Propagated.{Propagated}
use Rattle.gp_sat.specs.declared.propagation.Propagated.TheVariants.{Quiet, False}
use Rattle.gp_sat.specs.State.{SolverForm, assigned, clause_at}
use Rattle.gp_sat.specs.Standing.{IsClosed, IsFalse, IsQuiet}
use Rattle.gp_sat.specs.Sound.{IsSound}
use Rattle.gp_sat.specs.Changes.{IsPropagated}
use Rattle.gp_sat.proofs.Steps.{closed_adds_none}
use Rattle.gp_sat.proofs.solver.make_ready.Goals as goal

-- where the trail was closed, no clause is false
at_end : (s : SolverForm) (cursor : ℕ) (result : Propagated) → IsClosed s s.level → IsSound s → IsPropagated s result → (result ≡ Quiet → length s.trail ≤ cursor) → length s.trail ≤ cursor
at_end s cursor Quiet closed sound answer end = end refl
at_end s cursor (False number) closed sound answer end =
    let quiet : IsQuiet s.level (assigned s) (clause_at s.clauses number) = closed number answer.0 in
    absurd (quiet.not_false (λ lit among. let fell : IsFalse (assigned s) lit = answer.1 lit among in (fell.0, fell.1, fell.2, (sound.ordered.present lit.variable fell.0 fell.1).0)))

pub returns-then-cursor-end-clause-same : goal.returns-then-cursor-end-clause-same
returns-then-cursor-end-clause-same c = closed_adds_none c.args.kernel.now c.run.new.kernel c.requires.ready.idle.sound c.run.ensures.ready.idle.sound c.requires.closed c.run.ensures.added

pub returns-then-cursor-end-clause-end : goal.returns-then-cursor-end-clause-end
returns-then-cursor-end-clause-end c =
    let same : c.run.new.kernel ≡ c.args.kernel.now = closed_adds_none c.args.kernel.now c.run.new.kernel c.requires.ready.idle.sound c.run.ensures.ready.idle.sound c.requires.closed c.run.ensures.added in
    at_end c.run.new.kernel c.run.new.watches.cursor c.run.result (subst (λ (s : SolverForm). IsClosed s s.level) (sym same) c.requires.closed) c.run.ensures.ready.idle.sound c.run.ensures.answer c.run.ensures.end

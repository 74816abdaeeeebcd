use Rattle.std.proofs.Common.{ap, ℕ, ◌<◌, List, length, arith}
use Rattle.gp_sat.specs.Stored.{Stored}
use Rattle.gp_clause.specs.declared.lit.Lit.{Lit}
use Rattle.gp_sat.specs.State.{SolverForm}
use Rattle.gp_sat.specs.WatchesForm.{WatchesForm}
use Rattle.gp_sat.specs.Watching.{watch_at}
use Rattle.gp_sat.specs.Stepping.{IsDone}
use Rattle.gp_sat.specs.Changes.{Propagates}
use Rattle.gp_sat.specs.Choosing.{IsMore, IsShorter, left_over}
use Rattle.gp_sat.proofs.Watched.{watched_closed}
use Rattle.gp_sat.proofs.Adopting.{ready_more}
use Rattle.gp_sat.proofs.propagation.advance.Goals as goal
use Rattle.gp_sat.specs.SolverLaws.{trail_counts}

-- a walk moves the cursor by one
less_walked : (s t : SolverForm) (w left : WatchesForm) → Propagates s t → IsDone t w left → w.cursor < length s.values → left_over t left < left_over s w
less_walked s t w left added done within = omega (arith, within, ap (λ (cs : List Stored). length cs) added.clauses, added.variables, done.linked, done.cursor, ap (λ (xs : List ℕ). length xs) done.kept.shorts, done.kept.looked)

-- one more clause was linked
less_linked : (s t : SolverForm) (w left : WatchesForm) → Propagates s t → IsMore t w left → w.linked < length s.clauses → left_over t left < left_over s w
less_linked s t w left added more within = omega (arith, within, ap (λ (cs : List Stored). length cs) added.clauses, added.variables, more.linked, more.cursor, ap (λ (xs : List ℕ). length xs) more.kept.shorts, more.kept.looked)

-- one more short clause was looked at
less_looked : (s t : SolverForm) (w left : WatchesForm) → Propagates s t → IsShorter t w left → left_over t left < left_over s w
less_looked s t w left added shorter = omega (arith, shorter.fewer, ap (λ (cs : List Stored). length cs) added.clauses, added.variables, shorter.linked, shorter.cursor)

pub returns-in-None-clause-advanced : goal.returns-in-None-clause-advanced
returns-in-None-clause-advanced c = (
  ready_more c.args.kernel.now c.link_next.new.kernel c.args.watches.now c.link_next.new.watches c.in-None.ensures.added c.in-None.ensures.linked.kept c.in-None.ensures.linked.idle c.requires,
  less_linked c.args.kernel.now c.link_next.new.kernel c.args.watches.now c.link_next.new.watches c.in-None.ensures.added c.in-None.ensures.linked (omega (arith, c.if-linked-clause_count.true, c.linked.ensures, c.clause_count.ensures)),
)

pub returns-in-None-look_at_short-clause-advanced : goal.returns-in-None-look_at_short-clause-advanced
returns-in-None-look_at_short-clause-advanced c = (
  c.in-None-look_at_short.ensures.ready,
  less_looked c.args.kernel.now c.look_at_short.new.kernel c.args.watches.now c.look_at_short.new.watches c.in-None-look_at_short.ensures.added c.in-None-look_at_short.ensures.looked,
)

pub returns-in-None-walk-clause-advanced : goal.returns-in-None-walk-clause-advanced
returns-in-None-walk-clause-advanced c = (
  ready_more c.args.kernel.now c.walk.new.kernel c.args.watches.now c.walk.new.watches c.in-None-walk.ensures.added c.in-None-walk.ensures.walked.kept c.in-None-walk.ensures.walked.idle c.requires,
  less_walked c.args.kernel.now c.walk.new.kernel c.args.watches.now c.walk.new.watches c.in-None-walk.ensures.added c.in-None-walk.ensures.walked
      (omega (arith, trail_counts c.args.kernel.now.values c.args.kernel.now.trail c.args.kernel.now.level c.requires.idle.sound.ordered, c.if-cursor-trail.true, c.cursor.ensures, ap (λ (ts : List Lit). length ts) c.trail.ensures.trail)),
)

pub returns-in-Some-clause-advanced : goal.returns-in-Some-clause-advanced
returns-in-Some-clause-advanced c = (
  ready_more c.args.kernel.now c.link_next.new.kernel c.args.watches.now c.link_next.new.watches c.in-Some.ensures.added c.in-Some.ensures.linked.kept c.in-Some.ensures.linked.idle c.requires,
  c.in-Some.ensures.linked.conflict,
)

pub returns-in-Some-look_at_short-clause-advanced : goal.returns-in-Some-look_at_short-clause-advanced
returns-in-Some-look_at_short-clause-advanced c = (c.in-Some-look_at_short.ensures.ready, c.in-Some-look_at_short.ensures.looked)

pub returns-in-Some-walk-clause-advanced : goal.returns-in-Some-walk-clause-advanced
returns-in-Some-walk-clause-advanced c = (
  ready_more c.args.kernel.now c.walk.new.kernel c.args.watches.now c.walk.new.watches c.in-Some-walk.ensures.added c.in-Some-walk.ensures.walked.kept c.in-Some-walk.ensures.walked.idle c.requires,
  c.in-Some-walk.ensures.walked.conflict,
)

pub returns-clause-advanced : goal.returns-clause-advanced
returns-clause-advanced c = (
  c.requires,
  watched_closed c.args.kernel.now (watch_at c.args.watches.now.slots) c.args.watches.now.linked c.args.watches.now.cursor (λ x. ⊥) c.args.watches.now.shorts c.args.watches.now.looked c.requires.idle.sound (λ x never. never)
      (omega (arith, c.if-linked-clause_count.false, c.linked.ensures, c.clause_count.ensures))
      (omega (arith, c.if-cursor-trail.false, c.cursor.ensures, ap (λ (ts : List Lit). length ts) c.trail.ensures.trail))
      (c.shorts_left.ensures.no c.if-shorts_left.false) c.requires.short c.requires.idle.watched,
  omega (arith, c.if-cursor-trail.false, c.cursor.ensures, ap (λ (ts : List Lit). length ts) c.trail.ensures.trail),
)

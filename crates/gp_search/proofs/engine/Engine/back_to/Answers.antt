use Rattle.std.proofs.Common.{refl, ap, List, length}
use Rattle.gp_clause.specs.declared.lit.Lit.{Lit}
use Rattle.gp_search.proofs.Trails.{begun_at, went_back, mark_within}
use Rattle.gp_search.proofs.engine.Engine.back_to.Goals as goal

pub undo_to-requires : goal.undo_to-requires
undo_to-requires c =
    mark_within c.args.asked.now.problem.now c.args.asked.now.query.now c.args.self.now c.backjump.new.self c.args.level c.index-begun.result.now c.requires.turning c.backjump.ensures.back c.requires.below
    (begun_at c.args.asked.now.problem.now c.args.asked.now.query.now c.args.self.now c.args.level c.index-begun.result.now c.requires.turning c.requires.below c.index-begun.ensures)

pub returns-clause-turning : goal.returns-clause-turning
returns-clause-turning c =
    went_back c.args.asked.now.problem.now c.args.asked.now.query.now c.args.self.now _ c.args.level c.index-begun.result.now c.requires.turning c.backjump.ensures.sound c.requires.below (record {
      same = record { log = refl; pure = refl; begins = refl; learned = refl; tester = refl };
      back = c.backjump.ensures.back;
      begun_is = begun_at c.args.asked.now.problem.now c.args.asked.now.query.now c.args.self.now c.args.level c.index-begun.result.now c.requires.turning c.requires.below c.index-begun.ensures;
      graph = c.undo_to.ensures;
      asserted = ap (λ (ls : List Lit). length ls) c.trail.ensures.trail;
      assumed = c.min-self.ensures;
      levels = c.truncate.ensures.items;
      next = refl;
    })

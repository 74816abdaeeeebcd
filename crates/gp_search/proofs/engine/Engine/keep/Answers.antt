use Rattle.std.proofs.Common.{refl, sym, ◌∙◌, ap, subst, Bool, List, [], ◌∷◌, ◌++◌}
use Rattle.gp_derivation.specs.declared.log.LogEntry.{LogEntry}
use Rattle.gp_search.specs.Moves.{RestsOnMarked, raised}
use Rattle.gp_search.proofs.Logging.{logged, may_learn}
use Rattle.gp_search.proofs.Taught.{entry_of}
use Rattle.gp_search.proofs.engine.Engine.keep.Goals as goal

pub returns-clause-turning : goal.returns-clause-turning
returns-clause-turning c =
    let P : List Bool → Type 0 = λ marks. RestsOnMarked c.args.asked.now.problem.now marks c.args.step in
    logged c.args.asked.now.problem.now c.args.asked.now.query.now c.args.self.now _ (entry_of c.args.step) c.is_pure-pure.result c.requires.turning c.raise_all.ensures.sound
    (record {
      order = raised c.args.step.clause c.args.self.now.solver.order;
      solver = c.raise_all.ensures.raised ∙ (λ i. record (c.in-Ok.ensures.ok i) { order = raised (c.lits.ensures.lits i) (c.in-Ok.ensures.ok i).order });
      graph = refl;
      log = c.push_reserved-2.ensures.items ∙ ap (λ (es : List LogEntry). es ++ entry_of c.args.step ∷ []) c.attach_next.ensures.log;
      pure = c.push_reserved.ensures.items ∙ ap (λ (bs : List Bool). bs ++ c.is_pure-pure.result ∷ []) c.attach_next.ensures.pure;
      begins = refl;
      tester = refl;
      asserted = refl;
      assumed = refl;
      levels = refl;
      next = refl;
    })
    (may_learn c.args.asked.now.problem.now c.args.asked.now.query.now c.args.self.now c.args.step c.is_pure-pure.result c.log_grows.ensures c.requires.turning (
      (λ is. subst P c.attach_next.ensures.pure (c.is_pure-pure.ensures.0 is)),
      (λ rests. c.is_pure-pure.ensures.1 (subst P (sym c.attach_next.ensures.pure) rests)),
    )
    c.requires.lesson c.lits.ensures.rising c.requires.few)

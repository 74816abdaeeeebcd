use Rattle.std.proofs.Common.{◌≡◌, refl, sym, ◌∙◌, ap, subst, ◌<◌, ℕ, true, List, [], ◌∷◌, ◌++◌, length, arith}
use Rattle.std.proofs.lemmas.List.Elements.{All-weaker}
use Rattle.gp_clause.specs.declared.lit.Lit.{Lit}
use Rattle.gp_derivation.specs.declared.log.LogEntry.{LogEntry}
use Rattle.gp_derivation.specs.declared.log.Origin.TheVariants.{Taken}
use Rattle.gp_sat.specs.State.{SolverForm}
use Rattle.gp_search.specs.Mail.{taken_entry}
use Rattle.gp_search.proofs.Logging.{MayLog, good_below, logged, may_take}
use Rattle.gp_search.proofs.engine.Engine.log_taken.Goals as goal

pub attach-requires-clause-named : goal.attach-requires-clause-named
attach-requires-clause-named c =
    All-weaker (λ (lit : Lit). lit.variable < length c.args.asked.now.problem.now.kinds) (λ (lit : Lit). lit.variable < length c.args.self.now.solver.values)
    (λ lit low. omega (arith, low, c.requires.taking.turning.whole.variables)) c.args.shared.clause (good_below c.args.asked.now.problem.now c.args.shared c.requires.good)

pub returns-clause-taking : goal.returns-clause-taking
returns-clause-taking c =
    let old : List LogEntry = c.args.self.now.log.items in
    let entry : LogEntry = taken_entry c.args.shared in
    let log : c.push_reserved-2.new.self.items ≡ old ++ entry ∷ [] =
    c.push_reserved-2.ensures.items
    ∙ (λ i. old ++ record { step = record { clause = c.args.shared.clause; hints = c.new-hints.ensures i }; origin = Taken c.args.shared.sender c.args.shared.certificate } ∷ []) in
    let learned : c.len-self.result ≡ length (old ++ entry ∷ []) = omega (arith, c.len-self.ensures, ap (λ (es : List LogEntry). length es) log) in
    record {
      turning = logged c.args.asked.now.problem.now c.args.asked.now.query.now c.args.self.now _ entry true c.requires.taking.turning c.in_ok-attach.ensures.sound
          (record {
            order = c.args.self.now.solver.order;
            solver = c.in_ok-attach.ensures.ok;
            graph = refl;
            log = log;
            pure = c.push_reserved.ensures.items;
            begins = refl;
            tester = refl;
            asserted = refl;
            assumed = refl;
            levels = refl;
            next = refl;
          })
          (subst (λ (n : ℕ). MayLog c.args.asked.now.problem.now c.args.asked.now.query.now old c.args.self.now.begins n entry true) (sym learned)
          (may_take c.args.asked.now.problem.now c.args.asked.now.query.now c.args.self.now c.args.shared c.log_grows.ensures c.requires.taking c.requires.good c.requires.few));
      bottom = ap (λ (s : SolverForm). s.level) c.in_ok-attach.ensures.ok ∙ c.requires.taking.bottom;
      learned = omega (arith, c.len-self.ensures);
    }

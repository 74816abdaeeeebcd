use Rattle.std.proofs.Common.{◌∙◌, sym, ap, subst, ℕ, List, length}
use Rattle.std.specs.Prelude.{IfOk, OnOk}
use Rattle.gp_derivation.specs.declared.log.LogEntry.{LogEntry}
use Rattle.gp_search.specs.Verdict.{IsDue, Learns, LearnsAndShares, SearchForm}
use Rattle.gp_search.proofs.Running.{all_learned, learns}
use Rattle.gp_search.proofs.search.Search.ask.Goals as goal

pub returns-clause-none_taken : goal.returns-clause-none_taken
returns-clause-none_taken g c = λ never.
    c.finish.ensures.learned ∙ (c.turn-verdict.ensures.none never ∙ ap (λ (search : SearchForm). length search.log) c.self.view_is)

pub returns-clause-log : goal.returns-clause-log
returns-clause-log g c =
    let P : List LogEntry → ℕ → Type 0 = λ log from. Learns c.self.inside.problem.now c.args.query.now c.args.budget c.self.inside.engine.log.items log from in
    let Q : SearchForm → Type 0 = λ search. Learns search.problem c.args.query.now c.args.budget search.log c.finish.new.self.log.items c.finish.new.self.learned in
    subst Q c.self.view_is (subst (λ (log : List LogEntry). P log c.finish.new.self.learned) (sym c.finish.ensures.same) (subst (P c.turn-verdict.new.self.log.items) (sym c.finish.ensures.learned)
    (learns c.self.inside.problem.now c.args.query.now c.args.budget c.self.inside.engine c.turn-verdict.new.self c.turn-verdict.ensures.whole c.turn-verdict.ensures.begins c.turn-verdict.ensures.grown)))

pub returns-clause-shares : goal.returns-clause-shares
returns-clause-shares g c =
    let before = g.M.Mail.told c.args.mail.now in
    let after = g.M.Mail.told c.turn-verdict.new.mail in
    let P : List LogEntry → ℕ → Type 0 = λ log from. OnOk c.turn-verdict.result (LearnsAndShares c.self.inside.problem.now c.args.query.now c.args.budget c.self.inside.engine.log.items log from before after) in
    let Q : SearchForm → Type 0 = λ search. OnOk c.turn-verdict.result (LearnsAndShares search.problem c.args.query.now c.args.budget search.log c.finish.new.self.log.items c.finish.new.self.learned before after) in
    subst Q c.self.view_is (subst (λ (log : List LogEntry). P log c.finish.new.self.learned) (sym c.finish.ensures.same) (subst (P c.turn-verdict.new.self.log.items) (sym c.finish.ensures.learned)
    (all_learned c.turn-verdict.result c.self.inside.problem.now c.args.query.now c.args.budget c.self.inside.engine c.turn-verdict.new.self before after c.turn-verdict.ensures.whole c.turn-verdict.ensures.begins c.turn-verdict.ensures.shares)))

pub returns-clause-verdict : goal.returns-clause-verdict
returns-clause-verdict g c =
    let P : List LogEntry → ℕ → Type 0 = λ log from. IfOk c.turn-verdict.result (IsDue c.self.inside.problem.now c.args.query.now c.args.budget log (length c.self.inside.engine.log.items) from) in
    let Q : SearchForm → Type 0 = λ search. IfOk c.turn-verdict.result (IsDue search.problem c.args.query.now c.args.budget c.finish.new.self.log.items (length search.log) c.finish.new.self.learned) in
    subst Q c.self.view_is (subst (λ (log : List LogEntry). P log c.finish.new.self.learned) (sym c.finish.ensures.same) (subst (P c.turn-verdict.new.self.log.items) (sym c.finish.ensures.learned) c.turn-verdict.ensures.verdict))

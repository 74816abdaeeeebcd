use Rattle.std.proofs.Common.{sym, subst, ℕ, ◌<◌, length}
use Rattle.gp_sat.specs.State.{IsAttached, clause_at}
use Rattle.gp_sat.proofs.Adopting.{idle_passed, idle_adopted, IsGoodPair, open_pair, more_passed, more_adopted, code_in, unit_more}
use Rattle.gp_sat.proofs.pending.link_next.Goals as goal

pub adopt-requires-clause-one : goal.adopt-requires-clause-one
adopt-requires-clause-one c = code_in c.args.kernel.now c.args.watches.now c.linked-number.result c.in-Open.one c.requires.idle c.in-Open.ensures.0.0

pub adopt-requires-clause-two : goal.adopt-requires-clause-two
adopt-requires-clause-two c = code_in c.args.kernel.now c.args.watches.now c.linked-number.result c.in-Open.two c.requires.idle c.in-Open.ensures.1.0

pub adopt-requires-in-Unit-clause-two : goal.adopt-requires-in-Unit-clause-two
adopt-requires-in-Unit-clause-two c = code_in c.args.kernel.now c.args.watches.now c.linked-number.result c.in-Unit.two c.requires.idle c.in-Unit.ensures.2.within

pub returns-then-not-is_attached-clause-linked : goal.returns-then-not-is_attached-clause-linked
returns-then-not-is_attached-clause-linked c = more_passed c.args.kernel.now c.args.watches.now c.pass.new.self c.pass.ensures
    (idle_passed c.args.kernel.now c.args.watches.now c.requires.within (λ attached. absurd (c.if-not-is_attached.ensures (subst (λ (n : ℕ). IsAttached c.args.kernel.now.clauses n) (sym c.linked-number.ensures) attached))) c.requires.idle)

pub returns-in-Open-clause-linked : goal.returns-in-Open-clause-linked
returns-in-Open-clause-linked c = more_adopted c.args.kernel.now c.args.watches.now c.adopt.new.self c.in-Open.one c.in-Open.two c.adopt.ensures
    (idle_adopted c.args.kernel.now c.args.watches.now c.in-Open.one c.in-Open.two c.requires.within
    (subst (λ (n : ℕ). IsGoodPair c.args.kernel.now n c.args.watches.now.cursor c.in-Open.one c.in-Open.two) c.linked-number.ensures
    (open_pair c.args.kernel.now c.linked-number.result c.args.watches.now.cursor c.in-Open.one c.in-Open.two c.in-Open.ensures.0 c.in-Open.ensures.1)) c.requires.idle)

pub returns-in-Lone-clause-linked : goal.returns-in-Lone-clause-linked
returns-in-Lone-clause-linked c = more_passed c.args.kernel.now c.args.watches.now c.pass-in-Lone.new.self c.pass-in-Lone.ensures
    (idle_passed c.args.kernel.now c.args.watches.now c.requires.within (λ _. subst (λ (n : ℕ). length (clause_at c.args.kernel.now.clauses n) < 2) c.linked-number.ensures c.in-Lone.ensures.2) c.requires.idle)

pub returns-in-Unit-clause-linked : goal.returns-in-Unit-clause-linked
returns-in-Unit-clause-linked c = unit_more c.args.kernel.now c.force_free.new.kernel c.args.watches.now c.adopt-in-Unit.new.self c.linked-number.result c.in-Unit.one c.in-Unit.two c.linked-number.ensures c.requires.within c.force_free.ensures.holds c.if-not-is_attached.ensures
    c.in-Unit.ensures.0 c.in-Unit.ensures.1 c.in-Unit.ensures.2 c.adopt-in-Unit.ensures c.requires.idle

use Rattle.std.proofs.Common.{◌≡◌, sym, ◌∙◌, ap, subst, ◌<◌, Some, List, [], ◌∷◌, length}
use Rattle.std.specs.Prelude.{Contains}
use Rattle.gp_clause.specs.declared.lit.Lit.{Lit}
use Rattle.gp_sat.specs.Stored.{Stored}
use Rattle.gp_sat.specs.State.{assigned, clause_at, IsAttached}
use Rattle.gp_sat.specs.Standing.{IsFalse}
use Rattle.gp_sat.specs.Choosing.{IsShorter}
use Rattle.gp_sat.proofs.Steps.{propagates_none}
use Rattle.gp_sat.proofs.Stepping.{added_true}
use Rattle.gp_sat.proofs.Adopting.{idle_more, short_dropped, short_passed, short_few, short_only, short_unit, in_one, in_none, none_is}
use Rattle.gp_sat.proofs.pending.look_at_short.Goals as goal

pub first_lit-requires : goal.first_lit-requires
first_lit-requires c = (short_few c.args.kernel.now c.args.watches.now c.next_short-number.result c.requires.within c.next_short-number.ensures c.requires.ready).0

pub force-requires-clause-named : goal.force-requires-clause-named
force-requires-clause-named c =
    let only : clause_at c.args.kernel.now.clauses c.next_short-number.result ≡ c.in-Some.lit ∷ [] = short_only c.args.kernel.now c.args.watches.now c.next_short-number.result c.in-Some.lit c.requires.within c.next_short-number.ensures c.requires.ready c.in-Some.ensures in
    let named : c.in-Some.lit.variable < length c.args.kernel.now.values = c.requires.ready.idle.sound.named c.next_short-number.result c.in-Some.lit (short_unit c.args.kernel.now c.next_short-number.result c.in-Some.lit only c.in-Free.ensures).within in
    named

pub force-requires-clause-unit : goal.force-requires-clause-unit
force-requires-clause-unit c =
    let only : clause_at c.args.kernel.now.clauses c.next_short-number.result ≡ c.in-Some.lit ∷ [] = short_only c.args.kernel.now c.args.watches.now c.next_short-number.result c.in-Some.lit c.requires.within c.next_short-number.ensures c.requires.ready c.in-Some.ensures in
    short_unit c.args.kernel.now c.next_short-number.result c.in-Some.lit only c.in-Free.ensures

pub returns-then-not-is_attached-clause-looked : goal.returns-then-not-is_attached-clause-looked
returns-then-not-is_attached-clause-looked c = short_dropped c.args.kernel.now c.args.watches.now c.drop_short.new.self c.next_short-number.result c.requires.within c.next_short-number.ensures c.if-not-is_attached.ensures c.drop_short.ensures c.requires.ready

pub returns-then-not-is_attached-clause-ready : goal.returns-then-not-is_attached-clause-ready
returns-then-not-is_attached-clause-ready c =
    let shorter : IsShorter c.args.kernel.now c.args.watches.now c.drop_short.new.self = short_dropped c.args.kernel.now c.args.watches.now c.drop_short.new.self c.next_short-number.result c.requires.within c.next_short-number.ensures c.if-not-is_attached.ensures c.drop_short.ensures c.requires.ready in
    shorter.ready

pub returns-in-None-clause-looked : goal.returns-in-None-clause-looked
returns-in-None-clause-looked c = (
  c.if-not-is_attached.ensures,
  λ lit among. absurd (in_none lit (subst (λ (ls : List Lit). Contains ls lit) (none_is (clause_at c.args.kernel.now.clauses c.next_short-number.result) (sym c.in-None.ensures)) among)),
)

pub returns-in-False-clause-looked : goal.returns-in-False-clause-looked
returns-in-False-clause-looked c =
    let only : clause_at c.args.kernel.now.clauses c.next_short-number.result ≡ c.in-Some.lit ∷ [] = short_only c.args.kernel.now c.args.watches.now c.next_short-number.result c.in-Some.lit c.requires.within c.next_short-number.ensures c.requires.ready c.in-Some.ensures in
    (c.if-not-is_attached.ensures, λ lit among. subst (λ (l : Lit). IsFalse (assigned c.args.kernel.now) l) (in_one c.in-Some.lit lit (subst (λ (ls : List Lit). Contains ls lit) only among)) c.in-False.ensures)

pub returns-in-True-clause-looked : goal.returns-in-True-clause-looked
returns-in-True-clause-looked c =
    let only : clause_at c.args.kernel.now.clauses c.next_short-number.result ≡ c.in-Some.lit ∷ [] = short_only c.args.kernel.now c.args.watches.now c.next_short-number.result c.in-Some.lit c.requires.within c.next_short-number.ensures c.requires.ready c.in-Some.ensures in
    short_passed c.args.kernel.now c.args.kernel.now c.args.watches.now c.pass_short.new.self c.next_short-number.result c.in-Some.lit c.requires.within c.next_short-number.ensures c.if-not-is_attached.ensures only c.in-True.ensures c.requires.ready.idle (propagates_none c.args.kernel.now) c.pass_short.ensures c.requires.ready

pub returns-in-True-clause-ready : goal.returns-in-True-clause-ready
returns-in-True-clause-ready c =
    let only : clause_at c.args.kernel.now.clauses c.next_short-number.result ≡ c.in-Some.lit ∷ [] = short_only c.args.kernel.now c.args.watches.now c.next_short-number.result c.in-Some.lit c.requires.within c.next_short-number.ensures c.requires.ready c.in-Some.ensures in
    let shorter : IsShorter c.args.kernel.now c.args.watches.now c.pass_short.new.self = short_passed c.args.kernel.now c.args.kernel.now c.args.watches.now c.pass_short.new.self c.next_short-number.result c.in-Some.lit c.requires.within c.next_short-number.ensures c.if-not-is_attached.ensures only c.in-True.ensures c.requires.ready.idle (propagates_none c.args.kernel.now) c.pass_short.ensures c.requires.ready in
    shorter.ready

pub returns-in-Free-clause-looked : goal.returns-in-Free-clause-looked
returns-in-Free-clause-looked c =
    let only : clause_at c.args.kernel.now.clauses c.next_short-number.result ≡ c.in-Some.lit ∷ [] = short_only c.args.kernel.now c.args.watches.now c.next_short-number.result c.in-Some.lit c.requires.within c.next_short-number.ensures c.requires.ready c.in-Some.ensures in
    let named : c.in-Some.lit.variable < length c.args.kernel.now.values = c.requires.ready.idle.sound.named c.next_short-number.result c.in-Some.lit (short_unit c.args.kernel.now c.next_short-number.result c.in-Some.lit only c.in-Free.ensures).within in
    short_passed c.args.kernel.now c.force.new.self c.args.watches.now c.pass_short-in-Free.new.self c.next_short-number.result c.in-Some.lit c.requires.within c.next_short-number.ensures
    (subst (λ (cs : List Stored). IsAttached cs c.next_short-number.result) (sym c.force.ensures.added.clauses) c.if-not-is_attached.ensures)
    (ap (λ (cs : List Stored). clause_at cs c.next_short-number.result) c.force.ensures.added.clauses ∙ only)
    (added_true c.args.kernel.now c.force.new.self c.in-Some.lit (Some c.next_short-number.result) c.force.ensures.is named c.in-Free.ensures)
    (idle_more c.args.kernel.now c.force.new.self c.args.watches.now c.in-Some.lit (Some c.next_short-number.result) c.force.ensures.is c.force.ensures.sound named c.in-Free.ensures c.requires.ready.idle)
    c.force.ensures.added c.pass_short-in-Free.ensures c.requires.ready

pub returns-in-Free-clause-ready : goal.returns-in-Free-clause-ready
returns-in-Free-clause-ready c =
    let only : clause_at c.args.kernel.now.clauses c.next_short-number.result ≡ c.in-Some.lit ∷ [] = short_only c.args.kernel.now c.args.watches.now c.next_short-number.result c.in-Some.lit c.requires.within c.next_short-number.ensures c.requires.ready c.in-Some.ensures in
    let named : c.in-Some.lit.variable < length c.args.kernel.now.values = c.requires.ready.idle.sound.named c.next_short-number.result c.in-Some.lit (short_unit c.args.kernel.now c.next_short-number.result c.in-Some.lit only c.in-Free.ensures).within in
    let shorter : IsShorter c.force.new.self c.args.watches.now c.pass_short-in-Free.new.self = short_passed c.args.kernel.now c.force.new.self c.args.watches.now c.pass_short-in-Free.new.self c.next_short-number.result c.in-Some.lit c.requires.within c.next_short-number.ensures
    (subst (λ (cs : List Stored). IsAttached cs c.next_short-number.result) (sym c.force.ensures.added.clauses) c.if-not-is_attached.ensures)
    (ap (λ (cs : List Stored). clause_at cs c.next_short-number.result) c.force.ensures.added.clauses ∙ only)
    (added_true c.args.kernel.now c.force.new.self c.in-Some.lit (Some c.next_short-number.result) c.force.ensures.is named c.in-Free.ensures)
    (idle_more c.args.kernel.now c.force.new.self c.args.watches.now c.in-Some.lit (Some c.next_short-number.result) c.force.ensures.is c.force.ensures.sound named c.in-Free.ensures c.requires.ready.idle)
    c.force.ensures.added c.pass_short-in-Free.ensures c.requires.ready in
    shorter.ready

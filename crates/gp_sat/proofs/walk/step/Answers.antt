use Rattle.std.proofs.Common.{◌≡◌, sym, ◌∙◌, ap, subst, ℕ, ◌+◌, ◌-◌, ◌*◌, ◌<◌, ◌≤◌, Some, length, inl, inr, arith}
use Rattle.std.proofs.lemmas.Bool.{cases_eq}
use Rattle.gp_clause.specs.declared.lit.Lit.{Lit}
use Rattle.gp_sat.specs.State.{SolverForm, assigned, clause_at}
use Rattle.gp_sat.specs.Looking.{IsTrueLit, IsUnit}
use Rattle.gp_sat.specs.WatchesForm.{WatchesForm}
use Rattle.gp_sat.specs.Watching.{ArePartners, link_at, next_at, watch_at}
use Rattle.gp_sat.specs.Stepping.{IsPick, HasFallenBeside, JudgesAs, IsWalking, GoesOn, Stops}
use Rattle.gp_sat.specs.declared.walk.Judged.TheVariants.{Forces, Fails}
use Rattle.std.proofs.lemmas.List.{length-set}
use Rattle.gp_sat.proofs.Relinking.{taken, at_front, code_below}
use Rattle.gp_sat.proofs.Stepping.{first_within, IsWithin, bounds_at, fallen_beside, goes_off, goes_keeps, goes_moves, walking_more, added_true, is_unit, stops_at}
use Rattle.gp_sat.proofs.walk.step.Goals as goal

-- the bounds, where the partner is not known yet
slot_few : (s : SolverForm) (w : WatchesForm) (fallen : Lit) (number x : ℕ) → IsWalking s w fallen → link_at w.heads 0 ≡ x + 1 → number * 2 ≤ x → x ≤ number * 2 + 1 → x + 1 < 18446744073709551616
slot_few s w fallen number x walking first low high = elim (cases_eq x (2 * number)) [
  | inl even ↦ let b : IsWithin s w fallen number x (2 * number + 1) = bounds_at s w fallen number x (2 * number + 1) walking first (inl (even, let e : 2 * number + 1 ≡ 2 * number + 1 = omega arith in e)) in omega (arith, b.slot, b.few)
  | inr odd ↦ let b : IsWithin s w fallen number x (2 * number) = bounds_at s w fallen number x (2 * number) walking first (inr (omega (arith, odd, low, high), let e : 2 * number ≡ 2 * number = omega arith in e)) in omega (arith, b.slot, b.few)
]

pub take-slot-requires-clause-within : goal.take-slot-requires-clause-within
take-slot-requires-clause-within c = first_within c.args.kernel.now c.args.watches.now c.args.fallen c.requires.walking.lists c.requires.walking.linked

pub partner_of-requires-clause-few : goal.partner_of-requires-clause-few
partner_of-requires-clause-few c =
    slot_few c.args.kernel.now c.args.watches.now c.args.fallen c.clause_of-number.result c.take-slot.result c.requires.walking c.take-slot.ensures.first c.clause_of-number.ensures.low c.clause_of-number.ensures.high

pub watched-other-requires : goal.watched-other-requires
watched-other-requires c =
    let b : IsWithin c.args.kernel.now c.args.watches.now c.args.fallen c.clause_of-number.result c.take-slot.result c.partner_of.result = bounds_at c.args.kernel.now c.args.watches.now c.args.fallen c.clause_of-number.result c.take-slot.result c.partner_of.result c.requires.walking c.take-slot.ensures.first c.partner_of.ensures in
    omega (arith, b.other, ap (λ (l : WatchesForm). length l.slots) c.take-slot.ensures.taken)

pub judge-requires-clause-within : goal.judge-requires-clause-within
judge-requires-clause-within c =
    let b : IsWithin c.args.kernel.now c.args.watches.now c.args.fallen c.clause_of-number.result c.take-slot.result c.partner_of.result = bounds_at c.args.kernel.now c.args.watches.now c.args.fallen c.clause_of-number.result c.take-slot.result c.partner_of.result c.requires.walking c.take-slot.ensures.first c.partner_of.ensures in
    b.clause

pub judge-requires-clause-fell : goal.judge-requires-clause-fell
judge-requires-clause-fell c = λ attached.
    let same : c.watched-other.result ≡ watch_at c.args.watches.now.slots c.partner_of.result = c.watched-other.ensures ∙ ap (λ (l : WatchesForm). watch_at l.slots c.partner_of.result) c.take-slot.ensures.taken in
    subst (λ (l : Lit). HasFallenBeside (assigned c.args.kernel.now) (clause_at c.args.kernel.now.clauses c.clause_of-number.result) l) (sym same)
    (fallen_beside c.args.kernel.now c.args.watches.now c.args.fallen c.take-slot.result c.clause_of-number.result c.partner_of.result c.requires.walking c.take-slot.ensures.first c.partner_of.ensures attached)

pub link-requires-clause-within : goal.link-requires-clause-within
link-requires-clause-within c =
    let b : IsWithin c.args.kernel.now c.args.watches.now c.args.fallen c.clause_of-number.result c.take-slot.result c.partner_of.result = bounds_at c.args.kernel.now c.args.watches.now c.args.fallen c.clause_of-number.result c.take-slot.result c.partner_of.result c.requires.walking c.take-slot.ensures.first c.partner_of.ensures in
    omega (arith, b.slot, ap (λ (l : WatchesForm). length l.slots) c.take-slot.ensures.taken)

pub link-requires-in-Moves-clause-named : goal.link-requires-in-Moves-clause-named
link-requires-in-Moves-clause-named c =
    let picked : IsPick (assigned c.args.kernel.now) (clause_at c.args.kernel.now.clauses c.clause_of-number.result) c.watched-other.result c.in-Moves.lit = c.in-Moves.ensures in
    omega (
      arith,
      c.requires.walking.linked.heads_size,
      length-set c.args.watches.now.heads 0 (next_at c.args.watches.now.slots c.take-slot.result),
      ap (λ (l : WatchesForm). length l.heads) c.take-slot.ensures.taken,
      code_below c.in-Moves.lit (length c.args.kernel.now.values) (c.requires.walking.sound.named c.clause_of-number.result c.in-Moves.lit picked.0),
    )

-- the clause is unit by its other literal, which is one of the solver's
unit_at : (s : SolverForm) (w left : WatchesForm) (fallen other : Lit) (number x y : ℕ) → IsWalking s w fallen → link_at w.heads 0 ≡ x + 1 → ArePartners number x y → left ≡ taken w x → other ≡ watch_at left.slots y
    → JudgesAs s number other Forces → IsUnit (assigned s) (clause_at s.clauses number) other
unit_at s w left fallen other number x y walking first partners was is judged =
    let same : other ≡ watch_at w.slots y = is ∙ ap (λ (l : WatchesForm). watch_at l.slots y) was in
    let what : JudgesAs s number (watch_at w.slots y) Forces = subst (λ (l : Lit). JudgesAs s number l Forces) same judged in
    subst (λ (l : Lit). IsUnit (assigned s) (clause_at s.clauses number) l) (sym same) (is_unit s w fallen x number y walking first partners what.0 what.1 what.2)

pub force-requires-clause-unit : goal.force-requires-clause-unit
force-requires-clause-unit c = unit_at c.args.kernel.now c.args.watches.now c.take-slot.new.self c.args.fallen c.watched-other.result c.clause_of-number.result c.take-slot.result c.partner_of.result
    c.requires.walking c.take-slot.ensures.first c.partner_of.ensures c.take-slot.ensures.taken c.watched-other.ensures c.in-Forces.ensures

pub force-requires-clause-named : goal.force-requires-clause-named
force-requires-clause-named c =
    let unit : IsUnit (assigned c.args.kernel.now) (clause_at c.args.kernel.now.clauses c.clause_of-number.result) c.watched-other.result = unit_at c.args.kernel.now c.args.watches.now c.take-slot.new.self c.args.fallen c.watched-other.result c.clause_of-number.result c.take-slot.result c.partner_of.result
    c.requires.walking c.take-slot.ensures.first c.partner_of.ensures c.take-slot.ensures.taken c.watched-other.ensures c.in-Forces.ensures in
    c.requires.walking.sound.named c.clause_of-number.result c.watched-other.result unit.within

pub returns-in-Off-clause-step : goal.returns-in-Off-clause-step
returns-in-Off-clause-step c = subst (λ (l : WatchesForm). GoesOn c.args.kernel.now c.args.watches.now l c.args.fallen) (sym c.take-slot.ensures.taken)
    (goes_off c.args.kernel.now c.args.watches.now c.args.fallen c.take-slot.result c.clause_of-number.result c.partner_of.result c.requires.walking c.take-slot.ensures.first c.partner_of.ensures c.in-Off.ensures)

pub returns-in-Holds-clause-step : goal.returns-in-Holds-clause-step
returns-in-Holds-clause-step c =
    let same : c.watched-other.result ≡ watch_at c.args.watches.now.slots c.partner_of.result = c.watched-other.ensures ∙ ap (λ (l : WatchesForm). watch_at l.slots c.partner_of.result) c.take-slot.ensures.taken in
    let linked : c.link.new.self ≡ at_front (taken c.args.watches.now c.take-slot.result) c.take-slot.result c.args.fallen = c.link.ensures ∙ ap (λ (l : WatchesForm). at_front l c.take-slot.result c.args.fallen) c.take-slot.ensures.taken in
    subst (λ (l : WatchesForm). GoesOn c.args.kernel.now c.args.watches.now l c.args.fallen) (sym linked)
    (goes_keeps c.args.kernel.now c.args.watches.now c.args.fallen c.take-slot.result c.clause_of-number.result c.partner_of.result c.requires.walking c.take-slot.ensures.first c.partner_of.ensures
    (subst (λ (l : Lit). IsTrueLit (assigned c.args.kernel.now) l) same c.in-Holds.ensures))

pub returns-in-Moves-clause-step : goal.returns-in-Moves-clause-step
returns-in-Moves-clause-step c =
    let same : c.watched-other.result ≡ watch_at c.args.watches.now.slots c.partner_of.result = c.watched-other.ensures ∙ ap (λ (l : WatchesForm). watch_at l.slots c.partner_of.result) c.take-slot.ensures.taken in
    let linked : c.link-in-Moves.new.self ≡ at_front (taken c.args.watches.now c.take-slot.result) c.take-slot.result c.in-Moves.lit = c.link-in-Moves.ensures ∙ ap (λ (l : WatchesForm). at_front l c.take-slot.result c.in-Moves.lit) c.take-slot.ensures.taken in
    subst (λ (l : WatchesForm). GoesOn c.args.kernel.now c.args.watches.now l c.args.fallen) (sym linked)
    (goes_moves c.args.kernel.now c.args.watches.now c.args.fallen c.take-slot.result c.clause_of-number.result c.partner_of.result c.in-Moves.lit c.requires.walking c.take-slot.ensures.first c.partner_of.ensures
    (subst (λ (l : Lit). IsPick (assigned c.args.kernel.now) (clause_at c.args.kernel.now.clauses c.clause_of-number.result) l c.in-Moves.lit) same c.in-Moves.ensures))

pub returns-in-Forces-clause-step : goal.returns-in-Forces-clause-step
returns-in-Forces-clause-step c =
    let s : SolverForm = c.args.kernel.now in
    let w : WatchesForm = c.args.watches.now in
    let same : c.watched-other.result ≡ watch_at w.slots c.partner_of.result = c.watched-other.ensures ∙ ap (λ (l : WatchesForm). watch_at l.slots c.partner_of.result) c.take-slot.ensures.taken in
    let unit : IsUnit (assigned c.args.kernel.now) (clause_at c.args.kernel.now.clauses c.clause_of-number.result) c.watched-other.result = unit_at c.args.kernel.now c.args.watches.now c.take-slot.new.self c.args.fallen c.watched-other.result c.clause_of-number.result c.take-slot.result c.partner_of.result
    c.requires.walking c.take-slot.ensures.first c.partner_of.ensures c.take-slot.ensures.taken c.watched-other.ensures c.in-Forces.ensures in
    let named : c.watched-other.result.variable < length c.args.kernel.now.values = c.requires.walking.sound.named c.clause_of-number.result c.watched-other.result unit.within in
    let linked : c.link-in-Forces.new.self ≡ at_front (taken c.args.watches.now c.take-slot.result) c.take-slot.result c.args.fallen = c.link-in-Forces.ensures ∙ ap (λ (l : WatchesForm). at_front l c.take-slot.result c.args.fallen) c.take-slot.ensures.taken in
    let more : IsWalking c.force.new.self c.args.watches.now c.args.fallen = walking_more c.args.kernel.now c.force.new.self c.args.watches.now c.args.fallen c.watched-other.result (Some c.clause_of-number.result) c.force.ensures.is c.force.ensures.sound named unit.free c.requires.walking in
    let holds : IsTrueLit (assigned c.force.new.self) c.watched-other.result = added_true c.args.kernel.now c.force.new.self c.watched-other.result (Some c.clause_of-number.result) c.force.ensures.is named unit.free in
    subst (λ (l : WatchesForm). GoesOn c.force.new.self c.args.watches.now l c.args.fallen) (sym linked)
    (goes_keeps c.force.new.self c.args.watches.now c.args.fallen c.take-slot.result c.clause_of-number.result c.partner_of.result more c.take-slot.ensures.first c.partner_of.ensures
    (subst (λ (l : Lit). IsTrueLit (assigned c.force.new.self) l) same holds))

pub returns-in-Fails-clause-step : goal.returns-in-Fails-clause-step
returns-in-Fails-clause-step c =
    let same : c.watched-other.result ≡ watch_at c.args.watches.now.slots c.partner_of.result = c.watched-other.ensures ∙ ap (λ (l : WatchesForm). watch_at l.slots c.partner_of.result) c.take-slot.ensures.taken in
    let what : JudgesAs c.args.kernel.now c.clause_of-number.result (watch_at c.args.watches.now.slots c.partner_of.result) Fails = subst (λ (l : Lit). JudgesAs c.args.kernel.now c.clause_of-number.result l Fails) same c.in-Fails.ensures in
    let linked : c.link-in-Fails.new.self ≡ at_front (taken c.args.watches.now c.take-slot.result) c.take-slot.result c.args.fallen = c.link-in-Fails.ensures ∙ ap (λ (l : WatchesForm). at_front l c.take-slot.result c.args.fallen) c.take-slot.ensures.taken in
    let back : c.step_back.new.self ≡ record (at_front (taken c.args.watches.now c.take-slot.result) c.take-slot.result c.args.fallen) { cursor = c.args.watches.now.cursor - 1 } = c.step_back.ensures ∙ ap (λ (l : WatchesForm). record l { cursor = l.cursor - 1 }) linked in
    subst (λ (l : WatchesForm). Stops c.args.kernel.now c.args.watches.now l c.args.fallen c.clause_of-number.result) (sym back)
    (stops_at c.args.kernel.now c.args.watches.now c.args.fallen c.take-slot.result c.clause_of-number.result c.partner_of.result c.requires.walking c.take-slot.ensures.first c.partner_of.ensures what.0 what.1 what.2)

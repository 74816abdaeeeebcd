use Rattle.std.proofs.Common.{◌≡◌, refl, sym, ◌∙◌, ap, subst, ℕ, ◌+◌, ◌<◌, ◌≤◌, ◌^◌, Bool, true, false, List, [], ◌∷◌, ◌++◌, length, nat_lt, ◌⊎◌, inl, inr, arith}
use Rattle.std.specs.Prelude.{if◌then◌else◌}
use Rattle.std.proofs.lemmas.Bool.{ltb-true, ltb-false}
use Rattle.std.proofs.lemmas.List.{append-nil}
use Rattle.gp_clause.specs.Clause.{NamesBelow}
use Rattle.gp_sat.specs.State.{SolverForm}
use Rattle.gp_sat.specs.Changes.{MayAttach}
use Rattle.gp_sat.specs.WatchesForm.{WatchesForm}
use Rattle.gp_sat.specs.Watching.{no_slot}
use Rattle.gp_sat.specs.Stepping.{IsReady}
use Rattle.gp_sat.proofs.Storing.{sound_attached}
use Rattle.gp_sat.proofs.Outer.{ready_attached, ready_room}
use Rattle.gp_sat.proofs.Wholes.{whole}
use Rattle.gp_sat.proofs.solver.Solver.attach.Goals as goal

-- a clause of fewer than two literals is listed
short_cases : (len size : ℕ) (shorts : List ℕ) (number count : ℕ) → len ≡ size → number ≡ count
    → ((size < 2) × (shorts ++ (if nat_lt len 2 then number ∷ [] else []) ≡ shorts ++ count ∷ [])) ⊎ ((2 ≤ size) × (shorts ++ (if nat_lt len 2 then number ∷ [] else []) ≡ shorts))
short_cases len size shorts number count is same = at (nat_lt len 2) refl
  where
    at : (b : Bool) → nat_lt len 2 ≡ b → ((size < 2) × (shorts ++ (if nat_lt len 2 then number ∷ [] else []) ≡ shorts ++ count ∷ [])) ⊎ ((2 ≤ size) × (shorts ++ (if nat_lt len 2 then number ∷ [] else []) ≡ shorts))
    at true few = inl (omega (arith, ltb-true len 2 few, is), ap (λ (t : Bool). shorts ++ (if t then number ∷ [] else [])) few ∙ ap (λ (n : ℕ). shorts ++ n ∷ []) same)
    at false many = inr (omega (arith, ltb-false len 2 many, is), ap (λ (t : Bool). shorts ++ (if t then number ∷ [] else [])) many ∙ append-nil shorts)

pub invariant_of-self : goal.invariant_of-self
invariant_of-self c =
    whole c.self.inside.kernel c.self.inside.kernel c.self.inside.watches c.reserve_clause.new.self c.self.inside.marking (refl) c.self.invariant
    (ready_room c.self.inside.kernel c.self.inside.watches c.reserve_clause.new.self c.self.inside.watches.heads_room c.reserve_clause.new.self.slots_room c.reserve_clause.new.self.shorts_room c.in_err-reserve_clause.ensures.same c.self.invariant.ready)

pub invariant_of-self-in_err-number : goal.invariant_of-self-in_err-number
invariant_of-self-in_err-number c =
    whole c.self.inside.kernel c.attach.new.self c.self.inside.watches c.reserve_clause.new.self c.self.inside.marking (ap (λ (t : SolverForm). length t.values) c.in_err-number.ensures.err) c.self.invariant
    (subst (λ (s : SolverForm). IsReady s c.reserve_clause.new.self) (sym c.in_err-number.ensures.err)
    (ready_room c.self.inside.kernel c.self.inside.watches c.reserve_clause.new.self c.self.inside.watches.heads_room c.reserve_clause.new.self.slots_room c.reserve_clause.new.self.shorts_room c.in_ok-reserve_clause.ensures.same c.self.invariant.ready))

pub invariant_of-self-2 : goal.invariant_of-self-2
invariant_of-self-2 c =
    whole c.self.inside.kernel c.attach.new.self c.self.inside.watches c.add_clause.new.self c.self.inside.marking (ap (λ (t : SolverForm). length t.values) c.in_ok-number.ensures.ok) c.self.invariant
    (ready_attached c.self.inside.kernel c.attach.new.self c.self.inside.watches c.add_clause.new.self c.args.clause.now (c.self.inside.watches.shorts ++ (if nat_lt c.len.result 2 then c.in_ok-number.number ∷ [] else [])) c.reserve_clause.new.self.slots_room c.reserve_clause.new.self.shorts_room
    (sound_attached c.self.inside.kernel c.args.clause.now
    (subst (λ (s : SolverForm). NamesBelow (length s.values) c.args.clause.now) (sym c.self.view_is) c.requires.named)
    (subst (λ (s : SolverForm). MayAttach s c.args.clause.now) (sym c.self.view_is) c.requires.may)
    (subst (λ (s : SolverForm). length s.clauses + 1 < 2 ^ 32) (sym c.self.view_is) c.requires.few) c.self.invariant.ready.idle.sound)
    c.in_ok-number.ensures.ok
    (c.add_clause.ensures ∙ ap (λ (l : WatchesForm). record l { slots = (l.slots ++ no_slot ∷ []) ++ no_slot ∷ []; shorts = l.shorts ++ (if nat_lt c.len.result 2 then c.in_ok-number.number ∷ [] else []) }) c.in_ok-reserve_clause.ensures.same)
    (short_cases c.len.result (length c.args.clause.now) c.self.inside.watches.shorts c.in_ok-number.number (length c.self.inside.kernel.clauses) c.len.ensures c.in_ok-number.ensures.number)
    c.self.invariant.ready)

pub returns-clause-sound : goal.returns-clause-sound
returns-clause-sound c =
    let ready : IsReady c.attach.new.self c.add_clause.new.self = ready_attached c.self.inside.kernel c.attach.new.self c.self.inside.watches c.add_clause.new.self c.args.clause.now (c.self.inside.watches.shorts ++ (if nat_lt c.len.result 2 then c.in_ok-number.number ∷ [] else [])) c.reserve_clause.new.self.slots_room c.reserve_clause.new.self.shorts_room
    (sound_attached c.self.inside.kernel c.args.clause.now
    (subst (λ (s : SolverForm). NamesBelow (length s.values) c.args.clause.now) (sym c.self.view_is) c.requires.named)
    (subst (λ (s : SolverForm). MayAttach s c.args.clause.now) (sym c.self.view_is) c.requires.may)
    (subst (λ (s : SolverForm). length s.clauses + 1 < 2 ^ 32) (sym c.self.view_is) c.requires.few) c.self.invariant.ready.idle.sound)
    c.in_ok-number.ensures.ok
    (c.add_clause.ensures ∙ ap (λ (l : WatchesForm). record l { slots = (l.slots ++ no_slot ∷ []) ++ no_slot ∷ []; shorts = l.shorts ++ (if nat_lt c.len.result 2 then c.in_ok-number.number ∷ [] else []) }) c.in_ok-reserve_clause.ensures.same)
    (short_cases c.len.result (length c.args.clause.now) c.self.inside.watches.shorts c.in_ok-number.number (length c.self.inside.kernel.clauses) c.len.ensures c.in_ok-number.ensures.number)
    c.self.invariant.ready in
    ready.idle.sound

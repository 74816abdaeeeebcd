use Rattle.std.proofs.Common.{◌+◌, ◌<◌, [], ℕ, subst, sym, inl, inr, arith, List, false, length, get_or, take, Contains}
use Rattle.std.proofs.lemmas.List.{take_all, take_more}
use Rattle.std.proofs.lemmas.List.Elements.{Contains-push_cases}
use Rattle.gp_clause.specs.declared.lit.Lit.{Lit}
use Rattle.gp_sat.specs.State.{assigned}
use Rattle.gp_sat.specs.Standing.{IsFalse, Each}
use Rattle.gp_solver_rows.proofs.sat.are_false.Goals as goal

none_in_nil : (lit : Lit) → Contains [] lit → ⊥
none_in_nil lit (k, below, is) = omega (arith, below)

-- what holds of each of the first literals and of the next one holds of one more
each_more : (P : Lit → Type 0) (lits : List Lit) (i : ℕ) (d : Lit) → i < length lits → Each P (take i lits) → P (get_or lits i d) → Each P (take (i + 1) lits)
each_more P lits i d within each here =
    subst (λ (xs : List Lit). Each P xs) (sym (take_more lits i d within)) (λ lit is. elim (Contains-push_cases (take i lits) (get_or lits i d) lit is) [
      | inl before ↦ each lit before
      | inr same ↦ subst P same here
    ])

pub loop-lit-init : goal.loop-lit-init
loop-lit-init c = λ lit is. absurd (none_in_nil lit is)

pub loop-lit-preserved : goal.loop-lit-preserved
loop-lit-preserved c =
    let d : Lit = record { variable = 0; positive = false } in
    each_more (IsFalse (assigned c.args.solver.now)) c.args.lits.now c.loop-lit.lit-index d c.loop-lit-test.true c.loop-lit.invariant (c.is_false.ensures c.if-not-is_false.false)

pub returns : goal.returns
returns c = λ _. subst (λ (xs : List Lit). Each (IsFalse (assigned c.args.solver.now)) xs) (take_all c.loop-lit.lit-index c.args.lits.now c.loop-lit-test.false) c.loop-lit.invariant

use Rattle.std.proofs.Common.{◌≡◌, sym, ◌∙◌, ap, subst, ℕ, false, Option, Some, List, [], ◌∷◌, ◌++◌, get_or, take, arith}
use Rattle.gp_clause.specs.declared.lit.Lit.{Lit}
use Rattle.gp_sat.specs.declared.assigned.Assigned.{Assigned}
use Rattle.gp_sat.specs.State.{SolverForm, assigned}
use Rattle.std.proofs.lemmas.List.{take_more, take_all}
use Rattle.gp_sat.specs.Learning.{IsHighestBelow}
use Rattle.gp_sat.proofs.Marked.{highest_new, highest_same}
use Rattle.gp_sat.proofs.kernel.Kernel.highest_below.Goals.{in-Some+then-level-a+then-a-self, in-Some+else-level-a, else-level-a-via-then-level-a+else-a-self, else-level-a-via-else-level-a, in_default}
use Rattle.gp_sat.specs.SolverLaws.{highest_none}
use Rattle.gp_sat.proofs.kernel.Kernel.highest_below.Goals as goal

abbrev d : Lit
d = record { variable = 0; positive = false }

pub loop-lit-init : goal.loop-lit-init
loop-lit-init c = highest_none c.args.self.now

-- one assignment at most is of a variable
same_level : (value : Option Assigned) (a b : Assigned) → value ≡ Some a → value ≡ Some b → b.level ≡ a.level
same_level value a b is_a is_b = let same : b ≡ a = cc in ap (λ (x : Assigned). x.level) same

pub loop-lit-preserved : goal.loop-lit-preserved
loop-lit-preserved c =
    let s : SolverForm = c.args.self.now in
    let before : List Lit = take c.loop-lit.lit-index c.args.lits.now in
    let lit : Lit = get_or c.args.lits.now c.loop-lit.lit-index d in
    let value : c.get.result ≡ assigned s lit.variable = c.get.ensures ∙ ap (λ (t : SolverForm). assigned t lit.variable) c.self.view_is in
    let level : c.self.inside.level ≡ s.level = ap (λ (t : SolverForm). t.level) c.self.view_is in
    subst (λ (xs : List Lit). IsHighestBelow s xs c.match-get.level) (sym (take_more c.args.lits.now c.loop-lit.lit-index d c.loop-lit-test.true)) (elim c.match-get.branch [
      | in-Some+then-level-a+then-a-self w ↦
          subst (λ (n : ℕ). IsHighestBelow s (before ++ lit ∷ []) n) (sym w.level-is)
          (highest_new s before lit c.loop-lit.level w.in-Some.a (sym value ∙ w.in-Some.is) w.if-level-a.true (omega (arith, w.if-a-self.true, level)) c.loop-lit.invariant)
      | in-Some+else-level-a w ↦
          subst (λ (n : ℕ). IsHighestBelow s (before ++ lit ∷ []) n) (sym w.level-is)
          (highest_same s before lit c.loop-lit.level (λ b is low.
          let levels : b.level ≡ w.in-Some.a.level = same_level (assigned s lit.variable) w.in-Some.a b (sym value ∙ w.in-Some.is) is in
          elim w.else-level-a.branch [
            | else-level-a-via-then-level-a+else-a-self w' ↦ absurd (omega (arith, low, levels, w'.if-a-self.false, level))
            | else-level-a-via-else-level-a w' ↦ omega (arith, levels, w'.if-level-a.false)
          ]) c.loop-lit.invariant)
      | in_default w ↦
          subst (λ (n : ℕ). IsHighestBelow s (before ++ lit ∷ []) n) (sym w.level-is)
          (highest_same s before lit c.loop-lit.level (λ b is low. absurd (w.in_default.not-Some b (value ∙ is))) c.loop-lit.invariant)
    ])

pub returns : goal.returns
returns c = subst (λ (xs : List Lit). IsHighestBelow c.args.self.now xs c.loop-lit.level) (take_all c.loop-lit.lit-index c.args.lits.now c.loop-lit-test.false) c.loop-lit.invariant

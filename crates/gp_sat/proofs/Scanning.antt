-- What a look at a clause finds.
use Rattle.std.proofs.Common.{◌≡◌, ◌≢◌, sym, ◌∙◌, ap, Some, None, List, ◌⊎◌, inl, inr, arith}
use Rattle.gp_clause.specs.declared.lit.Lit.{Lit}
use Rattle.gp_sat.specs.declared.assigned.Assigned.{Assigned}
use Rattle.gp_sat.specs.State.{SolverForm, assigned}
use Rattle.gp_sat.specs.Standing.{IsFalseTo, IsQuiet}
use Rattle.gp_sat.specs.Sound.{IsSound}
use Rattle.gp_sat.specs.Looking.{HasTrue, HasTwoFree}
use Rattle.gp_clause.specs.LitLaws.{not_both}

-- a clause with a true literal is quiet
quiet_true : (s : SolverForm) (clause : List Lit) → IsSound s → HasTrue (assigned s) clause → IsQuiet s.level (assigned s) clause
quiet_true s clause sound (lit, within, (a, is, sign)) = record {
  not_false = λ all. not_false_lit (all lit within);
  not_unit = λ other among free others.
      let apart : lit ≢ other = λ same.
      let there : assigned s other.variable ≡ Some a = ap (λ (l : Lit). assigned s l.variable) (sym same) ∙ is in
      omega (arith, free a there, (sound.ordered.present lit.variable a is).0) in
      not_false_lit (others lit within apart);
}
  where
    not_false_lit : IsFalseTo s.level (assigned s) lit → ⊥
    not_false_lit (b, is_b, opposite, _) =
        let same : b ≡ a = cc in
        let signs : b.positive ≡ a.positive = ap (λ (x : Assigned). x.positive) same in
        not_both lit.positive (sym sign ∙ sym signs ∙ opposite)

-- and so is one with two unassigned literals
quiet_two : (s : SolverForm) (clause : List Lit) → HasTwoFree (assigned s) clause → IsQuiet s.level (assigned s) clause
quiet_two s clause (one, two, (within_one, within_two, differ, free_one, free_two)) = record {
  not_false = λ all. not_false_lit one free_one (all one within_one);
  not_unit = λ lit is free others.
      let not_one : one ≢ lit → ⊥ = λ apart. not_false_lit one free_one (others one within_one apart) in
      let not_two : two ≢ lit → ⊥ = λ apart. not_false_lit two free_two (others two within_two apart) in
      not_one (λ first. not_two (λ second. differ (first ∙ sym second)));
}
  where
    not_false_lit : (lit : Lit) → assigned s lit.variable ≡ None → IsFalseTo s.level (assigned s) lit → ⊥
    not_false_lit lit none (a, is, sign, low) = let clash : ⊥ = cc in clash

pub quiet_rests : (s : SolverForm) (clause : List Lit) → IsSound s → HasTrue (assigned s) clause ⊎ HasTwoFree (assigned s) clause → IsQuiet s.level (assigned s) clause
quiet_rests s clause sound (inl true_lit) = quiet_true s clause sound true_lit
quiet_rests s clause sound (inr two) = quiet_two s clause two

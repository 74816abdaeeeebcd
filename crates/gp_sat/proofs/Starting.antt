-- The start of a walk at the end of the trail.
use Rattle.std.proofs.Common.{◌≡◌, refl, sym, ◌∙◌, ap, ℕ, ◌<◌, Bool, List, [], length, inl, inr, arith}
use Rattle.gp_clause.specs.declared.lit.Lit.{Lit}
use Rattle.gp_sat.specs.declared.analysis.Stop.{Stop}
use Rattle.gp_sat.specs.declared.analysis.Stop.TheVariants.{FirstPoint}
use Rattle.gp_sat.specs.declared.assigned.Assigned.{Assigned}
use Rattle.gp_sat.specs.State.{SolverForm, assigned}
use Rattle.gp_sat.specs.Standing.{Each, IsFalse}
use Rattle.gp_sat.specs.Sound.{IsSound}
use Rattle.gp_sat.specs.Changes.{HasPresent}
use Rattle.gp_sat.specs.Marking.{IsMarked, Marks}
use Rattle.gp_sat.specs.Walking.{IsWalked}
use Rattle.gp_base.specs.ListLaws.{nothing_in}

-- only the variables of the conflict are marked at the start
pub walk_start : (s : SolverForm) (stop : Stop) (conflict : List Lit) (old marks : List Bool) → IsSound s → length old ≡ length s.values → ((v : ℕ) → IsMarked old v → ⊥) → Marks old marks conflict
    → Each (IsFalse (assigned s)) conflict → (stop ≡ FirstPoint → (0 < s.level) × HasPresent s conflict) → IsWalked s stop (length s.trail) marks [] []
walk_start s stop conflict old marks sound size blank started all_false present = record {
  size = omega (arith, started.size, size);
  true_marks = λ v is. elim (started.only v is) [
    | inl was ↦ absurd (blank v was)
    | inr there ↦ let fell : IsFalse (assigned s) there.0 = all_false there.0 there.1 in (fell.0, ap (assigned s) (sym there.2) ∙ fell.1)
  ];
  handled = λ v a is _ past. absurd (omega (arith, past, sound.ordered.within v a is));
  reasons = λ n is. absurd (nothing_in n is);
  stopped = λ lit is. absurd (nothing_in lit is);
  once = λ v. omega arith;
  absent = λ v _. refl;
  pointing = λ first.
      let there : HasPresent s conflict = (present first).1 in
      let a : Assigned = there.2.0 in
      inl (
        (
          a.place,
          sound.ordered.within there.0.variable a there.2.1,
          record {
            variable = there.0.variable;
            value = a;
            is = there.2.1;
            there = refl;
            marked = started.all there.0 there.1;
            present = there.2.2;
          },
        ),
        λ lit is. absurd (nothing_in lit is),
      );
}

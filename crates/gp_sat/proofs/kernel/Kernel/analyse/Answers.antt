use Rattle.std.proofs.Common.{refl, sym, subst, ℕ, List}
use Rattle.gp_clause.specs.declared.lit.Lit.{Lit}
use Rattle.gp_sat.specs.State.{SolverForm}
use Rattle.std.specs.Prelude.{IsPermutation}
use Rattle.gp_sat.specs.declared.analysis.Stop.TheVariants.{FirstPoint}
use Rattle.gp_sat.specs.Learning.{IsLearned, IsHighestBelow}
use Rattle.gp_sat.specs.Walking.{IsWalked}
use Rattle.gp_sat.proofs.Passing.{learned, one_present, highest_sorted, first_sorted, above_bottom}
use Rattle.gp_sat.proofs.kernel.Kernel.analyse.Goals as goal
use Rattle.gp_sat.specs.SolverLaws.{makes_clause, clause_sorted}

pub unwrap-requires : goal.unwrap-requires
unwrap-requires c = makes_clause c.of.result c.in_ok-lits.field-0.lits.items c.of.ensures.bad.0 c.in_ok-lits.ensures.walked.walked.once

pub returns-clause-learned : goal.returns-clause-learned
returns-clause-learned c =
    let s : SolverForm = c.args.self.now in
    let walk : IsWalked s FirstPoint 0 c.in_ok-lits.ensures.walked.marks c.in_ok-lits.field-0.lits.items c.in_ok-lits.field-0.hints.items = c.in_ok-lits.ensures.walked.walked in
    let sorted : IsPermutation c.in_ok-lits.field-0.lits.items c.unwrap.result = clause_sorted c.of.result c.in_ok-lits.field-0.lits.items c.unwrap.result c.of.ensures.sorted c.unwrap.ensures in
    let found : IsLearned s c.args.conflict.now c.unwrap.result c.from_vec.result =
    subst (λ (hs : List ℕ). IsLearned s c.args.conflict.now c.unwrap.result hs) (sym c.from_vec.ensures)
    (learned s FirstPoint c.args.conflict.now c.unwrap.result c.in_ok-lits.ensures.walked.marks c.in_ok-lits.field-0.lits.items c.in_ok-lits.field-0.hints.items
    c.in_ok-lits.ensures.sound walk c.requires.conflict c.in_ok-lits.ensures.walked.started sorted) in
    record {
      learned = found;
      point = one_present s c.unwrap.result c.in_ok-lits.ensures.walked.marks c.in_ok-lits.field-0.lits.items c.in_ok-lits.field-0.hints.items walk sorted;
      level = highest_sorted s c.unwrap.result c.in_ok-lits.field-0.lits.items c.highest_below-level.result sorted
          (subst (λ (xs : List Lit). IsHighestBelow s xs c.highest_below-level.result) c.as_slice.ensures.value c.highest_below-level.ensures);
      first = first_sorted s c.args.conflict.now c.unwrap.result c.in_ok-lits.ensures.walked.marks c.in_ok-lits.field-0.lits.items sorted (c.in_ok-lits.ensures.walked.searched refl);
      above = above_bottom s c.unwrap.result c.in_ok-lits.ensures.walked.marks c.in_ok-lits.field-0.lits.items c.in_ok-lits.field-0.hints.items walk sorted;
    }

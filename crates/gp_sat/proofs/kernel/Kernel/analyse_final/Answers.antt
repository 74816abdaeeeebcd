use Rattle.std.proofs.Common.{refl, sym, subst, ℕ, List}
use Rattle.gp_sat.specs.State.{SolverForm}
use Rattle.gp_sat.specs.Standing.{Each}
use Rattle.std.specs.Prelude.{IsPermutation}
use Rattle.gp_sat.specs.declared.analysis.Stop.TheVariants.{Decisions}
use Rattle.gp_sat.specs.Learning.{IsLearned, IsDecided}
use Rattle.gp_sat.specs.Walking.{IsWalked}
use Rattle.gp_sat.proofs.Passing.{learned, decided, none_decided}
use Rattle.gp_sat.proofs.kernel.Kernel.analyse_final.Goals as goal
use Rattle.gp_sat.specs.SolverLaws.{makes_clause, clause_sorted}

pub unwrap-requires : goal.unwrap-requires
unwrap-requires c = makes_clause c.of.result c.in_ok-lits.field-0.lits.items c.of.ensures.bad.0 c.in_ok-lits.ensures.walked.walked.once

pub returns-clause-learned : goal.returns-clause-learned
returns-clause-learned c =
    let s : SolverForm = c.args.self.now in
    let walk : IsWalked s Decisions 0 c.in_ok-lits.ensures.walked.marks c.in_ok-lits.field-0.lits.items c.in_ok-lits.field-0.hints.items = c.in_ok-lits.ensures.walked.walked in
    let sorted : IsPermutation c.in_ok-lits.field-0.lits.items c.unwrap.result = clause_sorted c.of.result c.in_ok-lits.field-0.lits.items c.unwrap.result c.of.ensures.sorted c.unwrap.ensures in
    let found : IsLearned s c.args.conflict.now c.unwrap.result c.from_vec.result =
    subst (λ (hs : List ℕ). IsLearned s c.args.conflict.now c.unwrap.result hs) (sym c.from_vec.ensures)
    (learned s Decisions c.args.conflict.now c.unwrap.result c.in_ok-lits.ensures.walked.marks c.in_ok-lits.field-0.lits.items c.in_ok-lits.field-0.hints.items
    c.in_ok-lits.ensures.sound walk c.requires.conflict c.in_ok-lits.ensures.walked.started sorted) in
    let all : Each (IsDecided s) c.unwrap.result = decided s c.unwrap.result c.in_ok-lits.ensures.walked.marks c.in_ok-lits.field-0.lits.items c.in_ok-lits.field-0.hints.items walk sorted in
    record {
      learned = found;
      decisions = all;
      empty = λ bottom. none_decided s c.unwrap.result c.in_ok-lits.ensures.sound bottom all;
      level = refl;
    }

use Rattle.std.proofs.Common.{◌≡◌, sym, subst, ℕ, Bool, true, List, All, length}
use Rattle.gp_clause.specs.declared.lit.Lit.{Lit}
use Rattle.gp_clause.specs.Clause.{NamesBelow}
use Rattle.gp_search.specs.Moves.{is_marked}
use Rattle.gp_search.proofs.Purity.{rests_tested, tested_rests}
use Rattle.gp_search.proofs.engine.Engine.is_pure.Goals as goal

pub returns-then-name_below : goal.returns-then-name_below
returns-then-name_below c =
    let lits : List Lit → Type 0 = λ ls. NamesBelow (length c.args.problem.now.kinds) ls in
    let below = subst lits c.lits.ensures.lits (subst (λ n. NamesBelow n c.lits.result.now) c.len.ensures (c.name_below.ensures.0 c.if-name_below.true)) in
    let marks : List Bool → Type 0 = λ ms. All (λ hint. is_marked ms (length c.args.problem.now.clauses) hint ≡ true) c.args.step.now.hints in
    let bases : ℕ → Type 0 = λ n. All (λ hint. is_marked c.as_slice.result.now n hint ≡ true) c.args.step.now.hints in
    let hints : List ℕ → Type 0 = λ hs. All (λ hint. is_marked c.as_slice.result.now c.len-then-name_below.result hint ≡ true) hs in (
      (λ is. rests_tested c.args.problem.now c.args.self.now.pure.items c.args.step.now below
          (subst marks c.as_slice.ensures.value (subst bases c.len-then-name_below.ensures (subst hints c.as_slice-then-name_below.ensures (c.all_marked.ensures.0 is))))),
      (λ rests. c.all_marked.ensures.1
          (subst hints (sym c.as_slice-then-name_below.ensures) (subst bases (sym c.len-then-name_below.ensures) (subst marks (sym c.as_slice.ensures.value)
          (tested_rests c.args.problem.now c.args.self.now.pure.items c.args.step.now rests))))),
    )

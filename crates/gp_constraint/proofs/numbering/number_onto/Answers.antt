use Rattle.std.proofs.Common.{◌≡◌, ◌∙◌, sym, subst, List, [], ℕ, get_or}
use Rattle.gp_clause.specs.Clause.{IsRising}
use Rattle.gp_constraint.specs.declared.symbol.Symbol.{Symbol}
use Rattle.gp_constraint.specs.declared.symbol.SymbolicLit.{SymbolicLit}
use Rattle.gp_base.specs.ListLaws.{Pairwise}
use Rattle.gp_constraint.specs.Numbering.{lits_onto}
use Rattle.gp_constraint.specs.Signed.{Agree}
use Rattle.gp_constraint.proofs.Rising.{clause_rises, rising_from, signed_head}
use Rattle.gp_constraint.proofs.numbering.number_onto.Goals as goal

pub of_rising-requires : goal.of_rising-requires
of_rising-requires c =
    let clauses : List (List SymbolicLit) = c.args.clauses.now in
    let i : ℕ = c.loop-clause.clause-index in
    let names : List Symbol = c.loop-clause.names in
    let clause : List SymbolicLit = c.as_slice.result.now in
    let same : clause ≡ get_or clauses i c.clause-item.result = c.as_slice.ensures ∙ c.clause-item.is in
    let signed : Pairwise Agree clause = subst (Pairwise Agree) (sym same) (signed_head clauses i c.clause-item.result c.loop-clause-test.true c.loop-clause.invariant.signed) in
    subst IsRising (sym c.in_ok-lits.ensures.lits) (rising_from (lits_onto [] names clause) (clause_rises names clause signed))

use Rattle.std.proofs.Common.{subst, List, length, arith}
use Rattle.std.specs.Prelude.{All}
use Rattle.gp_clause.specs.declared.edge.Edge.{Edge}
use Rattle.gp_clause.specs.declared.kind.Kind.{Kind}
use Rattle.gp_clause.specs.declared.lit.Lit.{Lit}
use Rattle.gp_clause.specs.declared.valuation.Valuation.{Valuation}
use Rattle.gp_clause.specs.Clause.{HoldsAll}
use Rattle.gp_clause.specs.Edge.{Keeps}
use Rattle.gp_clause.specs.Valuation.{place_of, truth_of}
use Rattle.gp_cases.specs.Bounds.{KeepsBelow}
use Rattle.gp_cases.proofs.Bounds.{meets}
use Rattle.gp_cases.proofs.encodings.executing.is_answer.Goals as goal

pub returns : goal.returns
returns c = λ holds.
    let valuation : Valuation = c.args.valuation.now in
    meets c.args.problem.now valuation
    (omega (arith, c.len.ensures, c.len-2.ensures, c.if-len.false))
    (omega (arith, c.len-3.ensures, c.if-len-problem.false))
    (subst (λ (edges : List Edge). All (Keeps (place_of valuation)) edges) c.as_slice.ensures (c.are_kept.ensures c.if-not-are_kept.false))
    (subst (λ (clauses : List (List Lit)). HoldsAll (truth_of valuation) clauses) c.as_slice-2.ensures (c.all_hold.ensures c.if-not-all_hold.false))
    (subst (λ (kinds : List Kind). KeepsBelow valuation kinds (length kinds)) c.as_slice-3.ensures (c.keep_bounds.ensures holds))

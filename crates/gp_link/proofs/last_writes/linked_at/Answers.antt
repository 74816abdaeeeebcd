use Rattle.std.proofs.Common.{◌∙◌, sym, subst, List}
use Rattle.gp_constraint.specs.declared.symbol.SymbolicLit.{SymbolicLit}
use Rattle.gp_constraint.specs.Limited.{IsAdded}
use Rattle.gp_link.proofs.Writes.{unwritten_alone, written_alone}
use Rattle.gp_link.proofs.last_writes.linked_at.Goals as goal

pub returns-then-is_empty : goal.returns-then-is_empty
returns-then-is_empty c =
    subst (λ (due : List (List SymbolicLit)). IsAdded c.stays.result c.args.clauses.now c.stays.new.clauses due)
    (unwritten_alone c.args.window.now c.args.next.now c.args.points.now c.writes_to-writes.result.now c.args.variable.now c.writes_to-writes.ensures
    (sym c.is_empty.ensures ∙ c.if-is_empty.true))
    c.stays.ensures

pub returns : goal.returns
returns c =
    subst (λ (due : List (List SymbolicLit)). IsAdded c.ends_as.result c.args.clauses.now c.ends_as.new.clauses due)
    (written_alone c.args.window.now c.args.next.now c.args.points.now c.writes_to-writes.result.now c.args.variable.now c.writes_to-writes.ensures
    (sym c.is_empty.ensures ∙ c.if-is_empty.false))
    c.ends_as.ensures

use Rattle.std.proofs.Common.{sym, subst, false, List, get_or, take, inl, inr}
use Rattle.std.specs.Prelude.{Contains}
use Rattle.std.proofs.lemmas.List.{take_more, take_all}
use Rattle.std.proofs.lemmas.List.Elements.{Contains-get_or}
use Rattle.gp_clause.specs.declared.lit.Lit.{Lit}
use Rattle.gp_sat.specs.Marking.{Marks}
use Rattle.gp_sat.proofs.Marked.{marks_none}
use Rattle.gp_sat.proofs.Queueing.{marks_join}
use Rattle.gp_sat.proofs.kernel.Kernel.mark_all.Goals as goal

abbrev d : Lit
d = record { variable = 0; positive = false }

pub mark-requires-clause-assigned : goal.mark-requires-clause-assigned
mark-requires-clause-assigned c = c.requires.assigned _ (Contains-get_or c.args.lits.now c.loop-lit.lit-index d c.loop-lit-test.true)

pub loop-lit-init : goal.loop-lit-init
loop-lit-init c = record {
  listed = c.requires.listed;
  size = c.requires.size;
  marked = marks_none c.args.marking.now.marks.items;
  queued = λ bound each queued. queued;
}

pub loop-lit-preserved : goal.loop-lit-preserved
loop-lit-preserved c =
    let lit : Lit = get_or c.args.lits.now c.loop-lit.lit-index d in
    let among : Contains c.args.lits.now lit = Contains-get_or c.args.lits.now c.loop-lit.lit-index d c.loop-lit-test.true in
    record {
      listed = c.mark.ensures.listed;
      size = c.mark.ensures.size;
      marked = subst (λ (xs : List Lit). Marks c.args.marking.now.marks.items c.mark.new.marking.marks.items xs) (sym (take_more c.args.lits.now c.loop-lit.lit-index d c.loop-lit-test.true))
          (marks_join c.args.marking.now.marks.items c.loop-lit.marking.marks.items c.mark.new.marking.marks.items (take c.loop-lit.lit-index c.args.lits.now) lit c.loop-lit.invariant.marked c.in_ok-mark.ensures.marked);
      queued = λ bound each queued. c.in_ok-mark.ensures.queued bound (elim (each lit among) [
        | inl was ↦ inl (c.loop-lit.invariant.marked.kept lit.variable was)
        | inr before ↦ inr before
      ]) (c.loop-lit.invariant.queued bound each queued);
    }

pub returns-clause-marked : goal.returns-clause-marked
returns-clause-marked c = subst (λ (xs : List Lit). Marks c.args.marking.now.marks.items c.loop-lit.marking.marks.items xs) (take_all c.loop-lit.lit-index c.args.lits.now c.loop-lit-test.false) c.loop-lit.invariant.marked

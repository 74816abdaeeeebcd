use Rattle.std.proofs.Common.{◌≡◌, ◌≢◌, ℕ, ℤ, ◌+◌, List, length, get_or, set, sym, ap, subst, ◌∙◌}
use Rattle.std.proofs.lemmas.List.{length-set}
use Rattle.gp_difference.specs.declared.bound.Bound.{Bound}
use Rattle.gp_difference.specs.Bounds.{edge_at}
use Rattle.gp_difference.specs.Placement.{PlacementForm}
use Rattle.gp_difference.specs.Lower.{IsInput, Tracing}
use Rattle.gp_difference.proofs.WalkBuffer.{trace_begins, trace_goes_on, trace_ends}
use Rattle.gp_difference.proofs.lower.trace.Goals as goal

-- after a number was written all else is as at first
same_on : (init p q : PlacementForm) (walk : List ℕ) → p ≡ record init { walk = p.walk } → q ≡ record p { walk = walk } → q ≡ record init { walk = q.walk }
same_on init p q walk same e =
    let written : walk ≡ q.walk = sym (ap (λ (r : PlacementForm). r.walk) e) in
    e ∙ ap (λ (r : PlacementForm). record r { walk = walk }) same ∙ (λ i. record init { walk = written i })

pub tracing-init : goal.tracing-init
tracing-init c =
    let run = c.args.run.now in
    let e = c.write_walk.ensures in
    record {
      same = same_on run run c.write_walk.new.self (set run.walk 0 c.args.closing) (λ i. run) e;
      size = ap (λ (r : PlacementForm). length r.walk) e ∙ length-set run.walk 0 c.args.closing;
      tracing = subst (λ r. Tracing c.args.bounds.now.bounds c.args.new r 1 c.get-point.result.edge.b) (sym e)
          (trace_begins c.args.bounds.now.bounds c.args.new run c.args.closing _ c.requires.size c.requires.input c.requires.closing
          (ap (λ (b : Bound). b.edge.b) c.get-point.ensures));
    }

pub tracing-preserved : goal.tracing-preserved
tracing-preserved c =
    let bounds = c.args.bounds.now.bounds in
    let init = c.args.run.now in
    let p = c.tracing.run in
    let inv = c.tracing.invariant in
    let point = c.tracing.point in
    let count = c.tracing.count in
    let number = c.via-number.result in
    let next = c.get-point-in-tracing.result.edge.b in
    let e = c.write_walk-in-tracing.ensures in
    let via : number ≡ get_or p.via point 0 = c.via-number.ensures in
    let places : p.places ≡ init.places = ap (λ (r : PlacementForm). r.places) inv.same in
    let size : length p.walk ≡ length p.places = inv.size ∙ c.requires.size ∙ sym (ap (λ (ps : List ℤ). length ps) places) in
    let input : IsInput bounds c.args.new p.places = subst (λ ps. IsInput bounds c.args.new ps) (sym places) c.requires.input in
    let mark : get_or p.via point 0 ≢ length bounds = λ h. c.tracing-test.true (c.via.ensures ∙ h ∙ sym c.len.ensures) in
    let at : next ≡ (edge_at bounds (get_or p.via point 0)).b =
    ap (λ (b : Bound). b.edge.b) c.get-point-in-tracing.ensures ∙ ap (λ n. (edge_at bounds n).b) via in
    record {
      same = same_on init p c.write_walk-in-tracing.new.self (set p.walk count number) inv.same e;
      size = ap (λ (r : PlacementForm). length r.walk) e ∙ length-set p.walk count number ∙ inv.size;
      tracing = subst (λ r. Tracing bounds c.args.new r (count + 1) next) (sym (e ∙ (λ i. record p { walk = set p.walk count (via i) })))
          (trace_goes_on bounds c.args.new p count point next size input inv.tracing mark at);
    }

pub returns-clause-closed : goal.returns-clause-closed
returns-clause-closed c =
    trace_ends c.args.bounds.now.bounds c.args.new c.tracing.run c.tracing.count c.tracing.point c.tracing.invariant.tracing
    (sym c.via.ensures ∙ c.tracing-test.false ∙ c.len.ensures)

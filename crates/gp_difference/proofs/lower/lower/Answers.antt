use Rattle.std.proofs.Common.{◌≡◌, ℕ, ◌+◌, List, length, set, Some, None, sym, ap, subst, ◌∙◌, pos}
use Rattle.gp_clause.specs.declared.edge.Edge.{Edge}
use Rattle.gp_difference.specs.declared.bound.Bound.{Bound}
use Rattle.gp_difference.specs.Falls.{IsMost}
use Rattle.gp_difference.specs.Placement.{PlacementForm, Stays, IsUntidy}
use Rattle.gp_difference.specs.Lower.{IsInput, IsLowered, Running, Scanning}
use Rattle.gp_difference.proofs.ScanLemmas.{scan_begins, run_ends}
use Rattle.gp_difference.proofs.TidyLemmas.{run_untidy}
use Rattle.gp_difference.proofs.lower.lower.Goals as goal

ends : (bounds : List Bound) (new : Edge) (p q : PlacementForm) (done : ℕ) → IsInput bounds new p.places → Stays p q → Running bounds new q done →
    IsMost q.falls None → IsLowered bounds new q.places q.labels × IsUntidy q 0
ends bounds new p q done input stays (ranks, run) none =
    let at : IsInput bounds new q.places = subst (λ ps. IsInput bounds new ps) (sym stays.same_places) input in
    (run_ends bounds new q ranks done at run none, run_untidy bounds new q ranks done run.work run.fallen)

-- the scan of the point that fell most
begins : (bounds : List Bound) (new : Edge) (p q r : PlacementForm) (done s : ℕ) → IsInput bounds new p.places → Stays p q → Running bounds new q done →
    IsMost q.falls (Some s) → r ≡ record q { falls = set q.falls s (pos 0) } → Scanning bounds new r (done + 1) s (length bounds)
begins bounds new p q r done s input stays (ranks, run) most is =
    let at : IsInput bounds new q.places = subst (λ ps. IsInput bounds new ps) (sym stays.same_places) input in
    subst (λ t. Scanning bounds new t (done + 1) s (length bounds)) (sym is) (set ranks s done, scan_begins bounds new q ranks done s at run most)

pub returns-in_default-clause-gives : goal.returns-in_default-clause-gives
returns-in_default-clause-gives c =
    ends c.args.bounds.now.bounds c.args.new c.args.run.now c.settling.run c.settling.counter c.requires.input c.settling.invariant.stays c.settling.invariant.run c.in_default.ensures

pub scan-requires-clause-scan : goal.scan-requires-clause-scan
scan-requires-clause-scan c = (
  c.settling.counter + 1,
  begins c.args.bounds.now.bounds c.args.new c.args.run.now c.settling.run c.close.new.self c.settling.counter c.in-Some.point c.requires.input
      c.settling.invariant.stays c.settling.invariant.run c.in-Some.ensures c.close.ensures,
)

pub returns-in-Some-scan-clause-gives : goal.returns-in-Some-scan-clause-gives
returns-in-Some-scan-clause-gives c =
    c.in-Some-scan.ensures.gives (c.settling.counter + 1)
    (begins c.args.bounds.now.bounds c.args.new c.args.run.now c.settling.run c.close.new.self c.settling.counter c.in-Some.point c.requires.input
    c.settling.invariant.stays c.settling.invariant.run c.in-Some.ensures c.close.ensures)

pub settling-preserved : goal.settling-preserved
settling-preserved c =
    let after = c.in_default-scan.ensures in
    let was = c.settling.invariant.stays in
    record {
      stays = record {
        same_places = after.stays.same_places ∙ ap (λ (p : PlacementForm). p.places) c.close.ensures ∙ was.same_places;
        same_walk = after.stays.same_walk ∙ ap (λ (p : PlacementForm). p.walk) c.close.ensures ∙ was.same_walk;
      };
      run = after.gives (c.settling.counter + 1)
          (begins c.args.bounds.now.bounds c.args.new c.args.run.now c.settling.run c.close.new.self c.settling.counter c.in-Some.point c.requires.input
          was c.settling.invariant.run c.in-Some.ensures c.close.ensures);
    }

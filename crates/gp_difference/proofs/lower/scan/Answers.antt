use Rattle.std.proofs.Common.{◌≡◌, ℕ, ◌+◌, ◌-◌, ◌<◌, length, List, arith, refl, ◌∙◌, subst, sym}
use Rattle.gp_clause.specs.declared.edge.Edge.{Edge}
use Rattle.gp_difference.specs.declared.bound.Bound.{Bound}
use Rattle.gp_difference.specs.Bounds.{edge_at}
use Rattle.gp_difference.specs.Placement.{PlacementForm}
use Rattle.gp_difference.specs.Lower.{IsScan, Scanning, Running}
use Rattle.gp_difference.specs.Links.{IsLatest}
use Rattle.gp_difference.proofs.ScanLemmas.{scan_skips, scan_ends}
use Rattle.gp_difference.proofs.lower.scan.Goals as goal

skips : (bounds : List Bound) (new : Edge) (p : PlacementForm) (done s k h : ℕ) →
    Scanning bounds new p done s k → IsLatest bounds k s h → Scanning bounds new p done s h
skips bounds new p done s k h (ranks, scan) latest = (ranks, scan_skips bounds new p ranks done s k h scan latest)

ends : (bounds : List Bound) (new : Edge) (p : PlacementForm) (done s left : ℕ) → left ≡ 0 →
    Scanning bounds new p done s left → Running bounds new p done
ends bounds new p done s left none (ranks, scan) =
    (ranks, scan_ends bounds new p ranks done s (subst (λ k. IsScan bounds new p ranks done s k) none scan))

-- the scan at the bound before a number, by that bound's second point
at_bound : (bounds : List Bound) (new : Edge) (p : PlacementForm) (done s left : ℕ) → 0 < left → (edge_at bounds (left - 1)).b ≡ s →
    Scanning bounds new p done s left → Scanning bounds new p done (edge_at bounds (left - 1)).b (left - 1 + 1)
at_bound bounds new p done s left some e scan =
    let one : left ≡ left - 1 + 1 = omega arith in
    subst (λ k. Scanning bounds new p done (edge_at bounds (left - 1)).b k) one
    (subst (λ t. Scanning bounds new p done t left) (sym e) scan)

-- after a bound was relaxed, the next older one out of the point is at hand
on : (bounds : List Bound) (new : Edge) (p : PlacementForm) (done s left next : ℕ) → (edge_at bounds (left - 1)).b ≡ s →
    Scanning bounds new p done (edge_at bounds (left - 1)).b (left - 1) → IsLatest bounds (left - 1) (edge_at bounds (left - 1)).b next →
    Scanning bounds new p done s next
on bounds new p done s left next e scan latest =
    subst (λ t. Scanning bounds new p done t next) e (skips bounds new p done (edge_at bounds (left - 1)).b (left - 1) next scan latest)

pub loop-left-init : goal.loop-left-init
loop-left-init c =
    record {
      stays = record { same_places = refl; same_walk = refl };
      latest = (length c.args.bounds.now.bounds, omega arith, c.latest-left.ensures);
      some = (c.requires.scan.0, skips _ _ _ _ _ _ _ c.requires.scan.1 c.latest-left.ensures);
      scan = λ done h. skips _ _ _ done _ _ _ h c.latest-left.ensures;
    }

pub relax-requires-clause-scan : goal.relax-requires-clause-scan
relax-requires-clause-scan c =
    let inv = c.loop-left.invariant in
    let some : 0 < c.loop-left.left = c.loop-left-test.true in
    (inv.some.0, at_bound _ _ _ _ c.args.point c.loop-left.left some (inv.latest.2.out (c.loop-left.left - 1) (omega (arith, some))) inv.some.1)

pub returns-then-relax-clause-gives : goal.returns-then-relax-clause-gives
returns-then-relax-clause-gives c = λ done h.
    let inv = c.loop-left.invariant in
    let some : 0 < c.loop-left.left = c.loop-left-test.true in
    c.if-relax.ensures.gives done (at_bound _ _ _ done c.args.point c.loop-left.left some (inv.latest.2.out (c.loop-left.left - 1) (omega (arith, some))) (inv.scan done h))

pub loop-left-preserved : goal.loop-left-preserved
loop-left-preserved c =
    let inv = c.loop-left.invariant in
    let some : 0 < c.loop-left.left = c.loop-left-test.true in
    let e = inv.latest.2.out (c.loop-left.left - 1) (omega (arith, some)) in
    let bounds = c.args.bounds.now.bounds in
    let next = λ (done : ℕ) (h : Scanning bounds c.args.new c.loop-left.run done c.args.point c.loop-left.left).
    on _ _ _ done c.args.point c.loop-left.left _ e (c.if-relax.ensures.gives done (at_bound _ _ _ done c.args.point c.loop-left.left some e h)) c.earlier-left.ensures in
    record {
      stays = record {
        same_places = c.if-relax.ensures.stays.same_places ∙ inv.stays.same_places;
        same_walk = c.if-relax.ensures.stays.same_walk ∙ inv.stays.same_walk;
      };
      latest = (
        c.loop-left.left - 1,
        omega (arith, inv.latest.1, inv.latest.2.within),
        subst (λ t. IsLatest bounds (c.loop-left.left - 1) t c.earlier-left.result) e c.earlier-left.ensures,
      );
      some = (inv.some.0, next inv.some.0 inv.some.1);
      scan = λ done h. next done (inv.scan done h);
    }

pub returns-clause-gives : goal.returns-clause-gives
returns-clause-gives c = λ done h.
    let none : c.loop-left.left ≡ 0 = omega (arith, c.loop-left-test.false) in
    ends _ _ _ done c.args.point c.loop-left.left none (c.loop-left.invariant.scan done h)

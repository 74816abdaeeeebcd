use Rattle.std.proofs.Common.{arith, refl}
use Rattle.gp_queue.proofs.Rings.{gap_within, linked}
use Rattle.gp_queue.proofs.links.link.Goals as goal

pub bounds-next-before : goal.bounds-next-before
bounds-next-before c =
    let q = c.requires.gap in
    let w = gap_within _ _ q.0 _ _ q.1 q.2 q.3 in
    w.before_in

pub bounds-next-before-2 : goal.bounds-next-before-2
bounds-next-before-2 c =
    let q = c.requires.gap in
    let w = gap_within _ _ q.0 _ _ q.1 q.2 q.3 in
    w.before_in

pub bounds-prev-after : goal.bounds-prev-after
bounds-prev-after c =
    let q = c.requires.gap in
    let w = gap_within _ _ q.0 _ _ q.1 q.2 q.3 in
    omega (arith, w.after_in, q.3.ring.sizes)

pub returns : goal.returns
returns c = λ count front back gap. linked _ _ count _ _ front back _ refl gap

use Rattle.std.proofs.Common.{arith}
use Rattle.gp_queue.proofs.Rings.{within, unlinked}
use Rattle.gp_queue.proofs.links.unlink.Goals as goal

pub bounds-prev-place : goal.bounds-prev-place
bounds-prev-place c =
    let q = c.requires in
    let w = within _ _ q.0 q.1 _ q.2 q.3 in
    omega (arith, w.place, q.3.sizes)

pub bounds-next-place : goal.bounds-next-place
bounds-next-place c =
    let q = c.requires in
    let w = within _ _ q.0 q.1 _ q.2 q.3 in
    w.place

pub bounds-next-before : goal.bounds-next-before
bounds-next-before c =
    let q = c.requires in
    let w = within _ _ q.0 q.1 _ q.2 q.3 in
    omega (arith, w.before, w.before_in)

pub bounds-prev-after : goal.bounds-prev-after
bounds-prev-after c =
    let q = c.requires in
    let w = within _ _ q.0 q.1 _ q.2 q.3 in
    omega (arith, w.after, w.after_in, q.3.sizes)

pub returns : goal.returns
returns c = λ count front back ring.
    let w = within _ _ count front _ back ring in
    unlinked _ _ count front _ back _ _ w.before w.after ring

use Rattle.std.proofs.Common.{[], ◌++◌}
use Rattle.gp_queue.proofs.Rings.{front_gap}
use Rattle.gp_queue.proofs.links.move_to_front.Goals as goal

pub link-requires-clause-gap : goal.link-requires-clause-gap
link-requires-clause-gap c =
    let q = c.requires.ring in
    (q.0, [], q.1 ++ q.2, front_gap _ _ _ _ q.0 q.1 _ q.2 q.3 (c.unlink.ensures q.0 q.1 q.2 q.3))

pub returns : goal.returns
returns c = λ count front back ring.
    c.link.ensures count [] (front ++ back) (front_gap _ _ _ _ count front _ back ring (c.unlink.ensures count front back ring))

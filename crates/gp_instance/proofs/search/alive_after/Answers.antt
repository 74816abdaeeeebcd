-- What the narrowing leaves, where threads are left.
use Rattle.gp_instance.proofs.Crowded.{leaves_some}
use Rattle.gp_instance.proofs.Dead.{leaves_narrowed}
use Rattle.gp_instance.proofs.search.alive_after.Goals as goal

pub unless_crowded-requires : goal.unless_crowded-requires
unless_crowded-requires c =
    let left = leaves_narrowed _ _ _ _ _ _ c.in_ok-chosen.ensures c.requires c.in_ok-left.ensures in
    (rw c.in-Some.is at left).1

pub returns-in-Some : goal.returns-in-Some
returns-in-Some c =
    let left = leaves_narrowed _ _ _ _ _ _ c.in_ok-chosen.ensures c.requires c.in_ok-left.ensures in
    leaves_some _ _ _ _ _ (rw c.in-Some.is at left) c.unless_crowded.ensures

pub returns : goal.returns
returns c =
    let left = leaves_narrowed _ _ _ _ _ _ c.in_ok-chosen.ensures c.requires c.in_ok-left.ensures in
    rw c.in-None.is at left

-- After a removal the reader is nowhere, so a filter takes away the same.
use Rattle.std.proofs.Common.{◌∙◌}
use Rattle.std.specs.BTreeMap.{is_at}
use Rattle.gp_window.specs.Holders.{holder_cmp}
use Rattle.gp_replay.specs.ReaderLaws.{removed_is_filtered}
use Rattle.gp_replay.proofs.readers.Readers.remove.Goals as goal

pub returns : goal.returns
returns c =
    let test = is_at (holder_cmp (c.args.lock.now, c.args.thread)) in
    let left = rw c.remove.ensures.keys at c.remove.ensures.updates.1 in
    rw (← c.self.view_is) (c.remove.ensures.keys ∙ removed_is_filtered test c.self.inside.set.keys left)

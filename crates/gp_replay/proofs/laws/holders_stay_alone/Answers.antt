use Rattle.gp_replay.specs.Step.{start_state}
use Rattle.gp_replay.specs.ExclusionLaws.{run_alone}
use Rattle.gp_replay.specs.HolderLaws.{holds_is_holder}
use Rattle.gp_replay.specs.SharingLaws.{sharer_is_reader}
use Rattle.gp_replay.specs.StartLaws.{alone_at_start}
use Rattle.gp_replay.proofs.laws.holders_stay_alone.Goals as goal

pub returns : goal.returns
returns c = λ window ids is r lock one other holds shares.
    run_alone window (start_state window) r.0 ids r.1 (alone_at_start window (c.windows_are_formed.ensures window is)) lock one other
    (holds_is_holder window (start_state window) r.0 ids lock one r.1 holds)
    (sharer_is_reader window (start_state window) r.0 ids lock other r.1 shares)

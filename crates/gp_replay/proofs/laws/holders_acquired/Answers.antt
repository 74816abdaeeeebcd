use Rattle.gp_replay.specs.Step.{start_state}
use Rattle.gp_replay.specs.HolderLaws.{holder_acquired, holds_is_holder}
use Rattle.gp_replay.proofs.laws.holders_acquired.Goals as goal

pub returns : goal.returns
returns c = λ window ids last r lock thread.
    (holder_acquired window (start_state window) last ids lock thread r, holds_is_holder window (start_state window) last ids lock thread r)

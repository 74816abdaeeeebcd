use Rattle.gp_replay.specs.Step.{start_state}
use Rattle.gp_replay.specs.SharingLaws.{reader_acquired, sharer_is_reader}
use Rattle.gp_replay.proofs.laws.readers_acquired.Goals as goal

pub returns : goal.returns
returns c = λ window ids last r lock thread.
    (reader_acquired window (start_state window) last ids lock thread r, sharer_is_reader window (start_state window) last ids lock thread r)

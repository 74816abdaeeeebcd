use Rattle.gp_replay.specs.Step.{start_state}
use Rattle.gp_replay.specs.ValueLaws.{read_in_run}
use Rattle.gp_replay.proofs.laws.reads_find_last_writes.Goals as goal

pub returns : goal.returns
returns c = λ window prefix id back variable value r reads.
    read_in_run window (start_state window) r.0 prefix id back variable value r.1 reads

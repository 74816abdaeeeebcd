use Rattle.std.proofs.Common.{length}
use Rattle.std.proofs.lemmas.List.{length-replicate}
use Rattle.gp_replay.specs.Step.{start_state}
use Rattle.gp_replay.specs.CountLaws.{run_is_distinct}
use Rattle.gp_replay.proofs.laws.events_happen_once.Goals as goal

pub returns : goal.returns
returns c = λ window ids r. run_is_distinct window (start_state window) r.0 ids (length-replicate (length window.segments) 0) r.1

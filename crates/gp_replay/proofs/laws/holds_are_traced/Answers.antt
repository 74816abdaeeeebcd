use Rattle.gp_replay.specs.Step.{start_state}
use Rattle.gp_replay.specs.ToldLaws.{tells_run, tells_start}
use Rattle.gp_replay.proofs.laws.holds_are_traced.Goals as goal

pub returns : goal.returns
returns c = λ window ids last is r thread lock mode.
    let formed = c.windows_are_formed.ensures window is in
    (tells_run window (start_state window) last ids formed (tells_start window formed) r).held thread lock mode

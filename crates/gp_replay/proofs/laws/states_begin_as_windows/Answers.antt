use Rattle.gp_replay.specs.StartLaws.{held_as_told, holders_as_told, read_as_told, readers_as_told, values_as_told}
use Rattle.gp_replay.proofs.laws.states_begin_as_windows.Goals as goal

pub returns : goal.returns
returns c =
    let formed = c.windows_are_formed.ensures in
    record {
      values = λ window is. values_as_told window (formed window is);
      holders = λ window is. holders_as_told window (formed window is);
      readers = λ window is. readers_as_told window (formed window is);
      holds = λ window is lock thread. held_as_told window (formed window is) lock thread;
      reads = λ window is lock thread. read_as_told window (formed window is) lock thread;
    }

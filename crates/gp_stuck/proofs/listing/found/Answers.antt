-- The window comes from a recording, so it is well formed.
use Rattle.std.proofs.Common.{subst}
use Rattle.gp_window.specs.Formed.{IsFormed}
use Rattle.gp_stuck.proofs.listing.found.Goals as goal

pub find_all-requires-clause-formed : goal.find_all-requires-clause-formed
find_all-requires-clause-formed c =
    subst IsFormed c.window-window.ensures (c.windows_are_formed.ensures c.window-window.result.now c.comes_from_recording.ensures)

pub first_holding-requires : goal.first_holding-requires
first_holding-requires c = c.windows_are_formed.ensures c.window-window.result.now c.comes_from_recording.ensures

use Rattle.std.proofs.Common.{◌≡◌, ◌++◌, drop}
use Rattle.std.specs.Prelude.{flat_map}
use Rattle.gp_window.specs.WindowForm.{started_by}
use Rattle.gp_cut_files.proofs.started.add_starts.Given as goal

abbrev pub invariant-loop-event : goal.invariant-loop-event
invariant-loop-event l =
    l.started ++ flat_map started_by (drop l.event-index l.events) ≡ l.initial.started ++ flat_map started_by l.events

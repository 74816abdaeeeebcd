use Rattle.std.proofs.Common.{take}
use Rattle.std.specs.Prelude.{filter}
use Rattle.gp_instance.specs.Instances.{ids_from}
use Rattle.gp_stuck.specs.Noted.{AreNoted}
use Rattle.gp_stuck.specs.Search.{takes_lock}
use Rattle.gp_stuck.proofs.noting.note_window.Given as goal

abbrev pub invariant-loop-place : goal.invariant-loop-place
invariant-loop-place l = AreNoted l.window (filter (takes_lock l.window) (ids_from 1 (take l.place l.window.segments))) l.starts l.holders

use Rattle.std.proofs.Common.{◌≡◌, take, true}
use Rattle.std.specs.Prelude.{Contains}
use Rattle.gp_stuck.specs.declared.link.Closer.{Closer}
use Rattle.gp_stuck.specs.Closing.{has_other, is_behind}
use Rattle.gp_stuck.proofs.closing.others_of.Given as goal

abbrev pub invariant-loop-closer : goal.invariant-loop-closer
invariant-loop-closer l = (closer : Closer) → Contains (take l.closer-index l.closers) closer → is_behind l.link closer ≡ true → has_other l.others closer.thread ≡ true

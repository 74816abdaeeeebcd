use Rattle.std.proofs.Common.{◌≡◌, ◌++◌, drop, map}
use Rattle.gp_text.specs.Spelling.{spelling}
use Rattle.gp_tell.specs.Naming.{name_by}
use Rattle.gp_tell.specs.ReasonText.{ground_line}
use Rattle.gp_tell.proofs.reason.put_grounds.Given as goal

abbrev pub invariant-loop-basis : goal.invariant-loop-basis
invariant-loop-basis l = l.text.items ++ spelling (map (ground_line (name_by l.naming)) (drop l.basis-index l.grounds)) ≡ l.initial.text.items ++ spelling (map (ground_line (name_by l.naming)) l.grounds)

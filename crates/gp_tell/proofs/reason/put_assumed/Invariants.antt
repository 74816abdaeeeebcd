use Rattle.std.proofs.Common.{◌≡◌, ◌++◌, drop, map}
use Rattle.gp_text.specs.Spelling.{spelling}
use Rattle.gp_tell.specs.Naming.{name_by}
use Rattle.gp_tell.specs.ReasonText.{assumed_line}
use Rattle.gp_tell.proofs.reason.put_assumed.Given as goal

abbrev pub invariant-loop-fact : goal.invariant-loop-fact
invariant-loop-fact l = l.text.items ++ spelling (map (assumed_line (name_by l.naming)) (drop l.fact-index l.facts)) ≡ l.initial.text.items ++ spelling (map (assumed_line (name_by l.naming)) l.facts)

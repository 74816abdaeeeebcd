use Rattle.std.proofs.Common.{◌≡◌, ◌++◌, drop}
use Rattle.std.specs.List.{flat_map}
use Rattle.gp_tell.specs.Naming.{name_by}
use Rattle.gp_tell.specs.FactText.{or_fact}
use Rattle.gp_tell.proofs.fact.put_others.Given as goal

abbrev pub invariant-loop-fact : goal.invariant-loop-fact
invariant-loop-fact l = l.text.items ++ flat_map (or_fact (name_by l.naming)) (drop l.fact-index l.facts) ≡ l.initial.text.items ++ flat_map (or_fact (name_by l.naming)) l.facts

use Rattle.std.proofs.Common.{◌≡◌, ◌++◌, drop, map, false}
use Rattle.std.specs.List.{list_any}
use Rattle.gp_instance.specs.Search.{candidates_of, is_dead}
use Rattle.gp_instance.proofs.candidate.candidates.Given as goal

abbrev pub invariant-loop-atom : goal.invariant-loop-atom
invariant-loop-atom l = record {
  made : l.domains ++ map (candidates_of l.segments) (drop l.atom-index l.atoms) ≡ map (candidates_of l.segments) l.atoms;
  alive : list_any is_dead l.domains ≡ false;
}

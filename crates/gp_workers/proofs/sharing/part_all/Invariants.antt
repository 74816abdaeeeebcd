use Rattle.std.proofs.Common.{◌≡◌, ◌++◌, length, map}
use Rattle.gp_workers.proofs.sharing.part_all.Given as goal

abbrev pub decreases-loop-shared : goal.decreases-loop-shared
decreases-loop-shared l = length l.crew.items

abbrev pub invariant-loop-shared : goal.invariant-loop-shared
invariant-loop-shared l = record {
  worked : l.all.items ++ map (λ shared. shared.worked) l.crew.items ≡ l.fn.all.items ++ map (λ shared. shared.worked) l.fn.crew.items;
  passes : l.rows.items ++ map (λ shared. shared.passes) l.crew.items ≡ l.fn.rows.items ++ map (λ shared. shared.passes) l.fn.crew.items;
}

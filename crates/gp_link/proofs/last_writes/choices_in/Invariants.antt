use Rattle.std.proofs.Common.{◌≡◌, ◌++◌, drop}
use Rattle.gp_link.specs.LinkClauses.{choices_in}
use Rattle.gp_link.proofs.last_writes.choices_in.Given as goal

abbrev pub invariant-loop-w : goal.invariant-loop-w
invariant-loop-w l = l.choices ++ choices_in (drop l.w-index l.writes) l.variable l.value ≡ choices_in l.writes l.variable l.value

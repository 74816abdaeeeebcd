-- One more cycle is added where there is room.
use Rattle.std.proofs.Common.{arith}
use Rattle.gp_instance.specs.LimitLaws.{full}
use Rattle.gp_stuck.proofs.search.add.Goals as goal

pub returns-then-len-gt-MOST_CYCLES : goal.returns-then-len-gt-MOST_CYCLES
returns-then-len-gt-MOST_CYCLES c = full _ _ (omega arith) (omega arith)

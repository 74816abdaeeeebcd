-- One more instance is added where there is room.
use Rattle.std.proofs.Common.{arith}
use Rattle.gp_instance.specs.LimitLaws.{full}
use Rattle.gp_instance.proofs.search.add.Goals as goal

pub returns-then-len-gt-MOST_INSTANCES : goal.returns-then-len-gt-MOST_INSTANCES
returns-then-len-gt-MOST_INSTANCES c = full _ _ (omega arith) (omega arith)

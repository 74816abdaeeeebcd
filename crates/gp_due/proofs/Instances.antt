-- The instances of a property are not listed where they are too many.
use Rattle.std.proofs.Common.{length, nat_lt}
use Rattle.gp_instance.specs.Instances.{due_instances, instances_of}
use Rattle.gp_due.specs.Readers.{InstancesWantNoMemory}
use Rattle.gp_due.proofs.Results as of

pub instances_say : InstancesWantNoMemory
unfolding due_instances
instances_say window property number = of.either (nat_lt 10000 (length (instances_of window property))) (of.fault tt) of.value

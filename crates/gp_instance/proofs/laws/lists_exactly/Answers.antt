-- All instances are held, and all that is held is in order.
use Rattle.gp_base.specs.FilterLaws.{pairwise_filter}
use Rattle.gp_property.specs.Atoms.{atoms_of}
use Rattle.gp_instance.specs.Instance.{is_instance}
use Rattle.gp_instance.specs.IdsLaws.{lists_ordered, window_ordered}
use Rattle.gp_instance.specs.Instances.{ids_of, lists_of}
use Rattle.gp_instance.specs.Listed.{IsBefore}
use Rattle.std.proofs.Common.{length}
use Rattle.gp_instance.proofs.Holding.{held_instance, instance_held}
use Rattle.gp_instance.proofs.laws.lists_exactly.Goals as goal

pub returns : goal.returns
returns c = record {
  all = λ window property ids. (held_instance window property ids, instance_held window property ids);
  ordered = λ window property.
      pairwise_filter IsBefore (is_instance window property) (lists_of (length (atoms_of property)) (ids_of window.segments))
      (lists_ordered (length (atoms_of property)) (ids_of window.segments) (window_ordered window.segments));
}

use Rattle.gp_property.proofs.AtomsKept.{atoms_kept_lem}
use Rattle.gp_property.proofs.laws.atoms_kept.Goals as goal

pub returns : goal.returns
returns c = atoms_kept_lem

use Rattle.std.proofs.lemmas.Slice.Eq.{slice_eq-Decides}
use Rattle.gp_checker.proofs.Same.{ids_decide}
use Rattle.gp_checker.proofs.entries.are_same.Goals as goal

pub returns : goal.returns
returns c = slice_eq-Decides ids_decide _ _ _ c.eq.ensures

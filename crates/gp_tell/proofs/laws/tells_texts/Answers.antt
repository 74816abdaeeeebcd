use Rattle.std.proofs.Common.{refl}
use Rattle.std.specs.Fmt.{digits}
use Rattle.gp_tell.proofs.laws.tells_texts.Goals as goal

pub returns : goal.returns
unfolding digits
returns c = record { flag_raised = refl; flag_up = refl; flag_up_placed = refl; work_folded = refl; thread_ended = refl; clauses = refl; clauses_placed = refl; steps = refl }

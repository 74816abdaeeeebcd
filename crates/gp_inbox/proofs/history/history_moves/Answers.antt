-- Lists are appended in any order of the brackets.
use Rattle.std.proofs.Common.{sym, [], ◌∷◌, append_assoc}
use Rattle.gp_inbox.proofs.history.history_moves.Goals as goal

pub returns : goal.returns
returns c = record { push = λ taken held clause. sym (append_assoc taken held (clause ∷ [])); take = λ taken held clause. append_assoc taken (clause ∷ []) held }

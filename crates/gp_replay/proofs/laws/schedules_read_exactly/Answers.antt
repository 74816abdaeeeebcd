use Rattle.gp_replay.proofs.Grammar.{read_is_spelled, spelled_is_read}
use Rattle.gp_replay.proofs.laws.schedules_read_exactly.Goals as goal

pub returns : goal.returns
returns c = λ epochs end lines read few small. (
  read_is_spelled c.one_spelling.ensures c.event_ids_read_exactly.ensures epochs end lines read few small,
  spelled_is_read c.one_spelling.ensures c.event_ids_read_exactly.ensures epochs end lines read few small,
)

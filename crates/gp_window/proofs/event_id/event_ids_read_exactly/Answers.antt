use Rattle.gp_window.proofs.EventIds.{reads_exactly}
use Rattle.gp_window.proofs.event_id.event_ids_read_exactly.Goals as goal

pub returns : goal.returns
returns c = λ word id thread index. reads_exactly c.one_spelling.ensures word id thread index

use Rattle.gp_story.proofs.Sources.{source_begun, source_told, source_written}
use Rattle.gp_story.proofs.laws.sources_are_last_writes.Goals as goal

pub returns : goal.returns
returns c = record {
  written = source_written c.reads_find_last_writes.ensures;
  begun = λ window schedule marked line variable value is. source_begun c.reads_find_last_writes.ensures window schedule marked line variable value (c.states_begin_as_windows.ensures.values window is);
  told = source_told;
}

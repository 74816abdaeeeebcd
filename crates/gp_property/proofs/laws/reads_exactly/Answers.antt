use Rattle.gp_property.proofs.LinesAgain.{spelled_read}
use Rattle.gp_property.proofs.LinesRead.{read_spelled}
use Rattle.gp_property.proofs.laws.reads_exactly.Goals as goal

pub returns : goal.returns
returns c = λ last lines properties.
    (read_spelled c.one_spelling.ensures last lines properties, spelled_read c.one_spelling.ensures last lines properties)

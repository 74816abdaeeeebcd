use Rattle.gp_property.proofs.Valid.{valid_read}
use Rattle.gp_property.proofs.reading.read_properties.Goals as goal

pub returns-clause-valid : goal.returns-clause-valid
returns-clause-valid c = valid_read c.reads_exactly.ensures c.end_line.result c.as_slice.result.now c.properties_from-properties.result c.properties_from-properties.ensures

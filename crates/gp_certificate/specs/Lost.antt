-- Levels of assumptions.
use Rattle.std.specs.Prelude.{◌-◌, Bool, false, List, length, slice_index_or}
use Rattle.gp_certificate.specs.declared.level.Level.{Level}

-- the level that stands for none
abbrev pub no_level : Level
no_level = record { trail = 0; cursor = 0; bounds = 0; refutes = false }

-- whether the last of some levels refutes
abbrev pub is_lost : List Level → Bool
is_lost levels = (slice_index_or levels (length levels - 1) no_level).refutes

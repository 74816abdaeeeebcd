-- A group that stands together stands in a row, and one that stands in a row stands together.
use Rattle.gp_instance.proofs.InRows.{from_row, in_row}
use Rattle.gp_instance.proofs.laws.groups_stand_in_rows.Goals as goal

pub returns : goal.returns
returns c = λ group schedule apart. (in_row group schedule apart, from_row group schedule)

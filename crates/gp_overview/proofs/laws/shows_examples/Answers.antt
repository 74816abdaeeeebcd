use Rattle.std.proofs.Common.{refl}
use Rattle.std.specs.Fmt.{digits}
use Rattle.gp_overview.specs.Page.{body_cell, counts_row, head_cell, head_row, table_part, verdict_part}
use Rattle.gp_overview.proofs.laws.shows_examples.Goals as goal

pub returns : goal.returns
unfolding digits body_cell counts_row head_cell head_row table_part verdict_part
returns c = record {
  swap = refl;
  late = refl;
  other = refl;
  all = refl;
  table = refl;
  page_table = refl;
  escaped_name = refl;
  accepted = refl;
  page_accepted = refl;
  window_count = refl;
  wrong_size = refl;
  wrong_property = refl;
  wrong_events = refl;
  stuck = refl;
  unmatched = refl;
  bad_step = refl;
  unrefuted = refl;
  wrong_budget = refl;
  bad_shared_step = refl;
}

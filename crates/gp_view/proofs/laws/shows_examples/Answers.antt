use Rattle.std.proofs.Common.{refl}
use Rattle.std.specs.Fmt.{digits}
use Rattle.gp_reason.specs.Cycles.{cycle_told, forces_nothing}
use Rattle.gp_drawing.specs.Svg.{arrow_line, arrow_svg, bar_svg, behind, circle, head, lane_svg, row_svg, row_text, row_title, svg, view}
use Rattle.gp_view.specs.Page.{answered_part, event_item, events_part, fold_head, reason_text, sighting_part, spent_part, title_part}
use Rattle.gp_view.proofs.laws.shows_examples.Goals as goal

pub returns : goal.returns
unfolding digits cycle_told forces_nothing arrow_line arrow_svg bar_svg behind circle head lane_svg row_svg row_text row_title svg view answered_part event_item events_part fold_head reason_text sighting_part spent_part title_part
returns c = record {
  found_lines = refl;
  seen_lines = refl;
  impossible_lines = refl;
  undecided_lines = refl;
  found_part = refl;
  seen_part = refl;
  impossible_part = refl;
  undecided_part = refl;
  few_rows = refl;
  many_rows = refl;
}

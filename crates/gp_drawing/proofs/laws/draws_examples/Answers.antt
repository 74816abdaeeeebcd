use Rattle.std.proofs.Common.{refl}
use Rattle.std.specs.Fmt.{digits}
use Rattle.gp_drawing.specs.Svg.{arrow_line, arrow_svg, bar_svg, behind, circle, head, lane_svg, row_svg, row_text, row_title, svg, view}
use Rattle.gp_drawing.proofs.laws.draws_examples.Goals as goal

pub returns : goal.returns
unfolding digits arrow_line arrow_svg bar_svg behind circle head lane_svg row_svg row_text row_title svg view
returns c = record { flag_raised = refl; work_folded = refl; readers_pass = refl; two_rows = refl; with_place = refl; markup = refl }

use Rattle.gp_drawing.proofs.Leading.{arrow_down, arrow_told}
use Rattle.gp_drawing.proofs.laws.arrows_lead_down.Goals as goal

pub returns : goal.returns
returns c = record {
  down = λ window story arrow i. arrow_down window story.parts arrow i;
  ends = λ window story arrow i. let told = arrow_told window story.parts arrow i in (told.0, told.1, told.2, told.3, told.4);
}

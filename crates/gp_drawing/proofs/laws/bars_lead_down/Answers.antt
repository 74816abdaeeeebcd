use Rattle.gp_drawing.proofs.Leading.{bar_down, bar_there}
use Rattle.gp_drawing.proofs.laws.bars_lead_down.Goals as goal

pub returns : goal.returns
returns c = record {
  down = λ window story bar from to i begins ends. bar_down window story.parts bar from to i begins ends;
  there = λ window story bar to i ends. bar_there window story.parts bar to i ends;
}

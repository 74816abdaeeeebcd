use Rattle.std.proofs.Common.{[]}
use Rattle.gp_story.specs.Lines.{lines_of}
use Rattle.gp_story.proofs.Told.{events_again, lines_again, parts_apart, places_again, runs_told}
use Rattle.gp_story.proofs.laws.stories_tell_each_once.Goals as goal

pub returns : goal.returns
returns c = record {
  lines = λ window schedule marked. lines_again (lines_of window schedule marked);
  events = λ window schedule marked. events_again window marked [] schedule;
  places = λ window schedule marked. places_again window marked [] schedule;
  runs = λ window schedule marked run i. runs_told (lines_of window schedule marked) run i;
  apart = λ window schedule marked front back one other is. parts_apart (lines_of window schedule marked) front back one other is;
}

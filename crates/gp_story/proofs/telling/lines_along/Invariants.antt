-- What was told, and then what is left to be told, is all; and what is kept tells of the events so far.
use Rattle.std.proofs.Common.{◌≡◌, ◌++◌, drop, take}
use Rattle.gp_story.specs.Lines.{lines_from, lines_of}
use Rattle.gp_story.specs.Past.{Recalls}
use Rattle.gp_story.proofs.telling.lines_along.Given as goal

abbrev pub invariant-loop-place : goal.invariant-loop-place
invariant-loop-place l = record {
  told : l.lines ++ lines_from l.sharing l.marked (take l.place l.schedule) (drop l.place l.schedule) ≡ lines_of l.sharing l.schedule l.marked;
  recalls : Recalls l.sharing (take l.place l.schedule) l.past;
}

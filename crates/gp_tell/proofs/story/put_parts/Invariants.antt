use Rattle.std.proofs.Common.{◌≡◌, ◌++◌, drop}
use Rattle.std.specs.List.{flat_map}
use Rattle.gp_text.specs.Spelling.{spelling}
use Rattle.gp_place.specs.Places.{behind}
use Rattle.gp_tell.specs.StoryText.{part_lines}
use Rattle.gp_tell.proofs.story.put_parts.Given as goal

abbrev pub invariant-loop-part : goal.invariant-loop-part
invariant-loop-part l = l.text.items ++ spelling (flat_map (part_lines (behind l.places l.window.number) l.window) (drop l.part-index l.parts)) ≡ l.initial.text.items ++ spelling (flat_map (part_lines (behind l.places l.window.number) l.window) l.parts)

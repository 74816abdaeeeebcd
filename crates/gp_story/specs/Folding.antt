-- Folding lines one after another, with a last group of lines that may still grow.
use Rattle.std.specs.Prelude.{Bool, false, List, [], ◌∷◌, ◌++◌, if◌then◌else◌}
use Rattle.gp_story.specs.declared.folding.Folding.{Folding}
use Rattle.gp_story.specs.declared.story.Part.{Part}
use Rattle.gp_story.specs.declared.story.StoryLine.{StoryLine}
use Rattle.gp_story.specs.Parts.{part_of, stand_together}

-- whether a line stands together with the last of these
abbrev pub goes_on : List StoryLine → StoryLine → Bool
goes_on [] line = false
goes_on (last ∷ []) line = stand_together last line
goes_on (first ∷ next ∷ lines) line = goes_on (next ∷ lines) line

-- the parts, and behind them a group as one, where it has lines
abbrev pub with_group : List Part → List StoryLine → List Part
with_group parts [] = parts
with_group parts (line ∷ lines) = parts ++ part_of (line ∷ lines) ∷ []

-- after one line more: it goes on with the last group, or begins another one
abbrev pub after_line : Folding → StoryLine → Folding
after_line folding line =
    if goes_on folding.group line then record { parts = folding.parts; group = folding.group ++ line ∷ [] }
    else record { parts = with_group folding.parts folding.group; group = line ∷ [] }

-- after lines
abbrev pub after_lines : Folding → List StoryLine → Folding
after_lines folding [] = folding
after_lines folding (line ∷ lines) = after_lines (after_line folding line) lines

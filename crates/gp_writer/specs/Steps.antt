-- The lines of words that tell a step.
use Rattle.std.specs.Prelude.{ℕ, List, [], ◌∷◌, ◌++◌, length, map, codes, decimal}
use Rattle.gp_certificate.specs.declared.step.Step.{Step}
use Rattle.gp_writer.specs.Lines.{in_lines}
use Rattle.gp_writer.specs.Spelled.{lit_word}

-- how many literals and hints a step has, then the literals, then the hints
abbrev pub step_lines : Step → List (List (List ℕ))
step_lines step =
    (codes "step" ∷ decimal (length step.clause) ∷ decimal (length step.hints) ∷ [])
    ∷ (in_lines (map lit_word step.clause) ++ in_lines (map decimal step.hints))

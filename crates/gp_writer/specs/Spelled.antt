-- What is told as one word.
use Rattle.std.specs.Prelude.{ℕ, ◌+◌, List, ◌∷◌, decimal, if◌then◌else◌}
use Rattle.gp_clause.specs.declared.lit.Lit.{Lit}

-- the number of a literal's variable, from 1, after `-` where the literal is negative
abbrev pub lit_word : Lit → List ℕ
lit_word lit = if lit.positive then decimal (lit.variable + 1) else 45 ∷ decimal (lit.variable + 1)

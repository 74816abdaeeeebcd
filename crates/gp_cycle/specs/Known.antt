-- Literals that are known, with a mark for each at a place of its own.
use Rattle.std.specs.Prelude.{ℕ, ◌≡◌, ◌+◌, ◌*◌, Bool, false, List, get_or, if◌then◌else◌}
use Rattle.gp_clause.specs.declared.lit.Lit.{Lit}
use Rattle.gp_cycle.specs.Forced.{is_known}

-- the place of the mark of a literal: two behind one another are those of a variable, the first that of its negation
abbrev pub place_of : Lit → ℕ
place_of lit = 2 * lit.variable + (if lit.positive then 1 else 0)

-- whether a place is marked
abbrev pub is_marked : List Bool → ℕ → Bool
is_marked marks place = get_or marks place false

-- just the literals that are known are marked
abbrev pub AreMarked : List Lit → List Bool → Type 0
AreMarked lits marks = (lit : Lit) → is_marked marks (place_of lit) ≡ is_known lits lit

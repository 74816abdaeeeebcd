-- What clauses force, one after another and sweep after sweep, from literals that are known.
use Rattle.std.specs.Prelude.{ℕ, zero, suc, Bool, not, ◌&&◌, ◌||◌, List, [], ◌∷◌, ◌++◌, Option, None, Some, if◌then◌else◌, find, length}
use Rattle.std.specs.List.{list_any}
use Rattle.gp_clause.specs.declared.lit.Lit.{Lit}
use Rattle.gp_clause.specs.Lit.{lit_eq, opposite}

-- whether a literal is known
abbrev pub is_known : List Lit → Lit → Bool
is_known known lit = list_any (λ other. lit_eq other lit) known

-- whether a literal is open: its negation is not known
abbrev pub is_open : List Lit → Lit → Bool
is_open known lit = not (is_known known (opposite lit))

-- whether a literal is open and is another one than this
abbrev pub is_open_beside : List Lit → Lit → Lit → Bool
is_open_beside known one lit = is_open known lit && not (lit_eq lit one)

-- what a clause forces whose first open literal is this: that one, where it is not known and no other is open
abbrev pub forced_first : List Lit → List Lit → Option Lit → Option Lit
forced_first known clause None = None
forced_first known clause (Some lit) = if is_known known lit || list_any (is_open_beside known lit) clause then None else Some lit

-- what a clause forces: its one open literal, where that is not known
abbrev pub forced_by : List Lit → List Lit → Option Lit
forced_by known clause = forced_first known clause (find (is_open known) clause)

-- what is known with a literal that is forced, where one is
abbrev pub with_forced : List Lit → Option Lit → List Lit
with_forced known None = known
with_forced known (Some lit) = known ++ lit ∷ []

-- what is known after a sweep over clauses, each of which adds what it forces
abbrev pub sweep : List Lit → List (List Lit) → List Lit
sweep known [] = known
sweep known (clause ∷ clauses) = sweep (with_forced known (forced_by known clause)) clauses

-- what is known after so many sweeps
abbrev pub sweeps : ℕ → List Lit → List (List Lit) → List Lit
sweeps zero known clauses = known
sweeps (suc more) known clauses = sweeps more (sweep known clauses) clauses

-- what is known after as many sweeps as there are clauses: since no clause forces twice, none forces anything more
abbrev pub forced_from : List Lit → List (List Lit) → List Lit
forced_from start clauses = sweeps (length clauses) start clauses

-- whether a clause is false: none of its literals is open
abbrev pub is_false : List Lit → List Lit → Bool
is_false known clause = not (list_any (is_open known) clause)

-- what is known, unless some clause is false by it
abbrev pub unless_false : List Lit → List (List Lit) → Option (List Lit)
unless_false known clauses = if list_any (is_false known) clauses then None else Some known

-- the literals that clauses force from a start, which stands first, in the order in which they are forced; nothing where a clause becomes
-- false
abbrev pub forced : List Lit → List (List Lit) → Option (List Lit)
forced start clauses = unless_false (forced_from start clauses) clauses

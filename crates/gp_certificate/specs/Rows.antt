-- The rows that list in which clauses a literal stands.
use Rattle.std.specs.Prelude.{ℕ, ◌≡◌, ◌+◌, ◌*◌, ◌<◌, ◌==◌, cond, List, [], ◌∷◌, ◌++◌, Some, length, map, replicate, count_by, slice_get, slice_index_or, Contains}
use Rattle.std.specs.Global.{Global}
use Rattle.std.specs.declared.vec.Vec.{Vec}
use Rattle.gp_clause.specs.declared.lit.Lit.{Lit}
use Rattle.gp_clause.specs.Lit.{lit_eq}

-- how often a literal stands in a clause
abbrev pub occurs : Lit → List Lit → ℕ
occurs lit clause = count_by (lit_eq lit) clause

-- how often a number stands in a row
abbrev pub count_of : ℕ → List ℕ → ℕ
count_of number row = count_by (λ other. other == number) row

-- the clause with a number, which is empty where there is none
abbrev pub clause_at : List (List Lit) → ℕ → List Lit
clause_at clauses number = slice_index_or clauses number []

-- the count with a number
abbrev pub left_at : List ℕ → ℕ → ℕ
left_at left number = slice_index_or left number 0

-- the numbers of clauses, each as often as a literal stands in it, where the first has a given number
abbrev pub numbers_of : Lit → ℕ → List (List Lit) → List ℕ
numbers_of lit from [] = []
numbers_of lit from (clause ∷ clauses) = replicate (occurs lit clause) from ++ numbers_of lit (from + 1) clauses

-- the number of a literal
abbrev pub code_of : Lit → ℕ
code_of lit = 2 * lit.variable + cond lit.positive 1 0

-- the row of a literal
abbrev pub row_of : List (Vec ℕ Global) → Lit → List ℕ
row_of rows lit = slice_index_or (map (λ (row : Vec ℕ Global). row.items) rows) (code_of lit) []

-- the row of each literal lists the clauses in which it stands, and no others
abbrev pub AreListed : List (List Lit) → List (Vec ℕ Global) → Type 0
AreListed clauses rows = (lit : Lit) → row_of rows lit ≡ numbers_of lit 0 clauses

-- the clauses of fewer than two literals are noted
abbrev pub HasShort : List (List Lit) → List ℕ → Type 0
HasShort clauses short = (number : ℕ) (clause : List Lit) → slice_get clauses number ≡ Some clause → length clause < 2 → Contains short number

-- Symbols and their numbers at first mention.
use Rattle.std.specs.Prelude.{ℕ, zero, suc, ◌++◌, List, [], ◌∷◌, if◌then◌else◌, nat_lt}
use Rattle.std.specs.List.{list_any, position_or_len}
use Rattle.gp_clause.specs.declared.lit.Lit.{Lit}
use Rattle.gp_clause.specs.Lit.{lit_eq}
use Rattle.gp_constraint.specs.declared.symbol.Symbol.{Symbol}
use Rattle.gp_constraint.specs.declared.symbol.Symbol.TheVariants.{Executed}
use Rattle.gp_constraint.specs.declared.symbol.SymbolicLit.{SymbolicLit}
use Rattle.gp_constraint.specs.Symbols.{symbol_eq}

-- the names after a mention of a symbol
abbrev pub with_mention : List Symbol → Symbol → List Symbol
with_mention names symbol = if list_any (symbol_eq symbol) names then names else names ++ symbol ∷ []

-- and after the mentions of several
abbrev pub with_mentions : List Symbol → List Symbol → List Symbol
with_mentions names [] = names
with_mentions names (symbol ∷ symbols) = with_mentions (with_mention names symbol) symbols

-- the variable of a symbol: its place among the names
abbrev pub number_of : List Symbol → Symbol → ℕ
number_of names symbol = position_or_len (symbol_eq symbol) names

-- the names before the first clause: point p is executed is variable p
abbrev pub point_names : ℕ → List Symbol
point_names zero = []
point_names (suc n) = point_names n ++ Executed n ∷ []

-- a clause with a literal in its place, unless it is there
abbrev pub with_lit : List Lit → Lit → List Lit
with_lit [] lit = lit ∷ []
with_lit (head ∷ rest) lit =
    if nat_lt lit.variable head.variable then lit ∷ head ∷ rest
    else (if lit_eq lit head then head ∷ rest else head ∷ with_lit rest lit)

-- a literal by its variable
abbrev pub numbered_lit : List Symbol → SymbolicLit → Lit
numbered_lit names lit = record { variable = number_of names lit.symbol; positive = lit.positive }

-- the literals of a clause put into it one after another, each mentioned in its turn
abbrev pub lits_onto : List Lit → List Symbol → List SymbolicLit → List Lit
lits_onto done names [] = done
lits_onto done names (lit ∷ lits) = lits_onto (with_lit done (numbered_lit names lit)) (with_mention names lit.symbol) lits

-- the names after a clause
abbrev pub names_after : List Symbol → List SymbolicLit → List Symbol
names_after names [] = names
names_after names (lit ∷ lits) = names_after (with_mention names lit.symbol) lits

-- clauses of variables, each sorted, with numbers at first mention
abbrev pub numbered : List Symbol → List (List SymbolicLit) → List (List Lit)
numbered names [] = []
numbered names (clause ∷ clauses) = lits_onto [] names clause ∷ numbered (names_after names clause) clauses

-- the names after clauses
abbrev pub names_of : List Symbol → List (List SymbolicLit) → List Symbol
names_of names [] = names
names_of names (clause ∷ clauses) = names_of (names_after names clause) clauses

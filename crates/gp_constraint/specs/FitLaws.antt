-- Laws: what holds of each of some clauses holds of those under a test, and what holds of each term of a clause of its literals.
use Rattle.std.specs.Prelude.{◌≤◌, Bool, true, false, List, [], ◌∷◌, if◌then◌else◌, flat_map, length}
use Rattle.std.specs.List.{AllByRecursion}
use Rattle.std.proofs.Common.{arith}
use Rattle.gp_constraint.specs.declared.symbol.SymbolicLit.{SymbolicLit}
use Rattle.gp_constraint.specs.declared.term.Term.{Term}
use Rattle.gp_constraint.specs.declared.term.Term.TheVariants.{Always, Never, Literal}
use Rattle.gp_constraint.specs.Terms.{lit_of}

-- clauses under a test
pub each_unless : (P : List SymbolicLit → Type 0) (b : Bool) (clauses : List (List SymbolicLit)) → AllByRecursion P clauses
    → AllByRecursion P (if b then [] else clauses)
each_unless P true clauses h = tt
each_unless P false clauses h = h

pub each_when : (P : List SymbolicLit → Type 0) (b : Bool) (clauses : List (List SymbolicLit)) → AllByRecursion P clauses
    → AllByRecursion P (if b then clauses else [])
each_when P true clauses h = h
each_when P false clauses h = tt

pub each_either : (P : List SymbolicLit → Type 0) (b : Bool) (clauses others : List (List SymbolicLit)) → AllByRecursion P clauses → AllByRecursion P others
    → AllByRecursion P (if b then clauses else others)
each_either P true clauses others h k = h
each_either P false clauses others h k = k

-- a clause has no more literals than terms
pub few_lits : (terms : List Term) → length (flat_map lit_of terms) ≤ length terms
few_lits [] = omega arith
few_lits (Always ∷ terms) = let rest = few_lits terms in omega (arith, rest)
few_lits (Never ∷ terms) = let rest = few_lits terms in omega (arith, rest)
few_lits (Literal lit ∷ terms) = let rest = few_lits terms in omega (arith, rest)

-- it holds of the literal of a term, where that has one
abbrev pub OfLit : (SymbolicLit → Type 0) → Term → Type 0
OfLit P Always = Unit {0}
OfLit P Never = Unit {0}
OfLit P (Literal lit) = P lit

-- and so of each literal of a clause, where it does of each of its terms
pub each_lit : (P : SymbolicLit → Type 0) (terms : List Term) → AllByRecursion (OfLit P) terms → AllByRecursion P (flat_map lit_of terms)
each_lit P [] h = tt
each_lit P (Always ∷ terms) h = each_lit P terms h.1
each_lit P (Never ∷ terms) h = each_lit P terms h.1
each_lit P (Literal lit ∷ terms) h = (h.0, each_lit P terms h.1)

-- How one array holds the literals of all clauses.
use Rattle.std.specs.Prelude.{ℕ, ◌/◌, ◌%◌, ◌==◌, ◌<◌, ◌≤◌, Bool, false, List, [], ◌∷◌, length, map, slice_index_or}
use Rattle.std.specs.List.{slice_range}
use Rattle.gp_clause.specs.declared.lit.Lit.{Lit}
use Rattle.gp_clause.specs.Clause.{IsRising}
use Rattle.gp_sat.specs.declared.store.Begin.{Begin}
use Rattle.gp_sat.specs.declared.store.Range.{Range}
use Rattle.gp_sat.specs.Stored.{Stored}

-- the place where the literals of a clause begin
abbrev pub place_of : Begin → ℕ
place_of begin = begin.code / 2

-- whether its code is odd, which tells that it is attached
abbrev pub is_odd : Begin → Bool
is_odd begin = begin.code % 2 == 1

-- where the clause before those of a list ends: where the first of these begins, or behind all literals
abbrev pub end_before : ℕ → List Begin → ℕ
end_before total [] = total
end_before total (begin ∷ begins) = place_of begin

-- the ranges of clauses that lie one behind the other
abbrev pub ranges_of : ℕ → List Begin → List Range
ranges_of total [] = []
ranges_of total (begin ∷ begins) = record { start = place_of begin; end = end_before total begins; attached = is_odd begin } ∷ ranges_of total begins

-- the clause of a range of the literals
abbrev pub stored_at : List Lit → Range → Stored
stored_at literals range = record { clause = slice_range literals range.start range.end; attached = range.attached }

-- the clauses of all ranges
abbrev pub stored : List Lit → List Range → List Stored
stored literals ranges = map (stored_at literals) ranges

-- the range under a number that no clause has
abbrev pub no_range : Range
no_range = record { start = 0; end = 0; attached = false }

-- a range lies within the literals, and its variables rise
pub record IsRange (literals : List Lit) (range : Range) : Type 0 where
  pub rises : range.start ≤ range.end
  pub within : range.end ≤ length literals
  pub rising : IsRising (slice_range literals range.start range.end)

-- each clause has such a range
abbrev pub AreRanges : List Lit → List Range → Type 0
AreRanges literals ranges = (number : ℕ) → number < length ranges → IsRange literals (slice_index_or ranges number no_range)

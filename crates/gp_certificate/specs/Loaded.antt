-- What is loaded on a bench.
use Rattle.std.specs.Prelude.{ℕ, ◌≡◌, ◌<◌, ◌^◌, List, length}
use Rattle.gp_clause.specs.declared.lit.Lit.{Lit}
use Rattle.gp_certificate.specs.declared.loaded.Loaded.TheInside.{Inside}
use Rattle.gp_certificate.specs.Rows.{clause_at, AreListed, HasShort}

-- the clauses that are loaded, a count for each, and how many rows there are
pub record LoadedForm : Type 0 where
  pub clauses : List (List Lit)
  pub left : List ℕ
  pub rows : ℕ

-- loaded clauses are listed and counted
pub record IsListed (loaded : Inside) : Type 0 where
  pub rows : AreListed loaded.clauses.lists loaded.rows.items
  pub left : length loaded.left.items ≡ length loaded.clauses.lists
  pub short : HasShort loaded.clauses.lists loaded.short.items
  pub sizes : (number : ℕ) → length (clause_at loaded.clauses.lists number) < 2 ^ 63

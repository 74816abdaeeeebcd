-- The names of a query: those of its window, and after them its own.
use Rattle.std.specs.Prelude.{◌≡◌, ◌++◌, List}
use Rattle.gp_constraint.specs.declared.symbol.Symbol.{Symbol}
use Rattle.gp_constraint.specs.Numbering.{with_mentions}

pub record QueryNamesForm : Type 0 where
  pub base : List Symbol
  pub own : List Symbol

-- all names, in the order of their numbers
abbrev pub all_names : QueryNamesForm → List Symbol
all_names names = names.base ++ names.own

-- the names after these mentions
pub record AreMentioned (old new : QueryNamesForm) (symbols : List Symbol) : Type 0 where
  pub base : new.base ≡ old.base
  pub all : all_names new ≡ with_mentions (all_names old) symbols

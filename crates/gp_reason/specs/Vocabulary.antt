-- What contracts see of that by which a certificate is read.
use Rattle.std.specs.Prelude.{List}
use Rattle.gp_clause.specs.declared.lit.Lit.{Lit}
use Rattle.gp_constraint.specs.declared.symbol.Symbol.{Symbol}
use Rattle.gp_window.specs.WindowForm.{WindowForm}

-- the window of an instance, the symbols of the variables of its problem and query, and the clauses that hints number
pub record VocabularyForm : Type 0 where
  pub window : WindowForm
  pub names : List Symbol
  pub clauses : List (List Lit)

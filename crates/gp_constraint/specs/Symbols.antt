-- Symbols, and what the variable of each is.
use Rattle.std.specs.Prelude.{Bool, false, ◌==◌, ◌&&◌}
use Rattle.gp_clause.specs.declared.kind.Kind.{Kind}
use Rattle.gp_clause.specs.declared.kind.Kind.TheVariants as kind
use Rattle.gp_constraint.specs.declared.symbol.Symbol.{Symbol}
use Rattle.gp_constraint.specs.declared.symbol.Symbol.TheVariants.{Executed, Order, Choice, StartChoice, First, Last, Signal, Span}

-- whether two symbols are the same
abbrev pub symbol_eq : Symbol → Symbol → Bool
symbol_eq (Executed a) (Executed b) = a == b
symbol_eq (Order a b) (Order c d) = a == c && b == d
symbol_eq (Choice a b) (Choice c d) = a == c && b == d
symbol_eq (StartChoice a) (StartChoice b) = a == b
symbol_eq (First a b) (First c d) = a == c && b == d
symbol_eq (Last a) (Last b) = a == b
symbol_eq (Signal a b) (Signal c d) = a == c && b == d
symbol_eq (Span a b c) (Span d e f) = a == d && (b == e && c == f)
symbol_eq _ _ = false

-- what the variable of a symbol is
abbrev pub kind_of : Symbol → Kind
kind_of (Order a b) = kind.Order a b
kind_of (Span a b c) = kind.Span a b c
kind_of _ = kind.Free

-- The equality of symbols that the set of names is hashed by is that of the definitions.
use Rattle.std.proofs.Common.{◌≡◌, refl, Bool}
use Rattle.gp_constraint.specs.declared.symbol.Symbol.{Symbol}
use Rattle.gp_constraint.specs.declared.symbol.Symbol.TheVariants.{Executed, Order, Choice, StartChoice, First, Last, Signal, Span}
use Rattle.gp_constraint.specs.Symbols.{symbol_eq}
use Rattle.gp_constraint.specs.contracts.symbol.SymbolPartialEq.TheImpl.{eq-value}

same_eq : (a b : Symbol) → eq-value.it a b ≡ symbol_eq a b
same_eq (Executed a) (Executed b) = refl
same_eq (Order a b) (Order c d) = refl
same_eq (Choice a b) (Choice c d) = refl
same_eq (StartChoice a) (StartChoice b) = refl
same_eq (First a b) (First c d) = refl
same_eq (Last a) (Last b) = refl
same_eq (Signal a b) (Signal c d) = refl
same_eq (Span a b c) (Span d e f) = refl
same_eq _ _ = refl

pub same_test : (a : Symbol) → ◌≡◌ {A = Symbol → Bool} (eq-value.it a) (symbol_eq a)
same_test a = λ i b. same_eq a b i

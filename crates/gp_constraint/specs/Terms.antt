-- Clauses over symbols, from terms: a term is a literal, or has a constant value.
use Rattle.std.specs.Prelude.{Bool, true, false, ◌==◌, List, [], ◌∷◌, ◌++◌, Option, Some, None, if◌then◌else◌, flat_map, nat_lt}
use Rattle.std.specs.List.{list_any}
use Rattle.gp_constraint.specs.declared.point.Point.{Point}
use Rattle.gp_constraint.specs.declared.symbol.Symbol.TheVariants.{Executed, Order, Choice, StartChoice, First}
use Rattle.gp_constraint.specs.declared.symbol.Symbol.{Symbol}
use Rattle.gp_constraint.specs.declared.symbol.SymbolicLit.{SymbolicLit}
use Rattle.gp_constraint.specs.declared.term.Term.{Term}
use Rattle.gp_constraint.specs.declared.term.Term.TheVariants.{Always, Never, Literal}

-- whether a term is always true
abbrev pub is_always : Term → Bool
is_always Always = true
is_always Never = false
is_always (Literal lit) = false

-- the literal of a term, where it has one
abbrev pub lit_of : Term → List SymbolicLit
lit_of Always = []
lit_of Never = []
lit_of (Literal lit) = lit ∷ []

-- the clause of these terms: none where one is always true, and else their literals
abbrev pub simplified : List Term → List (List SymbolicLit)
simplified terms = if list_any is_always terms then [] else flat_map lit_of terms ∷ []

-- a symbol with a sign
abbrev pub literal : Symbol → Bool → Term
literal symbol positive = Literal (record { symbol = symbol; positive = positive })

-- a constant
abbrev pub constant : Bool → Term
constant true = Always
constant false = Never

-- the event is executed, or is not
abbrev pub executed : Point → Bool → Term
executed p positive = literal (Executed p.number) positive

-- the read sees the write, or does not
abbrev pub chosen : Point → Point → Bool → Term
chosen r w positive = literal (Choice r.number w.number) positive

-- the read sees the start value, or does not
abbrev pub start_chosen : Point → Bool → Term
start_chosen r positive = literal (StartChoice r.number) positive

-- the section that a begins comes before the one that c begins, or does not
abbrev pub first : Point → Point → Bool → Term
first a c positive = literal (First a.number c.number) positive

-- one event before another: known in one thread, and else a literal with the lesser point first
abbrev pub before : Point → Point → Term
before e f =
    if e.id.thread == f.id.thread then constant (nat_lt e.id.index f.id.index)
    else (if nat_lt e.number f.number then literal (Order e.number f.number) true else literal (Order f.number e.number) false)

-- unless one of the guards holds, there is such an event, executed and before f
abbrev pub preceded : List Term → Option Point → Point → List (List SymbolicLit)
preceded guards (Some s) f = simplified (guards ++ executed s true ∷ []) ++ simplified (guards ++ before s f ∷ [])
preceded guards None f = simplified guards

-- where f is executed, there is such an event, executed and before f
abbrev pub needs : Point → Option Point → List (List SymbolicLit)
needs f found = preceded (executed f false ∷ []) found f

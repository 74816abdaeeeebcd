use Rattle.std.specs.Prelude.{ℕ, ℤ, pos, negsuc, ◌-ℤ◌, ◌≤ℤ◌, ◌<ℤ◌, ◌↔◌, Bool, true, false, List, Option, Some, None, IsTrue, slice_get}
use Rattle.gp_clause.specs.declared.edge.Edge.{Edge}
use Rattle.gp_clause.specs.declared.kind.Kind.{Kind}
use Rattle.gp_clause.specs.declared.kind.Kind.TheVariants.{Free, Order, Span}
use Rattle.gp_clause.specs.declared.lit.Lit.{Lit}
use Rattle.gp_clause.specs.Edge.{Keeps}

-- what a literal of a kind and a sign says of the places
abbrev pub bound_of : Kind → Bool → Option Edge
bound_of Free positive = None
bound_of (Order a b) true = Some (record { a = a; b = b; c = negsuc 0 })
bound_of (Order a b) false = Some (record { a = b; b = a; c = negsuc 0 })
bound_of (Span a b c) true = Some (record { a = a; b = b; c = pos c })
bound_of (Span a b c) false = Some (record { a = b; b = a; c = negsuc c })

-- what a sign says of the places by a kind, where there is the kind
abbrev pub bound_in : Option Kind → Bool → Option Edge
bound_in None positive = None
bound_in (Some kind) positive = bound_of kind positive

-- what a literal says of the places, by the kinds of the variables
abbrev pub bound_at : List Kind → Lit → Option Edge
bound_at kinds lit = bound_in (slice_get kinds lit.variable) lit.positive

-- the places keep a bound, where there is one
abbrev pub KeepsBound : (ℕ → ℤ) → Option Edge → Type 0
KeepsBound place None = Unit {0}
KeepsBound place (Some edge) = Keeps place edge

-- the truth value of a variable is what its kind says of the places
abbrev pub FitsKind : (ℕ → ℤ) → Kind → Bool → Type 0
FitsKind place Free value = Unit {0}
FitsKind place (Order a b) value = IsTrue value ↔ (place a <ℤ place b)
FitsKind place (Span a b c) value = IsTrue value ↔ ((place a -ℤ place b) ≤ℤ pos c)

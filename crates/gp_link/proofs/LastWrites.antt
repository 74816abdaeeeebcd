-- The truth values of the symbols at the places of a schedule that links: of an order and a span by the places, and whether a
-- write is the last but for writes of its value.
use Rattle.std.specs.Prelude.{ℕ, ℤ, pos, ◌-ℤ◌, Bool, false, not, ◌==◌, ◌&&◌, List, int_le, int_lt}
use Rattle.std.specs.List.{list_any}
use Rattle.gp_constraint.specs.declared.point.Point.{Point}
use Rattle.gp_constraint.specs.declared.symbol.Symbol.{Symbol}
use Rattle.gp_constraint.specs.declared.symbol.Symbol.TheVariants.{Last, Order, Span}
use Rattle.gp_link.specs.LinkClauses.{are_rivals}

-- whether the other event is a write of another value to the variable, and not before this write
abbrev pub is_past : (ℕ → ℤ) → Point → Point → Bool
is_past place w other = are_rivals w.action other.action && not (int_lt (place other.number) (place w.number))

-- whether all writes of another value to the variable come before this write
abbrev pub is_last_at : List Point → (ℕ → ℤ) → Point → Bool
is_last_at points place w = not (list_any (is_past place w) points)

-- the truth value of a symbol at these places
abbrev pub fresh_value : List Point → (ℕ → ℤ) → Symbol → Bool
fresh_value points place (Order a b) = int_lt (place a) (place b)
fresh_value points place (Span a b c) = int_le (place a -ℤ place b) (pos c)
fresh_value points place (Last w) = list_any (λ p. p.number == w && is_last_at points place p) points
fresh_value points place _ = false

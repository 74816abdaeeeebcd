-- The truth of symbols, from a truth of the events.
use Rattle.std.specs.Prelude.{ℕ, ◌-ℤ◌, pos, Bool, int_le, int_lt}
use Rattle.gp_window.specs.declared.schedule.EventId.{EventId}
use Rattle.gp_constraint.specs.declared.symbol.Symbol.{Symbol}
use Rattle.gp_constraint.specs.declared.symbol.Symbol.TheVariants.{Executed, Order, Choice, StartChoice, First, Last, Signal, Span}
use Rattle.gp_witness.specs.Meaning.{Truth}
pub use Rattle.gp_constraint.specs.PointIds.{id_at, id_in}

-- what a symbol says of the events that its numbers name
abbrev pub symbol_true : Truth → (ℕ → EventId) → Symbol → Bool
symbol_true t at (Executed e) = t.executed (at e)
symbol_true t at (Order e f) = int_lt (t.place (at e)) (t.place (at f))
symbol_true t at (Choice r w) = t.reads (at r) (at w)
symbol_true t at (StartChoice r) = t.reads_start (at r)
symbol_true t at (First a c) = t.first (at a) (at c)
symbol_true t at (Last w) = t.last (at w)
symbol_true t at (Signal w g) = t.signals (at w) (at g)
symbol_true t at (Span a b c) = int_le (t.place (at a) -ℤ t.place (at b)) (pos c)

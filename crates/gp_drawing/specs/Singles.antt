-- The rows of the events that are told alone, by event.
use Rattle.std.specs.Prelude.{◌≡◌, ℕ, List}
use Rattle.std.specs.Ordering.{nat_cmp, ordering_then}
use Rattle.std.specs.declared.cmp.Ordering.{Ordering}
use Rattle.gp_base.specs.Table.{value_at, with_entry}
use Rattle.gp_window.specs.declared.schedule.EventId.{EventId}
use Rattle.gp_story.specs.declared.story.Part.{Part}
use Rattle.gp_story.specs.declared.story.Part.TheVariants.{Single, Run}
use Rattle.gp_drawing.specs.Arrows.{row_telling}

-- rows by the thread and the index of the event that each tells
abbrev pub Singles : Type 0
Singles = List ((ℕ × ℕ) × ℕ)

-- an event before another, by thread and then index
abbrev pub key_cmp : ℕ × ℕ → ℕ × ℕ → Ordering
key_cmp one other = ordering_then (nat_cmp one.0 other.0) (nat_cmp one.1 other.1)

-- the table tells of each event the last of these parts that tells it alone
pub record TellsSingles (before : List Part) (singles : Singles) : Type 0 where
  pub row : (event : EventId) → value_at key_cmp singles (event.thread, event.index) ≡ row_telling event 0 before

-- the rows with that of one part more
abbrev pub with_part : Singles → ℕ → Part → Singles
with_part singles row (Single line) = with_entry key_cmp singles (line.event.thread, line.event.index) row
with_part singles row (Run lines) = singles

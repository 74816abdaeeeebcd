-- Answers that are found by the events of their instances.
use Rattle.std.specs.Borrow.{Bor}
use Rattle.std.specs.Prelude.{List, Option, map}
use Rattle.std.specs.Cmp.Lexicographic.{pointwise}
use Rattle.std.specs.Global.{Vec}
use Rattle.std.specs.Map.{lookup}
use Rattle.gp_report.specs.Records.{Answer}
use Rattle.gp_window.specs.declared.schedule.EventId.{EventId}
use Rattle.gp_window.specs.Ids.{is_same}

-- the events and the answers of a table
abbrev pub told_in : List (Vec EventId × Bor Answer) → List (List EventId × Answer)
told_in table = map (λ (entry : Vec EventId × Bor Answer). (entry.0.items, entry.1.now)) table

-- the answer to the instance with some events
abbrev pub answer_at : List (List EventId × Answer) → List EventId → Option Answer
answer_at answers ids = lookup (λ (events : List EventId). pointwise is_same ids events) answers

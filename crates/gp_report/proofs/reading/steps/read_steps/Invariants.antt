-- The steps that were read, and then those that are left, are all.
use Rattle.std.proofs.Common.{◌≡◌, ◌-◌}
use Rattle.gp_report.specs.Reading.{read_steps, with_front}
use Rattle.gp_report.proofs.reading.steps.read_steps.Given as goal

abbrev pub invariant-loop : goal.invariant-loop
invariant-loop l = with_front l.steps (read_steps l.end (l.count - l.counter) l.lines) ≡ read_steps l.end l.count l.initial.lines

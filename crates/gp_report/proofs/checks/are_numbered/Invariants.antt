use Rattle.std.proofs.Common.{◌≡◌, ◌+◌, ◌↔◌, drop, length, map}
use Rattle.gp_window.specs.WindowForm.{numbers_from}
use Rattle.gp_report.specs.Records.{WindowRecord}
use Rattle.gp_report.proofs.checks.are_numbered.Given as goal

abbrev pub invariant-loop-place : goal.invariant-loop-place
invariant-loop-place l =
    (map (λ (window : WindowRecord). window.number) l.windows ≡ numbers_from 1 (length l.windows))
    ↔ (map (λ (window : WindowRecord). window.number) (drop l.place l.windows) ≡ numbers_from (l.place + 1) (length (drop l.place l.windows)))

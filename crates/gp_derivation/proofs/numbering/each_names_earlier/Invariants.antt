use Rattle.std.proofs.Common.{◌≡◌, ℕ, ◌<◌, Some}
use Rattle.std.specs.List.{slice_get}
use Rattle.gp_derivation.specs.declared.log.LogEntry.{LogEntry}
use Rattle.gp_derivation.specs.Numbering.{NamesEarlier}
use Rattle.gp_derivation.proofs.numbering.each_names_earlier.Given as goal

abbrev pub invariant-loop-place : goal.invariant-loop-place
invariant-loop-place l = (place : ℕ) (entry : LogEntry) → place < l.place → slice_get l.log place ≡ Some entry → NamesEarlier l.base_clauses place entry.step entry.origin

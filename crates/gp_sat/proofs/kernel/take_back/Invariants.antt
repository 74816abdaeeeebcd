use Rattle.std.proofs.Common.{◌≡◌, ◌≢◌, ℕ, ◌<◌, ◌≤◌, None, length, slice_index_or}
use Rattle.gp_clause.specs.declared.lit.Lit.{Lit}
use Rattle.gp_sat.proofs.kernel.take_back.Given as goal

abbrev pub invariant-loop-place : goal.invariant-loop-place
invariant-loop-place l = record {
  size : length l.values ≡ length l.initial.values;
  gone : (place : ℕ) (d : Lit) → l.end ≤ place → place < l.place → slice_index_or l.values (slice_index_or l.trail place d).variable None ≡ None;
  kept : (v : ℕ) → ((place : ℕ) (d : Lit) → l.end ≤ place → place < l.place → (slice_index_or l.trail place d).variable ≢ v) → slice_index_or l.values v None ≡ slice_index_or l.initial.values v None;
}

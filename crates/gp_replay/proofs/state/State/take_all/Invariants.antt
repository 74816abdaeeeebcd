-- The locks that were taken, and then those that are left, are all.
use Rattle.std.proofs.Common.{◌≡◌}
use Rattle.std.specs.Cmp.Lexicographic.{slice_cmp}
use Rattle.std.specs.Ordering.{nat_cmp}
use Rattle.gp_base.specs.Table.{with_entries}
use Rattle.gp_window.specs.Holders.{Holdings, holders_among, readers_among}
use Rattle.gp_replay.specs.Readers.{with_readers}
use Rattle.gp_replay.specs.declared.state.State.{State}
use Rattle.gp_replay.proofs.state.State.take_all.Given as goal

-- the state with these holders and readers beside its own
abbrev with_held : State → Holdings → State
with_held state held = record state {
  holders = with_entries (slice_cmp nat_cmp) state.holders (holders_among held);
  readers = with_readers state.readers (readers_among held);
}

abbrev pub invariant-loop-holder : goal.invariant-loop-holder
invariant-loop-holder l = with_held l.self l.holder-iterator ≡ with_held l.initial.self l.held

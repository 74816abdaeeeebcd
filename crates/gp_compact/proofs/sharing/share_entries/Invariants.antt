use Rattle.std.proofs.Common.{◌≡◌, ◌+◌, ◌^◌, ◌<◌, drop, length}
use Rattle.gp_sharing.specs.Compacted.{steps_in, with_entries}
use Rattle.gp_compact.proofs.sharing.share_entries.Given as goal

abbrev pub invariant-loop-entry : goal.invariant-loop-entry
invariant-loop-entry l =
    (with_entries l.sizes l.list (drop l.entry-index l.entries) ≡ with_entries l.sizes l.fn.list l.entries)
    × (l.sizes.clauses + length l.list + steps_in (drop l.entry-index l.entries) < 2 ^ 31)

use Rattle.std.proofs.Common.{◌+◌, ◌≡◌, length}
use Rattle.gp_outside.specs.DirFolders.{Moves}
use Rattle.gp_outside.specs.Folders.{BeginsWith}
use Rattle.gp_outside.proofs.dir_folders.read_within.Given as goal

abbrev pub invariant-loop-count : goal.invariant-loop-count
invariant-loop-count g l = record {
  moved : Moves (g.F.Read.remaining l.initial.file) (g.F.Read.remaining l.file) l.initial.out.items l.out.items;
  prefix : BeginsWith l.out.items l.initial.out.items;
  room : length l.out.items + l.left ≡ length l.initial.out.items + l.limit;
}

abbrev pub decreases-loop-count : goal.decreases-loop-count
decreases-loop-count g l = l.left

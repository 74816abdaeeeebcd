-- What is put, and then what is left, is all.
use Rattle.std.proofs.Common.{◌≡◌, ◌++◌, length}
use Rattle.gp_sarif.specs.Uri.{path_of}
use Rattle.gp_sarif.proofs.uri.put_path.Given as goal

abbrev pub invariant-loop-left : goal.invariant-loop-left
invariant-loop-left l = l.uri.items ++ path_of l.left ≡ l.initial.uri.items ++ path_of l.file

abbrev pub decreases-loop-left : goal.decreases-loop-left
decreases-loop-left l = length l.left

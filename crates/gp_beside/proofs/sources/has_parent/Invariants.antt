-- No part so far is the directory above.
use Rattle.std.proofs.Common.{◌≡◌, ◌==◌, codes, length}
use Rattle.std.specs.List.{list_any, slice_split}
use Rattle.std.specs.Str.{bytes_eq}
use Rattle.gp_beside.proofs.sources.has_parent.Given as goal

abbrev pub invariant-loop-part : goal.invariant-loop-part
invariant-loop-part l =
    list_any (λ part. bytes_eq part (codes "..")) (slice_split (λ b. b == 47) l.rest)
    ≡ list_any (λ part. bytes_eq part (codes "..")) (slice_split (λ b. b == 47) l.name)

abbrev pub decreases-loop-part : goal.decreases-loop-part
decreases-loop-part l = length l.rest

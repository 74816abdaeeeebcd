use Rattle.std.proofs.Common.{◌≡◌, ◌++◌, drop, filter, map}
use Rattle.gp_cut.specs.Cut.{is_later, moved}
use Rattle.gp_cut_files.proofs.values.put_later.Given as goal

abbrev pub invariant-loop-value : goal.invariant-loop-value
invariant-loop-value l =
    l.values ++ map (moved l.part.before) (filter (is_later l.part.before l.part.count) (drop l.value-index l.given))
    ≡ l.initial.values ++ map (moved l.part.before) (filter (is_later l.part.before l.part.count) l.given)

use Rattle.std.proofs.Common.{◌≡◌, ◌+◌, length, take}
use Rattle.std.specs.List.{count_by}
use Rattle.std.specs.Option.{is_none}
use Rattle.gp_sharing.proofs.NewNumbers.{AreListed}
use Rattle.gp_sharing.proofs.renumbering.own_numbers.Given as goal

abbrev pub invariant-loop-place : goal.invariant-loop-place
invariant-loop-place l =
    (length l.numbers.items ≡ l.place-index)
    × ((l.next ≡ l.sizes.clauses + l.size + count_by is_none (take l.place-index l.places))
    × AreListed l.sizes l.size l.places l.numbers.items l.place-index)

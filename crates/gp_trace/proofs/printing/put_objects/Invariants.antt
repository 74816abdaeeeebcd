use Rattle.std.proofs.Common.{◌≡◌, ◌++◌, ◌∷◌, drop}
use Rattle.std.specs.List.{flat_map}
use Rattle.gp_trace.proofs.printing.put_objects.Given as goal

abbrev pub invariant-loop-object : goal.invariant-loop-object
invariant-loop-object l =
    l.out.items ++ flat_map (λ object. 32 ∷ object) (drop l.object-index l.objects) ≡ l.initial.out.items ++ flat_map (λ object. 32 ∷ object) l.objects

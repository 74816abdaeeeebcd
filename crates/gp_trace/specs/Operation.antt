-- What an operation is, however it is kept.
use Rattle.std.specs.Prelude.{ℕ, List, []}
use Rattle.gp_trace.specs.declared.operation.Kept.{Kept}
use Rattle.gp_trace.specs.declared.operation.Kept.TheVariants.{Alone, OnObjects}

-- the name and the objects of an operation
abbrev pub kept_operation : Kept → List ℕ × List (List ℕ)
kept_operation (Alone name) = (name, [])
kept_operation (OnObjects applied) = (applied.value.name, applied.value.objects)

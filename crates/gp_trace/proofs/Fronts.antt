-- What was read before, in front of what the rest gives.
use Rattle.std.proofs.Common.{List, ◌++◌}
use Rattle.std.specs.Prelude.{Option, Some, None}

-- the names read before, in front of those that the rest spells
abbrev pub with_names : {A : Type 0} → List A → Option (List A) → Option (List A)
with_names front (Some rest) = Some (front ++ rest)
with_names front None = None

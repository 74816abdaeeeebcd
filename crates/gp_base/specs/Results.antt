-- Joining answers: the first refusal in order is the answer of the whole.
use Rattle.std.specs.Prelude.{List, ◌∷◌, ◌++◌, Option, Some, None, Result, Ok, Err}

-- what comes next, where the first step gave a value; else the first step's refusal
abbrev pub and_then : {A B E : Type 0} → Result A E → (A → Result B E) → Result B E
and_then (Ok value) next = next value
and_then (Err refusal) next = Err refusal

-- a value before those of the rest
abbrev pub then_rest : {A E : Type 0} → Result A E → Result (List A) E → Result (List A) E
then_rest (Ok value) (Ok rest) = Ok (value ∷ rest)
then_rest (Ok value) (Err refusal) = Err refusal
then_rest (Err refusal) rest = Err refusal

-- what was read before, as a prefix of what the rest gives
abbrev pub with_prefix : {A E : Type 0} → List A → Result (List A) E → Result (List A) E
with_prefix prefix (Ok rest) = Ok (prefix ++ rest)
with_prefix prefix (Err refusal) = Err refusal

-- what was read before, as a prefix of what the rest spells, where it spells something
abbrev pub some_prefix : {A : Type 0} → List A → Option (List A) → Option (List A)
some_prefix prefix (Some rest) = Some (prefix ++ rest)
some_prefix prefix None = None

-- a value that must be there
abbrev pub or_refusal : {A E : Type 0} → E → Option A → Result A E
or_refusal refusal (Some value) = Ok value
or_refusal refusal None = Err refusal

-- a value that its reader gave, or the refusal for its fault
abbrev pub or_refused : {A E F : Type 0} → (F → E) → Result A F → Result A E
or_refused refusal (Ok value) = Ok value
or_refused refusal (Err fault) = Err (refusal fault)

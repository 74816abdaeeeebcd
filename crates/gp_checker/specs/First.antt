-- The first place at which two lists fail.
use Rattle.std.specs.Prelude.{ℕ, List, Option, None, Some, slice_get, take}
use Rattle.std.specs.List.{AllZip}

-- what is at a place of two lists: a pair that fails, or one list is at its end and the other is not
abbrev pub FailsHere : {A B : Type 0} → (A → B → Type 0) → Type 0 → Option A → Option B → Type 0
FailsHere Fails Lacks (Some one) (Some other) = Fails one other
FailsHere Fails Lacks (Some one) None = Lacks
FailsHere Fails Lacks None (Some other) = Lacks
FailsHere Fails Lacks None None = ⊥

-- this is the first place at which two lists fail: all pairs before it are accepted
pub record FailsFirst {A B : Type 0} (Accepts Fails : A → B → Type 0) (Lacks : Type 0) (ones : List A) (others : List B) (place : ℕ) : Type 0 where
  pub before : AllZip Accepts (take place ones) (take place others)
  pub here : FailsHere Fails Lacks (slice_get ones place) (slice_get others place)

-- What is lent of a place is what stands there.
use Rattle.std.proofs.Common.{◌≡◌, refl, sym, Bor, ℕ, List, Option, Some, None, length, option_map}
use Rattle.std.specs.List.{slice_get}
use Rattle.std.specs.Slice.{IsItemAt}
use Rattle.std.proofs.lemmas.Option.{slice_get_past, slice_get_read}

pub lent_at : {X : Type 0} (xs : List X) (k : ℕ) (lent : Option (Bor X)) → IsItemAt xs k lent → option_map (λ (x : Bor X). x.now) lent ≡ slice_get xs k
lent_at xs k (Some x) is = sym (slice_get_read xs (length xs) k x.now refl is.3.0 (is.3.1 x.now))
lent_at xs k None is = sym (slice_get_past xs k is.3)

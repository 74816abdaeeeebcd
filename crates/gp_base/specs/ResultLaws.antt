-- Laws: a prefix of what is read, and one value more.
use Rattle.std.specs.Prelude.{◌≡◌, refl, List, [], ◌∷◌, ◌++◌, Result, Ok, Err}
use Rattle.std.proofs.Common.{ap, append_assoc}
use Rattle.gp_base.specs.Results.{then_rest, with_prefix}

-- a value stands at the end of the prefix, or before the rest
pub prefix_then : {A E : Type 0} (prefix : List A) (value : A) (rest : Result (List A) E)
    → with_prefix (prefix ++ value ∷ []) rest ≡ with_prefix prefix (then_rest (Ok value) rest)
prefix_then prefix value (Ok rest) = ap Ok (append_assoc prefix (value ∷ []) rest)
prefix_then prefix value (Err refusal) = refl

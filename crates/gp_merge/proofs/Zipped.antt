-- What holds of two lists, element by element.
use Rattle.std.proofs.Common.{List, [], ◌∷◌, ◌++◌}
use Rattle.std.specs.List.{AllZip}

-- a relation that follows from another
pub zip_weaker : {A B : Type 0} (R S : A → B → Type 0) → ((x : A) (y : B) → R x y → S x y) → (xs : List A) (ys : List B) → AllZip R xs ys → AllZip S xs ys
zip_weaker R S follows [] [] all = tt
zip_weaker R S follows [] (y ∷ ys) all = absurd all
zip_weaker R S follows (x ∷ xs) [] all = absurd all
zip_weaker R S follows (x ∷ xs) (y ∷ ys) all = (follows x y all.0, zip_weaker R S follows xs ys all.1)

-- lists one after the other
pub zip_append : {A B : Type 0} (R : A → B → Type 0) (xs more : List A) (ys others : List B) → AllZip R xs ys → AllZip R more others → AllZip R (xs ++ more) (ys ++ others)
zip_append R [] more [] others all rest = rest
zip_append R [] more (y ∷ ys) others all rest = absurd all
zip_append R (x ∷ xs) more [] others all rest = absurd all
zip_append R (x ∷ xs) more (y ∷ ys) others all rest = (all.0, zip_append R xs more ys others all.1 rest)

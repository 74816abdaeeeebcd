-- What is made of each entry of a list, one after another.
use Rattle.std.proofs.Common.{◌≡◌, List, [], ◌∷◌, ◌++◌, ap, ◌∙◌, append_assoc, map}

-- what is made of one more entry goes from what is left to what was made
pub one_more : {A B : Type 0} (f : A → B) (made : List B) (entry : A) (value : B) (rest : List A) (total : List B)
    → value ≡ f entry
    → made ++ map f (entry ∷ rest) ≡ total
    → (made ++ value ∷ []) ++ map f rest ≡ total
one_more f made entry value rest total is all =
    append_assoc made (value ∷ []) (map f rest) ∙ ap (λ first. made ++ first ∷ map f rest) is ∙ all

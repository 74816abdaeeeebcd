-- Pieces of a text, one behind the other.
use Rattle.std.proofs.Common.{◌≡◌, ◌∙◌, ap, ℕ, List, [], ◌∷◌, ◌++◌, Result, Ok, Err, OnErr, append_assoc}
use Rattle.gp_text.specs.Spelling.{joined, spelling}

-- what holds anyway holds on an error
pub anyway : {T E P : Type 0} (result : Result T E) → P → OnErr result P
anyway (Ok value) holds = tt
anyway (Err error) holds = holds

-- a line, and an empty line
pub line_and_empty : (old : List ℕ) (words : List (List ℕ)) → (old ++ spelling (words ∷ [])) ++ 10 ∷ [] ≡ old ++ spelling (words ∷ [] ∷ [])
line_and_empty old words =
    append_assoc old (spelling (words ∷ [])) (10 ∷ []) ∙ ap (λ text. old ++ text) (append_assoc (joined words) (10 ∷ []) (10 ∷ []))

-- two pieces
pub two_put : (old middle new first second : List ℕ) → middle ≡ old ++ first → new ≡ middle ++ second → new ≡ old ++ (first ++ second)
two_put old middle new first second is_middle is_new = is_new ∙ ap (λ text. text ++ second) is_middle ∙ append_assoc old first second

-- five pieces
pub five_put : (old one two three four five a b c d e : List ℕ) → one ≡ old ++ a → two ≡ one ++ b → three ≡ two ++ c → four ≡ three ++ d → five ≡ four ++ e
    → five ≡ old ++ ((((a ++ b) ++ c) ++ d) ++ e)
five_put old one two three four five a b c d e is_one is_two is_three is_four is_five =
    let all : five ≡ ((((old ++ a) ++ b) ++ c) ++ d) ++ e = cc in all ∙ simp append_assoc

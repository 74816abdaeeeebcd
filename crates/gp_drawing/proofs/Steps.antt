-- One step of a loop that puts what belongs to each element, and the words of an operation.
use Rattle.std.proofs.Common.{ℕ, ◌≡◌, ◌+◌, ◌-◌, ◌<◌, refl, ap, sym, ◌∙◌, append_assoc, add-one, arith, List, [], ◌∷◌, ◌++◌, drop, get_or, length, take}
use Rattle.std.specs.List.{flat_map}
use Rattle.std.proofs.lemmas.List.{drop_more, take_more}
use Rattle.gp_text.specs.Spelling.{after_words, joined}
use Rattle.gp_text.specs.SpellingLaws.{joined_after}
use Rattle.gp_window.specs.WindowForm.{numbers_from, WindowForm}
use Rattle.gp_story.specs.declared.story.Part.{Part}
use Rattle.gp_drawing.specs.declared.drawing.Arrow.{Arrow}
use Rattle.gp_drawing.specs.Arrows.{arrows_from, arrows_to}

-- what stands at a place, and what stands after it
cut : {X : Type 0} (xs : List X) (x : X) (i : ℕ) → i < length xs → x ≡ get_or xs i x → drop i xs ≡ x ∷ drop (i + 1) xs
cut xs x i below is = drop_more xs i x below ∙ ap (λ first. first ∷ drop (i + 1) xs) (sym is)

-- what was put so far, with what is left, is all: so it is after a part more of what was left
one_more : {Y : Type 0} (so_far own left rest next all : List Y) → next ≡ so_far ++ own → left ≡ own ++ rest → so_far ++ left ≡ all → next ++ rest ≡ all
one_more so_far own left rest next all longer parts told =
    ap (λ front. front ++ rest) longer ∙ append_assoc so_far own rest ∙ ap (λ back. so_far ++ back) (sym parts) ∙ told

-- of the arrows to the row of one part more
pub arrows_put : (window : WindowForm) (so_far next all : List Arrow) (parts : List Part) (part : Part) (row : ℕ) → row < length parts → part ≡ get_or parts row part
    → next ≡ so_far ++ arrows_to window (take row parts) part
    → so_far ++ arrows_from window (take row parts) (drop row parts) ≡ all → next ++ arrows_from window (take (row + 1) parts) (drop (row + 1) parts) ≡ all
arrows_put window so_far next all parts part row below is longer told =
    let longer_front : take (row + 1) parts ≡ take row parts ++ part ∷ [] =
    take_more parts row part below ∙ ap (λ last. take row parts ++ last ∷ []) (sym is) in
    ap (λ (before : List Part). next ++ arrows_from window before (drop (row + 1) parts)) longer_front
    ∙ one_more so_far (arrows_to window (take row parts) part) (arrows_from window (take row parts) (drop row parts)) (arrows_from window (take row parts ++ part ∷ []) (drop (row + 1) parts)) next all
    longer (ap (arrows_from window (take row parts)) (cut parts part row below is)) told

-- one number more
unfolds : (first more rest : ℕ) → more ≡ rest + 1 → numbers_from first more ≡ first ∷ numbers_from (first + 1) rest
unfolds first more rest is = rw (is, add-one) refl

-- of the text of one lane more
pub lane_put : (f : ℕ → List ℕ) (so_far next all : List ℕ) (lane lanes : ℕ) → lane < lanes → next ≡ so_far ++ f (lane + 1)
    → so_far ++ flat_map f (numbers_from (lane + 1) (lanes - lane)) ≡ all → next ++ flat_map f (numbers_from (lane + 1 + 1) (lanes - (lane + 1))) ≡ all
lane_put f so_far next all lane lanes below longer told =
    let left : lanes - lane ≡ (lanes - (lane + 1)) + 1 = omega arith in
    one_more so_far (f (lane + 1)) (flat_map f (numbers_from (lane + 1) (lanes - lane))) (flat_map f (numbers_from (lane + 1 + 1) (lanes - (lane + 1)))) next all
    longer (ap (flat_map f) (unfolds (lane + 1) (lanes - lane) (lanes - (lane + 1)) left)) told

-- an operation, and then its objects
pub op_put : (old first word : List ℕ) (words : List (List ℕ)) → (old ++ joined (first ∷ word ∷ [])) ++ after_words words ≡ old ++ joined (first ∷ word ∷ words)
op_put old first word words = rw (joined_after first (word ∷ words)) (simp append_assoc refl)

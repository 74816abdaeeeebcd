-- Lines of which the last is written by itself.
use Rattle.std.proofs.Common.{◌≡◌, ℕ, List, [], ◌∷◌, ◌++◌}
use Rattle.std.proofs.lemmas.Grind.{flat_map-append}
use Rattle.std.specs.Prelude.{Option, flat_map}
use Rattle.gp_outside.specs.Sinks.{Appends, AppendsFront}
use Rattle.gp_predict.specs.WrittenLaws.{front_between, front_first, written_cut, written_first}

text_then : (lines : List (List ℕ)) (line : List ℕ) → flat_map (λ l. l) (lines ++ line ∷ []) ≡ flat_map (λ l. l) lines ++ (line ++ [])
text_then lines line = flat_map-append (λ l. l) lines (line ∷ [])

-- a prefix of lines is a prefix of them with one line more
pub cut_before : (old new : Option (List ℕ)) (lines : List (List ℕ)) (line : List ℕ)
    → AppendsFront old new (flat_map (λ l. l) lines) → AppendsFront old new (flat_map (λ l. l) (lines ++ line ∷ []))
cut_before old new lines line cut =
    rw (text_then lines line) (front_first old new (flat_map (λ l. l) lines) (line ++ []) cut)

-- all lines but the last are a prefix
pub cut_between : (old new : Option (List ℕ)) (lines : List (List ℕ)) (line : List ℕ)
    → Appends old new (flat_map (λ l. l) lines) → AppendsFront old new (flat_map (λ l. l) (lines ++ line ∷ []))
cut_between old new lines line appended =
    rw (text_then lines line) (front_between old new (flat_map (λ l. l) lines) (line ++ []) appended)

-- all lines, and a prefix of the last, are a prefix
pub cut_within : (old middle new : Option (List ℕ)) (lines : List (List ℕ)) (line : List ℕ)
    → Appends old middle (flat_map (λ l. l) lines) → AppendsFront middle new line
    → AppendsFront old new (flat_map (λ l. l) (lines ++ line ∷ []))
cut_within old middle new lines line appended cut =
    rw (text_then lines line)
    (written_cut old middle new line [] (flat_map (λ l. l) lines ++ (line ++ []))
    (written_first old middle (flat_map (λ l. l) lines) (line ++ []) appended) cut)

-- The words of a line, and the lines of a list, one after another.
use Rattle.std.proofs.Common.{◌≡◌, ℕ, ◌<◌, min, length, map, List, [], ◌∷◌, ◌++◌, ap, ◌∙◌, sym, append_assoc}
use Rattle.std.proofs.lemmas.List.{length-map, map-append}
use Rattle.gp_text.specs.Spelling.{after_words, joined, spelling}
use Rattle.gp_text.specs.SpellingLaws.{joined_after}
use Rattle.gp_writer.specs.Lines.{in_lines}
use Rattle.gp_writer.specs.LinesLaws.{cut_line, lines_put}

-- the first word of some, and then the others
pub first_put : {A : Type 0} (f : A → List ℕ) (old : List ℕ) (words rest : List A) (first : A) → words ≡ first ∷ rest → (old ++ f first) ++ after_words (map f rest) ≡ old ++ joined (map f words)
first_put f old words rest first whole =
    append_assoc old (f first) (after_words (map f rest))
    ∙ ap (λ line. old ++ line) (sym (joined_after (f first) (map f rest)))
    ∙ ap (λ all. old ++ joined (map f all)) (sym whole)

-- one line more of a list
pub one_line : {A : Type 0} (f : A → List ℕ) (text whole : List ℕ) (words line rest : List A)
    → words ≡ line ++ rest → length line ≡ min 100 (length words) → 0 < length words
    → text ++ spelling (in_lines (map f words)) ≡ whole
    → ((text ++ joined (map f line)) ++ 10 ∷ []) ++ spelling (in_lines (map f rest)) ≡ whole
one_line f text whole words line rest parts full some all =
    let parts_of : map f words ≡ map f line ++ map f rest = ap (map f) parts ∙ map-append f line rest in
    ap (λ front. front ++ spelling (in_lines (map f rest))) (append_assoc text (joined (map f line)) (10 ∷ []))
    ∙ lines_put text (map f line ∷ []) (in_lines (map f rest))
    ∙ ap (λ lines. text ++ spelling lines) (sym (cut_line (map f words) (map f line) (map f rest) parts_of (rw (length-map line f, length-map words f) full) (rw (length-map words f) some)))
    ∙ all

-- The words of a line one after another.
use Rattle.std.proofs.Common.{◌≡◌, refl, ℕ, ◌+◌, ◌<◌, get_or, length, drop, add-one, drop-cons, List, [], ◌∷◌, ◌++◌, ap, ◌∙◌, sym, append_assoc}
use Rattle.gp_text.specs.Spelling.{after_words, joined, spelling}
use Rattle.gp_text.specs.SpellingLaws.{after_append, spelling_append}
use Rattle.gp_property.specs.declared.property.PatternStep.{PatternStep}
use Rattle.gp_property.specs.Words.{atoms_words, steps_words}

-- a line, and then lines and a last one
pub lines_put : (first : List (List ℕ)) (lines : List (List (List ℕ))) (last : List (List ℕ)) → ((joined first ++ 10 ∷ []) ++ spelling lines) ++ spelling (last ∷ []) ≡ spelling (first ∷ (lines ++ last ∷ []))
lines_put first lines last =
    append_assoc (joined first ++ 10 ∷ []) (spelling lines) (spelling (last ∷ []))
    ∙ append_assoc (joined first) (10 ∷ []) (spelling lines ++ spelling (last ∷ []))
    ∙ ap (λ rest. joined first ++ (10 ∷ rest)) (sym (spelling_append lines (last ∷ [])))

-- the words of one step more, and then those of the steps that are left
pub one_step : (text whole : List ℕ) (steps : List PatternStep) (step : PatternStep) (i : ℕ)
    → i < length steps → step ≡ get_or steps i step
    → text ++ after_words (steps_words (drop i steps)) ≡ whole
    → (text ++ after_words (atoms_words step.atoms)) ++ after_words (steps_words (drop (i + 1) steps)) ≡ whole
one_step text whole steps step i below is all =
    let cut : drop i steps ≡ step ∷ drop (i + 1) steps = rw (add-one, drop-cons steps i step below, ← is) refl in
    append_assoc text (after_words (atoms_words step.atoms)) (after_words (steps_words (drop (i + 1) steps)))
    ∙ ap (λ rest. text ++ rest) (sym (after_append (atoms_words step.atoms) (steps_words (drop (i + 1) steps))))
    ∙ ap (λ (left : List PatternStep). text ++ after_words (steps_words left)) (sym cut)
    ∙ all

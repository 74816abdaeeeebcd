-- Pieces of a line one after another, and the steps of a reason one after another.
use Rattle.std.proofs.Common.{◌≡◌, ℕ, ◌+◌, ◌<◌, List, ◌++◌, length, get_or, drop, ap, ◌∙◌, sym, append_assoc}
use Rattle.gp_text.specs.Spelling.{after_words, spelling}
use Rattle.gp_text.specs.SpellingLaws.{after_append}
use Rattle.gp_writer.specs.LinesLaws.{cut, lines_put}
use Rattle.gp_window.specs.declared.schedule.EventId.{EventId}
use Rattle.gp_reason.specs.declared.reasons.ReasonStep.{ReasonStep}
use Rattle.gp_tell.specs.ReasonText.{step_lines, steps_lines}

-- words, and then more words
pub two_put : (old : List ℕ) (xs ys : List (List ℕ)) → (old ++ after_words xs) ++ after_words ys ≡ old ++ after_words (xs ++ ys)
two_put old xs ys = append_assoc old (after_words xs) (after_words ys) ∙ ap (λ rest. old ++ rest) (sym (after_append xs ys))

-- and then more words again
pub three_put : (old : List ℕ) (xs ys zs : List (List ℕ)) → ((old ++ after_words xs) ++ after_words ys) ++ after_words zs ≡ old ++ after_words (xs ++ (ys ++ zs))
three_put old xs ys zs = two_put (old ++ after_words xs) ys zs ∙ two_put old xs (ys ++ zs)

-- a piece of a sentence, and then three more
pub pieces_put : (old first one says other : List ℕ) → (old ++ first) ++ ((one ++ says) ++ other) ≡ old ++ (((first ++ one) ++ says) ++ other)
pieces_put old first one says other = simp append_assoc

-- the lines of one step more, and then those of the steps that are left
pub one_step : (name : EventId → List ℕ) (text whole : List ℕ) (steps : List ReasonStep) (step : ReasonStep) (i : ℕ)
    → i < length steps → step ≡ get_or steps i step
    → text ++ spelling (steps_lines name (i + 1) (drop i steps)) ≡ whole
    → (text ++ spelling (step_lines name (i + 1) step)) ++ spelling (steps_lines name (i + 1 + 1) (drop (i + 1) steps)) ≡ whole
one_step name text whole steps step i below is all =
    lines_put text (step_lines name (i + 1) step) (steps_lines name (i + 1 + 1) (drop (i + 1) steps))
    ∙ ap (λ (left : List ReasonStep). text ++ spelling (steps_lines name (i + 1) left)) (sym (cut steps step i below is))
    ∙ all

-- A word without an equals sign awaits its value.
use Rattle.std.proofs.Common.{◌≡◌, ◌∙◌, ℕ, List, [], ◌∷◌, length, refl, inl, inr, false, arith}
use Rattle.std.specs.List.{list_any, position_or_len}
use Rattle.std.proofs.lemmas.Bool.{cases_Bool}
use Rattle.gp_words.specs.Reading.{is_equals}
use Rattle.gp_words.proofs.reading.read_option.Goals as goal

-- where the first of none is the end, there is none
no_equals : (word : List ℕ) → position_or_len is_equals word ≡ length word → list_any is_equals word ≡ false
no_equals [] none = refl
no_equals (byte ∷ bytes) none =
    elim (cases_Bool (is_equals byte)) [
      | inl is ↦ absurd (omega (arith, rw is at none))
      | inr differs ↦ rw differs (no_equals bytes (omega (arith, rw differs at none)))
    ]

pub returns-in-None : goal.returns-in-None
returns-in-None c = rw (no_equals c.args.word.now (c.in-None.ensures.byte (omega arith) (λ w o h. h))) (c.awaits_value.ensures ∙ rw c.option_named-in-None.ensures refl)

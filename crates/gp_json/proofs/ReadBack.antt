-- A string is read as its bytes.
use Rattle.std.proofs.Common.{◌≡◌, refl, sym, ap, ◌∙◌, arith, ℕ, zero, suc, ◌<◌, ◌/◌, ◌%◌, Bool, true, false, List, [], ◌∷◌, ◌++◌, append_assoc}
use Rattle.std.proofs.lemmas.Bool.{eqb-true}
use Rattle.std.specs.Prelude.{◌==◌, codes, if◌then◌else◌, Some}
use Rattle.std.specs.List.{AllByRecursion}
use Rattle.gp_json.specs.Reading.{StringsReadBack, characters_read, digit_of, number_of, with_character}
use Rattle.gp_json.specs.Strings.{by_number, character_text, characters_text, hexadecimal, is_numbered, string_text}

-- a digit counts what it was written for
digit_back : (digit : ℕ) → digit < 16 → digit_of (hexadecimal digit) ≡ digit
digit_back zero small = refl
digit_back (suc zero) small = refl
digit_back (suc (suc zero)) small = refl
digit_back (suc (suc (suc zero))) small = refl
digit_back (suc (suc (suc (suc zero)))) small = refl
digit_back (suc (suc (suc (suc (suc zero))))) small = refl
digit_back (suc (suc (suc (suc (suc (suc zero)))))) small = refl
digit_back (suc (suc (suc (suc (suc (suc (suc zero))))))) small = refl
digit_back (suc (suc (suc (suc (suc (suc (suc (suc zero)))))))) small = refl
digit_back (suc (suc (suc (suc (suc (suc (suc (suc (suc zero))))))))) small = refl
digit_back (suc (suc (suc (suc (suc (suc (suc (suc (suc (suc zero)))))))))) small = refl
digit_back (suc (suc (suc (suc (suc (suc (suc (suc (suc (suc (suc zero))))))))))) small = refl
digit_back (suc (suc (suc (suc (suc (suc (suc (suc (suc (suc (suc (suc zero)))))))))))) small = refl
digit_back (suc (suc (suc (suc (suc (suc (suc (suc (suc (suc (suc (suc (suc zero))))))))))))) small = refl
digit_back (suc (suc (suc (suc (suc (suc (suc (suc (suc (suc (suc (suc (suc (suc zero)))))))))))))) small = refl
digit_back (suc (suc (suc (suc (suc (suc (suc (suc (suc (suc (suc (suc (suc (suc (suc zero))))))))))))))) small = refl
digit_back (suc (suc (suc (suc (suc (suc (suc (suc (suc (suc (suc (suc (suc (suc (suc (suc digit)))))))))))))))) small = absurd (omega (arith, small))

-- the number of a byte is read as the byte
number_back : (byte : ℕ) → byte < 256 → number_of 48 48 (hexadecimal (byte / 16)) (hexadecimal (byte % 16)) ≡ byte
number_back byte small =
    let high : digit_of (hexadecimal (byte / 16)) ≡ byte / 16 = digit_back (byte / 16) (omega (arith, small)) in
    let low : digit_of (hexadecimal (byte % 16)) ≡ byte % 16 = digit_back (byte % 16) (omega arith) in
    rw (high, low) (omega arith)

-- the text of a byte is read as the byte, and then what stands behind it
character_back : (byte : ℕ) (rest : List ℕ) → byte < 256 → characters_read (character_text byte ++ rest) ≡ with_character byte (characters_read rest)
character_back byte rest small = at (byte == 34) (byte == 92) (is_numbered byte) refl refl
  where
    at : (is_quote is_backslash numbered : Bool) → (byte == 34) ≡ is_quote → (byte == 92) ≡ is_backslash
        → characters_read ((if is_quote then codes "\\\"" else (if is_backslash then codes "\\\\" else (if numbered then by_number byte else byte ∷ []))) ++ rest) ≡ with_character byte (characters_read rest)
    at true is_backslash numbered quote backslash = ap (λ b. with_character b (characters_read rest)) (sym (eqb-true byte 34 quote))
    at false true numbered quote backslash = ap (λ b. with_character b (characters_read rest)) (sym (eqb-true byte 92 backslash))
    at false false true quote backslash = ap (λ b. with_character b (characters_read rest)) (number_back byte small)
    at false false false quote backslash = rw (quote, backslash) refl

-- the texts of bytes, and then the quote that ends them
characters_back : (bytes rest : List ℕ) → AllByRecursion (λ byte. byte < 256) bytes
    → characters_read (characters_text bytes ++ 34 ∷ rest) ≡ Some (record { characters = bytes; rest = rest })
characters_back [] rest small = refl
characters_back (byte ∷ bytes) rest small =
    ap characters_read (append_assoc (character_text byte) (characters_text bytes) (34 ∷ rest))
    ∙ character_back byte (characters_text bytes ++ 34 ∷ rest) small.0
    ∙ ap (with_character byte) (characters_back bytes rest small.1)

pub string_back : StringsReadBack
unfolding string_text
string_back bytes rest small =
    ap characters_read (append_assoc (characters_text bytes) (34 ∷ []) rest) ∙ characters_back bytes rest small

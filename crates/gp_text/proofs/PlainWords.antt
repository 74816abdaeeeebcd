-- Names and decimals are plain words.
use Rattle.std.proofs.Common.{◌≡◌, ℕ, suc, ◌<◌, ◌≤◌, ◌^◌, ℤ, pos, negsuc, List, [], ◌∷◌, ◌*◌, true, false, length, length-append, refl, arith, decimal, lit<}
use Rattle.std.specs.Char.{is_ascii_digit}
use Rattle.std.specs.Fmt.{signed_decimal}
use Rattle.std.specs.List.{AllByRecursion, list_all}
use Rattle.std.proofs.lemmas.Bool.{and_from, and_parts}
use Rattle.std.proofs.lemmas.Bool.Decides.{nat_tests}
use Rattle.std.proofs.lemmas.Fmt.{decimal_nonempty, digits_decimal, length-decimal-le, length_signed_le}
use lib.Signed.{mag}
use Rattle.gp_text.proofs.Digits.{own}
use Rattle.gp_text.specs.Line.{is_word}
use Rattle.gp_text.specs.Name.{is_name, is_name_byte}
use Rattle.gp_text.specs.Spelling.{is_plain, is_plain_word, IsPlainLine, IsShortWord, joined, PlainWords}
use Rattle.gp_text.specs.Lines.{is_passed_over}

name_byte : (b : ℕ) → is_name_byte b ≡ true → is_plain b ≡ true
name_byte b named = grind (arith, nat_tests)

digit_byte : (b : ℕ) → is_ascii_digit b ≡ true → is_plain b ≡ true
digit_byte b digit = grind (arith, nat_tests)

name_bytes : (bytes : List ℕ) → list_all is_name_byte bytes ≡ true → list_all is_plain bytes ≡ true
name_bytes [] named = refl
name_bytes (b ∷ bytes) named =
    let parts = and_parts (is_name_byte b) (list_all is_name_byte bytes) named in
    and_from _ _ (name_byte b parts.0) (name_bytes bytes parts.1)

digit_bytes : (bytes : List ℕ) → list_all is_ascii_digit bytes ≡ true → list_all is_plain bytes ≡ true
digit_bytes [] digits = refl
digit_bytes (b ∷ bytes) digits =
    let parts = and_parts (is_ascii_digit b) (list_all is_ascii_digit bytes) digits in
    and_from _ _ (digit_byte b parts.0) (digit_bytes bytes parts.1)

some_word : (bytes : List ℕ) → 0 < length bytes → is_word bytes ≡ true
some_word [] some = absurd (omega arith)
some_word (b ∷ bytes) some = refl

-- what a name is, by its parts
record IsName (bytes : List ℕ) : Type 0 where
  some : 0 < length bytes
  fits : length bytes ≤ 32
  named : list_all is_name_byte bytes ≡ true

name_parts : (bytes : List ℕ) → is_name bytes ≡ true → IsName bytes
name_parts bytes named = record {
  some = grind (arith, nat_tests);
  fits = grind (arith, nat_tests);
  named = grind (arith, nat_tests);
}

digits_plain : (n : ℕ) → n < 2 ^ 64 → list_all is_plain (decimal n) ≡ true
digits_plain n lt = digit_bytes (decimal n) (digits_decimal own n lt)

number_plain : (n : ℕ) → n < 2 ^ 64 → is_plain_word (decimal n) ≡ true
number_plain n lt = and_from _ _ (some_word (decimal n) (decimal_nonempty n lt)) (digits_plain n lt)

signed_plain : (z : ℤ) → mag z < 2 ^ 63 → is_plain_word (signed_decimal z) ≡ true
signed_plain (pos n) lt = number_plain n (omega arith)
signed_plain (negsuc n) lt = digits_plain (suc n) (omega arith)

-- short words in a row, with a space between them
joined_fits : (words : List (List ℕ)) → AllByRecursion IsShortWord words → length (joined words) ≤ 81 * length words
joined_fits [] are = omega arith
joined_fits (word ∷ []) are = omega (arith, are.0.short)
joined_fits (word ∷ next ∷ words) are =
    omega (arith, are.0.short, joined_fits (next ∷ words) are.1, length-append word (32 ∷ joined (next ∷ words)))

each_plain : (words : List (List ℕ)) → AllByRecursion IsShortWord words → AllByRecursion (λ word. is_plain_word word ≡ true) words
each_plain [] are = tt
each_plain (word ∷ words) are = (are.0.plain, each_plain words are.1)

short_line : (words : List (List ℕ)) → AllByRecursion IsShortWord words → length words ≤ 50 → is_passed_over words ≡ false → IsPlainLine words
short_line words are few says = record {
  plain = each_plain words are;
  says = says;
  fits = omega (arith, few, joined_fits words are);
}

pub plain_words_lem : PlainWords
plain_words_lem = record {
  names = λ bytes named.
      let is = name_parts bytes named in
      (and_from _ _ (some_word bytes is.some) (name_bytes bytes is.named), is.fits);
  numbers = λ n lt. (number_plain n lt, length-decimal-le 20 n (lit< tt) (omega arith) lt);
  signed = λ z fits. (signed_plain z fits.sfits, length_signed_le 19 z (omega (arith, fits.sfits)) fits.sfits);
  lines = short_line;
}

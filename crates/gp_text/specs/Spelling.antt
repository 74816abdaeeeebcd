-- The text of lines of words, spelled plainly, and that it is read as these lines.
use Rattle.std.specs.Prelude.{◌<◌, ◌^◌, ℤ, decimal, FitsSigned, ◌≡◌, ℕ, ◌+◌, ◌≤◌, Bool, false, true, ◌&&◌, nat_lt, List, [], ◌∷◌, ◌++◌, length, Ok}
use Rattle.std.specs.Fmt.{signed_decimal}
use Rattle.std.specs.Int.{w64}
use Rattle.std.specs.List.{AllByRecursion, join_with_byte, list_all}
use Rattle.gp_text.specs.Line.{is_word}
use Rattle.gp_text.specs.Lines.{is_passed_over, lines_of}
use Rattle.gp_text.specs.Name.{is_name}
use Rattle.gp_text.specs.declared.line.Line.{Line}

-- a printable character that is no space
abbrev pub is_plain : ℕ → Bool
is_plain b = nat_lt 32 b && nat_lt b 127

-- a word that a line can hold
abbrev pub is_plain_word : List ℕ → Bool
is_plain_word bytes = is_word bytes && list_all is_plain bytes

-- the words with one space between them
abbrev pub joined : List (List ℕ) → List ℕ
joined words = join_with_byte 32 words

-- words that follow the first one of a line, a space before each
abbrev pub after_words : List (List ℕ) → List ℕ
after_words [] = []
after_words (word ∷ words) = 32 ∷ (word ++ after_words words)

-- words that make a line of the text: no comment, and not too long
pub record IsPlainLine (words : List (List ℕ)) : Type 0 where
  pub plain : AllByRecursion (λ word. is_plain_word word ≡ true) words
  pub says : is_passed_over words ≡ false
  pub fits : length (joined words) ≤ 4096

-- the text of these lines: a newline after each
abbrev pub spelling : List (List (List ℕ)) → List ℕ
spelling [] = []
spelling (words ∷ lines) = joined words ++ (10 ∷ spelling lines)

-- the lines with their numbers, from this one on
abbrev pub numbered : ℕ → List (List (List ℕ)) → List Line
numbered n [] = []
numbered n (words ∷ lines) = record { number = n; words = words } ∷ numbered (n + 1) lines

-- a plainly spelled text is read as its lines, numbered from 1
abbrev pub ReadsAgain : Type 0
ReadsAgain = (lines : List (List (List ℕ))) → AllByRecursion IsPlainLine lines → lines_of (spelling lines) ≡ Ok (numbered 1 lines)

-- a plain word of at most 80 bytes
pub record IsShortWord (word : List ℕ) : Type 0 where
  pub plain : is_plain_word word ≡ true
  pub short : length word ≤ 80

-- names and decimals are plain words, and short; up to 50 short words make a line
pub record PlainWords : Type 0 where
  pub names : (bytes : List ℕ) → is_name bytes ≡ true → (is_plain_word bytes ≡ true) × (length bytes ≤ 32)
  pub numbers : (n : ℕ) → n < 2 ^ 64 → (is_plain_word (decimal n) ≡ true) × (length (decimal n) ≤ 20)
  pub signed : (z : ℤ) → FitsSigned w64 z → (is_plain_word (signed_decimal z) ≡ true) × (length (signed_decimal z) ≤ 20)
  pub lines : (words : List (List ℕ)) → AllByRecursion IsShortWord words → length words ≤ 50 → is_passed_over words ≡ false → IsPlainLine words

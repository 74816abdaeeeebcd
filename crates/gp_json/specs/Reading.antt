-- How the characters of a JSON string are read: up to the quote that ends it, each as it stands, or behind a backslash a quote, a backslash, or
-- `u` with a number of four hexadecimal digits.
use Rattle.std.specs.Prelude.{◌≡◌, ℕ, ◌+◌, ◌-◌, ◌*◌, ◌<◌, ◌==◌, nat_lt, List, [], ◌∷◌, ◌++◌, Option, Some, None, if◌then◌else◌}
use Rattle.std.specs.List.{AllByRecursion}
use Rattle.gp_json.specs.Json.{json_text}
use Rattle.gp_json.specs.Json.Json.{Text}

-- the characters of a string, and the bytes behind the quote that ends it
pub record StringRead : Type 0 where
  pub characters : List ℕ
  pub rest : List ℕ

-- with a character before them
abbrev pub with_character : ℕ → Option StringRead → Option StringRead
with_character character None = None
with_character character (Some read) = Some (record { characters = character ∷ read.characters; rest = read.rest })

-- what a hexadecimal digit counts
abbrev pub digit_of : ℕ → ℕ
digit_of byte = if nat_lt byte 58 then byte - 48 else byte - 87

-- what four of them count
abbrev pub number_of : ℕ → ℕ → ℕ → ℕ → ℕ
number_of a b c d = ((digit_of a * 16 + digit_of b) * 16 + digit_of c) * 16 + digit_of d

abbrev mutual
  -- what is read; none where no quote ends it. 34 is the quote, 92 the backslash
  pub characters_read : List ℕ → Option StringRead
  characters_read [] = None
  characters_read (first ∷ rest) =
      if first == 34 then Some (record { characters = []; rest = rest }) else
      (if first == 92 then escaped_read rest else with_character first (characters_read rest))

  -- the same behind a backslash; 117 is the `u`
  pub escaped_read : List ℕ → Option StringRead
  escaped_read [] = None
  escaped_read (mark ∷ rest) = if mark == 117 then numbered_read rest else with_character mark (characters_read rest)

  -- the same where the number of a character is to come
  pub numbered_read : List ℕ → Option StringRead
  numbered_read [] = None
  numbered_read (a ∷ []) = None
  numbered_read (a ∷ b ∷ []) = None
  numbered_read (a ∷ b ∷ c ∷ []) = None
  numbered_read (a ∷ b ∷ c ∷ d ∷ rest) = with_character (number_of a b c d) (characters_read rest)

-- the characters of a string behind the quote that begins it
abbrev pub string_read : List ℕ → Option StringRead
string_read [] = None
string_read (first ∷ rest) = if first == 34 then characters_read rest else None

-- a string is read as its bytes, whatever stands behind it; so two strings with one text are one
abbrev pub StringsReadBack : Type 0
StringsReadBack =
    (bytes rest : List ℕ) → AllByRecursion (λ byte. byte < 256) bytes
    → string_read (json_text (Text bytes) ++ rest) ≡ Some (record { characters = bytes; rest = rest })

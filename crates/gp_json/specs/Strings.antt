-- Strings as JSON has them: between quotes, with the bytes that may not stand there written otherwise.
use Rattle.std.specs.Prelude.{ℕ, ◌+◌, ◌/◌, ◌%◌, Bool, ◌==◌, ◌||◌, nat_lt, List, [], ◌∷◌, ◌++◌, codes, if◌then◌else◌}
use Rattle.std.specs.List.{flat_map}

-- a hexadecimal digit, of `0` to `9` and `a` to `f`
abbrev pub hexadecimal : ℕ → ℕ
hexadecimal digit = if nat_lt digit 10 then 48 + digit else 87 + digit

-- a character by its number, below 256
abbrev pub by_number : ℕ → List ℕ
by_number byte = codes "\\u00" ++ hexadecimal (byte / 16) ∷ hexadecimal (byte % 16) ∷ []

-- whether a byte is written by its number: those that print are 32 to 126
abbrev pub is_numbered : ℕ → Bool
is_numbered byte = nat_lt byte 32 || nat_lt 126 byte

-- a byte as it stands in a string: 34 is the quote, 92 the backslash
abbrev pub character_text : ℕ → List ℕ
character_text byte =
    if byte == 34 then codes "\\\"" else
    (if byte == 92 then codes "\\\\" else
    (if is_numbered byte then by_number byte else byte ∷ []))

-- the bytes of a string
abbrev pub characters_text : List ℕ → List ℕ
characters_text bytes = flat_map character_text bytes

-- a string
unfoldable pub string_text : List ℕ → List ℕ
string_text bytes = codes "\"" ++ characters_text bytes ++ codes "\""

-- The name of a file as a URI reference.
use Rattle.std.specs.Prelude.{ℕ, ◌+◌, ◌/◌, ◌%◌, Bool, false, ◌==◌, ◌&&◌, ◌||◌, nat_le, nat_lt, List, [], ◌∷◌, ◌++◌, codes, if◌then◌else◌}

-- whether a byte is a letter, of `a` to `z` and `A` to `Z`, or a digit
abbrev pub is_letter_or_digit : ℕ → Bool
is_letter_or_digit byte = (nat_le 97 byte && nat_le byte 122) || (nat_le 65 byte && nat_le byte 90) || (nat_le 48 byte && nat_le byte 57)

-- whether a byte stands for itself in a path: letters, digits, `-`, `.`, `_`, `~` and the `/` between its parts
abbrev pub is_plain : ℕ → Bool
is_plain byte = is_letter_or_digit byte || byte == 45 || byte == 46 || byte == 95 || byte == 126 || byte == 47

-- a hexadecimal digit, of `0` to `9` and `A` to `F`
abbrev pub upper_digit : ℕ → ℕ
upper_digit digit = if nat_lt digit 10 then 48 + digit else 55 + digit

-- a byte by its number, behind a percent sign
abbrev pub by_percent : ℕ → List ℕ
by_percent byte = 37 ∷ upper_digit (byte / 16) ∷ upper_digit (byte % 16) ∷ []

-- whether a byte is a hexadecimal digit
abbrev pub is_hexadecimal : ℕ → Bool
is_hexadecimal byte = (nat_le 48 byte && nat_le byte 57) || (nat_le 97 byte && nat_le byte 102) || (nat_le 65 byte && nat_le byte 70)

-- whether two of them come next
abbrev pub begins_with_number : List ℕ → Bool
begins_with_number [] = false
begins_with_number (high ∷ []) = false
begins_with_number (high ∷ low ∷ rest) = is_hexadecimal high && is_hexadecimal low

-- whether a byte of a name, behind which the rest stands, stands for itself in a path; names have bytes by their numbers already
abbrev pub is_kept : ℕ → List ℕ → Bool
is_kept byte rest = is_plain byte || (byte == 37 && begins_with_number rest)

-- a byte of a name, behind which the rest stands
abbrev pub path_byte : ℕ → List ℕ → List ℕ
path_byte byte rest = if is_kept byte rest then byte ∷ [] else by_percent byte

-- a name as a path
abbrev pub path_of : List ℕ → List ℕ
path_of [] = []
path_of (byte ∷ rest) = path_byte byte rest ++ path_of rest

-- what stands before a path: one from the root on has the scheme of files
abbrev pub scheme_of : List ℕ → List ℕ
scheme_of [] = []
scheme_of (first ∷ rest) = if first == 47 then codes "file://" else []

-- the URI reference of a file of this name
unfoldable pub uri_of : List ℕ → List ℕ
uri_of file = scheme_of file ++ path_of file

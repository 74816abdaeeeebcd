-- The numbers that canonical decimals spell.
use Rattle.std.specs.Prelude.{◌≡◌, ◌<◌, ◌↔◌, FitsSigned, decimal, ℕ, zero, suc, ◌^◌, ℤ, pos, negsuc, Bool, false, ◌&&◌, ◌==◌, nat_lt, if◌then◌else◌, List, [], ◌∷◌, Option, Some, None, nat_le}
use Rattle.std.specs.Char.{is_ascii_digit}
use Rattle.std.specs.Fmt.{signed_decimal}
use Rattle.std.specs.Int.{w64}
use Rattle.std.specs.List.{list_all}
use Rattle.std.specs.Str.{bytes_eq}
use Rattle.std.specs.Str.Parse.{digits_value}

-- digits alone, at least one, and no zero before others
abbrev pub is_canonical : List ℕ → Bool
is_canonical [] = false
is_canonical (b ∷ []) = is_ascii_digit b
is_canonical (b ∷ c ∷ bytes) = nat_lt 48 b && list_all is_ascii_digit (b ∷ c ∷ bytes)

-- the number below 2^64 that these bytes spell
abbrev pub number_of : List ℕ → Option ℕ
number_of bytes =
    if is_canonical bytes && nat_lt (digits_value 10 bytes) (2 ^ 64) then Some (digits_value 10 bytes)
    else None

-- the number, where it is below a bound
abbrev pub if_below : ℕ → Option ℕ → Option ℕ
if_below bound None = None
if_below bound (Some n) = if nat_lt n bound then Some n else None

-- the number below 2^32 that these bytes spell
abbrev pub small_number_of : List ℕ → Option ℕ
small_number_of bytes = if_below (2 ^ 32) (number_of bytes)

-- a number that lies between two bounds, both included
abbrev pub between : ℕ → ℕ → Option ℕ → Option ℕ
between low high None = None
between low high (Some n) = if nat_le low n && nat_le n high then Some n else None

-- the number of a line that is a keyword and one number
abbrev pub number_after : List ℕ → List (List ℕ) → Option ℕ
number_after keyword (first ∷ number ∷ []) = if bytes_eq first keyword then small_number_of number else None
number_after keyword _ = None

-- the number from 0 on as a signed one, where it is below 2^63
abbrev pub positive : Option ℕ → Option ℤ
positive None = None
positive (Some n) = if nat_lt n (2 ^ 63) then Some (pos n) else None

-- the number of this size below zero, where it is at least -2^63; there is no -0
abbrev pub negative : Option ℕ → Option ℤ
negative None = None
negative (Some zero) = None
negative (Some (suc n)) = if nat_lt n (2 ^ 63) then Some (negsuc n) else None

-- the number from -2^63 to 2^63 - 1 that these bytes spell: 45 is the minus
abbrev pub signed_of : List ℕ → Option ℤ
signed_of [] = None
signed_of (b ∷ bytes) = if b == 45 then negative (number_of bytes) else positive (number_of (b ∷ bytes))

-- what is read is exactly the decimal spelling of its value
pub record OneSpelling : Type 0 where
  pub unsigned : (bytes : List ℕ) (n : ℕ) → n < 2 ^ 64 → (number_of bytes ≡ Some n) ↔ (bytes ≡ decimal n)
  pub small : (bytes : List ℕ) (n : ℕ) → n < 2 ^ 32 → (small_number_of bytes ≡ Some n) ↔ (bytes ≡ decimal n)
  pub signed : (bytes : List ℕ) (z : ℤ) → FitsSigned w64 z → (signed_of bytes ≡ Some z) ↔ (bytes ≡ signed_decimal z)

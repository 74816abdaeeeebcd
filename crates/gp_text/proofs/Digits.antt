-- One more digit of a decimal.
use Rattle.std.proofs.Common.{◌≡◌, ℕ, ◌+◌, ◌-◌, ◌*◌, ◌<◌, ◌≤◌, true, List, get_or, take, length, arith, rules, lit≤}
use Rattle.std.specs.Char.{is_ascii_digit}
use Rattle.std.specs.Int.{IsInRange}
use Rattle.std.specs.List.{list_all}
use Rattle.std.specs.Str.Parse.{digits_value}
use Rattle.std.proofs.lemmas.Int.Digits.{digits_value_more}
use Rattle.std.proofs.lemmas.Str.{digit_value_digit}
use Rattle.std.proofs.lemmas.Str.Parse.{IsNumeralModel, numerals_by_value, digit_at, digits_value-take-le}

-- this crate's word for a list of digits, in std's laws of decimals
pub own : IsNumeralModel (λ ds. list_all is_ascii_digit ds ≡ true) (digits_value 10)
own = numerals_by_value _ (search rules)

-- the byte at a place is a digit, which the number so far takes on at its end
pub record IsNext (ds : List ℕ) (i : ℕ) : Type 0 where
  pub low : 48 ≤ get_or ds i 0
  pub high : get_or ds i 0 ≤ 57
  pub value : digits_value 10 (take (i + 1) ds) ≡ digits_value 10 (take i ds) * 10 + (get_or ds i 0 - 48)
  pub bound : digits_value 10 (take (i + 1) ds) ≤ digits_value 10 ds

pub next_digit : (ds : List ℕ) (i : ℕ) → list_all is_ascii_digit ds ≡ true → i < length ds → IsNext ds i
next_digit ds i all lt =
    let range : IsInRange 48 57 (get_or ds i 0) = digit_at ds i (own.to ds all) lt in
    record {
      low = omega (arith, range);
      high = omega (arith, range);
      value = omega (arith, digits_value_more 10 ds i lt, digit_value_digit (get_or ds i 0) range);
      bound = digits_value-take-le 10 ds (i + 1) (lit≤ tt);
    }

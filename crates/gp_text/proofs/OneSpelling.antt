-- What is read as a number is its one spelling.
use Rattle.std.proofs.Common.{◌≡◌, ℕ, zero, suc, ◌<◌, ◌^◌, ℤ, pos, negsuc, Bool, true, false, ◌&&◌, ◌==◌, nat_lt, if◌then◌else◌, List, [], ◌∷◌, length, get_or, Option, Some, None, ◌↔◌, refl, sym, ap, ◌∙◌, arith, FitsSigned, w64, decimal, eqb-true, lt-ltb, lit<}
use Rattle.std.specs.Char.{is_ascii_digit}
use Rattle.std.specs.Fmt.{signed_decimal}
use Rattle.std.specs.List.{list_all}
use Rattle.std.specs.Str.Parse.{digits_value}
use Rattle.std.proofs.lemmas.Bool.{and_from, and_parts, ltb-true}
use Rattle.std.proofs.lemmas.Bool.Decides.{nat_tests}
use Rattle.std.proofs.lemmas.Fmt.{decimal-digits_value, decimal_digit, digits_decimal, digits_value-decimal, first_decimal}
use lib.Signed.{mag}
use Rattle.gp_text.proofs.Digits.{own}
use Rattle.gp_text.specs.Numbers.{is_canonical, if_below, negative, number_of, OneSpelling, positive, signed_of, small_number_of}

-- an answer that is there, and the test before it
given : (b : Bool) (v n : ℕ) → (if b then Some v else None) ≡ Some n → (b ≡ true) × (v ≡ n)
given true v n e = (refl, (cc))
given false v n e = (cc)

-- what is canonical: digits, some, and a zero only alone
record IsDecimal (bytes : List ℕ) : Type 0 where
  digits : list_all is_ascii_digit bytes ≡ true
  some : 0 < length bytes
  alone : get_or bytes 0 0 ≡ 48 → length bytes ≡ 1

canonical : (bytes : List ℕ) → is_canonical bytes ≡ true → IsDecimal bytes
canonical [] h = (cc)
canonical (b ∷ []) h = record { digits = rw h refl; some = lit< tt; alone = λ _. refl }
canonical (b ∷ c ∷ bytes) h =
    let parts = and_parts (nat_lt 48 b) (list_all is_ascii_digit (b ∷ c ∷ bytes)) h in
    record {
      digits = parts.1;
      some = omega arith;
      alone = λ zero_first. absurd (omega (arith, ltb-true 48 b parts.0));
    }

canonical_from : (bytes : List ℕ) → list_all is_ascii_digit bytes ≡ true → 48 < get_or bytes 0 0 → is_canonical bytes ≡ true
canonical_from [] digits first = absurd (omega arith)
canonical_from (b ∷ []) digits first = (and_parts (is_ascii_digit b) true digits).0
canonical_from (b ∷ c ∷ bytes) digits first = rw (lt-ltb 48 b first) digits

kept : (b : Bool) (v n : ℕ) → b ≡ true → v ≡ n → (if b then Some v else None) ≡ Some n
kept true v n holds same = ap Some same
kept false v n holds same = (cc)

-- the decimal of a number is read as it
reads_decimal : (n : ℕ) → n < 2 ^ 64 → number_of (decimal n) ≡ Some n
reads_decimal zero lt = rw (decimal_digit 0 (lit< tt)) refl
reads_decimal (suc n) lt =
    let value : digits_value 10 (decimal (suc n)) ≡ suc n = digits_value-decimal own (suc n) lt in
    let first : 48 < get_or (decimal (suc n)) 0 0 = first_decimal (suc n) (omega arith) lt in
    let spelled : is_canonical (decimal (suc n)) ≡ true =
    canonical_from (decimal (suc n)) (digits_decimal own (suc n) lt) first in
    let small : nat_lt (digits_value 10 (decimal (suc n))) (2 ^ 64) ≡ true =
    lt-ltb (digits_value 10 (decimal (suc n))) (2 ^ 64) (omega (arith, value)) in
    kept (is_canonical (decimal (suc n)) && nat_lt (digits_value 10 (decimal (suc n))) (2 ^ 64)) (digits_value 10 (decimal (suc n))) (suc n) (and_from _ _ spelled small) value

-- a number that was read
record WasRead (bytes : List ℕ) (n : ℕ) : Type 0 where
  spelled : IsDecimal bytes
  small : digits_value 10 bytes < 2 ^ 64
  value : digits_value 10 bytes ≡ n

was_read : (bytes : List ℕ) (n : ℕ) → number_of bytes ≡ Some n → WasRead bytes n
was_read bytes n e =
    let read = given (is_canonical bytes && nat_lt (digits_value 10 bytes) (2 ^ 64)) (digits_value 10 bytes) n e in
    let parts = and_parts (is_canonical bytes) (nat_lt (digits_value 10 bytes) (2 ^ 64)) read.0 in
    record {
      spelled = canonical bytes parts.0;
      small = ltb-true (digits_value 10 bytes) (2 ^ 64) parts.1;
      value = read.1;
    }

-- what is read is the decimal of the number
is_decimal : (bytes : List ℕ) (n : ℕ) → number_of bytes ≡ Some n → bytes ≡ decimal n
is_decimal bytes n e =
    let read = was_read bytes n e in
    let is = read.spelled in
    sym (ap decimal (sym read.value) ∙ decimal-digits_value own bytes is.digits is.some is.alone read.small)

unsigned_law : (bytes : List ℕ) (n : ℕ) → n < 2 ^ 64 → (number_of bytes ≡ Some n) ↔ (bytes ≡ decimal n)
unsigned_law bytes n lt = (is_decimal bytes n, λ e. rw e (reads_decimal n lt))

-- a number below a bound was read
below : (bound : ℕ) (o : Option ℕ) (n : ℕ) → if_below bound o ≡ Some n → o ≡ Some n
below bound None n e = (cc)
below bound (Some m) n e = ap Some (given (nat_lt m bound) m n e).1

small_law : (bytes : List ℕ) (n : ℕ) → n < 2 ^ 32 → (small_number_of bytes ≡ Some n) ↔ (bytes ≡ decimal n)
small_law bytes n lt = (
  λ e. is_decimal bytes n (below (2 ^ 32) (number_of bytes) n e),
  λ e. rw (e, reads_decimal n (omega arith), lt-ltb n (2 ^ 32) lt) refl,
)

-- a number from 0 on, as it was read
positive_from : (o : Option ℕ) (z : ℤ) → positive o ≡ Some z → (n : ℕ) × (o ≡ Some n) × (z ≡ pos n)
positive_from None z e = (cc)
positive_from (Some n) z e = positive_at (nat_lt n (2 ^ 63)) n z e
  where
    positive_at : (b : Bool) (n : ℕ) (z : ℤ) → (if b then Some (pos n) else None) ≡ Some z → (m : ℕ) × (Some n ≡ Some m) × (z ≡ pos m)
    positive_at true n z e = (n, refl, (cc))
    positive_at false n z e = (cc)

-- a number below zero, by its size as it was read
negative_from : (o : Option ℕ) (z : ℤ) → negative o ≡ Some z → (n : ℕ) × (o ≡ Some (suc n)) × (z ≡ negsuc n)
negative_from None z e = (cc)
negative_from (Some zero) z e = (cc)
negative_from (Some (suc n)) z e = negative_at (nat_lt n (2 ^ 63)) n z e
  where
    negative_at : (b : Bool) (n : ℕ) (z : ℤ) → (if b then Some (negsuc n) else None) ≡ Some z → (m : ℕ) × (Some (suc n) ≡ Some (suc m)) × (z ≡ negsuc m)
    negative_at true n z e = (n, refl, (cc))
    negative_at false n z e = (cc)

below_zero : (b : ℕ) (bytes : List ℕ) (n : ℕ) (z : ℤ) → b ≡ 45 → bytes ≡ decimal (suc n) → z ≡ negsuc n → b ∷ bytes ≡ signed_decimal z
below_zero b bytes n z minus size is = rw (is, minus, size) refl

-- what is read with a sign, by the test on the first byte
signed_at : (minus : Bool) (b : ℕ) (bytes : List ℕ) (z : ℤ) → (b == 45) ≡ minus → (if minus then negative (number_of bytes) else positive (number_of (b ∷ bytes))) ≡ Some z → b ∷ bytes ≡ signed_decimal z
signed_at true b bytes z sign e =
    let read = negative_from (number_of bytes) z e in
    below_zero b bytes read.0 z (eqb-true b 45 sign) (is_decimal bytes (suc read.0) read.1) read.2
signed_at false b bytes z sign e =
    let read = positive_from (number_of (b ∷ bytes)) z e in
    is_decimal (b ∷ bytes) read.0 read.1 ∙ ap signed_decimal (sym read.2)

is_signed : (bytes : List ℕ) (z : ℤ) → signed_of bytes ≡ Some z → bytes ≡ signed_decimal z
is_signed [] z e = (cc)
is_signed (b ∷ bytes) z e = signed_at (b == 45) b bytes z refl e

no_minus : (b : ℕ) → is_ascii_digit b ≡ true → (b == 45) ≡ false
no_minus b digit = grind (arith, nat_tests)

-- digits that are read have no sign
no_sign : (bytes : List ℕ) (n : ℕ) → number_of bytes ≡ Some n → n < 2 ^ 63 → signed_of bytes ≡ Some (pos n)
no_sign [] n read lt = (cc)
no_sign (b ∷ bytes) n read lt =
    let digits = (was_read (b ∷ bytes) n read).spelled.digits in
    rw (no_minus b (and_parts (is_ascii_digit b) (list_all is_ascii_digit bytes) digits).0, read, lt-ltb n (2 ^ 63) lt) refl

reads_signed : (z : ℤ) → mag z < 2 ^ 63 → signed_of (signed_decimal z) ≡ Some z
reads_signed (pos n) lt = no_sign (decimal n) n (reads_decimal n (omega arith)) lt
reads_signed (negsuc n) lt = rw (reads_decimal (suc n) (omega arith), lt-ltb n (2 ^ 63) lt) refl

signed_law : (bytes : List ℕ) (z : ℤ) → FitsSigned w64 z → (signed_of bytes ≡ Some z) ↔ (bytes ≡ signed_decimal z)
signed_law bytes z fits = (is_signed bytes z, λ e. rw e (reads_signed z fits.sfits))

pub one_spelling_lem : OneSpelling
one_spelling_lem = record { unsigned = unsigned_law; small = small_law; signed = signed_law }

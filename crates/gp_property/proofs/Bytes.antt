-- What tests on names and bytes tell.
use Rattle.std.proofs.Common.{◌≡◌, refl, ℕ, ◌==◌, Bool, true, false, List, ap, arith, inl, inr}
use Rattle.std.specs.Prelude.{◌⊎◌, Option, Some, None, if◌then◌else◌}
use Rattle.std.specs.List.{list_all}
use Rattle.std.specs.Str.{bytes_eq}
use Rattle.std.proofs.lemmas.Bool.{cases_Bool}
use Rattle.std.proofs.lemmas.Bool.Decides.{nat_tests}
use Rattle.std.proofs.lemmas.Slice.Eq.{bytes_eq-Decides}
use Rattle.gp_text.specs.Name.{is_name, is_name_byte, name_of}

-- a value behind a test was given where the test holds
pub if_some : {A : Type 0} (b : Bool) (x y : A) → (if b then Some x else None) ≡ Some y → (b ≡ true) × (x ≡ y)
if_some true x y e = (refl, (cc))
if_some false x y e = (cc)

-- equal bytes, and their test
pub same_bytes : (xs ys : List ℕ) → bytes_eq xs ys ≡ true → xs ≡ ys
same_bytes xs ys e = (bytes_eq-Decides xs ys).0 e

-- a byte of a name is none of the marks of the language
pub record IsPart (b : ℕ) : Type 0 where
  pub star : (b == 42) ≡ false
  pub dollar : (b == 36) ≡ false
  pub at : (b == 64) ≡ false
  pub less : (b == 60) ≡ false
  pub more : (b == 62) ≡ false

pub name_byte : (b : ℕ) → is_name_byte b ≡ true → IsPart b
name_byte b named = record {
  star = grind (arith, nat_tests);
  dollar = grind (arith, nat_tests);
  at = grind (arith, nat_tests);
  less = grind (arith, nat_tests);
  more = grind (arith, nat_tests);
}

-- a name has a first byte, and bytes of names alone
pub name_bytes : (name : List ℕ) → is_name name ≡ true → list_all is_name_byte name ≡ true
name_bytes name named = grind (arith, nat_tests)

-- what is read as a name is this name
pub name_read : (word name : List ℕ) → name_of word ≡ Some name → (word ≡ name) × (is_name name ≡ true)
name_read word name e =
    let read = if_some (is_name word) word name e in
    (read.1, rw (← read.1) read.0)

-- a word that is read as something is none that is read as nothing
pub other_word : {A : Type 0} (read : List ℕ → Option A) (keyword word : List ℕ) (x : A) → read keyword ≡ None → read word ≡ Some x → bytes_eq word keyword ≡ false
other_word read keyword word x none some =
    elim (cases_Bool (bytes_eq word keyword)) as (λ _. bytes_eq word keyword ≡ false) [
      | inl same ↦ absurd (nothing (ap read (same_bytes word keyword same)))
      | inr other ↦ other
    ]
  where
    nothing : read word ≡ read keyword → ⊥
    nothing same = (cc)

-- which of two a test chose
pub either : {A : Type 0} (b : Bool) (x y z : A) → (if b then x else y) ≡ z → ((b ≡ true) × (x ≡ z)) ⊎ ((b ≡ false) × (y ≡ z))
either true x y z e = inl (refl, e)
either false x y z e = inr (refl, e)

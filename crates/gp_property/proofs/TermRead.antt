-- What is read as a term, a value or a thread is its word.
use Rattle.std.proofs.Common.{◌≡◌, refl, ℕ, suc, zero, ◌==◌, ◌<◌, ◌^◌, ℤ, pos, negsuc, true, List, [], ◌∷◌, decimal, map, inl, inr}
use Rattle.std.specs.Prelude.{Option, Some, None, codes, FitsSigned, nat_lt}
use Rattle.std.specs.Fmt.{signed_decimal}
use Rattle.std.specs.Int.{w64}
use Rattle.std.specs.List.{AllByRecursion}
use Rattle.std.specs.Str.{bytes_eq}
use Rattle.std.proofs.lemmas.Bool.{eqb-true, ltb-true}
use lib.Signed.{mag}
use Rattle.gp_text.specs.Name.{is_name, name_of}
use Rattle.gp_text.specs.Numbers.{if_below, negative, number_of, OneSpelling, positive, signed_of, small_number_of}
use Rattle.gp_property.specs.declared.property.Term.{Term}
use Rattle.gp_property.specs.declared.property.Term.TheVariants as term
use Rattle.gp_property.specs.declared.property.ThreadTerm.{ThreadTerm}
use Rattle.gp_property.specs.declared.property.ThreadTerm.TheVariants as thread
use Rattle.gp_property.specs.declared.property.ValueTerm.{ValueTerm}
use Rattle.gp_property.specs.declared.property.ValueTerm.TheVariants as value
use Rattle.gp_property.specs.Property.{IsTerm, IsThread, IsValue}
use Rattle.gp_property.specs.Term.{is_with, named_term, param_with, term_of, terms_of, thread_of, thread_with, value_of, value_with, with_term}
use Rattle.gp_property.specs.Words.{term_word, thread_word, value_word}
use Rattle.gp_property.proofs.Bytes.{either, if_some, name_read, same_bytes}

param_from : (o : Option (List ℕ)) (t : Term) → param_with o ≡ Some t → (name : List ℕ) × (o ≡ Some name) × (t ≡ term.Param name)
param_from None t e = (cc)
param_from (Some name) t e = (name, refl, (cc))

is_from : (o : Option (List ℕ)) (t : Term) → is_with o ≡ Some t → (name : List ℕ) × (o ≡ Some name) × (t ≡ term.Is name)
is_from None t e = (cc)
is_from (Some name) t e = (name, refl, (cc))

param_made : (b : ℕ) (bytes name : List ℕ) (t : Term) → b ≡ 36 → bytes ≡ name → is_name name ≡ true → t ≡ term.Param name → (b ∷ bytes ≡ term_word t) × IsTerm t
param_made b bytes name t dollar same named is = rw (is, dollar, same) (refl, named)

is_made : (word name : List ℕ) (t : Term) → word ≡ name → is_name name ≡ true → t ≡ term.Is name → (word ≡ term_word t) × IsTerm t
is_made word name t same named is = rw is (same, named)

named_read : (word : List ℕ) (t : Term) → named_term word ≡ Some t → (word ≡ term_word t) × IsTerm t
named_read [] t e = (cc)
named_read (b ∷ bytes) t e =
    elim (either (b == 36) (param_with (name_of bytes)) (is_with (name_of (b ∷ bytes))) (Some t) e) [
      | inl dollar ↦
          let from = param_from (name_of bytes) t dollar.1 in
          let read = name_read bytes from.0 from.1 in
          param_made b bytes from.0 t (eqb-true b 36 dollar.0) read.0 read.1 from.2
      | inr plain ↦
          let from = is_from (name_of (b ∷ bytes)) t plain.1 in
          let read = name_read (b ∷ bytes) from.0 from.1 in
          is_made (b ∷ bytes) from.0 t read.0 read.1 from.2
    ]

pub term_read : (word : List ℕ) (t : Term) → term_of word ≡ Some t → (word ≡ term_word t) × IsTerm t
term_read word t e =
    elim (either (bytes_eq word (codes "*")) (Some term.Any) (named_term word) (Some t) e) [
      | inl star ↦
          let is : t ≡ term.Any = cc in
          rw is (same_bytes word (codes "*") star.0, tt)
      | inr other ↦ named_read word t other.1
    ]

terms_from : (o : Option Term) (os : Option (List Term)) (terms : List Term) → with_term o os ≡ Some terms
    → (first : Term) × (rest : List Term) × (o ≡ Some first) × (os ≡ Some rest) × (terms ≡ first ∷ rest)
terms_from None os terms e = (cc)
terms_from (Some t) None terms e = (cc)
terms_from (Some t) (Some ts) terms e = (t, ts, refl, refl, (cc))

terms_made : (word : List ℕ) (words : List (List ℕ)) (t : Term) (ts terms : List Term) → terms ≡ t ∷ ts → (word ≡ term_word t) × IsTerm t → (words ≡ map term_word ts) × AllByRecursion IsTerm ts
    → (word ∷ words ≡ map term_word terms) × AllByRecursion IsTerm terms
terms_made word words t ts terms is first rest = rw (is, first.0, rest.0) (refl, (first.1, rest.1))

pub terms_read : (words : List (List ℕ)) (terms : List Term) → terms_of words ≡ Some terms → (words ≡ map term_word terms) × AllByRecursion IsTerm terms
terms_read [] terms e =
    let is : terms ≡ [] = cc in
    rw is (refl, tt)
terms_read (word ∷ words) terms e =
    let from = terms_from (term_of word) (terms_of words) terms e in
    terms_made word words from.0 from.1 terms from.4 (term_read word from.0 from.2) (terms_read words from.1 from.3)

-- numbers that are read are in their range
below_bound : (bound : ℕ) (o : Option ℕ) (n : ℕ) → if_below bound o ≡ Some n → n < bound
below_bound bound None n e = (cc)
below_bound bound (Some m) n e =
    let read = if_some (nat_lt m bound) m n e in
    rw (← read.1) (ltb-true m bound read.0)

positive_fits : (o : Option ℕ) (z : ℤ) → positive o ≡ Some z → mag z < 2 ^ 63
positive_fits None z e = (cc)
positive_fits (Some n) z e =
    let read = if_some (nat_lt n (2 ^ 63)) (pos n) z e in
    rw (← read.1) (ltb-true n (2 ^ 63) read.0)

negative_fits : (o : Option ℕ) (z : ℤ) → negative o ≡ Some z → mag z < 2 ^ 63
negative_fits None z e = (cc)
negative_fits (Some zero) z e = (cc)
negative_fits (Some (suc n)) z e =
    let read = if_some (nat_lt n (2 ^ 63)) (negsuc n) z e in
    rw (← read.1) (ltb-true n (2 ^ 63) read.0)

signed_fits : (bytes : List ℕ) (z : ℤ) → signed_of bytes ≡ Some z → FitsSigned w64 z
signed_fits [] z e = (cc)
signed_fits (b ∷ bytes) z e =
    elim (either (b == 45) (negative (number_of bytes)) (positive (number_of (b ∷ bytes))) (Some z) e) [
      | inl minus ↦ record { sfits = negative_fits (number_of bytes) z minus.1 }
      | inr plain ↦ record { sfits = positive_fits (number_of (b ∷ bytes)) z plain.1 }
    ]

value_from : (o : Option ℤ) (v : ValueTerm) → value_with o ≡ Some v → (z : ℤ) × (o ≡ Some z) × (v ≡ value.Is z)
value_from None v e = (cc)
value_from (Some z) v e = (z, refl, (cc))

value_made : (word : List ℕ) (z : ℤ) (v : ValueTerm) → v ≡ value.Is z → word ≡ signed_decimal z → FitsSigned w64 z → (word ≡ value_word v) × IsValue v
value_made word z v is same fits = rw is (same, fits)

pub value_read : OneSpelling → (word : List ℕ) (v : ValueTerm) → value_of word ≡ Some v → (word ≡ value_word v) × IsValue v
value_read spelled word v e =
    elim (either (bytes_eq word (codes "*")) (Some value.Any) (value_with (signed_of word)) (Some v) e) [
      | inl star ↦
          let is : v ≡ value.Any = cc in
          rw is (same_bytes word (codes "*") star.0, tt)
      | inr other ↦
          let from = value_from (signed_of word) v other.1 in
          let fits : FitsSigned w64 from.0 = signed_fits word from.0 from.1 in
          value_made word from.0 v from.2 ((spelled.signed word from.0 fits).0 from.1) fits
    ]

thread_from : (o : Option ℕ) (t : ThreadTerm) → thread_with o ≡ Some t → (n : ℕ) × (o ≡ Some n) × (t ≡ thread.Is n)
thread_from None t e = (cc)
thread_from (Some n) t e = (n, refl, (cc))

thread_made : (word : List ℕ) (n : ℕ) (t : ThreadTerm) → t ≡ thread.Is n → word ≡ decimal n → n < 2 ^ 32 → (word ≡ thread_word t) × IsThread t
thread_made word n t is same fits = rw is (same, fits)

pub thread_read : OneSpelling → (word : List ℕ) (t : ThreadTerm) → thread_of word ≡ Some t → (word ≡ thread_word t) × IsThread t
thread_read spelled word t e =
    elim (either (bytes_eq word (codes "*")) (Some thread.Any) (thread_with (small_number_of word)) (Some t) e) [
      | inl star ↦
          let is : t ≡ thread.Any = cc in
          rw is (same_bytes word (codes "*") star.0, tt)
      | inr other ↦
          let from = thread_from (small_number_of word) t other.1 in
          let fits : from.0 < 2 ^ 32 = below_bound (2 ^ 32) (number_of word) from.0 from.1 in
          thread_made word from.0 t from.2 ((spelled.small word from.0 fits).0 from.1) fits
    ]

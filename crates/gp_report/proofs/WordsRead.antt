-- A word is read as what it tells: a number, an event or a literal.
use Rattle.std.proofs.Common.{◌≡◌, refl, ap, subst, ℕ, zero, suc, ◌+◌, ◌-◌, ◌<◌, ◌^◌, Bool, true, false, cond, List, [], ◌∷◌, decimal, arith, add-one}
use Rattle.std.specs.Prelude.{Option, Some, None, ◌==◌, ◌&&◌, nat_lt, if◌then◌else◌}
use Rattle.std.specs.List.{slice_split}
use Rattle.std.specs.Str.Parse.{digits_value}
use Rattle.std.proofs.lemmas.Bool.{and_parts, eqb-true, lt-ltb, ltb-true}
use Rattle.std.proofs.lemmas.Bool.Decides.{nat_tests}
use Rattle.gp_clause.specs.declared.lit.Lit.{Lit}
use Rattle.gp_text.specs.Numbers.{OneSpelling, if_below, is_canonical, number_of, small_number_of}
use Rattle.gp_window.specs.declared.schedule.EventId.{EventId}
use Rattle.gp_window.specs.EventIds.{EventIdsReadExactly, event_id_from, event_id_of, event_id_text, event_id_with}
use Rattle.gp_writer.specs.Spelled.{lit_word}
use Rattle.gp_report.specs.Reading.{lit_of, lit_with}
use Rattle.gp_report.specs.Typed.{IsTypedId}
use Rattle.gp_report.proofs.Words.{BeginsWithDigit, decimal_begins}

-- a word is read as a thing exactly where it is the thing's word
pub record IsWordOf {A : Type 0} (of_word : List ℕ → Option A) (word : A → List ℕ) (P : A → Type 0) : Type 0 where
  pub was : (w : List ℕ) (x : A) → of_word w ≡ Some x → (w ≡ word x) × P x
  pub again : (x : A) → P x → of_word (word x) ≡ Some x

-- a value that is given only where a test holds
pub some_if : {A : Type 0} (b : Bool) (x y : A) → (if b then Some x else None) ≡ Some y → (b ≡ true) × (x ≡ y)
some_if true x y e = (refl, cc)
some_if false x y e = absurd (cc)

below_was : (bound : ℕ) (number : Option ℕ) (n : ℕ) → if_below bound number ≡ Some n → (number ≡ Some n) × (n < bound)
below_was bound None n e = absurd (cc)
below_was bound (Some m) n e =
    let is = some_if (nat_lt m bound) m n e in
    (ap Some is.1, subst (λ k. k < bound) is.1 (ltb-true m bound is.0))

below_again : (bound n : ℕ) → n < bound → if_below bound (Some n) ≡ Some n
below_again bound n lt = rw (lt-ltb n bound lt) refl

number_below : (bytes : List ℕ) (n : ℕ) → number_of bytes ≡ Some n → n < 2 ^ 64
number_below bytes n e =
    let is = some_if (is_canonical bytes && nat_lt (digits_value 10 bytes) (2 ^ 64)) (digits_value 10 bytes) n e in
    subst (λ k. k < 2 ^ 64) is.1 (ltb-true _ _ (and_parts (is_canonical bytes) (nat_lt (digits_value 10 bytes) (2 ^ 64)) is.0).1)

-- numbers below 2^64
pub number_words : OneSpelling → IsWordOf number_of decimal (λ n. n < 2 ^ 64)
number_words spelled = record {
  was = λ bytes n e. let lt = number_below bytes n e in ((spelled.unsigned bytes n lt).0 e, lt);
  again = λ n lt. (spelled.unsigned (decimal n) n lt).1 refl;
}

-- numbers below 2^32
pub small_words : OneSpelling → IsWordOf small_number_of decimal (λ n. n < 2 ^ 32)
small_words spelled = record {
  was = λ bytes n e. let lt = (below_was (2 ^ 32) (number_of bytes) n e).1 in ((spelled.small bytes n lt).0 e, lt);
  again = λ n lt. (spelled.small (decimal n) n lt).1 refl;
}

id_with_was : (thread index : Option ℕ) (id : EventId) → event_id_with thread index ≡ Some id → (thread ≡ Some id.thread) × (index ≡ Some id.index)
id_with_was (Some thread) (Some index) id e =
    let is : record { thread = thread; index = index } ≡ id = cc in
    (ap (λ (i : EventId). Some i.thread) is, ap (λ (i : EventId). Some i.index) is)
id_with_was (Some thread) None id e = absurd (cc)
id_with_was None index id e = absurd (cc)

id_from_was : (parts : List (List ℕ)) (id : EventId) → event_id_from parts ≡ Some id → IsTypedId id
id_from_was [] id e = absurd (cc)
id_from_was (thread ∷ []) id e = absurd (cc)
id_from_was (thread ∷ index ∷ []) id e =
    let is = id_with_was (small_number_of thread) (small_number_of index) id e in
    record {
      thread = (below_was (2 ^ 32) (number_of thread) id.thread is.0).1;
      index = (below_was (2 ^ 32) (number_of index) id.index is.1).1;
    }
id_from_was (thread ∷ index ∷ more ∷ parts) id e = absurd (cc)

-- events
pub id_words : EventIdsReadExactly → IsWordOf event_id_of event_id_text IsTypedId
id_words exactly = record {
  was = λ word id e.
      let typed = id_from_was (slice_split (λ b. b == 46) word) id e in
      ((exactly word id typed.thread typed.index).0 e, typed);
  again = λ id typed. (exactly (event_id_text id) id typed.thread typed.index).1 refl;
}

lit_with_was : OneSpelling → (positive : Bool) (bytes : List ℕ) (number : Option ℕ) (lit : Lit) → if_below (2 ^ 31) (small_number_of bytes) ≡ number → lit_with positive number ≡ Some lit
    → (lit.positive ≡ positive) × (bytes ≡ decimal (lit.variable + 1)) × (lit.variable < 2 ^ 31 - 1)
lit_with_was spelled positive bytes None lit is e = absurd (cc)
lit_with_was spelled positive bytes (Some zero) lit is e = absurd (cc)
lit_with_was spelled positive bytes (Some (suc variable)) lit is e =
    let made : record { variable = variable; positive = positive } ≡ lit = cc in
    let below = below_was (2 ^ 31) (small_number_of bytes) (suc variable) is in
    let word : bytes ≡ decimal (suc variable) = ((small_words spelled).was bytes (suc variable) below.0).0 in
    let here : (bytes ≡ decimal (variable + 1)) × (variable < 2 ^ 31 - 1) = (rw add-one word, omega (arith, below.1)) in
    let P : Lit → Type 0 = λ l. (l.positive ≡ positive) × (bytes ≡ decimal (l.variable + 1)) × (l.variable < 2 ^ 31 - 1) in
    subst P made (refl, here.0, here.1)

lit_was : OneSpelling → (word : List ℕ) (lit : Lit) → lit_of word ≡ Some lit → (word ≡ lit_word lit) × (lit.variable < 2 ^ 31 - 1)
lit_was spelled [] lit e = absurd (cc)
lit_was spelled (b ∷ bytes) lit e = at (b == 45) refl e
  where
    at : (minus : Bool) → (b == 45) ≡ minus
        → cond minus (lit_with false (if_below (2 ^ 31) (small_number_of bytes))) (lit_with true (if_below (2 ^ 31) (small_number_of (b ∷ bytes)))) ≡ Some lit
        → (b ∷ bytes ≡ lit_word lit) × (lit.variable < 2 ^ 31 - 1)
    at true is e =
        let from = lit_with_was spelled false bytes (if_below (2 ^ 31) (small_number_of bytes)) lit refl e in
        let first : b ≡ 45 = eqb-true b 45 is in
        (rw (from.0, first) (ap (λ rest. 45 ∷ rest) from.1), from.2)
    at false is e =
        let from = lit_with_was spelled true (b ∷ bytes) (if_below (2 ^ 31) (small_number_of (b ∷ bytes))) lit refl e in
        (rw from.0 from.1, from.2)

lit_with_again : OneSpelling → (positive : Bool) (variable : ℕ) → variable < 2 ^ 31 - 1
    → lit_with positive (if_below (2 ^ 31) (small_number_of (decimal (variable + 1)))) ≡ Some (record { variable = variable; positive = positive })
lit_with_again spelled positive variable lt =
    let read : small_number_of (decimal (variable + 1)) ≡ Some (variable + 1) = (small_words spelled).again (variable + 1) (omega arith) in
    let below : if_below (2 ^ 31) (Some (variable + 1)) ≡ Some (variable + 1) = below_again (2 ^ 31) (variable + 1) (omega arith) in
    rw (read, below, add-one) refl

no_minus : (positive : Bool) (lit : Lit) (word : List ℕ) → BeginsWithDigit word → lit_with true (if_below (2 ^ 31) (small_number_of word)) ≡ Some lit → lit_of word ≡ Some lit
no_minus positive lit [] begins e = absurd begins
no_minus positive lit (b ∷ bytes) begins e =
    let other : (b == 45) ≡ false = grind (arith, nat_tests) in
    rw other e

lit_again : OneSpelling → (positive : Bool) (variable : ℕ) → variable < 2 ^ 31 - 1
    → lit_of (if positive then decimal (variable + 1) else 45 ∷ decimal (variable + 1)) ≡ Some (record { variable = variable; positive = positive })
lit_again spelled true variable lt = no_minus true _ (decimal (variable + 1)) (decimal_begins (variable + 1) (omega arith)) (lit_with_again spelled true variable lt)
lit_again spelled false variable lt = lit_with_again spelled false variable lt

-- literals
pub lit_words : OneSpelling → IsWordOf lit_of lit_word (λ lit. lit.variable < 2 ^ 31 - 1)
lit_words spelled = record {
  was = λ word lit e. lit_was spelled word lit e;
  again = λ lit lt. lit_again spelled lit.positive lit.variable lt;
}

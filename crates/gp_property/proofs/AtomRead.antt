-- What is read as an atom is its word.
use Rattle.std.proofs.Common.{◌≡◌, refl, sym, ap, ◌∙◌, ℕ, ◌+◌, ◌-◌, ◌≤◌, true, List, [], ◌∷◌, ◌++◌, arith, append-nil, decimal}
use Rattle.std.specs.Prelude.{◌&&◌, nat_le, Option, Some, None}
use Rattle.std.specs.List.{join_with_byte}
use Rattle.std.proofs.lemmas.Bool.{and_parts, leb-true}
use Rattle.std.proofs.lemmas.Fmt.{decimal_digit}
use Rattle.std.proofs.lemmas.List.Splits.{join_with_byte-slice_split}
use Rattle.gp_text.specs.Name.{is_name, name_of}
use Rattle.gp_property.specs.declared.property.Atom.{Atom}
use Rattle.gp_property.specs.Atom.{atom_of, atom_with, closing_atom, cut_at, halves, marked_atom, opening_atom, plain_atom, region_of}
use Rattle.gp_property.specs.Property.{IsAtom}
use Rattle.gp_property.specs.Words.{atom_word}
use Rattle.gp_property.proofs.Bytes.{if_some, name_read}

-- the word spells this atom
abbrev pub Spelled : List ℕ → Atom → Type 0
Spelled word atom = (word ≡ atom_word atom) × IsAtom atom

-- two parts, joined again
two_parts : (parts : List (List ℕ)) (sides : List ℕ × List ℕ) → halves parts ≡ Some sides → parts ≡ sides.0 ∷ sides.1 ∷ []
two_parts [] sides e = (cc)
two_parts (front ∷ []) sides e = (cc)
two_parts (front ∷ back ∷ []) sides e =
    let is : sides ≡ (front, back) = cc in
    rw is refl
two_parts (front ∷ back ∷ next ∷ parts) sides e = (cc)

joined_again : (at : ℕ) (bytes : List ℕ) (sides : List ℕ × List ℕ) → halves (cut_at at bytes) ≡ Some sides → bytes ≡ sides.0 ++ (at ∷ sides.1)
joined_again at bytes sides e =
    sym (join_with_byte-slice_split at bytes) ∙ ap (join_with_byte at) (two_parts (cut_at at bytes) sides e)

-- the number of a region
region_read : (bytes : List ℕ) (n : ℕ) → region_of bytes ≡ Some n → (bytes ≡ decimal n) × (1 ≤ n) × (n ≤ 9)
region_read [] n e = (cc)
region_read (digit ∷ []) n e =
    let read = if_some (nat_le 49 digit && nat_le digit 57) (digit - 48) n e in
    let parts = and_parts (nat_le 49 digit) (nat_le digit 57) read.0 in
    let low : 49 ≤ digit = leb-true 49 digit parts.0 in
    let high : digit ≤ 57 = leb-true digit 57 parts.1 in
    let is : digit - 48 ≡ n = read.1 in
    let most : n ≤ 9 = omega arith in
    let value : digit ≡ 48 + n = omega arith in
    (rw (decimal_digit n (omega arith)) (ap (λ b. b ∷ []) value), omega arith, most)
region_read (digit ∷ next ∷ bytes) n e = (cc)

plain_from : (event thread : Option (List ℕ)) (atom : Atom) → plain_atom event thread ≡ Some atom
    → (a : List ℕ) × (t : List ℕ) × (event ≡ Some a) × (thread ≡ Some t) × (atom ≡ record { event = a; thread_var = t; opens = None; closes = None })
plain_from None thread atom e = (cc)
plain_from (Some a) None atom e = (cc)
plain_from (Some a) (Some t) atom e = (a, t, refl, refl, (cc))

opening_from : (event thread : Option (List ℕ)) (number : Option ℕ) (atom : Atom) → opening_atom event thread number ≡ Some atom
    → (a : List ℕ) × (t : List ℕ) × (n : ℕ) × (event ≡ Some a) × (thread ≡ Some t) × (number ≡ Some n) × (atom ≡ record { event = a; thread_var = t; opens = Some n; closes = None })
opening_from None thread number atom e = (cc)
opening_from (Some a) None number atom e = (cc)
opening_from (Some a) (Some t) None atom e = (cc)
opening_from (Some a) (Some t) (Some n) atom e = (a, t, n, refl, refl, refl, (cc))

closing_from : (event thread : Option (List ℕ)) (number : Option ℕ) (atom : Atom) → closing_atom event thread number ≡ Some atom
    → (a : List ℕ) × (t : List ℕ) × (n : ℕ) × (event ≡ Some a) × (thread ≡ Some t) × (number ≡ Some n) × (atom ≡ record { event = a; thread_var = t; opens = None; closes = Some n })
closing_from None thread number atom e = (cc)
closing_from (Some a) None number atom e = (cc)
closing_from (Some a) (Some t) None atom e = (cc)
closing_from (Some a) (Some t) (Some n) atom e = (a, t, n, refl, refl, refl, (cc))

plain_made : (event target a t : List ℕ) (atom : Atom) → atom ≡ record { event = a; thread_var = t; opens = None; closes = None }
    → (event ≡ a) × (is_name a ≡ true) → (target ≡ t) × (is_name t ≡ true) → Spelled (event ++ (64 ∷ target)) atom
plain_made event target a t atom is named threaded =
    rw is (rw (named.0, threaded.0) (ap (λ rest. a ++ (64 ∷ rest)) (sym (append-nil t))), record { event = named.1; thread = threaded.1; marked = tt })

opening_made : (event target front back a t : List ℕ) (n : ℕ) (atom : Atom) → atom ≡ record { event = a; thread_var = t; opens = Some n; closes = None }
    → target ≡ front ++ (60 ∷ back) → (event ≡ a) × (is_name a ≡ true) → (front ≡ t) × (is_name t ≡ true) → (back ≡ decimal n) × (1 ≤ n) × (n ≤ 9)
    → Spelled (event ++ (64 ∷ target)) atom
opening_made event target front back a t n atom is cut named threaded number =
    rw is (
      rw (cut, named.0, threaded.0, number.0) (ap (λ rest. a ++ (64 ∷ (t ++ (60 ∷ rest)))) (sym (append-nil (decimal n)))),
      record { event = named.1; thread = threaded.1; marked = (number.1, number.2) },
    )

closing_made : (event target front back a t : List ℕ) (n : ℕ) (atom : Atom) → atom ≡ record { event = a; thread_var = t; opens = None; closes = Some n }
    → target ≡ front ++ (62 ∷ back) → (event ≡ a) × (is_name a ≡ true) → (front ≡ t) × (is_name t ≡ true) → (back ≡ decimal n) × (1 ≤ n) × (n ≤ 9)
    → Spelled (event ++ (64 ∷ target)) atom
closing_made event target front back a t n atom is cut named threaded number =
    rw is (
      rw (cut, named.0, threaded.0, number.0) refl,
      record { event = named.1; thread = threaded.1; marked = (number.1, number.2) },
    )

marked_read : (event target : List ℕ) (opening closing : Option (List ℕ × List ℕ)) (atom : Atom)
    → halves (cut_at 60 target) ≡ opening → halves (cut_at 62 target) ≡ closing
    → marked_atom event target opening closing ≡ Some atom → Spelled (event ++ (64 ∷ target)) atom
marked_read event target (Some sides) closing atom less more e =
    let from = opening_from (name_of event) (name_of sides.0) (region_of sides.1) atom e in
    opening_made event target sides.0 sides.1 from.0 from.1 from.2 atom from.6 (joined_again 60 target sides less)
    (name_read event from.0 from.3) (name_read sides.0 from.1 from.4) (region_read sides.1 from.2 from.5)
marked_read event target None (Some sides) atom less more e =
    let from = closing_from (name_of event) (name_of sides.0) (region_of sides.1) atom e in
    closing_made event target sides.0 sides.1 from.0 from.1 from.2 atom from.6 (joined_again 62 target sides more)
    (name_read event from.0 from.3) (name_read sides.0 from.1 from.4) (region_read sides.1 from.2 from.5)
marked_read event target None None atom less more e =
    let from = plain_from (name_of event) (name_of target) atom e in
    plain_made event target from.0 from.1 atom from.4 (name_read event from.0 from.2) (name_read target from.1 from.3)

word_read : (word : List ℕ) (sides : Option (List ℕ × List ℕ)) (atom : Atom) → halves (cut_at 64 word) ≡ sides → atom_with sides ≡ Some atom → Spelled word atom
word_read word None atom cut e = (cc)
word_read word (Some sides) atom cut e =
    let read : Spelled (sides.0 ++ (64 ∷ sides.1)) atom =
    marked_read sides.0 sides.1 (halves (cut_at 60 sides.1)) (halves (cut_at 62 sides.1)) atom refl refl e in
    (joined_again 64 word sides cut ∙ read.0, read.1)

pub atom_read : (word : List ℕ) (atom : Atom) → atom_of word ≡ Some atom → Spelled word atom
atom_read word atom e = word_read word (halves (cut_at 64 word)) atom refl e

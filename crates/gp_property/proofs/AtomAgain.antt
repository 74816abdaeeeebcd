-- The words of atoms are read as these atoms.
use Rattle.std.proofs.Common.{◌≡◌, refl, ap, ◌∙◌, ℕ, ◌+◌, ◌-◌, ◌≤◌, ◌==◌, true, false, List, [], ◌∷◌, ◌++◌, arith, append-nil, eq-eqb, decimal}
use Rattle.std.specs.Prelude.{nat_le, Option, Some, None}
use Rattle.std.specs.List.{AllByRecursion, list_all}
use Rattle.std.proofs.lemmas.Bool.{and_parts}
use Rattle.std.proofs.lemmas.Bool.Decides.{nat_tests}
use Rattle.std.proofs.lemmas.Fmt.{decimal_digit}
use Rattle.std.proofs.lemmas.List.Elements.{All-from_recursion}
use Rattle.std.proofs.lemmas.List.Splits.{slice_split_at, slice_split_none}
use Rattle.gp_text.specs.Name.{is_name, is_name_byte}
use Rattle.gp_property.specs.declared.property.Atom.{Atom}
use Rattle.gp_property.specs.Atom.{atom_of, atom_with, cut_at, halves, marked_atom, region_of}
use Rattle.gp_property.specs.Property.{IsAtom, IsMarked}
use Rattle.gp_property.specs.Words.{atom_word, mark_word}
use Rattle.gp_property.proofs.Bytes.{name_byte, name_bytes}

-- none of these bytes is this one
abbrev Without : ℕ → List ℕ → Type 0
Without at bytes = AllByRecursion (λ b. (b == at) ≡ false) bytes

uncut : (at : ℕ) (bytes : List ℕ) → Without at bytes → cut_at at bytes ≡ bytes ∷ []
uncut at bytes without = slice_split_none (λ b. b == at) bytes (All-from_recursion (λ b. (b == at) ≡ false) bytes without)

cut_once : (at : ℕ) (front back : List ℕ) → Without at front → Without at back → cut_at at (front ++ (at ∷ back)) ≡ front ∷ back ∷ []
cut_once at front back without after =
    slice_split_at (λ b. b == at) front at back (All-from_recursion (λ b. (b == at) ≡ false) front without) (eq-eqb at at refl)
    ∙ ap (λ parts. front ∷ parts) (uncut at back after)

name_without : (at : ℕ) → ((b : ℕ) → is_name_byte b ≡ true → (b == at) ≡ false) → (bytes : List ℕ) → list_all is_name_byte bytes ≡ true → Without at bytes
name_without at each [] named = tt
name_without at each (b ∷ bytes) named =
    let parts = and_parts (is_name_byte b) (list_all is_name_byte bytes) named in
    (each b parts.0, name_without at each bytes parts.1)

both_without : (at : ℕ) (front back : List ℕ) → Without at front → Without at back → Without at (front ++ back)
both_without at [] back first second = second
both_without at (b ∷ front) back first second = (first.0, both_without at front back first.1 second)

-- a name has none of the marks in it
record IsWhole (name : List ℕ) : Type 0 where
  at : Without 64 name
  less : Without 60 name
  more : Without 62 name

whole_name : (name : List ℕ) → is_name name ≡ true → IsWhole name
whole_name name named = record {
  at = name_without 64 (λ b is. (name_byte b is).at) name (name_bytes name named);
  less = name_without 60 (λ b is. (name_byte b is).less) name (name_bytes name named);
  more = name_without 62 (λ b is. (name_byte b is).more) name (name_bytes name named);
}

-- the digit of a region
record IsDigit (digit n : ℕ) : Type 0 where
  at : Without 64 (digit ∷ [])
  less : Without 60 (digit ∷ [])
  more : Without 62 (digit ∷ [])
  read : region_of (digit ∷ []) ≡ Some n

digit_again : (digit n : ℕ) → digit ≡ 48 + n → 1 ≤ n → n ≤ 9 → IsDigit digit n
digit_again digit n is low high =
    let least : nat_le 49 digit ≡ true = grind (arith, nat_tests) in
    let most : nat_le digit 57 ≡ true = grind (arith, nat_tests) in
    let value : digit - 48 ≡ n = omega arith in
    record {
      at = (grind (arith, nat_tests), tt);
      less = (grind (arith, nat_tests), tt);
      more = (grind (arith, nat_tests), tt);
      read = rw (least, most, value) refl;
    }

-- the two sides of the `@` of an atom
sides : (event target : List ℕ) → is_name event ≡ true → Without 64 target → atom_of (event ++ (64 ∷ target)) ≡ marked_atom event target (halves (cut_at 60 target)) (halves (cut_at 62 target))
sides event target named without = ap (λ parts. atom_with (halves parts)) (cut_once 64 event target (whole_name event named).at without)

plain_again : (event thread : List ℕ) → is_name event ≡ true → is_name thread ≡ true → atom_of (event ++ (64 ∷ thread)) ≡ Some (record { event = event; thread_var = thread; opens = None; closes = None })
plain_again event thread named threaded =
    let whole = whole_name thread threaded in
    sides event thread named whole.at ∙ rw (uncut 60 thread whole.less, uncut 62 thread whole.more, named, threaded) refl

opening_again : (event thread : List ℕ) (digit n : ℕ) → is_name event ≡ true → is_name thread ≡ true → IsDigit digit n → atom_of (event ++ (64 ∷ (thread ++ (60 ∷ digit ∷ [])))) ≡ Some (record { event = event; thread_var = thread; opens = Some n; closes = None })
opening_again event thread digit n named threaded is =
    let whole = whole_name thread threaded in
    sides event (thread ++ (60 ∷ digit ∷ [])) named (both_without 64 thread (60 ∷ digit ∷ []) whole.at (refl, is.at))
    ∙ rw (cut_once 60 thread (digit ∷ []) whole.less is.less) (rw (named, threaded, is.read) refl)

closing_again : (event thread : List ℕ) (digit n : ℕ) → is_name event ≡ true → is_name thread ≡ true → IsDigit digit n → atom_of (event ++ (64 ∷ (thread ++ (62 ∷ digit ∷ [])))) ≡ Some (record { event = event; thread_var = thread; opens = None; closes = Some n })
closing_again event thread digit n named threaded is =
    let whole = whole_name thread threaded in
    sides event (thread ++ (62 ∷ digit ∷ [])) named (both_without 64 thread (62 ∷ digit ∷ []) whole.at (refl, is.at))
    ∙ rw (
      uncut 60 (thread ++ (62 ∷ digit ∷ [])) (both_without 60 thread (62 ∷ digit ∷ []) whole.less (refl, is.less)),
      cut_once 62 thread (digit ∷ []) whole.more is.more,
    ) (rw (named, threaded, is.read) refl)

-- an atom by its marks
atom_again_by : (event thread : List ℕ) (opens closes : Option ℕ) → is_name event ≡ true → is_name thread ≡ true → IsMarked opens closes
    → atom_of (event ++ (64 ∷ (thread ++ (mark_word 60 opens ++ mark_word 62 closes)))) ≡ Some (record { event = event; thread_var = thread; opens = opens; closes = closes })
atom_again_by event thread None None named threaded is =
    ap (λ target. atom_of (event ++ (64 ∷ target))) (append-nil thread) ∙ plain_again event thread named threaded
atom_again_by event thread (Some n) None named threaded is =
    let digits : decimal n ≡ (48 + n) ∷ [] = decimal_digit n (omega (arith, is)) in
    rw digits (opening_again event thread (48 + n) n named threaded (digit_again (48 + n) n refl is.0 is.1))
atom_again_by event thread None (Some n) named threaded is =
    let digits : decimal n ≡ (48 + n) ∷ [] = decimal_digit n (omega (arith, is)) in
    rw digits (closing_again event thread (48 + n) n named threaded (digit_again (48 + n) n refl is.0 is.1))
atom_again_by event thread (Some n) (Some m) named threaded is = absurd is

pub atom_again : (atom : Atom) → IsAtom atom → atom_of (atom_word atom) ≡ Some atom
atom_again atom is = atom_again_by atom.event atom.thread_var atom.opens atom.closes is.event is.thread is.marked

-- The places of values, as keys and in the values themselves.
use Rattle.std.proofs.Common.{◌≡◌, refl, ℕ, ℤ, Bool, true, false, List, [], ◌∷◌, map, ap, arith}
use Rattle.std.specs.Prelude.{All, Option, Some, None, Result, Ok, Err, ◌&&◌, nat_le, if◌then◌else◌, is_some, codes}
use Rattle.std.specs.Str.{bytes_eq}
use Rattle.std.proofs.lemmas.Bool.Decides.{nat_tests}
use Rattle.std.proofs.lemmas.Map.Views.{All-keys-insert_entry}
use Rattle.gp_text.specs.declared.line.Line.{Line}
use Rattle.gp_text.specs.Name.{name_of}
use Rattle.gp_text.specs.Numbers.{signed_of, small_number_of}
use Rattle.gp_window.specs.declared.manifest.StartValue.{StartValue}
use Rattle.gp_window.specs.declared.manifest.ManifestFault.{ManifestFault}
use Rattle.gp_window.specs.declared.manifest.ManifestFault.TheVariants as bad
use Rattle.gp_window.specs.Manifest.{Values, start_value, value_of, value_with, values_after, values_from, with_value}
use Rattle.gp_window.specs.ManifestForm.{IsInside, place_cmp, place_of}
use Rattle.gp_text.specs.Numbers.{between}
use Rattle.gp_base.specs.Results.{and_then, or_refusal}
use Rattle.gp_base.specs.Table.{value_at, with_entry}

-- the values made of the entries have the entries' keys as their places
pub places_kept : (entries : Values) → map place_of (map start_value entries) ≡ map (λ entry. entry.0) entries
places_kept [] = refl
places_kept (entry ∷ entries) = ap (λ places. entry.0 ∷ places) (places_kept entries)

-- all keys of the values lie in the windows
abbrev AreInside : ℕ → Values → Type 0
AreInside epochs values = All (IsInside epochs) (map (λ entry. entry.0) values)

-- a value that is there lies in the windows
abbrev IsGiven : ℕ → Option StartValue → Type 0
IsGiven epochs None = Unit {0}
IsGiven epochs (Some given) = IsInside epochs (place_of given)

-- a window that passes the test of its bounds
tested_inside : (epochs k : ℕ) (test : Bool) → (nat_le 1 k && nat_le k epochs) ≡ test → (name : Option (List ℕ)) (value : Option ℤ)
    → IsGiven epochs (value_with (if test then Some k else None) name value)
tested_inside epochs k true is (Some name) (Some value) = grind (arith, nat_tests)
tested_inside epochs k true is (Some name) None = tt
tested_inside epochs k true is None value = tt
tested_inside epochs k false is name value = tt

with_inside : (epochs : ℕ) (window : Option ℕ) (name : Option (List ℕ)) (value : Option ℤ)
    → IsGiven epochs (value_with (between 1 epochs window) name value)
with_inside epochs None name value = tt
with_inside epochs (Some k) name value = tested_inside epochs k (nat_le 1 k && nat_le k epochs) refl name value

chosen_inside : (epochs : ℕ) (test : Bool) (given : Option StartValue) → IsGiven epochs given
    → IsGiven epochs (if test then given else None)
chosen_inside epochs true given inside = inside
chosen_inside epochs false given inside = tt

-- the value of a line lies in the windows
line_inside : (epochs : ℕ) (words : List (List ℕ)) → IsGiven epochs (value_of epochs words)
line_inside epochs [] = tt
line_inside epochs (a ∷ []) = tt
line_inside epochs (a ∷ b ∷ []) = tt
line_inside epochs (a ∷ b ∷ c ∷ []) = tt
line_inside epochs (a ∷ b ∷ c ∷ d ∷ []) =
    chosen_inside epochs (bytes_eq a (codes "value")) (value_with (between 1 epochs (small_number_of b)) (name_of c) (signed_of d))
    (with_inside epochs (small_number_of b) (name_of c) (signed_of d))
line_inside epochs (a ∷ b ∷ c ∷ d ∷ e ∷ words) = tt

-- one value more
put_inside : (epochs : ℕ) (values : Values) (given : StartValue) (test : Bool) (n : ℕ) (more : Values) → IsInside epochs (place_of given)
    → AreInside epochs values
    → or_refusal (bad.Line n) (if test then None else Some (with_entry place_cmp values (given.window, given.variable) given.value)) ≡ Ok more
    → AreInside epochs more
put_inside epochs values given true n more inside all is = absurd (cc)
put_inside epochs values given false n more inside all is =
    let same : with_entry place_cmp values (given.window, given.variable) given.value ≡ more = (cc) in
    rw (← same) (All-keys-insert_entry place_cmp (given.window, given.variable) given.value (IsInside epochs) values all inside)

given_inside : (epochs : ℕ) (values : Values) (given : Option StartValue) (n : ℕ) (more : Values) → IsGiven epochs given
    → AreInside epochs values → or_refusal (bad.Line n) (with_value values given) ≡ Ok more → AreInside epochs more
given_inside epochs values None n more inside all is = absurd (cc)
given_inside epochs values (Some given) n more inside all is =
    put_inside epochs values given (is_some (value_at place_cmp values (given.window, given.variable))) n more inside all is

-- the values after a line go on to those after all lines
goes_on : (epochs : ℕ) (lines : List Line) (all : Values) (first : Result Values ManifestFault)
    → ((more : Values) → first ≡ Ok more → values_from epochs more lines ≡ Ok all → AreInside epochs all)
    → and_then first (λ more. values_from epochs more lines) ≡ Ok all → AreInside epochs all
goes_on epochs lines all (Ok more) goes is = goes more refl is
goes_on epochs lines all (Err fault) goes is = absurd (cc)

-- the values that lines give lie in the windows
pub values_inside : (epochs : ℕ) (values : Values) (lines : List Line) (all : Values) → AreInside epochs values
    → values_from epochs values lines ≡ Ok all → AreInside epochs all
values_inside epochs values [] all inside is =
    let same : values ≡ all = (cc) in rw (← same) inside
values_inside epochs values (line ∷ lines) all inside is =
    goes_on epochs lines all (values_after epochs values line)
    (λ more first. values_inside epochs more lines all (given_inside epochs values (value_of epochs line.words) line.number more (line_inside epochs line.words) inside first))
    is

use Rattle.std.proofs.Common.{◌≡◌, ℕ, ◌-◌, ◌<◌, ◌≤◌, ℤ, Bool, true, false, cond, nat_lt, List, [], ◌∷◌, ◌++◌, length, get_or, Option, Some, None, slice_get, zero, suc, sym, refl, ◌∙◌, arith}
use Rattle.std.proofs.lemmas.Bool.{ltb-true, ltb-false, lt-ltb}
use Rattle.std.proofs.lemmas.List.{get_or-append_right, length-append}
use Rattle.std.proofs.lemmas.Option.{slice_get_within, slice_get_read, get_or_from_slice_get}
use Rattle.gp_clause.specs.declared.kind.Kind.{Kind}
use Rattle.gp_clause.specs.Kind.{FitsKind}
use Rattle.gp_clause.specs.Valuation.{ValuationsExtend}
use Rattle.gp_clause.proofs.Bounds.{said, said_fits}

-- what stands in the front of a joined list
pub front_get : {X : Type 0} (xs ys : List X) (i : ℕ) (x : X) → slice_get xs i ≡ Some x → slice_get (xs ++ ys) i ≡ Some x
front_get [] ys i x is = absurd cc
front_get (y ∷ xs) ys zero x is = is
front_get (y ∷ xs) ys (suc i) x is = front_get xs ys i x is

pub get_front : {X : Type 0} (xs ys : List X) (i : ℕ) (x : X) → i < length xs → slice_get (xs ++ ys) i ≡ Some x → slice_get xs i ≡ Some x
get_front [] ys i x within is = absurd (omega arith)
get_front (y ∷ xs) ys zero x within is = is
get_front (y ∷ xs) ys (suc i) x within is = get_front xs ys i x (omega arith) is

-- what stands behind the front
pub get_back : {X : Type 0} (xs ys : List X) (i : ℕ) (x : X) → length xs ≤ i → slice_get (xs ++ ys) i ≡ Some x → slice_get ys (i - length xs) ≡ Some x
get_back xs ys i x past is =
    let within : i < length (xs ++ ys) = slice_get_within (xs ++ ys) i x is in
    let read : get_or (xs ++ ys) i x ≡ x = get_or_from_slice_get (xs ++ ys) i x x is in
    let moved : get_or (xs ++ ys) i x ≡ get_or ys (i - length xs) x = get_or-append_right xs ys (length xs) i x refl past in
    slice_get_read ys (length ys) (i - length xs) x refl (omega (arith, length-append xs ys)) (sym read ∙ moved)

-- the truth value that the places give a local
abbrev local_truth : (ℕ → ℤ) → Option Kind → Bool
local_truth place None = false
local_truth place (Some kind) = said place kind

-- truth values of the first variables, and after them those of the locals
abbrev pub extended : (kinds locals : List Kind) → (ℕ → Bool) → (ℕ → ℤ) → ℕ → Bool
extended kinds locals truth place variable = cond (nat_lt variable (length kinds)) (truth variable) (local_truth place (slice_get locals (variable - length kinds)))

extended_first : (kinds locals : List Kind) (truth : ℕ → Bool) (place : ℕ → ℤ) (variable : ℕ) → variable < length kinds → extended kinds locals truth place variable ≡ truth variable
extended_first kinds locals truth place variable first = let is : nat_lt variable (length kinds) ≡ true = lt-ltb _ _ first in rw is refl

extended_fits : (kinds locals : List Kind) (truth : ℕ → Bool) (place : ℕ → ℤ) → ((variable : ℕ) (kind : Kind) → slice_get kinds variable ≡ Some kind → FitsKind place kind (truth variable))
    → (variable : ℕ) (kind : Kind) → slice_get (kinds ++ locals) variable ≡ Some kind → FitsKind place kind (extended kinds locals truth place variable)
extended_fits kinds locals truth place fits variable kind is = at (nat_lt variable (length kinds)) refl
  where
    at : (b : Bool) → nat_lt variable (length kinds) ≡ b → FitsKind place kind (extended kinds locals truth place variable)
    at true first = rw first (fits variable kind (get_front kinds locals variable kind (ltb-true _ _ first) is))
    at false later =
        let local_kind : slice_get locals (variable - length kinds) ≡ Some kind = get_back kinds locals variable kind (ltb-false _ _ later) is in
        rw (later, local_kind) (said_fits place kind)

pub extend : ValuationsExtend
extend points edges kinds locals truth place valuation = (
  extended kinds locals truth place,
  extended_first kinds locals truth place,
  record {
    apart = valuation.apart;
    keeps = valuation.keeps;
    fits = extended_fits kinds locals truth place valuation.fits;
  },
)

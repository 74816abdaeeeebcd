use Rattle.std.proofs.Common.{◌≡◌, ◌≢◌, ℕ, ◌<◌, ℤ, pos, ◌-ℤ◌, ◌≤ℤ◌, ◌<ℤ◌, Bool, true, false, IsTrue, negsuc, refl, arith}
use Rattle.std.proofs.lemmas.Bool.{false≢true}
use Rattle.std.specs.Prelude.{int_lt, int_le}
use Rattle.std.proofs.lemmas.Int.{ints, by_lt_z}
use Rattle.gp_clause.specs.declared.kind.Kind.{Kind}
use Rattle.gp_clause.specs.declared.kind.Kind.TheVariants.{Free, Order, Span}
use Rattle.gp_clause.specs.Kind.{bound_of, KeepsBound, FitsKind}
use Rattle.gp_clause.specs.Problem.{IsValidKind}
use Rattle.gp_clause.specs.Valuation.{BoundsMean}

-- what a kind says of the places
abbrev pub said : (ℕ → ℤ) → Kind → Bool
said place Free = false
said place (Order a b) = int_lt (place a) (place b)
said place (Span a b c) = int_le (place a -ℤ place b) (pos c)

-- a test of two whole numbers tells which is less
less_told : (x y : ℤ) (b : Bool) → int_lt x y ≡ b → (IsTrue b → x <ℤ y) × (x <ℤ y → IsTrue b)
less_told x y true is = (λ _. grind (arith, ints), λ _. refl)
less_told x y false is = (λ no. absurd cc, λ less. absurd (grind (arith, ints)))

most_told : (x y : ℤ) (b : Bool) → int_le x y ≡ b → (IsTrue b → x ≤ℤ y) × (x ≤ℤ y → IsTrue b)
most_told x y true is = (λ _. grind (arith, ints), λ _. refl)
most_told x y false is = (λ no. absurd cc, λ most. absurd (grind (arith, ints)))

pub said_fits : (place : ℕ → ℤ) (kind : Kind) → FitsKind place kind (said place kind)
said_fits place Free = tt
said_fits place (Order a b) = less_told (place a) (place b) (int_lt (place a) (place b)) refl
said_fits place (Span a b c) = most_told (place a -ℤ place b) (pos c) (int_le (place a -ℤ place b) (pos c)) refl

-- where a bound is kept, the truth value fits
pub fits_from_bound : (place : ℕ → ℤ) (kind : Kind) (value : Bool) → KeepsBound place (bound_of kind value) → FitsKind place kind value
fits_from_bound place Free value keeps = tt
fits_from_bound place (Order a b) true keeps = (λ _. omega (arith, ints), λ _. refl)
fits_from_bound place (Order a b) false keeps = (λ no. absurd cc, λ less. absurd (omega (arith, ints)))
fits_from_bound place (Span a b c) true keeps = (λ _. keeps, λ _. refl)
fits_from_bound place (Span a b c) false keeps = (λ no. absurd cc, λ less. absurd (omega (arith, ints)))

-- of two whole numbers that differ, the least is at most the other minus one
lower : (x y : ℤ) → x ≢ y → y ≤ℤ x → (y -ℤ x) ≤ℤ negsuc 0
lower x y apart least = by_lt_z y x (λ less. omega (arith, ints)) (λ most. absurd (apart (let same : x ≡ y = omega (arith, ints) in same)))

-- where a truth value fits and the points of an order have places apart, the bound is kept
bound_from_fits : (points : ℕ) (place : ℕ → ℤ) (kind : Kind) (value : Bool) → ((a b : ℕ) → a < points → b < points → a ≢ b → place a ≢ place b) → IsValidKind points kind
    → FitsKind place kind value → KeepsBound place (bound_of kind value)
bound_from_fits points place Free value apart valid fits = tt
bound_from_fits points place (Order a b) true apart valid fits = omega (arith, ints, fits.0 refl)
bound_from_fits points place (Order a b) false apart valid fits =
    by_lt_z (place a) (place b) (λ less. absurd (false≢true (fits.1 less))) (λ least. lower (place a) (place b) (apart a b valid.0 valid.1 valid.2) least)
bound_from_fits points place (Span a b c) true apart valid fits = fits.0 refl
bound_from_fits points place (Span a b c) false apart valid fits =
    by_lt_z (pos c) (place a -ℤ place b) (λ less. omega (arith, ints)) (λ most. absurd (false≢true (fits.1 most)))

pub bounds_mean : BoundsMean
bounds_mean = record {
  kept = λ points edges kinds truth place valuation variable kind is valid. bound_from_fits points place kind (truth variable) valuation.apart valid (valuation.fits variable kind is);
  fits = fits_from_bound;
}

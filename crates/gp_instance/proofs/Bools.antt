-- Tests that are joined in another order.
use Rattle.std.proofs.Common.{◌≡◌, refl, Bool, true, false, arith}
use Rattle.std.specs.Prelude.{◌&&◌}

-- a first element's tests, brought to those of the rest
pub first_tests : (t l e m p : Bool) → (t && (l && ((e && m) && p))) ≡ (l && ((t && e) && (m && p)))
first_tests true true true m p = refl
first_tests true true false m p = refl
first_tests true false e m p = refl
first_tests false true e m p = refl
first_tests false false e m p = refl

-- two tests of the rest beside two of the first
pub both_tests : (a b c d : Bool) → ((a && b) && (c && d)) ≡ ((a && c) && (b && d))
both_tests true true c d = refl
both_tests true false true d = refl
both_tests true false false d = refl
both_tests false b c d = refl

-- the conditions in the order of the search and in that of the definition
pub search_order : (l a t p r g x : Bool) → ((l && a) && (t && p && r && g && x)) ≡ (l && (a && x) && t && g && p && r)
search_order l a t p r g x = grind arith

-- tests of two lists that are joined
pub four_tests : (a b c d e : Bool) → ((a && b) && ((c && d) && e)) ≡ (((a && c) && (b && d)) && e)
four_tests a b c d e = grind arith

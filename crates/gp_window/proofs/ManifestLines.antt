-- A line of a manifest that is read has the words of what it says, and such words are read so.
use Rattle.std.proofs.Common.{◌≡◌, refl, ap, subst, ◌∙◌, ℕ, zero, suc, ◌+◌, ◌<◌, ◌≤◌, ◌^◌, ℤ, pos, negsuc, Bool, true, false, List, [], ◌∷◌, length, map, FitsSigned, w64, arith, codes, decimal}
use Rattle.std.specs.Prelude.{◌&&◌, ◌==◌, nat_le, nat_lt, if◌then◌else◌, Option, Some, None, IfSome}
use Rattle.std.specs.Fmt.{signed_decimal}
use Rattle.std.specs.List.{AllByRecursion}
use Rattle.std.specs.Str.{bytes_eq}
use Rattle.std.proofs.lemmas.Bool.{leb-true, ltb-true}
use Rattle.std.proofs.lemmas.Slice.Eq.{bytes_eq-Decides}
use Rattle.gp_text.specs.Name.{is_name, name_of}
use Rattle.gp_text.specs.Numbers.{OneSpelling, between, negative, number_of, positive, signed_of, small_number_of}
use Rattle.gp_window.specs.declared.manifest.StartValue.{StartValue}
use Rattle.gp_window.specs.Grammar.{IsStartValue, value_words}
use Rattle.gp_window.specs.Manifest.{rising_roots, roots_of, value_of, value_with}
use Rattle.gp_window.specs.Number.{is_rising, numbers_of, with_number}
use Rattle.gp_window.specs.NumberLaws.{is_between, is_small, test_passed, was_between}

-- a signed number that is read has its width
abbrev Fits : Option ℤ → Type 0
Fits o = IfSome o (λ z. FitsSigned w64 z)

positive_fits : (b : Bool) (n : ℕ) → nat_lt n (2 ^ 63) ≡ b → Fits (if b then Some (pos n) else None)
positive_fits true n is = record { sfits = ltb-true n (2 ^ 63) is }
positive_fits false n is = tt

negative_fits : (b : Bool) (n : ℕ) → nat_lt n (2 ^ 63) ≡ b → Fits (if b then Some (negsuc n) else None)
negative_fits true n is = record { sfits = ltb-true n (2 ^ 63) is }
negative_fits false n is = tt

from_zero : (o : Option ℕ) → Fits (positive o)
from_zero None = tt
from_zero (Some n) = positive_fits (nat_lt n (2 ^ 63)) n refl

below_zero : (o : Option ℕ) → Fits (negative o)
below_zero None = tt
below_zero (Some zero) = tt
below_zero (Some (suc n)) = negative_fits (nat_lt n (2 ^ 63)) n refl

either : (b : Bool) (x y : Option ℤ) → Fits x → Fits y → Fits (if b then x else y)
either true x y fx fy = fx
either false x y fx fy = fy

signed_word : (word : List ℕ) → Fits (signed_of word)
signed_word [] = tt
signed_word (b ∷ bytes) = either (b == 45) (negative (number_of bytes)) (positive (number_of (b ∷ bytes))) (below_zero (number_of bytes)) (from_zero (number_of (b ∷ bytes)))

signed_fits : (word : List ℕ) (z : ℤ) → signed_of word ≡ Some z → FitsSigned w64 z
signed_fits word z e = subst Fits e (signed_word word)

name_read : (b : Bool) (word name : List ℕ) → is_name word ≡ b → ◌≡◌ {A = Option (List ℕ)} (if b then Some word else None) (Some name)
    → (word ≡ name) × (is_name name ≡ true)
name_read true word name is e = let same : word ≡ name = cc in (same, subst (λ n. is_name n ≡ true) same is)
name_read false word name is e = cc

-- what a value was read of
value_parts : (window : Option ℕ) (variable : Option (List ℕ)) (value : Option ℤ) (given : StartValue) → value_with window variable value ≡ Some given
    → (window ≡ Some given.window) × (variable ≡ Some given.variable) × (value ≡ Some given.value)
value_parts None variable value given e = cc
value_parts (Some window) None value given e = cc
value_parts (Some window) (Some variable) None given e = cc
value_parts (Some window) (Some variable) (Some value) given e =
    let P : Option StartValue → Type 0 =
    λ o. IfSome o (λ g. (◌≡◌ {A = Option ℕ} (Some window) (Some g.window)) × (◌≡◌ {A = Option (List ℕ)} (Some variable) (Some g.variable)) × (◌≡◌ {A = Option ℤ} (Some value) (Some g.value))) in
    subst P e (refl, refl, refl)

four : (a b c d p q r s : List ℕ) → a ≡ p → b ≡ q → c ≡ r → d ≡ s → a ∷ b ∷ c ∷ d ∷ [] ≡ p ∷ q ∷ r ∷ s ∷ []
four a b c d p q r s first second third fourth = cc

-- a line that gives a value has the words of the value
pub value_said : OneSpelling → (epochs : ℕ) (words : List (List ℕ)) (given : StartValue) → value_of epochs words ≡ Some given
    → (words ≡ value_words given) × IsStartValue given
value_said law epochs [] given e = cc
value_said law epochs (a ∷ []) given e = cc
value_said law epochs (a ∷ b ∷ []) given e = cc
value_said law epochs (a ∷ b ∷ c ∷ []) given e = cc
value_said law epochs (a ∷ b ∷ c ∷ d ∷ []) given e =
    let passed = test_passed (bytes_eq a (codes "value")) (value_with (between 1 epochs (small_number_of b)) (name_of c) (signed_of d)) given e in
    let parts = value_parts (between 1 epochs (small_number_of b)) (name_of c) (signed_of d) given passed.1 in
    let inside = was_between 1 epochs (small_number_of b) given.window parts.0 in
    let keyword : a ≡ codes "value" = (bytes_eq-Decides a (codes "value")).0 passed.0 in
    let window : b ≡ decimal given.window = (law.small b given.window (is_small b given.window inside.0)).0 inside.0 in
    let variable = name_read (is_name c) c given.variable refl parts.1 in
    let fits : FitsSigned w64 given.value = signed_fits d given.value parts.2 in
    let value : d ≡ signed_decimal given.value = (law.signed d given.value fits).0 parts.2 in
    (four a b c d (codes "value") (decimal given.window) given.variable (signed_decimal given.value) keyword window variable.0 value, (variable.1, fits))
value_said law epochs (a ∷ b ∷ c ∷ d ∷ f ∷ words) given e = cc

-- the words of a value are read as it
pub value_read : OneSpelling → (epochs : ℕ) (given : StartValue) → IsStartValue given → 1 ≤ given.window → given.window ≤ epochs → epochs < 2 ^ 32
    → value_of epochs (value_words given) ≡ Some given
value_read law epochs given is low high few =
    let number : small_number_of (decimal given.window) ≡ Some given.window = (law.small (decimal given.window) given.window (omega (arith, high, few))).1 refl in
    let value : signed_of (signed_decimal given.value) ≡ Some given.value = (law.signed (signed_decimal given.value) given.value is.1).1 refl in
    let variable : name_of given.variable ≡ Some given.variable = ap (λ b. if b then Some given.variable else None) is.0 in
    ap (λ b. if b then value_with (between 1 epochs (small_number_of (decimal given.window))) (name_of given.variable) (signed_of (signed_decimal given.value)) else None)
    ((bytes_eq-Decides (codes "value") (codes "value")).1 refl)
    ∙ ap (λ n. value_with (between 1 epochs n) (name_of given.variable) (signed_of (signed_decimal given.value))) number
    ∙ ap (λ n. value_with n (name_of given.variable) (signed_of (signed_decimal given.value))) (is_between 1 epochs given.window low high)
    ∙ ap (λ v. value_with (Some given.window) v (signed_of (signed_decimal given.value))) variable
    ∙ ap (λ v. value_with (Some given.window) (Some given.variable) v) value

-- a number before others, where they were read
number_parts : (number : Option ℕ) (more : Option (List ℕ)) (all : List ℕ) → with_number number more ≡ Some all
    → (n : ℕ) × (rest : List ℕ) × (number ≡ Some n) × (more ≡ Some rest) × (n ∷ rest ≡ all)
number_parts None more all e = cc
number_parts (Some n) None all e = cc
number_parts (Some n) (Some rest) all e = (n, rest, refl, refl, (cc))

numbers_said : OneSpelling → (words : List (List ℕ)) (all : List ℕ) → numbers_of words ≡ Some all → words ≡ map decimal all
numbers_said law [] [] e = refl
numbers_said law [] (n ∷ all) e = cc
numbers_said law (word ∷ words) all e =
    let parts = number_parts (small_number_of word) (numbers_of words) all e in
    let here : word ≡ decimal parts.0 = (law.small word parts.0 (is_small word parts.0 parts.2)).0 parts.2 in
    ap (λ w. w ∷ words) here ∙ ap (λ rest. decimal parts.0 ∷ rest) (numbers_said law words parts.1 parts.3) ∙ ap (λ list. map decimal list) parts.4

numbers_read : OneSpelling → (all : List ℕ) → AllByRecursion (λ n. n < 2 ^ 32) all → numbers_of (map decimal all) ≡ Some all
numbers_read law [] small = refl
numbers_read law (n ∷ all) small =
    ap (λ number. with_number number (numbers_of (map decimal all))) ((law.small (decimal n) n small.0).1 refl)
    ∙ ap (λ rest. with_number (Some n) rest) (numbers_read law all small.1)

last_two : (a b c : Bool) → (a && b && c) ≡ true → (b ≡ true) × (c ≡ true)
last_two true true c e = (refl, e)
last_two true false c e = cc
last_two false b c e = cc

rising_small : (low high bound : ℕ) (all : List ℕ) → is_rising low high all ≡ true → high < bound → AllByRecursion (λ n. n < bound) all
rising_small low high bound [] e below = tt
rising_small low high bound (n ∷ all) e below =
    let parts = last_two (nat_le low n) (nat_le n high) (is_rising (n + 1) high all) e in
    let most : n ≤ high = leb-true n high parts.0 in
    (omega (arith, most, below), rising_small (n + 1) high bound all parts.1 below)

rising_parts : (threads : ℕ) (found : Option (List ℕ)) (roots : List ℕ) → rising_roots threads found ≡ Some roots
    → (found ≡ Some roots) × (is_rising 1 threads roots ≡ true)
rising_parts threads None roots e = cc
rising_parts threads (Some all) roots e =
    let passed = test_passed (is_rising 1 threads all) (Some all) roots e in
    let same : all ≡ roots = (let is : ◌≡◌ {A = Option (List ℕ)} (Some all) (Some roots) = passed.1 in cc) in
    (passed.1, subst (λ list. is_rising 1 threads list ≡ true) same passed.0)

some_roots : (word : List ℕ) (words : List (List ℕ)) (roots : List ℕ) → word ∷ words ≡ map decimal roots → 0 < length roots
some_roots word words [] e = cc
some_roots word words (root ∷ roots) e = omega arith

-- the line of the roots has their words, and they keep their rules
pub roots_said : OneSpelling → (threads : ℕ) (words : List (List ℕ)) (roots : List ℕ) → roots_of threads words ≡ Some roots
    → (words ≡ codes "roots" ∷ map decimal roots) × (0 < length roots) × (is_rising 1 threads roots ≡ true)
roots_said law threads [] roots e = cc
roots_said law threads (keyword ∷ []) roots e = cc
roots_said law threads (keyword ∷ first ∷ more) roots e =
    let passed = test_passed (bytes_eq keyword (codes "roots")) (rising_roots threads (numbers_of (first ∷ more))) roots e in
    let parts = rising_parts threads (numbers_of (first ∷ more)) roots passed.1 in
    let same : keyword ≡ codes "roots" = (bytes_eq-Decides keyword (codes "roots")).0 passed.0 in
    let said : first ∷ more ≡ map decimal roots = numbers_said law (first ∷ more) roots parts.0 in
    (ap (λ word. word ∷ first ∷ more) same ∙ ap (λ rest. codes "roots" ∷ rest) said, some_roots first more roots said, parts.1)

-- the words of roots that keep their rules are read as these
pub roots_read : OneSpelling → (threads : ℕ) (roots : List ℕ) → threads < 2 ^ 32 → 0 < length roots → is_rising 1 threads roots ≡ true
    → roots_of threads (codes "roots" ∷ map decimal roots) ≡ Some roots
roots_read law threads [] few some rises = absurd (omega (arith, some))
roots_read law threads (root ∷ roots) few some rises =
    ap (λ b. if b then rising_roots threads (numbers_of (map decimal (root ∷ roots))) else None) ((bytes_eq-Decides (codes "roots") (codes "roots")).1 refl)
    ∙ ap (λ found. rising_roots threads found) (numbers_read law (root ∷ roots) (rising_small 1 threads (2 ^ 32) (root ∷ roots) rises few))
    ∙ ap (λ b. if b then Some (root ∷ roots) else None) rises

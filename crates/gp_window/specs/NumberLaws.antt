-- Laws: numbers between two bounds, and lines of a keyword and one number.
use Rattle.std.specs.Prelude.{◌≡◌, ℕ, ◌≤◌, ◌<◌, ◌^◌, Bool, true, false, ◌&&◌, nat_le, nat_lt, if◌then◌else◌, List, [], ◌∷◌, Option, Some, None, decimal}
use Rattle.std.specs.Str.{bytes_eq}
use Rattle.std.proofs.Common.{refl, ap, ◌∙◌, arith}
use Rattle.std.proofs.lemmas.Bool.{le-leb, leb-true, ltb-true}
use Rattle.std.proofs.lemmas.Slice.Eq.{bytes_eq-Decides}
use Rattle.gp_text.specs.Numbers.{OneSpelling, between, if_below, number_after, number_of, small_number_of}

-- a test between two bounds that passed
between_passed : (least most : Bool) (m n : ℕ) → ◌≡◌ {A = Option ℕ} (if least && most then Some m else None) (Some n) → (least ≡ true) × (most ≡ true) × (m ≡ n)
between_passed true true m n e = (refl, refl, (cc))
between_passed true false m n e = cc
between_passed false most m n e = cc

-- a number that is one of those between is there, and between
pub was_between : (low high : ℕ) (number : Option ℕ) (n : ℕ) → between low high number ≡ Some n → (number ≡ Some n) × (low ≤ n) × (n ≤ high)
was_between low high None n e = cc
was_between low high (Some m) n e =
    let passed = between_passed (nat_le low m) (nat_le m high) m n e in
    let least : low ≤ m = leb-true low m passed.0 in
    let most : m ≤ high = leb-true m high passed.1 in
    let same : m ≡ n = passed.2 in
    (ap Some same, omega arith, omega arith)

-- a number between two bounds is one of those between
pub is_between : (low high n : ℕ) → low ≤ n → n ≤ high → between low high (Some n) ≡ Some n
is_between low high n least most =
    ap (λ b. if b && nat_le n high then Some n else None) (le-leb low n least)
    ∙ ap (λ b. if b then Some n else None) (le-leb n high most)

-- where a test decides whether something is there, it is there because the test passed
pub test_passed : {A : Type 0} (b : Bool) (found : Option A) (x : A) → (if b then found else None) ≡ Some x → (b ≡ true) × (found ≡ Some x)
test_passed true found x e = (refl, e)
test_passed false found x e = cc

below_passed : (b : Bool) (m n bound : ℕ) → nat_lt m bound ≡ b → ◌≡◌ {A = Option ℕ} (if b then Some m else None) (Some n) → n < bound
below_passed true m n bound is e =
    let same : m ≡ n = cc in
    let less : m < bound = ltb-true m bound is in
    omega (arith, same, less)
below_passed false m n bound is e = cc

was_below : (bound : ℕ) (number : Option ℕ) (n : ℕ) → if_below bound number ≡ Some n → n < bound
was_below bound None n e = cc
was_below bound (Some m) n e = below_passed (nat_lt m bound) m n bound refl e

-- a word that spells a small number spells one below 2 ^ 32
pub is_small : (word : List ℕ) (n : ℕ) → small_number_of word ≡ Some n → n < 2 ^ 32
is_small word n e = was_below (2 ^ 32) (number_of word) n e

-- a line with a keyword's number is the keyword and the number
pub keyword_and_number : OneSpelling → (keyword : List ℕ) (words : List (List ℕ)) (n : ℕ) → number_after keyword words ≡ Some n → words ≡ keyword ∷ decimal n ∷ []
keyword_and_number law keyword [] n e = cc
keyword_and_number law keyword (first ∷ []) n e = cc
keyword_and_number law keyword (first ∷ number ∷ []) n e =
    let passed = test_passed (bytes_eq first keyword) (small_number_of number) n e in
    let same : first ≡ keyword = (bytes_eq-Decides first keyword).0 passed.0 in
    let spelled : number ≡ decimal n = (law.small number n (is_small number n passed.1)).0 passed.1 in
    ap (λ word. word ∷ number ∷ []) same ∙ ap (λ word. keyword ∷ word ∷ []) spelled
keyword_and_number law keyword (first ∷ second ∷ third ∷ more) n e = cc

-- a keyword and a number are read as the number
pub number_is_after : OneSpelling → (keyword : List ℕ) (n : ℕ) → n < 2 ^ 32 → number_after keyword (keyword ∷ decimal n ∷ []) ≡ Some n
number_is_after law keyword n small =
    ap (λ b. if b then small_number_of (decimal n) else None) ((bytes_eq-Decides keyword keyword).1 refl)
    ∙ (law.small (decimal n) n small).1 refl

-- Lines of a keyword and numbers are read as they are written.
use Rattle.std.proofs.Common.{◌≡◌, refl, ap, ◌∙◌, ℕ, ◌<◌, ◌^◌, Bool, true, false, cond, List, [], ◌∷◌, decimal, Ok}
use Rattle.std.specs.Prelude.{Option, Some, None}
use Rattle.std.specs.Str.{bytes_eq}
use Rattle.std.proofs.lemmas.Slice.Eq.{bytes_eq-Decides}
use Rattle.gp_text.specs.declared.line.Line.{Line}
use Rattle.gp_text.specs.Numbers.{OneSpelling, number_of}
use Rattle.gp_report.specs.declared.fault.ReportFault.TheVariants.{Rule}
use Rattle.gp_report.specs.declared.fault.ReportRule.TheVariants.{Form}
use Rattle.gp_report.specs.Reading.{begins_with, both, one_number, three_numbers, told, told_by, two_numbers, words_after}
use Rattle.gp_report.proofs.Taking.{some_ok}
use Rattle.gp_report.proofs.WordsRead.{number_words}

-- equal bytes, and their test
pub same_bytes : (xs ys : List ℕ) → bytes_eq xs ys ≡ true → xs ≡ ys
same_bytes xs ys e = (bytes_eq-Decides xs ys).0 e

pub equal_bytes : (xs : List ℕ) → bytes_eq xs xs ≡ true
equal_bytes xs = (bytes_eq-Decides xs xs).1 refl

-- a line of a keyword, and what is told behind it
pub record Told {A : Type 0} (keyword : List ℕ) (tell : List (List ℕ) → Option A) (words : List (List ℕ)) (value : A) : Type 0 where
  pub behind : List (List ℕ)
  pub is : words ≡ keyword ∷ behind
  pub tells : tell behind ≡ Some value

after_was : {A : Type 0} (keyword : List ℕ) (tell : List (List ℕ) → Option A) (words : List (List ℕ)) (value : A) → told (words_after keyword words) tell ≡ Some value → Told keyword tell words value
after_was keyword tell [] value e = absurd (cc)
after_was {A = A} keyword tell (word ∷ words) value e = at (bytes_eq word keyword) refl e
  where
    at : (same : Bool) → bytes_eq word keyword ≡ same → told (cond same (Some words) None) tell ≡ Some value → Told keyword tell (word ∷ words) value
    at true is e = record { behind = words; is = ap (λ w. w ∷ words) (same_bytes word keyword is); tells = e }
    at false is e = absurd (cc)

pub told_was : {A : Type 0} (keyword : List ℕ) (tell : List (List ℕ) → Option A) (line : Line) (value : A) → told_by keyword tell line ≡ Ok value → Told keyword tell line.words value
told_was keyword tell line value e = after_was keyword tell line.words value (some_ok (Rule line.number Form) (told (words_after keyword line.words) tell) value e)

pub told_again : {A : Type 0} (keyword : List ℕ) (tell : List (List ℕ) → Option A) (line : Line) (value : A) (behind : List (List ℕ))
    → line.words ≡ keyword ∷ behind → tell behind ≡ Some value → told_by keyword tell line ≡ Ok value
told_again keyword tell line value behind words tells = rw (words, equal_bytes keyword, tells) refl

-- a line begins with its keyword
pub begins_again : (keyword : List ℕ) (line : Line) (behind : List (List ℕ)) → line.words ≡ keyword ∷ behind → begins_with keyword line.words ≡ true
begins_again keyword line behind words = rw words (equal_bytes keyword)

pub both_was : {A B : Type 0} (first : Option A) (second : Option B) (y : A × B) → both first second ≡ Some y → (first ≡ Some y.0) × (second ≡ Some y.1)
both_was (Some a) (Some b) y e =
    let is : (a, b) ≡ y = cc in
    (ap (λ z. Some z.0) is, ap (λ z. Some z.1) is)
both_was (Some a) None y e = absurd (cc)
both_was None second y e = absurd (cc)

one_was : OneSpelling → (words : List (List ℕ)) (n : ℕ) → one_number words ≡ Some n → (words ≡ decimal n ∷ []) × (n < 2 ^ 64)
one_was spelled [] n e = absurd (cc)
one_was spelled (number ∷ []) n e =
    let is = (number_words spelled).was number n e in
    (ap (λ w. w ∷ []) is.0, is.1)
one_was spelled (number ∷ more ∷ words) n e = absurd (cc)

-- one number
pub line_of_one : OneSpelling → (keyword : List ℕ) (line : Line) (n : ℕ) → told_by keyword one_number line ≡ Ok n → (line.words ≡ keyword ∷ decimal n ∷ []) × (n < 2 ^ 64)
line_of_one spelled keyword line n e =
    let is = told_was keyword one_number line n e in
    let numbers = one_was spelled is.behind n is.tells in
    (is.is ∙ ap (λ ws. keyword ∷ ws) numbers.0, numbers.1)

pub one_again : OneSpelling → (keyword : List ℕ) (line : Line) (n : ℕ) → n < 2 ^ 64 → line.words ≡ keyword ∷ decimal n ∷ [] → told_by keyword one_number line ≡ Ok n
one_again spelled keyword line n lt words = told_again keyword one_number line n (decimal n ∷ []) words ((number_words spelled).again n lt)

two_was : OneSpelling → (words : List (List ℕ)) (n : ℕ × ℕ) → two_numbers words ≡ Some n → (words ≡ decimal n.0 ∷ decimal n.1 ∷ []) × (n.0 < 2 ^ 64) × (n.1 < 2 ^ 64)
two_was spelled [] n e = absurd (cc)
two_was spelled (first ∷ []) n e = absurd (cc)
two_was spelled (first ∷ second ∷ []) n e =
    let parts = both_was (number_of first) (number_of second) n e in
    let a = (number_words spelled).was first n.0 parts.0 in
    let b = (number_words spelled).was second n.1 parts.1 in
    (ap (λ w. w ∷ second ∷ []) a.0 ∙ ap (λ w. decimal n.0 ∷ w ∷ []) b.0, a.1, b.1)
two_was spelled (first ∷ second ∷ third ∷ words) n e = absurd (cc)

-- two numbers
pub line_of_two : OneSpelling → (keyword : List ℕ) (line : Line) (n : ℕ × ℕ) → told_by keyword two_numbers line ≡ Ok n
    → (line.words ≡ keyword ∷ decimal n.0 ∷ decimal n.1 ∷ []) × (n.0 < 2 ^ 64) × (n.1 < 2 ^ 64)
line_of_two spelled keyword line n e =
    let is = told_was keyword two_numbers line n e in
    let numbers = two_was spelled is.behind n is.tells in
    (is.is ∙ ap (λ ws. keyword ∷ ws) numbers.0, numbers.1, numbers.2)

pub two_again : OneSpelling → (keyword : List ℕ) (line : Line) (a b : ℕ) → a < 2 ^ 64 → b < 2 ^ 64 → line.words ≡ keyword ∷ decimal a ∷ decimal b ∷ [] → told_by keyword two_numbers line ≡ Ok (a, b)
two_again spelled keyword line a b alt blt words =
    let first = (number_words spelled).again a alt in
    let second = (number_words spelled).again b blt in
    told_again keyword two_numbers line (a, b) (decimal a ∷ decimal b ∷ []) words (rw (first, second) refl)

three_was : OneSpelling → (words : List (List ℕ)) (n : ℕ × (ℕ × ℕ)) → three_numbers words ≡ Some n
    → (words ≡ decimal n.0 ∷ decimal n.1.0 ∷ decimal n.1.1 ∷ []) × (n.0 < 2 ^ 64) × (n.1.0 < 2 ^ 64) × (n.1.1 < 2 ^ 64)
three_was spelled [] n e = absurd (cc)
three_was spelled (first ∷ []) n e = absurd (cc)
three_was spelled (first ∷ second ∷ []) n e = absurd (cc)
three_was spelled (first ∷ second ∷ third ∷ []) n e =
    let parts = both_was (number_of first) (both (number_of second) (number_of third)) n e in
    let others = both_was (number_of second) (number_of third) n.1 parts.1 in
    let a = (number_words spelled).was first n.0 parts.0 in
    let b = (number_words spelled).was second n.1.0 others.0 in
    let c = (number_words spelled).was third n.1.1 others.1 in
    (ap (λ w. w ∷ second ∷ third ∷ []) a.0 ∙ ap (λ w. decimal n.0 ∷ w ∷ third ∷ []) b.0 ∙ ap (λ w. decimal n.0 ∷ decimal n.1.0 ∷ w ∷ []) c.0, a.1, b.1, c.1)
three_was spelled (first ∷ second ∷ third ∷ fourth ∷ words) n e = absurd (cc)

-- three numbers
pub line_of_three : OneSpelling → (keyword : List ℕ) (line : Line) (n : ℕ × (ℕ × ℕ)) → told_by keyword three_numbers line ≡ Ok n
    → (line.words ≡ keyword ∷ decimal n.0 ∷ decimal n.1.0 ∷ decimal n.1.1 ∷ []) × (n.0 < 2 ^ 64) × (n.1.0 < 2 ^ 64) × (n.1.1 < 2 ^ 64)
line_of_three spelled keyword line n e =
    let is = told_was keyword three_numbers line n e in
    let numbers = three_was spelled is.behind n is.tells in
    (is.is ∙ ap (λ ws. keyword ∷ ws) numbers.0, numbers.1, numbers.2, numbers.3)

pub three_again : OneSpelling → (keyword : List ℕ) (line : Line) (a b c : ℕ) → a < 2 ^ 64 → b < 2 ^ 64 → c < 2 ^ 64
    → line.words ≡ keyword ∷ decimal a ∷ decimal b ∷ decimal c ∷ [] → told_by keyword three_numbers line ≡ Ok (a, (b, c))
three_again spelled keyword line a b c alt blt clt words =
    let first = (number_words spelled).again a alt in
    let second = (number_words spelled).again b blt in
    let third = (number_words spelled).again c clt in
    told_again keyword three_numbers line (a, (b, c)) (decimal a ∷ decimal b ∷ decimal c ∷ []) words (rw (first, second, third) refl)

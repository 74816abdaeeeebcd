-- The words of a report, and lines of them.
use Rattle.std.proofs.Common.{◌≡◌, refl, ℕ, zero, suc, ◌+◌, ◌-◌, ◌*◌, ◌<◌, ◌≤◌, ◌^◌, Bool, true, false, not, ◌&&◌, nat_le, if◌then◌else◌, ◌==◌, length, take, drop, map, List, [], ◌∷◌, ◌++◌, codes, decimal, arith, lit<, length-append, length-take}
use Rattle.std.specs.List.{AllByRecursion, list_all}
use Rattle.std.proofs.lemmas.Bool.{and_from, and_parts}
use Rattle.std.proofs.lemmas.Bool.Decides.{nat_tests}
use Rattle.std.proofs.lemmas.Fmt.{decimal_by_steps, length-decimal-le}
use Rattle.gp_clause.specs.declared.lit.Lit.{Lit}
use Rattle.gp_text.specs.Line.{is_word}
use Rattle.gp_text.specs.Lines.{is_passed_over}
use Rattle.gp_text.specs.Name.{is_name, is_name_byte}
use Rattle.gp_text.specs.Spelling.{is_plain, is_plain_word, IsPlainLine, joined, PlainWords}
use Rattle.gp_window.specs.declared.schedule.EventId.{EventId}
use Rattle.gp_window.specs.EventIds.{event_id_text}
use Rattle.gp_writer.specs.Lines.{in_lines, lines_up_to}
use Rattle.gp_writer.specs.Spelled.{lit_word}
use Rattle.gp_report.specs.Typed.{IsTypedId}

-- a plain word of at most 39 bytes that begins no comment
pub record IsListWord (word : List ℕ) : Type 0 where
  pub plain : is_plain_word word ≡ true
  pub says : is_passed_over (word ∷ []) ≡ false
  pub short : length word ≤ 39

-- such words alone
abbrev pub AreWords : List (List ℕ) → Type 0
AreWords words = AllByRecursion IsListWord words

-- plain lines alone
abbrev pub ArePlain : List (List (List ℕ)) → Type 0
ArePlain lines = AllByRecursion IsPlainLine lines

-- a test of such a word
abbrev pub is_keyword : List ℕ → Bool
is_keyword word = is_plain_word word && not (is_passed_over (word ∷ [])) && nat_le (length word) 39

pub keyword_word : (word : List ℕ) → is_keyword word ≡ true → IsListWord word
keyword_word word is = record { plain = grind (arith, nat_tests); says = grind (arith, nat_tests); short = grind (arith, nat_tests) }

says_on : (word : List ℕ) (words : List (List ℕ)) → is_passed_over (word ∷ []) ≡ false → is_passed_over (word ∷ words) ≡ false
says_on [] words says = refl
says_on (b ∷ bytes) words says = says

joined_fits : (words : List (List ℕ)) → AreWords words → length (joined words) ≤ 40 * length words
joined_fits [] are = omega arith
joined_fits (word ∷ []) are = omega (arith, are.0.short)
joined_fits (word ∷ next ∷ words) are =
    omega (arith, are.0.short, joined_fits (next ∷ words) are.1, length-append word (32 ∷ joined (next ∷ words)))

each_plain : (words : List (List ℕ)) → AreWords words → AllByRecursion (λ word. is_plain_word word ≡ true) words
each_plain [] are = tt
each_plain (word ∷ words) are = (are.0.plain, each_plain words are.1)

-- up to 100 words make a line
pub line : (word : List ℕ) (words : List (List ℕ)) → IsListWord word → AreWords words → length words ≤ 99 → IsPlainLine (word ∷ words)
line word words is are few = record {
  plain = (is.plain, each_plain words are);
  says = says_on word words is.says;
  fits = omega (arith, few, joined_fits (word ∷ words) (is, are));
}

taken : (n : ℕ) (words : List (List ℕ)) → AreWords words → AreWords (take n words)
taken zero words are = tt
taken (suc n) [] are = tt
taken (suc n) (word ∷ words) are = (are.0, taken n words are.1)

dropped : (n : ℕ) (words : List (List ℕ)) → AreWords words → AreWords (drop n words)
dropped zero words are = are
dropped (suc n) [] are = tt
dropped (suc n) (word ∷ words) are = dropped n words are.1

lines_from : (n : ℕ) (words : List (List ℕ)) → AreWords words → ArePlain (lines_up_to n words)
lines_from zero words are = tt
lines_from (suc n) [] are = tt
lines_from (suc n) (word ∷ words) are = (
  line word (take 99 words) are.0 (taken 99 words are.1) (omega (arith, length-take 99 words)),
  lines_from n (drop 99 words) (dropped 99 words are.1),
)

-- the lines of a list are plain
pub list_lines : (words : List (List ℕ)) → AreWords words → ArePlain (in_lines words)
list_lines words are = lines_from (length words) words are

-- the words of things, each of which has a word
pub mapped : {A : Type 0} (f : A → List ℕ) (P : A → Type 0) (each : (x : A) → P x → IsListWord (f x)) (xs : List A) → AllByRecursion P xs → AreWords (map f xs)
mapped f P each [] are = tt
mapped f P each (x ∷ xs) are = (each x are.0, mapped f P each xs are.1)

-- the first byte is at least that of `0`
abbrev pub BeginsWithDigit : List ℕ → Type 0
BeginsWithDigit [] = ⊥
BeginsWithDigit (b ∷ bytes) = 48 ≤ b

goes_on : (xs ys : List ℕ) → BeginsWithDigit xs → BeginsWithDigit (xs ++ ys)
goes_on [] ys is = absurd is
goes_on (x ∷ xs) ys is = is

pub decimal_begins : (n : ℕ) → n < 2 ^ 64 → BeginsWithDigit (decimal n)
decimal_begins n lt =
    decimal_by_steps (λ n digits. BeginsWithDigit digits) (λ n below. omega arith) (λ n digits tens is. goes_on digits _ is) n lt

digit_says : (bytes : List ℕ) → BeginsWithDigit bytes → is_passed_over (bytes ∷ []) ≡ false
digit_says [] is = absurd is
digit_says (b ∷ bytes) is = grind (arith, nat_tests)

bytes_more : (xs ys : List ℕ) → list_all is_plain xs ≡ true → list_all is_plain ys ≡ true → list_all is_plain (xs ++ ys) ≡ true
bytes_more [] ys plain more = more
bytes_more (x ∷ xs) ys plain more =
    let parts = and_parts (is_plain x) (list_all is_plain xs) plain in
    and_from _ _ parts.0 (bytes_more xs ys parts.1 more)

plain_more : (xs ys : List ℕ) → is_plain_word xs ≡ true → list_all is_plain ys ≡ true → is_plain_word (xs ++ ys) ≡ true
plain_more [] ys plain more = absurd (cc)
plain_more (x ∷ xs) ys plain more = bytes_more (x ∷ xs) ys plain more

-- a number is such a word
pub number : (laws : PlainWords) (n : ℕ) → n < 2 ^ 64 → IsListWord (decimal n)
number laws n lt = record {
  plain = (laws.numbers n lt).0;
  says = digit_says (decimal n) (decimal_begins n lt);
  short = omega (arith, (laws.numbers n lt).1);
}

below_zero : (laws : PlainWords) (n : ℕ) → n < 2 ^ 64 → IsListWord (45 ∷ decimal n)
below_zero laws n lt = record {
  plain = (and_parts (is_word (decimal n)) (list_all is_plain (decimal n)) (laws.numbers n lt).0).1;
  says = refl;
  short = omega (arith, (laws.numbers n lt).1);
}

signed : (laws : PlainWords) (positive : Bool) (n : ℕ) → n < 2 ^ 64 → IsListWord (if positive then decimal n else 45 ∷ decimal n)
signed laws true n lt = number laws n lt
signed laws false n lt = below_zero laws n lt

-- a literal is such a word
pub literal : (laws : PlainWords) (lit : Lit) → lit.variable < 2 ^ 31 - 1 → IsListWord (lit_word lit)
literal laws lit lt = signed laws lit.positive (lit.variable + 1) (omega arith)

-- the id of an event is such a word
pub id_word : (laws : PlainWords) (id : EventId) → IsTypedId id → IsListWord (event_id_text id)
id_word laws id is =
    let thread = laws.numbers id.thread (omega (arith, is.thread)) in
    let index = laws.numbers id.index (omega (arith, is.index)) in
    let front : is_plain_word (decimal id.thread ++ codes ".") ≡ true = plain_more (decimal id.thread) (codes ".") thread.0 refl in
    record {
      plain = plain_more (decimal id.thread ++ codes ".") (decimal id.index) front (and_parts (is_word (decimal id.index)) (list_all is_plain (decimal id.index)) index.0).1;
      says = digit_says (event_id_text id) (goes_on (decimal id.thread ++ codes ".") (decimal id.index) (goes_on (decimal id.thread) (codes ".") (decimal_begins id.thread (omega (arith, is.thread)))));
      short = omega (arith, length-append (decimal id.thread ++ codes ".") (decimal id.index), length-append (decimal id.thread) (codes "."), length-decimal-le 10 id.thread (lit< tt) (omega (arith, is.thread)) (omega (arith, is.thread)), length-decimal-le 10 id.index (lit< tt) (omega (arith, is.index)) (omega (arith, is.index)));
    }

name_byte : (b : ℕ) → is_name_byte b ≡ true → (b == 35) ≡ false
name_byte b named = grind (arith, nat_tests)

name_says : (bytes : List ℕ) → list_all is_name_byte bytes ≡ true → is_passed_over (bytes ∷ []) ≡ false
name_says [] named = refl
name_says (b ∷ bytes) named = name_byte b (and_parts (is_name_byte b) (list_all is_name_byte bytes) named).0

-- a name is such a word
pub name_word : (laws : PlainWords) (bytes : List ℕ) → is_name bytes ≡ true → IsListWord bytes
name_word laws bytes named = record {
  plain = (laws.names bytes named).0;
  says = name_says bytes (grind (arith, nat_tests));
  short = omega (arith, (laws.names bytes named).1);
}

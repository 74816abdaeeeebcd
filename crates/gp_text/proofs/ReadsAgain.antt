-- A plainly spelled text is read as its lines.
use Rattle.std.proofs.Common.{◌≡◌, ℕ, ◌+◌, ◌<◌, true, false, ◌==◌, List, [], ◌∷◌, ◌++◌, length, filter, Ok, refl, ap, ◌∙◌, arith, le-ltb}
use Rattle.std.specs.List.{AllByRecursion, list_all, list_any, slice_split}
use Rattle.std.proofs.lemmas.Bool.{and_parts}
use Rattle.std.proofs.lemmas.Bool.Decides.{nat_tests}
use Rattle.std.proofs.lemmas.List.Elements.{All-from_recursion}
use Rattle.std.proofs.lemmas.List.Splits.{length-slice_split, slice_split_at, slice_split_none}
use Rattle.gp_text.specs.Line.{is_word, words_of}
use Rattle.gp_text.specs.Lines.{check_from, check_of, is_strange, kept_from, parts_of}
use Rattle.gp_text.proofs.Checks.{step}
use Rattle.gp_text.specs.Spelling.{is_plain, is_plain_word, IsPlainLine, joined, numbered, ReadsAgain, spelling}

-- what a plain byte is not
record IsNeither (b : ℕ) : Type 0 where
  strange : is_strange b ≡ false
  space : (b == 32) ≡ false

plain_byte : (b : ℕ) → is_plain b ≡ true → IsNeither b
plain_byte b plain = record { strange = grind (arith, nat_tests); space = grind (arith, nat_tests) }

no_newline : (b : ℕ) → is_strange b ≡ false → (b == 10) ≡ false
no_newline b usual = grind (arith, nat_tests)

-- printable bytes alone
abbrev Usual : List ℕ → Type 0
Usual bytes = AllByRecursion (λ b. is_strange b ≡ false) bytes

plain_usual : (bytes : List ℕ) → list_all is_plain bytes ≡ true → Usual bytes
plain_usual [] plain = tt
plain_usual (b ∷ bytes) plain =
    let parts = and_parts (is_plain b) (list_all is_plain bytes) plain in
    ((plain_byte b parts.0).strange, plain_usual bytes parts.1)

usual_append : (xs ys : List ℕ) → Usual xs → Usual ys → Usual (xs ++ ys)
usual_append [] ys front back = back
usual_append (x ∷ xs) ys front back = (front.0, usual_append xs ys front.1 back)

usual_unbroken : (bytes : List ℕ) → Usual bytes → AllByRecursion (λ b. (b == 10) ≡ false) bytes
usual_unbroken [] usual = tt
usual_unbroken (b ∷ bytes) usual = (no_newline b usual.0, usual_unbroken bytes usual.1)

none_strange : (bytes : List ℕ) → Usual bytes → list_any is_strange bytes ≡ false
none_strange [] usual = refl
none_strange (b ∷ bytes) usual = rw usual.0 (none_strange bytes usual.1)

plain_whole : (bytes : List ℕ) → list_all is_plain bytes ≡ true → AllByRecursion (λ b. (b == 32) ≡ false) bytes
plain_whole [] plain = tt
plain_whole (b ∷ bytes) plain =
    let parts = and_parts (is_plain b) (list_all is_plain bytes) plain in
    ((plain_byte b parts.0).space, plain_whole bytes parts.1)

-- a plain word, by its parts
record IsWhole (word : List ℕ) : Type 0 where
  some : is_word word ≡ true
  usual : Usual word
  whole : AllByRecursion (λ b. (b == 32) ≡ false) word

whole_word : (word : List ℕ) → is_plain_word word ≡ true → IsWhole word
whole_word word plain =
    let parts = and_parts (is_word word) (list_all is_plain word) plain in
    record { some = parts.0; usual = plain_usual word parts.1; whole = plain_whole word parts.1 }

-- plain words alone
abbrev Plain : List (List ℕ) → Type 0
Plain words = AllByRecursion (λ word. is_plain_word word ≡ true) words

joined_usual : (words : List (List ℕ)) → Plain words → Usual (joined words)
joined_usual [] plain = tt
joined_usual (word ∷ []) plain = (whole_word word plain.0).usual
joined_usual (word ∷ next ∷ words) plain =
    usual_append word (32 ∷ joined (next ∷ words)) (whole_word word plain.0).usual (refl, joined_usual (next ∷ words) plain.1)

-- words with one space between them are split into these words
words_again : (words : List (List ℕ)) → Plain words → words_of (joined words) ≡ words
words_again [] plain = refl
words_again (word ∷ []) plain =
    let is = whole_word word plain.0 in
    let one : slice_split (λ b. b == 32) word ≡ word ∷ [] =
    slice_split_none (λ b. b == 32) word (All-from_recursion (λ b. (b == 32) ≡ false) word is.whole) in
    ap (filter is_word) one ∙ rw is.some refl
words_again (word ∷ next ∷ words) plain =
    let is = whole_word word plain.0 in
    let first : slice_split (λ b. b == 32) (joined (word ∷ next ∷ words)) ≡ word ∷ slice_split (λ b. b == 32) (joined (next ∷ words)) =
    slice_split_at (λ b. b == 32) word 32 (joined (next ∷ words)) (All-from_recursion (λ b. (b == 32) ≡ false) word is.whole) refl in
    ap (filter is_word) first ∙ rw is.some (ap (λ rest. word ∷ rest) (words_again (next ∷ words) plain.1))

-- a plain line has no fault
line_checked : (n : ℕ) (words : List (List ℕ)) → IsPlainLine words → check_of n (joined words) ≡ Ok tt
line_checked n words is =
    rw (none_strange (joined words) (joined_usual words is.plain), le-ltb 4096 (length (joined words)) is.fits) refl

-- the first line of a text is cut off it
first_cut : (words : List (List ℕ)) (lines : List (List (List ℕ))) → IsPlainLine words → parts_of (spelling (words ∷ lines)) ≡ joined words ∷ parts_of (spelling lines)
first_cut words lines is =
    slice_split_at (λ b. b == 10) (joined words) 10 (spelling lines) (All-from_recursion (λ b. (b == 10) ≡ false) (joined words) (usual_unbroken (joined words) (joined_usual words is.plain))) refl

-- plain lines have no fault
checked : (n : ℕ) (lines : List (List (List ℕ))) → AllByRecursion IsPlainLine lines → check_from n (parts_of (spelling lines)) ≡ Ok tt
checked n [] plain = refl
checked n (words ∷ lines) plain =
    let some : 0 < length (parts_of (spelling lines)) = omega (arith, length-slice_split (λ b. b == 10) (spelling lines)) in
    ap (check_from n) (first_cut words lines plain.0)
    ∙ step n (joined words) (parts_of (spelling lines)) some (line_checked n words plain.0)
    ∙ checked (n + 1) lines plain.1

-- and none of them is passed over
kept : (n : ℕ) (lines : List (List (List ℕ))) → AllByRecursion IsPlainLine lines → kept_from n (parts_of (spelling lines)) ≡ numbered n lines
kept n [] plain = refl
kept n (words ∷ lines) plain =
    ap (kept_from n) (first_cut words lines plain.0)
    ∙ rw (words_again words plain.0.plain, plain.0.says) (ap (λ rest. record { number = n; words = words } ∷ rest) (kept (n + 1) lines plain.1))

pub reads_again_lem : ReadsAgain
reads_again_lem lines plain = rw (checked 1 lines plain) (ap Ok (kept 1 lines plain))

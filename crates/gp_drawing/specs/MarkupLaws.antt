-- Laws of markup for the crates above: of a literal by a test, of numbers and escaped words, and of texts that are made of others.
use Rattle.std.specs.Prelude.{◌≡◌, ◌≢◌, ℕ, zero, suc, ◌+◌, ◌/◌, ◌%◌, ◌<◌, ◌==◌, Bool, true, false, ◌&&◌, List, [], ◌∷◌, ◌++◌, codes, decimal, Contains, if◌then◌else◌, refl}
use Rattle.std.specs.Fmt.{digit_glyph, digits, digits_onto}
use Rattle.std.specs.List.{flat_map, list_any}
use Rattle.std.proofs.Common.{ap, sym, subst, ◌∙◌, append_assoc, arith, eq-eqb, eqb-true, inl, inr, lt-ltb, ne_eqb}
use Rattle.std.proofs.lemmas.Bool.{and_parts, cases_Bool, false≢true}
use Rattle.gp_base.specs.ListLaws.{contains_middle, here, there}
use Rattle.gp_drawing.specs.Escaped.{escape_of, escaped}
use Rattle.gp_drawing.specs.Markup.{BeginsWithTag, drawing_tags, HasOwnMarkup, text_tags}

-- these bytes begin with this text
abbrev pub begins_with : List ℕ → List ℕ → Bool
begins_with [] bytes = true
begins_with (first ∷ more) [] = false
begins_with (first ∷ more) (byte ∷ bytes) = first == byte && begins_with more bytes

-- the bytes behind a bracket that opens begin with a tag; nothing is asked of those behind another byte
abbrev pub is_tag_behind : Bool → List ℕ → Bool
is_tag_behind true bytes = list_any (λ (tag : List ℕ). begins_with tag bytes) (drawing_tags ++ text_tags)
is_tag_behind false bytes = true

-- each bracket that opens in a text opens a tag that stands in it to its end
abbrev pub is_own_markup : List ℕ → Bool
is_own_markup [] = true
is_own_markup (byte ∷ bytes) = is_tag_behind (byte == 60) bytes && is_own_markup bytes

begins_parts : (tag bytes : List ℕ) → begins_with tag bytes ≡ true → (rest : List ℕ) × (bytes ≡ tag ++ rest)
begins_parts [] bytes e = (bytes, refl)
begins_parts (first ∷ more) [] e = absurd (false≢true e)
begins_parts (first ∷ more) (byte ∷ bytes) e =
    let parts = and_parts (first == byte) (begins_with more bytes) e in
    let rest = begins_parts more bytes parts.1 in
    (rest.0, ap (λ (n : ℕ). n ∷ bytes) (sym (eqb-true first byte parts.0)) ∙ ap (λ (back : List ℕ). first ∷ back) rest.1)

tag_found : (tags : List (List ℕ)) (bytes : List ℕ) → list_any (λ (tag : List ℕ). begins_with tag bytes) tags ≡ true
    → (tag rest : List ℕ) × Contains tags tag × (bytes ≡ tag ++ rest)
tag_found [] bytes e = absurd (false≢true e)
tag_found (tag ∷ tags) bytes e =
    elim (cases_Bool (begins_with tag bytes)) [
      | inl begins ↦ let rest = begins_parts tag bytes begins in (tag, rest.0, here tag tags, rest.1)
      | inr other ↦ let more = tag_found tags bytes (rw other at e) in (more.0, more.1, there tag tags more.0 more.2, more.3)
    ]

-- a literal: the test is answered by `refl`
pub markup_by_test : (text : List ℕ) → is_own_markup text ≡ true → HasOwnMarkup text
markup_by_test [] e [] back is = cc
markup_by_test [] e (first ∷ front) back is = cc
markup_by_test (byte ∷ text) e [] back is =
    let parts = and_parts (is_tag_behind (byte == 60) text) (is_own_markup text) e in
    let same : byte ≡ 60 = cc in
    let own : text ≡ back = cc in
    subst BeginsWithTag own (tag_found (drawing_tags ++ text_tags) text (rw (eq-eqb byte 60 same) at parts.0))
markup_by_test (byte ∷ text) e (first ∷ front) back is =
    let parts = and_parts (is_tag_behind (byte == 60) text) (is_own_markup text) e in
    let rest : text ≡ front ++ 60 ∷ back = cc in
    markup_by_test text parts.1 front back rest

-- a text without an angle bracket that opens
pub markup_plain : (text : List ℕ) → ((byte : ℕ) → Contains text byte → byte ≢ 60) → HasOwnMarkup text
markup_plain text plain front back is = absurd (plain 60 (subst (λ (whole : List ℕ). Contains whole 60) (sym is) (contains_middle 60 front back)) refl)

-- the empty text
pub markup_nil : HasOwnMarkup []
markup_nil = markup_by_test [] refl

-- a byte that is no such bracket, and then a text
pub markup_cons : (byte : ℕ) (text : List ℕ) → (byte == 60) ≡ false → HasOwnMarkup text → HasOwnMarkup (byte ∷ text)
markup_cons byte text other own [] back is = let same : byte ≡ 60 = cc in absurd (false≢true (sym other ∙ eq-eqb byte 60 same))
markup_cons byte text other own (first ∷ front) back is = let rest : text ≡ front ++ 60 ∷ back = cc in own front back rest

-- two texts, one after the other
pub markup_append : (xs ys : List ℕ) → HasOwnMarkup xs → HasOwnMarkup ys → HasOwnMarkup (xs ++ ys)
markup_append [] ys own more front back is = more front back is
markup_append (x ∷ xs) ys own more [] back is =
    let same : x ≡ 60 = cc in
    let told = own [] xs (ap (λ (n : ℕ). n ∷ xs) same) in
    let rest : xs ++ ys ≡ back = cc in
    (told.0, told.1 ++ ys, told.2, sym rest ∙ ap (λ (front : List ℕ). front ++ ys) told.3 ∙ append_assoc told.0 told.1 ys)
markup_append (x ∷ xs) ys own more (first ∷ front) back is =
    let rest : xs ++ ys ≡ front ++ 60 ∷ back = cc in
    markup_append xs ys (λ begin end cut. own (x ∷ begin) end (ap (λ (whole : List ℕ). x ∷ whole) cut)) more front back rest

-- a literal, and then a text: the end of the literal's last tag has to be in it
pub markup_after : (literal text : List ℕ) → is_own_markup literal ≡ true → HasOwnMarkup text → HasOwnMarkup (literal ++ text)
markup_after literal text test own = markup_append literal text (markup_by_test literal test) own

-- a text, and then a literal
pub markup_before : (text literal : List ℕ) → HasOwnMarkup text → is_own_markup literal ≡ true → HasOwnMarkup (text ++ literal)
markup_before text literal own test = markup_append text literal own (markup_by_test literal test)

-- a text between two literals
pub markup_between : (before text after : List ℕ) → is_own_markup before ≡ true → HasOwnMarkup text → is_own_markup after ≡ true
    → HasOwnMarkup (before ++ text ++ after)
markup_between before text after test own last = markup_before (before ++ text) after (markup_after before text test own) last

-- texts, one for each element
pub markup_flat_map : {X : Type 0} (f : X → List ℕ) (xs : List X) → ((x : X) → HasOwnMarkup (f x)) → HasOwnMarkup (flat_map f xs)
markup_flat_map f [] each = markup_nil
markup_flat_map f (x ∷ xs) each = markup_append (f x) (flat_map f xs) (each x) (markup_flat_map f xs each)

-- one of two texts
pub markup_either : (b : Bool) (xs ys : List ℕ) → HasOwnMarkup xs → HasOwnMarkup ys → HasOwnMarkup (if b then xs else ys)
markup_either true xs ys own other = own
markup_either false xs ys own other = other

digit_other : (digit : ℕ) → digit < 10 → (digit_glyph false digit == 60) ≡ false
digit_other digit below = rw (lt-ltb digit 10 below) (ne_eqb (48 + digit) 60 (λ same. omega arith))

digits_own : (k n : ℕ) (behind : List ℕ) → HasOwnMarkup behind → HasOwnMarkup (digits_onto k 10 false n behind)
digits_own zero n behind own = own
digits_own (suc k) n behind own =
    let longer : HasOwnMarkup (digit_glyph false (n % 10) ∷ behind) =
    markup_cons (digit_glyph false (n % 10)) behind (digit_other (n % 10) (omega arith)) own in
    markup_either (n / 10 == 0) (digit_glyph false (n % 10) ∷ behind) (digits_onto k 10 false (n / 10) (digit_glyph false (n % 10) ∷ behind)) longer
    (digits_own k (n / 10) (digit_glyph false (n % 10) ∷ behind) longer)

-- a number
pub markup_decimal : (n : ℕ) → HasOwnMarkup (decimal n)
unfolding digits
markup_decimal n = digits_own 64 n [] markup_nil

escape_own : (byte : ℕ) → HasOwnMarkup (escape_of byte)
escape_own byte = by (byte == 38) (byte == 60) (byte == 62) (byte == 34) (byte == 39) refl
  where
    by : (a b c d e : Bool) → (byte == 60) ≡ b
        → HasOwnMarkup (if a then codes "&amp;" else (if b then codes "&lt;" else (if c then codes "&gt;" else (if d then codes "&quot;" else (if e then codes "&#39;" else byte ∷ [])))))
    by true b c d e is = markup_by_test (codes "&amp;") refl
    by false true c d e is = markup_by_test (codes "&lt;") refl
    by false false true d e is = markup_by_test (codes "&gt;") refl
    by false false false true e is = markup_by_test (codes "&quot;") refl
    by false false false false true is = markup_by_test (codes "&#39;") refl
    by false false false false false is = markup_cons byte [] is markup_nil

-- escaped words
pub markup_escaped : (words : List ℕ) → HasOwnMarkup (escaped words)
markup_escaped words = markup_flat_map escape_of words escape_own

-- escaped words between two literals
pub markup_words : (before words after : List ℕ) → is_own_markup before ≡ true → is_own_markup after ≡ true
    → HasOwnMarkup (before ++ escaped words ++ after)
markup_words before words after test last = markup_between before (escaped words) after test (markup_escaped words) last

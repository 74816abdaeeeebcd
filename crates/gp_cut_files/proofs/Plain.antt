-- The lines of a manifest are plain lines.
use Rattle.std.proofs.Common.{◌≡◌, refl, ℕ, ◌+◌, ◌-◌, ◌*◌, ◌<◌, ◌≤◌, ◌^◌, true, false, List, [], ◌∷◌, map, length, codes, decimal, arith, length-append, lit≤}
use Rattle.std.specs.Prelude.{◌&&◌, nat_le, All}
use Rattle.std.specs.Fmt.{signed_decimal}
use Rattle.std.specs.List.{AllByRecursion}
use Rattle.std.proofs.lemmas.Bool.{and_parts, leb-true}
use Rattle.std.proofs.lemmas.List.{length-map}
use Rattle.std.proofs.lemmas.List.Elements.{recursion_from_All}
use Rattle.gp_text.specs.Lines.{is_passed_over}
use Rattle.gp_text.specs.Spelling.{IsPlainLine, IsShortWord, PlainWords, is_plain_word, joined}
use Rattle.gp_window.specs.declared.manifest.StartValue.{StartValue}
use Rattle.gp_window.specs.Grammar.{IsStartValue, value_words}
use Rattle.gp_window.specs.ManifestForm.{IsInside, IsManifest, ManifestForm, place_of}
use Rattle.gp_window.specs.Number.{is_rising}
use Rattle.gp_cut_files.specs.ManifestText.{manifest_lines}

-- a plain word of at most 20 bytes
abbrev IsBrief : List ℕ → Type 0
IsBrief word = (is_plain_word word ≡ true) × (length word ≤ 20)

short_word : (word : List ℕ) → IsBrief word → IsShortWord word
short_word word brief = record { plain = brief.0; short = omega (arith, brief.1) }

-- a line of a keyword and a number
number_line : PlainWords → (keyword : List ℕ) (n : ℕ) → IsBrief keyword → n < 2 ^ 64 → is_passed_over (keyword ∷ decimal n ∷ []) ≡ false
    → IsPlainLine (keyword ∷ decimal n ∷ [])
number_line plain keyword n brief fits says =
    plain.lines (keyword ∷ decimal n ∷ []) (short_word keyword brief, (short_word (decimal n) (plain.numbers n fits), tt)) (lit≤ tt) says

-- what is known of the first of roots that rise, and of the others
rising_parts : (low high n : ℕ) (roots : List ℕ) → is_rising low high (n ∷ roots) ≡ true → (low ≤ n) × (n ≤ high) × (is_rising (n + 1) high roots ≡ true)
rising_parts low high n roots rise =
    let parts = and_parts (nat_le low n && nat_le n high) (is_rising (n + 1) high roots) rise in
    let bounds = and_parts (nat_le low n) (nat_le n high) parts.0 in
    (leb-true low n bounds.0, leb-true n high bounds.1, parts.1)

-- roots that rise are no more than there are threads
few_roots : (low high : ℕ) (roots : List ℕ) → is_rising low high roots ≡ true → length roots ≤ high + 1 - low
few_roots low high [] rise = omega arith
few_roots low high (n ∷ roots) rise =
    let parts = rising_parts low high n roots rise in
    omega (arith, parts.0, parts.1, few_roots (n + 1) high roots parts.2)

brief_roots : PlainWords → (low high : ℕ) (roots : List ℕ) → high ≤ 64 → is_rising low high roots ≡ true → AllByRecursion IsBrief (map decimal roots)
brief_roots plain low high [] few rise = tt
brief_roots plain low high (n ∷ roots) few rise =
    let parts = rising_parts low high n roots rise in
    (plain.numbers n (omega (arith, few, parts.1)), brief_roots plain (n + 1) high roots few parts.2)

-- words in a row, with a space between them
joined_fits : (words : List (List ℕ)) → AllByRecursion IsBrief words → length (joined words) ≤ 21 * length words
joined_fits [] brief = omega arith
joined_fits (word ∷ []) brief = omega (arith, brief.0.1)
joined_fits (word ∷ next ∷ words) brief =
    omega (arith, brief.0.1, joined_fits (next ∷ words) brief.1, length-append word (32 ∷ joined (next ∷ words)))

each_plain : (words : List (List ℕ)) → AllByRecursion IsBrief words → AllByRecursion (λ word. is_plain_word word ≡ true) words
each_plain [] brief = tt
each_plain (word ∷ words) brief = (brief.0.0, each_plain words brief.1)

-- a line of few brief words
brief_line : (words : List (List ℕ)) → AllByRecursion IsBrief words → length words ≤ 65 → is_passed_over words ≡ false → IsPlainLine words
brief_line words brief few says = record {
  plain = each_plain words brief;
  says = says;
  fits = omega (arith, few, joined_fits words brief);
}

roots_line : PlainWords → (m : ManifestForm) → IsManifest m → IsPlainLine (codes "roots" ∷ map decimal m.roots)
roots_line plain m kept =
    brief_line (codes "roots" ∷ map decimal m.roots)
    ((refl, lit≤ tt), brief_roots plain 1 m.threads m.roots kept.threads.1 kept.roots)
    (omega (arith, length-map m.roots decimal, few_roots 1 m.threads m.roots kept.roots, kept.threads.1)) refl

value_line : PlainWords → (epochs : ℕ) (value : StartValue) → epochs ≤ 4096 → IsInside epochs (place_of value) → IsStartValue value → IsPlainLine (value_words value)
value_line plain epochs value few inside is =
    let name = plain.names value.variable is.0 in
    plain.lines (value_words value) (
      short_word (codes "value") (refl, lit≤ tt),
      (
        short_word (decimal value.window) (plain.numbers value.window (omega (arith, few, inside.1))),
        (
          record { plain = name.0; short = omega (arith, name.1) },
          (short_word (signed_decimal value.value) (plain.signed value.value is.1), tt),
        ),
      ),
    ) (lit≤ tt) refl

values_plain : PlainWords → (epochs : ℕ) (values : List StartValue) → epochs ≤ 4096 → AllByRecursion (IsInside epochs) (map place_of values)
    → AllByRecursion IsStartValue values → AllByRecursion IsPlainLine (map value_words values)
values_plain plain epochs [] few inside are = tt
values_plain plain epochs (value ∷ values) few inside are =
    (value_line plain epochs value few inside.0 are.0, values_plain plain epochs values few inside.1 are.1)

-- each line of a manifest is plain, where its values can be spelled
pub manifest_plain : PlainWords → (m : ManifestForm) → IsManifest m → All IsStartValue m.values → AllByRecursion IsPlainLine (manifest_lines m)
manifest_plain plain m kept values = (
  number_line plain (codes "gptrace") m.format (refl, lit≤ tt) (omega (arith, kept.format.1)) refl,
  (
    number_line plain (codes "threads") m.threads (refl, lit≤ tt) (omega (arith, kept.threads.1)) refl,
    (
      number_line plain (codes "epochs") m.epochs (refl, lit≤ tt) (omega (arith, kept.epochs.1)) refl,
      (
        roots_line plain m kept,
        values_plain plain m.epochs m.values kept.epochs.1 (recursion_from_All (IsInside m.epochs) (map place_of m.values) kept.inside)
            (recursion_from_All IsStartValue m.values values),
      ),
    ),
  ),
)

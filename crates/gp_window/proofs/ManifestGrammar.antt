-- Lines that are read as a manifest spell it, and lines that spell one are read as it.
use Rattle.std.proofs.Common.{◌≡◌, refl, ap, sym, subst, ◌∙◌, ℕ, ◌<◌, ◌≤◌, ◌^◌, List, [], ◌∷◌, map, drop, arith, codes, decimal}
use Rattle.std.specs.Prelude.{All, Option, Some, None, Result, Ok, slice_get}
use Rattle.std.specs.List.{AllByRecursion}
use Rattle.std.specs.List.Sorted.{IsPermutation, IsStrictlySortedBy}
use Rattle.std.proofs.lemmas.List.Elements.{All-from_recursion, All-nil, recursion_from_All}
use Rattle.std.proofs.lemmas.List.Sorted.{All-permutation, IsPermutation-map, IsPermutation-sym, IsPermutation-trans}
use Rattle.gp_text.specs.declared.line.Line.{Line}
use Rattle.gp_text.specs.Numbers.{OneSpelling, between, number_after}
use Rattle.gp_base.specs.Results.{and_then, or_refusal}
use Rattle.gp_window.specs.declared.manifest.ManifestFault.{ManifestFault}
use Rattle.gp_window.specs.declared.manifest.ManifestFault.TheVariants as bad
use Rattle.gp_window.specs.declared.manifest.StartValue.{StartValue}
use Rattle.gp_window.specs.Grammar.{IsStartValue, Spells, value_words}
use Rattle.gp_window.specs.Manifest.{Values, epochs_of, field_of, format_of, manifest_of, roots_of, start_value, threads_of, values_from, values_of, with_roots, with_threads}
use Rattle.gp_window.specs.ManifestForm.{IsInside, IsManifest, ManifestForm, place_cmp, place_of}
use Rattle.gp_window.specs.NumberLaws.{is_between, keyword_and_number, number_is_after, was_between}
use Rattle.gp_window.proofs.ManifestLines.{roots_read, roots_said}
use Rattle.gp_window.proofs.ManifestValues.{given_all, given_rise, given_to, permuted_room, Rise, same_permuted, then_ok, values_read, values_said}
use Rattle.gp_window.proofs.Places.{places_kept, values_inside}
use Rattle.gp_window.proofs.Walked.{first_gave}

-- a line that was read is there, and was read of its words
field_there : {A : Type 0} (last : ℕ) (spells : List (List ℕ) → Option A) (found : Option Line) (value : A) → field_of last spells found ≡ Ok value
    → (line : Line) × (found ≡ Some line) × (spells line.words ≡ Some value)
field_there last spells None value e = cc
field_there {A = A} last spells (Some line) value e = (line, refl, of_words (spells line.words) e)
  where
    of_words : (o : Option A) → or_refusal (bad.Line line.number) o ≡ Ok value → o ≡ Some value
    of_words None e = cc
    of_words (Some x) e = let same : x ≡ value = (cc) in ap Some same

-- a line is read of its words
field_read : {A : Type 0} (last : ℕ) (spells : List (List ℕ) → Option A) (line : Line) (value : A) → spells line.words ≡ Some value
    → field_of last spells (Some line) ≡ Ok value
field_read last spells line value e = ap (or_refusal (bad.Line line.number)) e

four_lines : (lines : List Line) (a b c d : Line) → slice_get lines 0 ≡ Some a → slice_get lines 1 ≡ Some b → slice_get lines 2 ≡ Some c → slice_get lines 3 ≡ Some d
    → lines ≡ a ∷ b ∷ c ∷ d ∷ drop 4 lines
four_lines [] a b c d p q r s = cc
four_lines (k ∷ []) a b c d p q r s = cc
four_lines (k ∷ l ∷ []) a b c d p q r s = cc
four_lines (k ∷ l ∷ m ∷ []) a b c d p q r s = cc
four_lines (k ∷ l ∷ m ∷ n ∷ more) a b c d p q r s = cc

five : {X : Type 0} (a b c d p q r s : X) (xs ys : List X) → a ≡ p → b ≡ q → c ≡ r → d ≡ s → xs ≡ ys → a ∷ b ∷ c ∷ d ∷ xs ≡ p ∷ q ∷ r ∷ s ∷ ys
five a b c d p q r s xs ys first second third fourth rest = cc

-- a number of a line with a keyword
number_said : OneSpelling → (keyword : List ℕ) (low high : ℕ) (words : List (List ℕ)) (n : ℕ) → between low high (number_after keyword words) ≡ Some n
    → (words ≡ keyword ∷ decimal n ∷ []) × (low ≤ n) × (n ≤ high)
number_said law keyword low high words n e =
    let inside = was_between low high (number_after keyword words) n e in
    (keyword_and_number law keyword words n inside.0, inside.1, inside.2)

number_read : OneSpelling → (keyword : List ℕ) (low high : ℕ) (words : List (List ℕ)) (n : ℕ) → words ≡ keyword ∷ decimal n ∷ [] → low ≤ n → n ≤ high → high < 2 ^ 32
    → between low high (number_after keyword words) ≡ Some n
number_read law keyword low high words n is least most small =
    ap (λ w. between low high (number_after keyword w)) is
    ∙ ap (between low high) (number_is_after law keyword n (omega (arith, most, small)))
    ∙ is_between low high n least most

-- the values of a manifest that was read
values_kept : (epochs : ℕ) (lines : List Line) (said : Values) → values_from epochs [] lines ≡ Ok said → Rise said
    → All (IsInside epochs) (map place_of (map start_value said)) × IsStrictlySortedBy place_cmp (map place_of (map start_value said))
values_kept epochs lines said e rise = (
  subst (λ places. All (IsInside epochs) places) (sym (places_kept said)) (values_inside epochs [] lines said (All-nil (IsInside epochs)) e),
  subst (λ places. IsStrictlySortedBy place_cmp places) (sym (places_kept said)) rise,
)

none_rise : Rise []
unfolding IsStrictlySortedBy
none_rise = tt

-- what the lines say, each of which was read
spelled : OneSpelling → (last : ℕ) (lines : List Line) (m : ManifestForm) (format threads epochs : ℕ) (roots : List ℕ) (values : List StartValue) (entries : Values)
    → field_of last format_of (slice_get lines 0) ≡ Ok format → field_of last threads_of (slice_get lines 1) ≡ Ok threads
    → field_of last epochs_of (slice_get lines 2) ≡ Ok epochs → field_of last (roots_of threads) (slice_get lines 3) ≡ Ok roots
    → values_from epochs [] (drop 4 lines) ≡ Ok entries → map start_value entries ≡ values
    → record { format = format; threads = threads; epochs = epochs; roots = roots; values = values } ≡ m → Spells lines m
spelled law last lines m format threads epochs roots values entries first second third fourth rest are made =
    let a = field_there last format_of (slice_get lines 0) format first in
    let b = field_there last threads_of (slice_get lines 1) threads second in
    let c = field_there last epochs_of (slice_get lines 2) epochs third in
    let d = field_there last (roots_of threads) (slice_get lines 3) roots fourth in
    let format_said = number_said law (codes "gptrace") 1 2 a.0.words format a.2 in
    let threads_said = number_said law (codes "threads") 1 64 b.0.words threads b.2 in
    let epochs_said = number_said law (codes "epochs") 1 4096 c.0.words epochs c.2 in
    let roots_are = roots_said law threads d.0.words roots d.2 in
    let said = values_said law epochs [] entries (drop 4 lines) rest in
    let rise : Rise entries = subst Rise said.all_of (given_rise said.given [] none_rise) in
    let kept = values_kept epochs (drop 4 lines) entries rest rise in
    let all : IsPermutation said.given values =
    subst (λ list. IsPermutation said.given list) (ap (map start_value) said.all_of ∙ are) (given_all said.given said.room) in
    subst (Spells lines) made (record {
      given = said.given;
      words =
          ap (map (λ line. line.words)) (four_lines lines a.0 b.0 c.0 d.0 a.1 b.1 c.1 d.1)
          ∙ five a.0.words b.0.words c.0.words d.0.words (codes "gptrace" ∷ decimal format ∷ []) (codes "threads" ∷ decimal threads ∷ []) (codes "epochs" ∷ decimal epochs ∷ [])
          (codes "roots" ∷ map decimal roots) (map (λ line. line.words) (drop 4 lines)) (map value_words said.given) format_said.0 threads_said.0 epochs_said.0 roots_are.0 said.words;
      all = all;
      kept = record {
        format = (format_said.1, format_said.2);
        threads = (threads_said.1, threads_said.2);
        epochs = (epochs_said.1, epochs_said.2);
        rooted = roots_are.1;
        roots = roots_are.2;
        inside = subst (λ list. All (IsInside epochs) (map place_of list)) are kept.0;
        ordered = subst (λ list. IsStrictlySortedBy place_cmp (map place_of list)) are kept.1;
      };
      values = All-permutation IsStartValue said.given values all (All-from_recursion IsStartValue said.given said.good);
    })

-- lines that are read spell what was read
pub read_is_spelled : OneSpelling → (last : ℕ) (lines : List Line) (m : ManifestForm) → manifest_of last lines ≡ Ok m → Spells lines m
read_is_spelled law last lines m e =
    let format = first_gave (field_of last format_of (slice_get lines 0)) (λ format. and_then (field_of last threads_of (slice_get lines 1)) (λ threads. with_threads last format threads lines)) m e in
    let threads = first_gave (field_of last threads_of (slice_get lines 1)) (λ threads. with_threads last format.0 threads lines) m format.2 in
    let epochs = first_gave (field_of last epochs_of (slice_get lines 2)) (λ epochs. and_then (field_of last (roots_of threads.0) (slice_get lines 3)) (λ roots. with_roots format.0 threads.0 epochs roots (drop 4 lines))) m threads.2 in
    let roots = first_gave (field_of last (roots_of threads.0) (slice_get lines 3)) (λ roots. with_roots format.0 threads.0 epochs.0 roots (drop 4 lines)) m epochs.2 in
    let values = first_gave (values_of epochs.0 (drop 4 lines)) (λ values. Ok (record { format = format.0; threads = threads.0; epochs = epochs.0; roots = roots.0; values = values })) m roots.2 in
    let entries = first_gave (values_from epochs.0 [] (drop 4 lines)) (λ values. Ok (map start_value values)) values.0 values.1 in
    spelled law last lines m format.0 threads.0 epochs.0 roots.0 values.0 entries.0 format.1 threads.1 epochs.1 roots.1 entries.1
    (let is : ◌≡◌ {A = Result (List StartValue) ManifestFault} (Ok (map start_value entries.0)) (Ok values.0) = entries.2 in cc)
    (let is : ◌≡◌ {A = Result ManifestForm ManifestFault} (Ok (record { format = format.0; threads = threads.0; epochs = epochs.0; roots = roots.0; values = values.0 })) (Ok m) = values.2 in cc)

-- lines whose words begin with those of four lines
record FourLines (lines : List Line) (p q r s : List (List ℕ)) (rest : List (List (List ℕ))) : Type 0 where
  a : Line
  b : Line
  c : Line
  d : Line
  more : List Line
  all : lines ≡ a ∷ b ∷ c ∷ d ∷ more
  first : a.words ≡ p
  second : b.words ≡ q
  third : c.words ≡ r
  fourth : d.words ≡ s
  others : map (λ line. line.words) more ≡ rest

parted : (lines : List Line) (p q r s : List (List ℕ)) (rest : List (List (List ℕ))) → map (λ line. line.words) lines ≡ p ∷ q ∷ r ∷ s ∷ rest
    → FourLines lines p q r s rest
parted [] p q r s rest e = cc
parted (k ∷ []) p q r s rest e = cc
parted (k ∷ l ∷ []) p q r s rest e = cc
parted (k ∷ l ∷ m ∷ []) p q r s rest e = cc
parted (k ∷ l ∷ m ∷ n ∷ more) p q r s rest e =
    record { a = k; b = l; c = m; d = n; more = more; all = refl; first = cc; second = cc; third = cc; fourth = cc; others = cc }

inside_by : (epochs : ℕ) (given : List StartValue) → AllByRecursion (IsInside epochs) (map place_of given) → AllByRecursion (λ one. IsInside epochs (place_of one)) given
inside_by epochs [] all = tt
inside_by epochs (one ∷ given) all = (all.0, inside_by epochs given all.1)

-- the values of a manifest are read of lines that say them in any order
values_are_read : OneSpelling → (lines : List Line) (given : List StartValue) (m : ManifestForm) → map (λ line. line.words) lines ≡ map value_words given
    → IsPermutation given m.values → IsManifest m → All IsStartValue m.values → values_of m.epochs lines ≡ Ok m.values
values_are_read law lines given m words all kept values =
    let back : IsPermutation m.values given = IsPermutation-sym given m.values all in
    let room = permuted_room given m.values all kept.ordered in
    let good = recursion_from_All IsStartValue given (All-permutation IsStartValue m.values given back values) in
    let inside = inside_by m.epochs given
    (recursion_from_All (IsInside m.epochs) (map place_of given)
    (All-permutation (IsInside m.epochs) (map place_of m.values) (map place_of given) (IsPermutation-map place_of m.values given back) kept.inside)) in
    let most : m.epochs ≤ 4096 = kept.epochs.1 in
    let read = values_read law m.epochs (omega (arith, most)) lines given [] words good inside room in
    let same : map start_value (given_to [] given) ≡ m.values =
    same_permuted (map start_value (given_to [] given)) m.values
    (IsPermutation-trans (map start_value (given_to [] given)) given m.values (IsPermutation-sym given (map start_value (given_to [] given)) (given_all given room)) all)
    (subst (λ places. IsStrictlySortedBy place_cmp places) (sym (places_kept (given_to [] given))) (given_rise given [] none_rise))
    kept.ordered in
    then_ok (values_from m.epochs [] lines) (λ values. Ok (map start_value values)) (given_to [] given) read ∙ ap Ok same

-- lines that spell a manifest are read as it
pub spelled_is_read : OneSpelling → (last : ℕ) (lines : List Line) (m : ManifestForm) → Spells lines m → manifest_of last lines ≡ Ok m
spelled_is_read law last lines m s =
    let parts = parted lines (codes "gptrace" ∷ decimal m.format ∷ []) (codes "threads" ∷ decimal m.threads ∷ []) (codes "epochs" ∷ decimal m.epochs ∷ [])
    (codes "roots" ∷ map decimal m.roots) (map value_words s.given) s.words in
    let kept = s.kept in
    let few : m.threads ≤ 64 = kept.threads.1 in
    let format : field_of last format_of (Some parts.a) ≡ Ok m.format =
    field_read last format_of parts.a m.format (number_read law (codes "gptrace") 1 2 parts.a.words m.format parts.first kept.format.0 kept.format.1 (omega arith)) in
    let threads : field_of last threads_of (Some parts.b) ≡ Ok m.threads =
    field_read last threads_of parts.b m.threads (number_read law (codes "threads") 1 64 parts.b.words m.threads parts.second kept.threads.0 kept.threads.1 (omega arith)) in
    let epochs : field_of last epochs_of (Some parts.c) ≡ Ok m.epochs =
    field_read last epochs_of parts.c m.epochs (number_read law (codes "epochs") 1 4096 parts.c.words m.epochs parts.third kept.epochs.0 kept.epochs.1 (omega arith)) in
    let roots : field_of last (roots_of m.threads) (Some parts.d) ≡ Ok m.roots =
    field_read last (roots_of m.threads) parts.d m.roots
    (ap (roots_of m.threads) parts.fourth ∙ roots_read law m.threads m.roots (omega (arith, few)) kept.rooted kept.roots) in
    let values : values_of m.epochs parts.more ≡ Ok m.values = values_are_read law parts.more s.given m parts.others s.all kept s.values in
    let all : List Line = parts.a ∷ parts.b ∷ parts.c ∷ parts.d ∷ parts.more in
    ap (manifest_of last) parts.all
    ∙ then_ok (field_of last format_of (Some parts.a)) (λ format. and_then (field_of last threads_of (Some parts.b)) (λ threads. with_threads last format threads all)) m.format format
    ∙ then_ok (field_of last threads_of (Some parts.b)) (λ threads. with_threads last m.format threads all) m.threads threads
    ∙ then_ok (field_of last epochs_of (Some parts.c)) (λ epochs. and_then (field_of last (roots_of m.threads) (Some parts.d)) (λ roots. with_roots m.format m.threads epochs roots parts.more)) m.epochs epochs
    ∙ then_ok (field_of last (roots_of m.threads) (Some parts.d)) (λ roots. with_roots m.format m.threads m.epochs roots parts.more) m.roots roots
    ∙ then_ok (values_of m.epochs parts.more) (λ values. Ok (record { format = m.format; threads = m.threads; epochs = m.epochs; roots = m.roots; values = values })) m.values values

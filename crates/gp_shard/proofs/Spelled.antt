-- Lines that are read as a part spell it, and lines that spell one are read as it.
use Rattle.std.proofs.Common.{◌≡◌, refl, ap, sym, subst, ◌∙◌, ℕ, ◌+◌, ◌-◌, ◌≤◌, Bool, true, false, ◌&&◌, List, [], ◌∷◌, map, arith, codes, decimal}
use Rattle.std.specs.Prelude.{nat_le, Option, Some, None, Result, Ok, Err, IfOk, if◌then◌else◌, slice_get}
use Rattle.std.specs.Str.{bytes_eq}
use Rattle.std.proofs.lemmas.Bool.{and_parts, le-leb, leb-true}
use Rattle.std.proofs.lemmas.Slice.Eq.{bytes_eq-Decides}
use Rattle.gp_base.specs.Results.{and_then, or_refusal}
use Rattle.gp_text.specs.declared.line.Line.{Line}
use Rattle.gp_text.specs.Lines.{end_line_of, lines_of}
use Rattle.gp_text.specs.Numbers.{OneSpelling, small_number_of}
use Rattle.gp_shard.specs.declared.reading.PartNumber.{PartNumber}
use Rattle.gp_shard.specs.declared.reading.PartWindows.{PartWindows}
use Rattle.gp_shard.specs.declared.reading.ShardFault.{ShardFault}
use Rattle.gp_shard.specs.declared.reading.ShardFault.TheVariants as bad
use Rattle.gp_shard.specs.declared.shard.Shard.{Shard}
use Rattle.gp_shard.specs.Laws.{ReadIsShard, Spells}
use Rattle.gp_shard.specs.Reading.{are_windows, field_of, head_of, is_head, is_part, no_line, part_of, part_with, shard_in, shard_of, shard_of_text, windows_of, windows_with}
use Rattle.gp_shard.specs.Shard.{IsShard}

-- what came next gave an answer, so that there was a value
then_gave : {A B E : Type 0} (first : Result A E) (next : A → Result B E) (answer : B) → and_then first next ≡ Ok answer
    → (value : A) × (first ≡ Ok value) × (next value ≡ Ok answer)
then_gave (Ok value) next answer is = (value, refl, is)
then_gave (Err fault) next answer is = cc

-- a test that passed
passed : {A : Type 0} (test : Bool) (value answer : A) → ◌≡◌ {A = Option A} (if test then Some value else None) (Some answer) → (test ≡ true) × (value ≡ answer)
passed true value answer is = (refl, (cc))
passed false value answer is = cc

passed_first : {A : Type 0} (test : Bool) (found : Option A) (answer : A) → (if test then found else None) ≡ Some answer → (test ≡ true) × (found ≡ Some answer)
passed_first true found answer is = (refl, is)
passed_first false found answer is = cc

-- a line that was read is there, and was read of its words
field_there : {A : Type 0} (last : ℕ) (spells : List (List ℕ) → Option A) (found : Option Line) (value : A) → field_of last spells found ≡ Ok value
    → (line : Line) × (found ≡ Some line) × (spells line.words ≡ Some value)
field_there last spells None value is = cc
field_there {A = A} last spells (Some line) value is = (line, refl, of_words (spells line.words) is)
  where
    of_words : (o : Option A) → or_refusal (bad.Line line.number) o ≡ Ok value → o ≡ Some value
    of_words None e = cc
    of_words (Some x) e = let same : x ≡ value = (cc) in ap Some same

head_passed : (test : Bool) (number : ℕ) → ◌≡◌ {A = Result (Unit {0}) ShardFault} (if test then Ok tt else Err (bad.Line number)) (Ok tt) → test ≡ true
head_passed true number is = refl
head_passed false number is = cc

head_there : (last : ℕ) (found : Option Line) → head_of last found ≡ Ok tt → (line : Line) × (found ≡ Some line) × (is_head line.words ≡ true)
head_there last None is = cc
head_there last (Some line) is = (line, refl, head_passed (is_head line.words) line.number is)

none_there : (found : Option Line) → no_line found ≡ Ok tt → found ≡ None
none_there None is = refl
none_there (Some line) is = cc

three_lines : (lines : List Line) (a b c : Line) → slice_get lines 0 ≡ Some a → slice_get lines 1 ≡ Some b → slice_get lines 2 ≡ Some c → slice_get lines 3 ≡ None
    → lines ≡ a ∷ b ∷ c ∷ []
three_lines [] a b c p q r none = cc
three_lines (k ∷ []) a b c p q r none = cc
three_lines (k ∷ l ∷ []) a b c p q r none = cc
three_lines (k ∷ l ∷ m ∷ []) a b c p q r none = cc
three_lines (k ∷ l ∷ m ∷ n ∷ more) a b c p q r none = cc

-- the words of a head
head_said : (words : List (List ℕ)) → is_head words ≡ true → words ≡ codes "gpshard" ∷ codes "1" ∷ []
head_said [] is = cc
head_said (keyword ∷ []) is = cc
head_said (keyword ∷ format ∷ []) is =
    let both = and_parts (bytes_eq keyword (codes "gpshard")) (bytes_eq format (codes "1")) is in
    ap (λ word. word ∷ format ∷ []) ((bytes_eq-Decides keyword (codes "gpshard")).0 both.0)
    ∙ ap (λ word. codes "gpshard" ∷ word ∷ []) ((bytes_eq-Decides format (codes "1")).0 both.1)
head_said (keyword ∷ format ∷ next ∷ more) is = cc

-- a word that is read as a small number is its decimal
number_said : OneSpelling → (word : List ℕ) (n : ℕ) → n ≤ 4097 → small_number_of word ≡ Some n → word ≡ decimal n
number_said law word n small is = (law.small word n (omega (arith, small))).0 is

number_read : OneSpelling → (n : ℕ) → n ≤ 4097 → small_number_of (decimal n) ≡ Some n
number_read law n small = (law.small (decimal n) n (omega (arith, small))).1 refl

-- the numbers of a part, where they are those of one
record IsPartOf (part parts : Option ℕ) (number : PartNumber) : Type 0 where
  first : part ≡ Some number.part
  second : parts ≡ Some number.parts
  inside : (1 ≤ number.part) × (number.part ≤ number.parts)
  few : number.parts ≤ 4096

part_made : (part parts : Option ℕ) (number : PartNumber) → part_with part parts ≡ Some number → IsPartOf part parts number
part_made None parts number is = cc
part_made (Some part) None number is = cc
part_made (Some part) (Some parts) number is =
    let test = passed (is_part part parts) (record { part = part; parts = parts }) number is in
    let rules = and_parts (nat_le 1 part) (nat_le part parts && nat_le parts 4096) test.0 in
    let rest = and_parts (nat_le part parts) (nat_le parts 4096) rules.1 in
    subst (IsPartOf (Some part) (Some parts)) test.1 (record {
      first = refl;
      second = refl;
      inside = (leb-true 1 part rules.0, leb-true part parts rest.0);
      few = leb-true parts 4096 rest.1;
    })

-- the numbers of windows, where they are those of some
record AreWindowsOf (first count epochs : Option ℕ) (windows : PartWindows) : Type 0 where
  begin : first ≡ Some (windows.before + 1)
  many : count ≡ Some windows.count
  all : epochs ≡ Some windows.epochs
  few : (1 ≤ windows.epochs) × (windows.epochs ≤ 4096)
  inside : windows.before + windows.count ≤ windows.epochs

windows_made : (first count epochs : Option ℕ) (windows : PartWindows) → windows_with first count epochs ≡ Some windows → AreWindowsOf first count epochs windows
windows_made None count epochs windows is = cc
windows_made (Some first) None epochs windows is = cc
windows_made (Some first) (Some count) None windows is = cc
windows_made (Some first) (Some count) (Some epochs) windows is =
    let test = passed (are_windows first count epochs) (record { before = first - 1; count = count; epochs = epochs }) windows is in
    let rules = and_parts (nat_le 1 epochs) (nat_le epochs 4096 && (nat_le 1 first && nat_le (first + count) (epochs + 1))) test.0 in
    let more = and_parts (nat_le epochs 4096) (nat_le 1 first && nat_le (first + count) (epochs + 1)) rules.1 in
    let rest = and_parts (nat_le 1 first) (nat_le (first + count) (epochs + 1)) more.1 in
    let low : 1 ≤ first = leb-true 1 first rest.0 in
    let high : first + count ≤ epochs + 1 = leb-true (first + count) (epochs + 1) rest.1 in
    let behind : first ≡ first - 1 + 1 = omega arith in
    subst (AreWindowsOf (Some first) (Some count) (Some epochs)) test.1 (record {
      begin = ap Some behind;
      many = refl;
      all = refl;
      few = (leb-true 1 epochs rules.0, leb-true epochs 4096 more.0);
      inside = omega arith;
    })

three : {X : Type 0} (a b c p q r : X) → a ≡ p → b ≡ q → c ≡ r → a ∷ b ∷ c ∷ [] ≡ p ∷ q ∷ r ∷ []
three a b c p q r first second third = cc

four : {X : Type 0} (a b c d p q r s : X) → a ≡ p → b ≡ q → c ≡ r → d ≡ s → a ∷ b ∷ c ∷ d ∷ [] ≡ p ∷ q ∷ r ∷ s ∷ []
four a b c d p q r s first second third fourth = cc

-- a line that says a part
record SaysPart (line : List (List ℕ)) (number : PartNumber) : Type 0 where
  said : line ≡ codes "part" ∷ decimal number.part ∷ decimal number.parts ∷ []
  inside : (1 ≤ number.part) × (number.part ≤ number.parts)
  few : number.parts ≤ 4096

part_said : OneSpelling → (words : List (List ℕ)) (number : PartNumber) → part_of words ≡ Some number → SaysPart words number
part_said law [] number is = cc
part_said law (keyword ∷ []) number is = cc
part_said law (keyword ∷ part ∷ []) number is = cc
part_said law (keyword ∷ part ∷ parts ∷ []) number is =
    let test = passed_first (bytes_eq keyword (codes "part")) (part_with (small_number_of part) (small_number_of parts)) number is in
    let made = part_made (small_number_of part) (small_number_of parts) number test.1 in
    let inside = made.inside in
    let few = made.few in
    record {
      said = three keyword part parts (codes "part") (decimal number.part) (decimal number.parts) ((bytes_eq-Decides keyword (codes "part")).0 test.0)
          (number_said law part number.part (omega arith) made.first) (number_said law parts number.parts (omega arith) made.second);
      inside = inside;
      few = few;
    }
part_said law (keyword ∷ part ∷ parts ∷ next ∷ more) number is = cc

-- a line that says windows
record SaysWindows (line : List (List ℕ)) (windows : PartWindows) : Type 0 where
  said : line ≡ codes "windows" ∷ decimal (windows.before + 1) ∷ decimal windows.count ∷ decimal windows.epochs ∷ []
  few : (1 ≤ windows.epochs) × (windows.epochs ≤ 4096)
  inside : windows.before + windows.count ≤ windows.epochs

windows_said : OneSpelling → (words : List (List ℕ)) (windows : PartWindows) → windows_of words ≡ Some windows → SaysWindows words windows
windows_said law [] windows is = cc
windows_said law (keyword ∷ []) windows is = cc
windows_said law (keyword ∷ first ∷ []) windows is = cc
windows_said law (keyword ∷ first ∷ count ∷ []) windows is = cc
windows_said law (keyword ∷ first ∷ count ∷ epochs ∷ []) windows is =
    let test = passed_first (bytes_eq keyword (codes "windows")) (windows_with (small_number_of first) (small_number_of count) (small_number_of epochs)) windows is in
    let made = windows_made (small_number_of first) (small_number_of count) (small_number_of epochs) windows test.1 in
    let few = made.few in
    let inside = made.inside in
    record {
      said = four keyword first count epochs (codes "windows") (decimal (windows.before + 1)) (decimal windows.count) (decimal windows.epochs)
          ((bytes_eq-Decides keyword (codes "windows")).0 test.0) (number_said law first (windows.before + 1) (omega arith) made.begin)
          (number_said law count windows.count (omega arith) made.many) (number_said law epochs windows.epochs (omega arith) made.all);
      few = few;
      inside = inside;
    }
windows_said law (keyword ∷ first ∷ count ∷ epochs ∷ next ∷ more) windows is = cc

-- the part of a number and of windows
abbrev shard_with : PartNumber → PartWindows → Shard
shard_with number windows = record { part = number.part; parts = number.parts; before = windows.before; count = windows.count; epochs = windows.epochs }

-- what the lines say, behind those that were read
abbrev behind_windows : List Line → PartNumber → PartWindows → Result Shard ShardFault
behind_windows lines number windows = and_then (no_line (slice_get lines 3)) (λ none. Ok (shard_with number windows))

abbrev behind_part : ℕ → List Line → PartNumber → Result Shard ShardFault
behind_part last lines number = and_then (field_of last windows_of (slice_get lines 2)) (behind_windows lines number)

abbrev behind_head : ℕ → List Line → Result Shard ShardFault
behind_head last lines = and_then (field_of last part_of (slice_get lines 1)) (behind_part last lines)

-- lines that are read spell what was read
pub read_is_spelled : OneSpelling → (last : ℕ) (lines : List Line) (s : Shard) → shard_of last lines ≡ Ok s → Spells lines s
read_is_spelled law last lines s is =
    let head = then_gave (head_of last (slice_get lines 0)) (λ head. behind_head last lines) s is in
    let number = then_gave (field_of last part_of (slice_get lines 1)) (behind_part last lines) s head.2 in
    let windows = then_gave (field_of last windows_of (slice_get lines 2)) (behind_windows lines number.0) s number.2 in
    let end = then_gave (no_line (slice_get lines 3)) (λ none. Ok (shard_with number.0 windows.0)) s windows.2 in
    let a = head_there last (slice_get lines 0) head.1 in
    let b = field_there last part_of (slice_get lines 1) number.0 number.1 in
    let c = field_there last windows_of (slice_get lines 2) windows.0 windows.1 in
    let part = part_said law b.0.words number.0 b.2 in
    let inside = windows_said law c.0.words windows.0 c.2 in
    let made : ◌≡◌ {A = Result Shard ShardFault} (Ok (shard_with number.0 windows.0)) (Ok s) = end.2 in
    let same : shard_with number.0 windows.0 ≡ s = (cc) in
    subst (Spells lines) same (record {
      words =
          ap (map (λ line. line.words)) (three_lines lines a.0 b.0 c.0 a.1 b.1 c.1 (none_there (slice_get lines 3) end.1))
          ∙ three a.0.words b.0.words c.0.words (codes "gpshard" ∷ codes "1" ∷ [])
          (codes "part" ∷ decimal number.0.part ∷ decimal number.0.parts ∷ [])
          (codes "windows" ∷ decimal (windows.0.before + 1) ∷ decimal windows.0.count ∷ decimal windows.0.epochs ∷ [])
          (head_said a.0.words a.2) part.said inside.said;
      kept = record { part = part.inside; parts = part.few; epochs = inside.few; inside = inside.inside };
    })

-- lines with the words of three lines
record ThreeLines (lines : List Line) (p q r : List (List ℕ)) : Type 0 where
  a : Line
  b : Line
  c : Line
  all : lines ≡ a ∷ b ∷ c ∷ []
  first : a.words ≡ p
  second : b.words ≡ q
  third : c.words ≡ r

parted : (lines : List Line) (p q r : List (List ℕ)) → map (λ line. line.words) lines ≡ p ∷ q ∷ r ∷ [] → ThreeLines lines p q r
parted [] p q r is = cc
parted (k ∷ []) p q r is = cc
parted (k ∷ l ∷ []) p q r is = cc
parted (k ∷ l ∷ m ∷ []) p q r is = record { a = k; b = l; c = m; all = refl; first = cc; second = cc; third = cc }
parted (k ∷ l ∷ m ∷ n ∷ more) p q r is = cc

-- the words of a part are read as it
part_read : OneSpelling → (part parts : ℕ) → 1 ≤ part → part ≤ parts → parts ≤ 4096
    → part_of (codes "part" ∷ decimal part ∷ decimal parts ∷ []) ≡ Some (record { part = part; parts = parts })
part_read law part parts low high few =
    ap (λ number. part_with number (small_number_of (decimal parts))) (number_read law part (omega (arith, high, few)))
    ∙ ap (λ number. part_with (Some part) number) (number_read law parts (omega (arith, few)))
    ∙ ap (λ test. if test && (nat_le part parts && nat_le parts 4096) then Some (record { part = part; parts = parts }) else None) (le-leb 1 part low)
    ∙ ap (λ test. if test && nat_le parts 4096 then Some (record { part = part; parts = parts }) else None) (le-leb part parts high)
    ∙ ap (λ test. if test then Some (record { part = part; parts = parts }) else None) (le-leb parts 4096 few)

-- and those of windows
windows_read : OneSpelling → (before count epochs : ℕ) → 1 ≤ epochs → epochs ≤ 4096 → before + count ≤ epochs
    → windows_of (codes "windows" ∷ decimal (before + 1) ∷ decimal count ∷ decimal epochs ∷ []) ≡ Some (record { before = before; count = count; epochs = epochs })
windows_read law before count epochs low few inside =
    let back : before + 1 - 1 ≡ before = omega arith in
    let made : Option PartWindows = Some (record { before = before + 1 - 1; count = count; epochs = epochs }) in
    let tests : (nat_le (before + 1 + count) (epochs + 1)) ≡ true = le-leb (before + 1 + count) (epochs + 1) (omega (arith, inside)) in
    ap (λ number. windows_with number (small_number_of (decimal count)) (small_number_of (decimal epochs))) (number_read law (before + 1) (omega (arith, inside, few)))
    ∙ ap (λ number. windows_with (Some (before + 1)) number (small_number_of (decimal epochs))) (number_read law count (omega (arith, inside, few)))
    ∙ ap (λ number. windows_with (Some (before + 1)) (Some count) number) (number_read law epochs (omega (arith, few)))
    ∙ ap (λ test. if test && (nat_le epochs 4096 && (nat_le 1 (before + 1) && nat_le (before + 1 + count) (epochs + 1))) then made else None) (le-leb 1 epochs low)
    ∙ ap (λ test. if test && (nat_le 1 (before + 1) && nat_le (before + 1 + count) (epochs + 1)) then made else None) (le-leb epochs 4096 few)
    ∙ ap (λ test. if test && nat_le (before + 1 + count) (epochs + 1) then made else None) (le-leb 1 (before + 1) (omega arith))
    ∙ ap (λ test. if test then made else None) tests
    ∙ ap (λ n. Some (record { before = n; count = count; epochs = epochs })) back

-- lines that spell a part are read as it
pub spelled_is_read : OneSpelling → (last : ℕ) (lines : List Line) (s : Shard) → Spells lines s → shard_of last lines ≡ Ok s
spelled_is_read law last lines s is =
    let parts = parted lines (codes "gpshard" ∷ codes "1" ∷ []) (codes "part" ∷ decimal s.part ∷ decimal s.parts ∷ [])
    (codes "windows" ∷ decimal (s.before + 1) ∷ decimal s.count ∷ decimal s.epochs ∷ []) is.words in
    let kept = is.kept in
    let all : List Line = parts.a ∷ parts.b ∷ parts.c ∷ [] in
    let number : PartNumber = record { part = s.part; parts = s.parts } in
    let windows : PartWindows = record { before = s.before; count = s.count; epochs = s.epochs } in
    let head : head_of last (Some parts.a) ≡ Ok tt = ap (λ words. if is_head words then Ok tt else Err (bad.Line parts.a.number)) parts.first in
    let second : field_of last part_of (Some parts.b) ≡ Ok number =
    ap (or_refusal (bad.Line parts.b.number)) (ap part_of parts.second ∙ part_read law s.part s.parts kept.part.0 kept.part.1 kept.parts) in
    let third : field_of last windows_of (Some parts.c) ≡ Ok windows =
    ap (or_refusal (bad.Line parts.c.number)) (ap windows_of parts.third ∙ windows_read law s.before s.count s.epochs kept.epochs.0 kept.epochs.1 kept.inside) in
    ap (shard_of last) parts.all
    ∙ ap (λ first. and_then first (λ head. behind_head last all)) head
    ∙ ap (λ found. and_then found (behind_part last all)) second
    ∙ ap (λ found. and_then found (behind_windows all number)) third

-- what is read keeps its rules
pub read_keeps : OneSpelling → (bytes : List ℕ) (s : Shard) → shard_of_text bytes ≡ Ok s → IsShard s
read_keeps law bytes s is = at (lines_of bytes) refl is
  where
    at : (found : Result (List Line) _) → lines_of bytes ≡ found → shard_in (end_line_of bytes) found ≡ Ok s → IsShard s
    at (Ok lines) same read = (read_is_spelled law (end_line_of bytes) lines s read).kept
    at (Err fault) same read = cc

pub kept_if : ReadIsShard → (bytes : List ℕ) (lines : List Line) (made : Result Shard ShardFault)
    → Ok lines ≡ lines_of bytes → made ≡ shard_of (end_line_of bytes) lines → IfOk made IsShard
kept_if law bytes lines (Err fault) read is = tt
kept_if law bytes lines (Ok s) read is = law bytes s (ap (shard_in (end_line_of bytes)) (sym read) ∙ sym is)

-- Files in memory, of which one is written.
use Rattle.gp_outside.specs.Folders.{File, IsWritten, SameBut, file_named}
use Rattle.gp_outside.specs.MemoryFolders.{file_of, files_of, with_file}
use Rattle.std.proofs.Common.{arith, ◌≡◌, ◌∙◌, ◌+◌, ◌<◌, ◌++◌, ◌∷◌, [], Bool, List, None, Some, ap, false, get_or, length, refl, set, suc, sym, true, ℕ}
use Rattle.std.proofs.lemmas.Bool.{false_from_ne_true, false≢true, ltb-false}
use Rattle.std.proofs.lemmas.Slice.Eq.{bytes_eq-Decides}
use Rattle.std.proofs.lemmas.List.{map-append}
use Rattle.std.proofs.lemmas.List.Quantifiers.{position-Some}
use Rattle.std.specs.Global.{Global, Vec}
use Rattle.std.specs.List.{position, position_or_len}
use Rattle.std.specs.Prelude.{String, cond, if◌then◌else◌, nat_lt, string_bytes, zero, ◌≤◌}
use Rattle.std.specs.Str.{bytes_eq}

differs_too : (own name other : List ℕ) → bytes_eq own name ≡ true → bytes_eq other name ≡ false → bytes_eq own other ≡ false
differs_too own name other same differs =
    false_from_ne_true (bytes_eq own other) (λ equal.
    let is_name : own ≡ name = (bytes_eq-Decides own name).0 same in
    let is_other : own ≡ other = (bytes_eq-Decides own other).0 equal in
    false≢true (sym differs ∙ (bytes_eq-Decides other name).1 (sym is_other ∙ is_name)))

holds_by : (file : File) (files : List File) (name bytes : List ℕ) (is_named : Bool) → bytes_eq file.name name ≡ is_named
    → file_named (with_file files name bytes) name ≡ Some bytes
    → file_named (with_file (file ∷ files) name bytes) name ≡ Some bytes
holds_by file files name bytes true e rest = rw e (rw e refl)
holds_by file files name bytes false e rest = rw e (rw e rest)

holds : (files : List File) (name bytes : List ℕ) → file_named (with_file files name bytes) name ≡ Some bytes
holds [] name bytes = rw ((bytes_eq-Decides name name).1 refl) refl
holds (file ∷ files) name bytes = holds_by file files name bytes (bytes_eq file.name name) refl (holds files name bytes)

others_by : (file : File) (files : List File) (name bytes other : List ℕ) → bytes_eq other name ≡ false
    → (is_named : Bool) → bytes_eq file.name name ≡ is_named
    → file_named (with_file files name bytes) other ≡ file_named files other
    → file_named (with_file (file ∷ files) name bytes) other ≡ file_named (file ∷ files) other
others_by file files name bytes other differs true e rest =
    rw e (rw (differs_too file.name name other e differs) refl)
others_by file files name bytes other differs false e rest = rw e (rw rest refl)

others : (name bytes : List ℕ) (files : List File) → SameBut name files (with_file files name bytes)
others name bytes [] other differs =
    rw (differs_too name name other ((bytes_eq-Decides name name).1 refl) differs) refl
others name bytes (file ∷ files) other differs =
    others_by file files name bytes other differs (bytes_eq file.name name) refl (others name bytes files other differs)

-- the list with the file in it is what a write leaves
pub file_is_written : (files : List File) (name bytes : List ℕ) → IsWritten name bytes files (with_file files name bytes)
file_is_written files name bytes = record { holds = holds files name bytes; others = others name bytes files }

abbrev is_named : List ℕ → String Global × Vec ℕ → Bool
is_named name pair = bytes_eq (string_bytes pair.0) name

with_first : (b : Bool) (file : File) (files : List File) (name bytes : List ℕ) → bytes_eq file.name name ≡ b
    → with_file (file ∷ files) name bytes ≡ (if b then record file { bytes = bytes } ∷ files else file ∷ with_file files name bytes)
with_first b file files name bytes e = rw e refl

replaced_at : (pairs : List (String Global × Vec ℕ)) (name : List ℕ) (fresh : Vec ℕ) (place : ℕ) (d : String Global × Vec ℕ)
    → place < length pairs
    → is_named name (get_or pairs place d) ≡ true
    → ((k : ℕ) → k < place → is_named name (get_or pairs k d) ≡ false)
    → files_of (set pairs place ((get_or pairs place d).0, fresh)) ≡ with_file (files_of pairs) name fresh.items
replaced_at [] name fresh place d bound here before = absurd (omega (arith, bound))
replaced_at (pair ∷ pairs) name fresh zero d bound here before =
    sym (with_first true (file_of pair) (files_of pairs) name fresh.items here)
replaced_at (pair ∷ pairs) name fresh (suc place) d bound here before =
    ap (λ (files : List File). file_of pair ∷ files)
    (replaced_at pairs name fresh place d (omega arith) here (λ k low. before (suc k) (omega arith)))
    ∙ sym (with_first false (file_of pair) (files_of pairs) name fresh.items (before 0 (omega arith)))

-- the first file of that name got the bytes
pub replaced : (pairs : List (String Global × Vec ℕ)) (name : List ℕ) (fresh : Vec ℕ) (place : ℕ) (old : String Global × Vec ℕ)
    → position (λ pair. bytes_eq (string_bytes pair.0) name) pairs ≡ Some place → old ≡ get_or pairs place old
    → files_of (set pairs place (old.0, fresh)) ≡ with_file (files_of pairs) name fresh.items
replaced pairs name fresh place old found is_old =
    let first = position-Some (is_named name) pairs place old found in
    ap (λ (name_of : String Global × Vec ℕ). files_of (set pairs place (name_of.0, fresh))) is_old
    ∙ replaced_at pairs name fresh place old first.0 first.1 first.2

none_before : (m n : ℕ) (b : Bool) → nat_lt m n ≡ b → cond b (Some m) None ≡ None → n ≤ m
none_before m n true e none = absurd (cc)
none_before m n false e none = ltb-false m n e

added_by : (b : Bool) (pair : String Global × Vec ℕ) (pairs : List (String Global × Vec ℕ)) (name : List ℕ)
    → is_named name pair ≡ b → length (pair ∷ pairs) ≤ position_or_len (is_named name) (pair ∷ pairs)
    → (is_named name pair ≡ false) × (length pairs ≤ position_or_len (is_named name) pairs)
added_by true pair pairs name e none =
    let here : position_or_len (is_named name) (pair ∷ pairs) ≡ 0 = rw e refl in
    absurd (omega (arith, none, here))
added_by false pair pairs name e none =
    let later : position_or_len (is_named name) (pair ∷ pairs) ≡ 1 + position_or_len (is_named name) pairs = rw e refl in
    (e, omega (arith, none, later))

added_at : (pairs : List (String Global × Vec ℕ)) (name bytes : List ℕ)
    → length pairs ≤ position_or_len (is_named name) pairs
    → files_of pairs ++ (record { name = name; bytes = bytes } ∷ []) ≡ with_file (files_of pairs) name bytes
added_at [] name bytes none = refl
added_at (pair ∷ pairs) name bytes none =
    let later = added_by (is_named name pair) pair pairs name refl none in
    ap (λ (files : List File). file_of pair ∷ files) (added_at pairs name bytes later.1)
    ∙ sym (with_first false (file_of pair) (files_of pairs) name bytes later.0)

-- a file of a new name came to the end
pub added : (pairs more : List (String Global × Vec ℕ)) (name : List ℕ) (entry : String Global × Vec ℕ)
    → position (λ pair. bytes_eq (string_bytes pair.0) name) pairs ≡ None → string_bytes entry.0 ≡ name
    → more ≡ pairs ++ entry ∷ []
    → files_of more ≡ with_file (files_of pairs) name entry.1.items
added pairs more name entry none named grown =
    let past = none_before (position_or_len (is_named name) pairs) (length pairs) _ refl none in
    ap files_of grown ∙ map-append file_of pairs (entry ∷ [])
    ∙ ap (λ (own : List ℕ). files_of pairs ++ (record { name = own; bytes = entry.1.items } ∷ [])) named
    ∙ added_at pairs name entry.1.items past

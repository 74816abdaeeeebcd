-- Properties are read as they are written.
use Rattle.std.proofs.Common.{◌≡◌, refl, sym, ap, ◌∙◌, subst, ℕ, zero, suc, ◌≤◌, Bool, true, false, cond, List, [], ◌∷◌, ◌++◌, length, codes, decimal, Ok, append_assoc, arith}
use Rattle.std.specs.Prelude.{Option, Some, None, nat_le}
use Rattle.std.specs.List.{AllByRecursion, flat_map}
use Rattle.std.specs.Str.{bytes_eq}
use Rattle.std.proofs.lemmas.Bool.{le-leb, leb-true}
use Rattle.gp_text.specs.declared.line.Line.{Line}
use Rattle.gp_text.specs.Name.{is_name, name_of}
use Rattle.gp_text.specs.Numbers.{OneSpelling, number_of}
use Rattle.gp_window.specs.EventIds.{EventIdsReadExactly}
use Rattle.gp_report.specs.Records.{PropertyBody, PropertyRecord}
use Rattle.gp_report.specs.declared.record.PropertyBodyOf.TheVariants.{TooMany, Entries}
use Rattle.gp_report.specs.Entries.{entries_in}
use Rattle.gp_report.specs.Printed.{count_word, entries_lines, property_lines}
use Rattle.gp_report.specs.Reading.{◌>>=◌, begins_with, entry_count, is_at, name_and_count, next_line, read_body, read_entries, read_properties, read_property, some_entries, told_by, with_front}
use Rattle.gp_report.proofs.AnswersAgain.{entries_again}
use Rattle.gp_report.proofs.AnswersRead.{EntryIs, chosen_was, entries_was}
use Rattle.gp_report.proofs.NumbersRead.{both_was, same_bytes, told_again, told_was}
use Rattle.gp_report.proofs.StepsRead.{WereRead, front_takes, front_was}
use Rattle.gp_report.proofs.Taking.{Again, Next, Takes, bind_ok, fewer_left, next_again, next_was, ok_is, words_in}
use Rattle.gp_report.proofs.WordsRead.{number_words, some_if}

abbrev pub BodyIs : PropertyBody → Type 0
BodyIs TooMany = Unit {0}
BodyIs (Entries entries) = (length entries ≤ 10000) × AllByRecursion EntryIs entries

-- a property that can be told and read again
pub record PropertyIs (property : PropertyRecord) : Type 0 where
  pub name : is_name property.name ≡ true
  pub body : BodyIs property.body

-- these are the lines of a property's entries, and this word tells how many there are
record BodyWas (word : List ℕ) (lines : List Line) (body : PropertyBody) (left : List Line) : Type 0 where
  counts : word ≡ count_word body
  takes : Takes lines (entries_lines 0 (entries_in body)) left
  is : BodyIs body

some_entries_was : (number : Option ℕ) (count : Option ℕ) → some_entries number ≡ Some count → (n : ℕ) × (number ≡ Some n) × (count ≡ Some n) × (n ≤ 10000)
some_entries_was None count e = absurd (cc)
some_entries_was (Some n) count e =
    let is = some_if (nat_le n 10000) (Some n) count e in
    (n, refl, sym is.1, leb-true n 10000 is.0)

body_was : OneSpelling → EventIdsReadExactly → (end : ℕ) (count : Option ℕ) (word : List ℕ) (lines : List Line) (y : PropertyBody × List Line) → entry_count word ≡ Some count → read_body end count lines ≡ Ok y
    → BodyWas word lines y.0 y.1
body_was spelled exactly end None word lines y counted e = at (bytes_eq word (codes "toomany")) refl counted
  where
    at : (same : Bool) → bytes_eq word (codes "toomany") ≡ same → cond same (Some None) (some_entries (number_of word)) ≡ Some None → BodyWas word lines y.0 y.1
    at true is counted =
        subst (λ (z : PropertyBody × List Line). BodyWas word lines z.0 z.1) {x = (TooMany, lines)} (ok_is (TooMany, lines) y e)
        (record { counts = same_bytes word (codes "toomany") is; takes = refl; is = tt })
    at false is counted =
        let from = some_entries_was (number_of word) None counted in
        let none : None ≡ Some from.0 = from.2 in
        absurd (cc)
body_was spelled exactly end (Some n) word lines y counted e = at (bytes_eq word (codes "toomany")) counted
  where
    at : (same : Bool) → cond same (Some None) (some_entries (number_of word)) ≡ Some (Some n) → BodyWas word lines y.0 y.1
    at true counted = absurd (cc)
    at false counted =
        let from = some_entries_was (number_of word) (Some n) counted in
        let same : Some n ≡ Some from.0 = from.2 in
        let number : n ≡ from.0 = cc in
        let a = bind_ok (read_entries end 0 n lines) (λ entries. Ok (Entries entries.0, entries.1)) y e in
        let was = entries_was spelled exactly end 0 n lines a.0 a.1 in
        let size : from.0 ≡ length a.0.0 = sym number ∙ sym was.2 in
        let spelling = ((number_words spelled).was word from.0 from.1).0 in
        subst (λ (z : PropertyBody × List Line). BodyWas word lines z.0 z.1) {x = (Entries a.0.0, a.0.1)} (ok_is (Entries a.0.0, a.0.1) y a.2) (record {
          counts = spelling ∙ ap decimal size;
          takes = was.0;
          is = (rw (← size) from.3, was.1);
        })

-- a name, and the word of a count
record NameWas (behind : List (List ℕ)) (told : List ℕ × Option ℕ) : Type 0 where
  word : List ℕ
  is : behind ≡ told.0 ∷ word ∷ []
  named : is_name told.0 ≡ true
  counted : entry_count word ≡ Some told.1

name_was : (behind : List (List ℕ)) (told : List ℕ × Option ℕ) → name_and_count behind ≡ Some told → NameWas behind told
name_was [] told e = absurd (cc)
name_was (name ∷ []) told e = absurd (cc)
name_was (name ∷ count ∷ []) told e =
    let parts = both_was (name_of name) (entry_count count) told e in
    let named = some_if (is_name name) name told.0 parts.0 in
    record {
      word = count;
      is = ap (λ n. n ∷ count ∷ []) named.1;
      named = ap is_name (sym named.1) ∙ named.0;
      counted = parts.1;
    }
name_was (name ∷ count ∷ more ∷ words) told e = absurd (cc)

-- a property that is read was written
pub property_was : OneSpelling → EventIdsReadExactly → (end : ℕ) (lines : List Line) (y : PropertyRecord × List Line) → read_property end lines ≡ Ok y → Takes lines (property_lines y.0) y.1 × PropertyIs y.0
unfolding read_property
property_was spelled exactly end lines y e =
    let a = bind_ok (next_line end lines) (λ line. told_by (codes "property") name_and_count line.0 >>= λ told. read_body end told.1 line.1 >>= λ body. Ok (record { name = told.0; body = body.0 }, body.1)) y e in
    let b = bind_ok (told_by (codes "property") name_and_count a.0.0) (λ told. read_body end told.1 a.0.1 >>= λ body. Ok (record { name = told.0; body = body.0 }, body.1)) y a.2 in
    let c = bind_ok (read_body end b.0.1 a.0.1) (λ body. Ok (record { name = b.0.0; body = body.0 }, body.1)) y b.2 in
    let first = next_was end lines a.0 a.1 in
    let told = told_was (codes "property") name_and_count a.0.0 b.0 b.1 in
    let name = name_was told.behind b.0 told.tells in
    let body = body_was spelled exactly end b.0.1 name.word a.0.1 c.0 name.counted c.1 in
    let head : a.0.0.words ≡ codes "property" ∷ b.0.0 ∷ count_word c.0.0 ∷ [] =
    told.is ∙ ap (λ ws. codes "property" ∷ ws) (name.is ∙ ap (λ w. b.0.0 ∷ w ∷ []) body.counts) in
    let made : PropertyRecord × List Line = (record { name = b.0.0; body = c.0.0 }, c.0.1) in
    subst (λ (z : PropertyRecord × List Line). Takes lines (property_lines z.0) z.1 × PropertyIs z.0) {x = made} (ok_is made y c.2) (
      ap words_in first ∙ ap (λ v. v ∷ words_in a.0.1) head ∙ ap (λ vs. (codes "property" ∷ b.0.0 ∷ count_word c.0.0 ∷ []) ∷ vs) body.takes,
      record { name = name.named; body = body.is },
    )

-- properties that are read were written
pub properties_was : OneSpelling → EventIdsReadExactly → (end most : ℕ) (lines : List Line) (y : List PropertyRecord × List Line) → read_properties end most lines ≡ Ok y
    → WereRead property_lines PropertyIs lines y.0 y.1
properties_was spelled exactly end zero lines y e =
    subst (λ (z : List PropertyRecord × List Line). WereRead property_lines PropertyIs lines z.0 z.1) {x = ([], lines)} (ok_is ([], lines) y e) (refl, tt)
properties_was spelled exactly end (suc most) lines y e =
    let P : List PropertyRecord × List Line → Type 0 = λ z. WereRead property_lines PropertyIs lines z.0 z.1 in
    chosen_was (is_at (codes "property") lines) (read_property end lines >>= λ property. with_front (property.0 ∷ []) (read_properties end most property.1)) (Ok ([], lines)) P y e
    (λ f.
    let a = bind_ok (read_property end lines) (λ property. with_front (property.0 ∷ []) (read_properties end most property.1)) y f in
    let first = property_was spelled exactly end lines a.0 a.1 in
    let b = front_was (a.0.0 ∷ []) (read_properties end most a.0.1) y a.2 in
    let others = properties_was spelled exactly end most a.0.1 b.0 b.1 in
    subst P {x = (a.0.0 ∷ b.0.0, b.0.1)} b.2 (front_takes property_lines PropertyIs lines a.0.1 b.0.1 a.0.0 b.0.0 first.0 first.1 others))
    (λ f. subst P {x = ([], lines)} (ok_is ([], lines) y f) (refl, tt))

-- whether the first of these lines begins with this keyword
abbrev pub words_at : List ℕ → List (List (List ℕ)) → Bool
words_at keyword [] = false
words_at keyword (words ∷ lines) = begins_with keyword words

pub at_words : (keyword : List ℕ) (lines : List Line) (words : List (List (List ℕ))) → words_in lines ≡ words → is_at keyword lines ≡ words_at keyword words
at_words keyword [] words e = ap (words_at keyword) e
at_words keyword (line ∷ lines) words e = ap (words_at keyword) e

body_again : OneSpelling → EventIdsReadExactly → (end : ℕ) (lines : List Line) (body : PropertyBody) (rest : List (List (List ℕ))) → BodyIs body → words_in lines ≡ entries_lines 0 (entries_in body) ++ rest
    → (count : Option ℕ) × (entry_count (count_word body) ≡ Some count) × Again (read_body end count lines) body rest
body_again spelled exactly end lines TooMany rest is words = (None, refl, record { left = lines; is = refl; words = words })
body_again spelled exactly end lines (Entries entries) rest is words =
    let again = entries_again spelled exactly end 0 lines entries rest (omega (arith, is.0)) is.1 words in (
      Some (length entries),
      counted (bytes_eq (decimal (length entries)) (codes "toomany")) refl,
      record { left = again.left; is = rw again.is refl; words = again.words },
    )
  where
    number : number_of (decimal (length entries)) ≡ Some (length entries)
    number = (number_words spelled).again (length entries) (omega (arith, is.0))

    counted : (same : Bool) → bytes_eq (decimal (length entries)) (codes "toomany") ≡ same → cond same (Some None) (some_entries (number_of (decimal (length entries)))) ≡ Some (Some (length entries))
    counted true same =
        let word : decimal (length entries) ≡ codes "toomany" = same_bytes (decimal (length entries)) (codes "toomany") same in
        let none : number_of (codes "toomany") ≡ Some (length entries) = ap number_of (sym word) ∙ number in
        absurd (cc)
    counted false same = rw (number, le-leb (length entries) 10000 is.0) refl

-- a property that is written is read
property_again : OneSpelling → EventIdsReadExactly → (end : ℕ) (lines : List Line) (property : PropertyRecord) (rest : List (List (List ℕ))) → PropertyIs property → words_in lines ≡ property_lines property ++ rest
    → Again (read_property end lines) property rest
unfolding read_property
property_again spelled exactly end lines property rest is words =
    let word = count_word property.body in
    let head = codes "property" ∷ property.name ∷ word ∷ [] in
    let first : Next lines head (entries_lines 0 (entries_in property.body) ++ rest) = next_again lines head (entries_lines 0 (entries_in property.body) ++ rest) words in
    let body = body_again spelled exactly end first.left property.body rest is.body first.behind in
    let named = is.name in
    let counted = body.1 in
    let both_told : name_and_count (property.name ∷ word ∷ []) ≡ Some (property.name, body.0) = rw (named, counted) refl in
    let told : told_by (codes "property") name_and_count first.line ≡ Ok (property.name, body.0) =
    told_again (codes "property") name_and_count first.line (property.name, body.0) (property.name ∷ word ∷ []) first.words both_told in
    record {
      left = body.2.left;
      is = ap (read_property end) first.is ∙ rw (told, body.2.is) refl;
      words = body.2.words;
    }

-- properties that are written are read
pub properties_again : OneSpelling → EventIdsReadExactly → (end most : ℕ) (lines : List Line) (properties : List PropertyRecord) (rest : List (List (List ℕ)))
    → length lines ≤ most → words_at (codes "property") rest ≡ false → AllByRecursion PropertyIs properties → words_in lines ≡ flat_map property_lines properties ++ rest
    → Again (read_properties end most lines) properties rest
properties_again spelled exactly end zero lines [] rest few other are words = record { left = lines; is = refl; words = words }
properties_again spelled exactly end (suc most) lines [] rest few other are words =
    let ends : is_at (codes "property") lines ≡ false = at_words (codes "property") lines rest words ∙ other in
    record { left = lines; is = rw ends refl; words = words }
properties_again spelled exactly end zero [] (property ∷ properties) rest few other are words = absurd (cc)
properties_again spelled exactly end zero (line ∷ lines) (property ∷ properties) rest few other are words = absurd (omega arith)
properties_again spelled exactly end (suc most) lines (property ∷ properties) rest few other are words =
    let behind = flat_map property_lines properties ++ rest in
    let split : words_in lines ≡ property_lines property ++ behind = words ∙ append_assoc (property_lines property) (flat_map property_lines properties) rest in
    let begins : is_at (codes "property") lines ≡ true = at_words (codes "property") lines (property_lines property ++ behind) split in
    let first = property_again spelled exactly end lines property behind are.0 split in
    let takes : Takes lines (property_lines property) first.left = split ∙ ap (λ vs. property_lines property ++ vs) (sym first.words) in
    let fewer : length first.left ≤ most = omega (arith, fewer_left lines first.left (codes "property" ∷ property.name ∷ count_word property.body ∷ []) (entries_lines 0 (entries_in property.body)) takes) in
    let others = properties_again spelled exactly end most first.left properties rest fewer other are.1 first.words in
    record {
      left = others.left;
      is = rw (begins, first.is, others.is) refl;
      words = others.words;
    }

-- Nothing in an escaped text is read as markup.
use Rattle.std.proofs.Common.{ℕ, ◌≡◌, ◌≢◌, refl, ap, sym, ◌∙◌, arith, Bool, true, false, List, [], ◌∷◌, ◌++◌, eq-eqb}
use Rattle.std.specs.Prelude.{◌==◌, ◌||◌, codes, Contains, if◌then◌else◌}
use Rattle.std.specs.List.{AllByRecursion}
use Rattle.std.proofs.lemmas.Bool.{false≢true}
use Rattle.gp_base.specs.ListLaws.{contains_from_flat_map, recursion_at}
use Rattle.gp_drawing.specs.Escaped.{BeginsWithEntity, entities, escape_of, escaped}

-- an angle bracket or a quote
abbrev is_bracket_or_quote : ℕ → Bool
is_bracket_or_quote byte = byte == 60 || (byte == 62 || (byte == 34 || byte == 39))

abbrev IsPlain : ℕ → Type 0
IsPlain byte = is_bracket_or_quote byte ≡ false

none_of_four : (a b c d : Bool) → a ≡ false → b ≡ false → c ≡ false → d ≡ false → (a || (b || (c || d))) ≡ false
none_of_four a b c d p q r s = rw (p, q, r, s) refl

-- what stands for a byte is plain
plain_escape : (byte : ℕ) → AllByRecursion IsPlain (escape_of byte)
plain_escape byte = by (byte == 38) (byte == 60) (byte == 62) (byte == 34) (byte == 39) refl refl refl refl
  where
    by : (a b c d e : Bool) → (byte == 60) ≡ b → (byte == 62) ≡ c → (byte == 34) ≡ d → (byte == 39) ≡ e
        → AllByRecursion IsPlain (if a then codes "&amp;" else (if b then codes "&lt;" else (if c then codes "&gt;" else (if d then codes "&quot;" else (if e then codes "&#39;" else byte ∷ [])))))
    by true b c d e p q r s = (refl, (refl, (refl, (refl, (refl, tt)))))
    by false true c d e p q r s = (refl, (refl, (refl, (refl, tt))))
    by false false true d e p q r s = (refl, (refl, (refl, (refl, tt))))
    by false false false true e p q r s = (refl, (refl, (refl, (refl, (refl, (refl, tt))))))
    by false false false false true p q r s = (refl, (refl, (refl, (refl, (refl, tt)))))
    by false false false false false p q r s = (none_of_four (byte == 60) (byte == 62) (byte == 34) (byte == 39) p q r s, tt)

plain_byte : (text : List ℕ) (byte : ℕ) → Contains (escaped text) byte → IsPlain byte
plain_byte text byte i =
    let told = contains_from_flat_map escape_of text byte i in recursion_at IsPlain (escape_of told.0) byte (plain_escape told.0) told.2

-- a plain byte is none of the four
apart : (byte other : ℕ) → is_bracket_or_quote other ≡ true → IsPlain byte → byte ≢ other
apart byte other bad plain same = false≢true (sym plain ∙ ap is_bracket_or_quote same ∙ bad)

pub no_bracket : (text : List ℕ) (byte : ℕ) → Contains (escaped text) byte → (byte ≢ 60) × (byte ≢ 62)
no_bracket text byte i = let plain = plain_byte text byte i in (apart byte 60 refl plain, apart byte 62 refl plain)

pub no_quote : (text : List ℕ) (byte : ℕ) → Contains (escaped text) byte → (byte ≢ 34) × (byte ≢ 39)
no_quote text byte i = let plain = plain_byte text byte i in (apart byte 34 refl plain, apart byte 39 refl plain)

-- where `&` stands, one of the entities begins
abbrev HasEntities : List ℕ → Type 0
HasEntities text = (front back : List ℕ) → text ≡ front ++ 38 ∷ back → BeginsWithEntity (38 ∷ back)

abbrev IsOther : ℕ → Type 0
IsOther byte = (byte == 38) ≡ false

-- one byte more that is no `&`
other_first : (byte : ℕ) (text : List ℕ) → IsOther byte → HasEntities text → HasEntities (byte ∷ text)
other_first byte text other all [] back is =
    let same : byte ≡ 38 = cc in absurd (false≢true (sym other ∙ eq-eqb byte 38 same))
other_first byte text other all (first ∷ front) back is = let rest : text ≡ front ++ 38 ∷ back = cc in all front back rest

others_first : (bytes text : List ℕ) → AllByRecursion IsOther bytes → HasEntities text → HasEntities (bytes ++ text)
others_first [] text others all = all
others_first (byte ∷ bytes) text others all = other_first byte (bytes ++ text) others.0 (others_first bytes text others.1 all)

-- one entity more
entity_first : (bytes text : List ℕ) → Contains entities (38 ∷ bytes) → AllByRecursion IsOther bytes → HasEntities text → HasEntities (38 ∷ bytes ++ text)
entity_first bytes text known others all [] back is = (38 ∷ bytes, text, known, sym is)
entity_first bytes text known others all (first ∷ front) back is =
    let rest : bytes ++ text ≡ front ++ 38 ∷ back = cc in others_first bytes text others all front back rest

byte_first : (byte : ℕ) (text : List ℕ) → HasEntities text → HasEntities (escape_of byte ++ text)
byte_first byte text all = by (byte == 38) (byte == 60) (byte == 62) (byte == 34) (byte == 39) refl
  where
    by : (a b c d e : Bool) → (byte == 38) ≡ a
        → HasEntities ((if a then codes "&amp;" else (if b then codes "&lt;" else (if c then codes "&gt;" else (if d then codes "&quot;" else (if e then codes "&#39;" else byte ∷ []))))) ++ text)
    by true b c d e is = entity_first (codes "amp;") text (0, omega arith, refl) (refl, (refl, (refl, (refl, tt)))) all
    by false true c d e is = entity_first (codes "lt;") text (1, omega arith, refl) (refl, (refl, (refl, tt))) all
    by false false true d e is = entity_first (codes "gt;") text (2, omega arith, refl) (refl, (refl, (refl, tt))) all
    by false false false true e is = entity_first (codes "quot;") text (3, omega arith, refl) (refl, (refl, (refl, (refl, (refl, tt))))) all
    by false false false false true is = entity_first (codes "#39;") text (4, omega arith, refl) (refl, (refl, (refl, (refl, tt)))) all
    by false false false false false is = other_first byte text is all

pub entities_begin : (text : List ℕ) → HasEntities (escaped text)
entities_begin [] [] back is = cc
entities_begin [] (first ∷ front) back is = cc
entities_begin (byte ∷ text) front back is = byte_first byte (escaped text) (entities_begin text) front back is

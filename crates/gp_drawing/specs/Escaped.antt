-- Text as it stands in a page: five bytes would be read as markup, and are written as entities.
use Rattle.std.specs.Prelude.{◌≡◌, ◌≢◌, ℕ, ◌==◌, List, [], ◌∷◌, ◌++◌, codes, Contains, if◌then◌else◌}
use Rattle.std.specs.List.{flat_map}

-- a byte, or its entity: 38 is `&`, 60 and 62 are the angle brackets, 34 and 39 the quotes
abbrev pub escape_of : ℕ → List ℕ
escape_of byte =
    if byte == 38 then codes "&amp;" else
    (if byte == 60 then codes "&lt;" else
    (if byte == 62 then codes "&gt;" else
    (if byte == 34 then codes "&quot;" else
    (if byte == 39 then codes "&#39;" else byte ∷ []))))

-- a text as it stands in a page
abbrev pub escaped : List ℕ → List ℕ
escaped text = flat_map escape_of text

-- the entities
abbrev pub entities : List (List ℕ)
entities = codes "&amp;" ∷ codes "&lt;" ∷ codes "&gt;" ∷ codes "&quot;" ∷ codes "&#39;" ∷ []

-- an entity stands at the head of these bytes
abbrev pub BeginsWithEntity : List ℕ → Type 0
BeginsWithEntity bytes = (entity rest : List ℕ) × Contains entities entity × (bytes ≡ entity ++ rest)

-- nothing in an escaped text is read as markup
pub record EscapedIsPlain : Type 0 where
  -- there is no angle bracket and no quote in it
  pub brackets : (text : List ℕ) (byte : ℕ) → Contains (escaped text) byte → (byte ≢ 60) × (byte ≢ 62)
  pub quotes : (text : List ℕ) (byte : ℕ) → Contains (escaped text) byte → (byte ≢ 34) × (byte ≢ 39)
  -- where `&` stands, one of the entities begins
  pub ampersands : (text front back : List ℕ) → escaped text ≡ front ++ 38 ∷ back → BeginsWithEntity (38 ∷ back)

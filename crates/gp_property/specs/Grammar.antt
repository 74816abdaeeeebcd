-- Which lines spell which properties, and that this is what the reader reads.
use Rattle.std.specs.Prelude.{◌≡◌, ◌↔◌, ◌≤◌, ℕ, false, List, [], ◌∷◌, ◌++◌, length, map, Ok}
use Rattle.std.specs.List.{AllByRecursion}
use Rattle.gp_text.specs.Spelling.{spelling}
use Rattle.gp_text.specs.declared.line.Line.{Line}
use Rattle.gp_property.specs.Property.{IsProperty}
use Rattle.gp_property.specs.PropertyForm.{PropertyForm}
use Rattle.gp_property.specs.Reading.{is_taken, properties_from, properties_of}
use Rattle.gp_property.specs.Words.{property_lines}

-- no property has the name of one before it
abbrev pub AreNew : List PropertyForm → List PropertyForm → Type 0
AreNew before [] = Unit {0}
AreNew before (property ∷ properties) = (is_taken before property.name ≡ false) × AreNew (before ++ property ∷ []) properties

-- the lines of these properties, one property after another
abbrev pub lines_of_all : List PropertyForm → List (List (List ℕ))
lines_of_all [] = []
lines_of_all (property ∷ properties) = property_lines property ++ lines_of_all properties

-- the lines spell these properties: 1 to 64 of them, each of the language and of a name of its own
pub record Spells (lines : List Line) (properties : List PropertyForm) : Type 0 where
  pub words : map (λ line. line.words) lines ≡ lines_of_all properties
  pub some : 1 ≤ length properties
  pub most : length properties ≤ 64
  pub apart : AreNew [] properties
  pub each : AllByRecursion IsProperty properties

-- the reader reads properties exactly where the lines spell them
abbrev pub ReadsExactly : Type 0
ReadsExactly = (last : ℕ) (lines : List Line) (properties : List PropertyForm)
    → (properties_from last lines ≡ Ok properties) ↔ Spells lines properties

-- the lines of a property of the language are read as this property alone
abbrev pub PropertyAgain : Type 0
PropertyAgain = (property : PropertyForm) → IsProperty property → properties_of (spelling (property_lines property)) ≡ Ok (property ∷ [])

-- JSON values, and the text of a value: no space and no newline stands between its parts.
use Rattle.std.specs.Prelude.{ℕ, zero, suc, ◌+◌, Bool, true, false, List, [], ◌∷◌, ◌++◌, codes, decimal}
use Rattle.gp_json.specs.Strings.{string_text}

mutual
  -- a value; its numbers have no sign and no fraction, and a string is told by its characters, each of them below 256
  pub data Json : Type 0 where
    Null : Json
    Flag : Bool → Json
    Number : ℕ → Json
    Text : List ℕ → Json
    Array : Elements → Json
    Object : Members → Json

  -- what stands in an array
  pub data Elements : Type 0 where
    no_element : Elements
    element : Json → Elements → Elements

  -- what stands in an object: a name, and its value
  pub data Members : Type 0 where
    no_member : Members
    member : List ℕ → Json → Members → Members

-- what stands before a part before which so many others stand
abbrev pub comma : ℕ → List ℕ
comma zero = []
comma (suc before) = codes ","

-- a truth value
abbrev pub flag_text : Bool → List ℕ
flag_text true = codes "true"
flag_text false = codes "false"

-- the name of a member
abbrev pub name_text : List ℕ → List ℕ
name_text name = string_text name ++ codes ":"

abbrev mutual
  -- the text of a value
  pub json_text : Json → List ℕ
  json_text Null = codes "null"
  json_text (Flag flag) = flag_text flag
  json_text (Number number) = decimal number
  json_text (Text characters) = string_text characters
  json_text (Array elements) = codes "[" ++ elements_text 0 elements ++ codes "]"
  json_text (Object members) = codes "{" ++ members_text 0 members ++ codes "}"

  -- the texts of elements before which so many others stand
  pub elements_text : ℕ → Elements → List ℕ
  elements_text before no_element = []
  elements_text before (element json rest) = comma before ++ json_text json ++ elements_text (before + 1) rest

  -- the texts of members before which so many others stand
  pub members_text : ℕ → Members → List ℕ
  members_text before no_member = []
  members_text before (member name json rest) = comma before ++ name_text name ++ json_text json ++ members_text (before + 1) rest

-- the values of a list as what stands in an array
abbrev pub elements_of : List Json → Elements
elements_of [] = no_element
elements_of (json ∷ rest) = element json (elements_of rest)

-- an array of these values
abbrev pub array : List Json → Json
array values = Array (elements_of values)

-- a value with its name
pub record Named : Type 0 where
  pub name : List ℕ
  pub value : Json

abbrev pub named : List ℕ → Json → Named
named name value = record { name = name; value = value }

-- the members of a list as what stands in an object
abbrev pub members_of : List Named → Members
members_of [] = no_member
members_of (one ∷ rest) = member one.name one.value (members_of rest)

-- an object of these members
abbrev pub object : List Named → Json
object members = Object (members_of members)

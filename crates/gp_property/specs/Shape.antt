-- The words that define an event: its name, and the shape that it has to be of.
use Rattle.std.specs.Prelude.{ℕ, List, [], ◌∷◌, Option, Some, None, if◌then◌else◌, nat_le, length, codes}
use Rattle.std.specs.Str.{bytes_eq}
use Rattle.gp_text.specs.Name.{name_of}
use Rattle.gp_property.specs.declared.property.EventDef.{EventDef}
use Rattle.gp_property.specs.declared.property.Shape.{Shape}
use Rattle.gp_property.specs.declared.property.Shape.TheVariants.{Read, Write, Acquire, Release, Start, Join, Op, Begin, End}
use Rattle.gp_property.specs.declared.property.Term.{Term}
use Rattle.gp_property.specs.declared.property.ThreadTerm.{ThreadTerm}
use Rattle.gp_property.specs.declared.property.ValueTerm.{ValueTerm}
use Rattle.gp_property.specs.Term.{term_of, terms_of, thread_of, value_of}

-- `read A V` or `write A V`
abbrev pub access_of : List ℕ → Option Term → Option ValueTerm → Option Shape
access_of keyword (Some name) (Some value) =
    if bytes_eq keyword (codes "read") then Some (Read name value)
    else (if bytes_eq keyword (codes "write") then Some (Write name value) else None)
access_of keyword (Some name) None = None
access_of keyword None value = None

-- `start U` or `join U`
abbrev pub thread_shape_of : List ℕ → Option ThreadTerm → Option Shape
thread_shape_of keyword (Some thread) =
    if bytes_eq keyword (codes "start") then Some (Start thread)
    else (if bytes_eq keyword (codes "join") then Some (Join thread) else None)
thread_shape_of keyword None = None

-- `acquire A`, `release A`, `begin A` or `end A`
abbrev pub named_shape_of : List ℕ → Option Term → Option Shape
named_shape_of keyword (Some name) =
    if bytes_eq keyword (codes "acquire") then Some (Acquire name)
    else (if bytes_eq keyword (codes "release") then Some (Release name)
    else (if bytes_eq keyword (codes "begin") then Some (Begin name)
    else (if bytes_eq keyword (codes "end") then Some (End name) else None)))
named_shape_of keyword None = None

-- a shape where there is one, else the other
abbrev pub or_shape : Option Shape → Option Shape → Option Shape
or_shape (Some shape) other = Some shape
or_shape None other = other

-- the operation of this name on these objects
abbrev pub op_with : Option (List ℕ) → Option (List Term) → Option Shape
op_with (Some name) (Some objects) = Some (Op name objects)
op_with (Some name) None = None
op_with None objects = None

-- `op name` and up to four terms, by the words after the keyword
abbrev pub op_of : List (List ℕ) → Option Shape
op_of [] = None
op_of (name ∷ objects) = if nat_le (length objects) 4 then op_with (name_of name) (terms_of objects) else None

-- a shape that a keyword makes of one word, or of two
abbrev pub plain_shape_of : List ℕ → List (List ℕ) → Option Shape
plain_shape_of keyword (word ∷ []) =
    or_shape (thread_shape_of keyword (thread_of word)) (named_shape_of keyword (term_of word))
plain_shape_of keyword (name ∷ value ∷ []) = access_of keyword (term_of name) (value_of value)
plain_shape_of keyword _ = None

-- the shape that a keyword and the words after it spell
abbrev pub shape_of : List (List ℕ) → Option Shape
shape_of [] = None
shape_of (keyword ∷ words) = if bytes_eq keyword (codes "op") then op_of words else plain_shape_of keyword words

-- an event of this name and shape
abbrev pub definition_with : Option (List ℕ) → Option Shape → Option EventDef
definition_with (Some name) (Some shape) = Some (record { name = name; shape = shape })
definition_with (Some name) None = None
definition_with None shape = None

-- the event that a name and the words of a shape define
abbrev pub definition_of : List (List ℕ) → Option EventDef
definition_of [] = None
definition_of (name ∷ shape) = definition_with (name_of name) (shape_of shape)

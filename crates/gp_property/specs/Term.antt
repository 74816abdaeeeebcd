-- The words that stand for a name, a value or a thread in the shape of an event.
use Rattle.std.specs.Prelude.{ℕ, ℤ, ◌==◌, List, [], ◌∷◌, Option, Some, None, if◌then◌else◌, codes}
use Rattle.std.specs.Str.{bytes_eq}
use Rattle.gp_text.specs.Name.{name_of}
use Rattle.gp_text.specs.Numbers.{signed_of, small_number_of}
use Rattle.gp_property.specs.declared.property.Term.{Term}
use Rattle.gp_property.specs.declared.property.Term.TheVariants as term
use Rattle.gp_property.specs.declared.property.ValueTerm.{ValueTerm}
use Rattle.gp_property.specs.declared.property.ValueTerm.TheVariants as value
use Rattle.gp_property.specs.declared.property.ThreadTerm.{ThreadTerm}
use Rattle.gp_property.specs.declared.property.ThreadTerm.TheVariants as thread

-- this very name
abbrev pub is_with : Option (List ℕ) → Option Term
is_with (Some name) = Some (term.Is name)
is_with None = None

-- the parameter of this name
abbrev pub param_with : Option (List ℕ) → Option Term
param_with (Some name) = Some (term.Param name)
param_with None = None

-- a parameter after its `$`, else a name
abbrev pub named_term : List ℕ → Option Term
named_term [] = None
named_term (b ∷ bytes) = if b == 36 then param_with (name_of bytes) else is_with (name_of (b ∷ bytes))

-- the term that a word spells
abbrev pub term_of : List ℕ → Option Term
term_of word = if bytes_eq word (codes "*") then Some term.Any else named_term word

-- a term before further terms, where all of them are terms
abbrev pub with_term : Option Term → Option (List Term) → Option (List Term)
with_term (Some term) (Some terms) = Some (term ∷ terms)
with_term (Some term) None = None
with_term None terms = None

-- the words as terms, where each of them is one
abbrev pub terms_of : List (List ℕ) → Option (List Term)
terms_of [] = Some []
terms_of (word ∷ words) = with_term (term_of word) (terms_of words)

-- this very value
abbrev pub value_with : Option ℤ → Option ValueTerm
value_with (Some z) = Some (value.Is z)
value_with None = None

-- the value that a word spells, or any value
abbrev pub value_of : List ℕ → Option ValueTerm
value_of word = if bytes_eq word (codes "*") then Some value.Any else value_with (signed_of word)

-- the thread of this number
abbrev pub thread_with : Option ℕ → Option ThreadTerm
thread_with (Some n) = Some (thread.Is n)
thread_with None = None

-- the thread whose number a word spells, or any thread
abbrev pub thread_of : List ℕ → Option ThreadTerm
thread_of word = if bytes_eq word (codes "*") then Some thread.Any else thread_with (small_number_of word)

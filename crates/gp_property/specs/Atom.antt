-- The word that spells an atom: `event@threadvar`, and then `<N` or `>N` where it marks a region.
use Rattle.std.specs.Prelude.{ℕ, ◌-◌, ◌==◌, ◌&&◌, nat_le, List, [], ◌∷◌, Option, Some, None, if◌then◌else◌}
use Rattle.std.specs.List.{slice_split}
use Rattle.gp_text.specs.Name.{name_of}
use Rattle.gp_property.specs.declared.property.Atom.{Atom}

-- the number of a region, one digit from 1 to 9
abbrev pub region_of : List ℕ → Option ℕ
region_of (digit ∷ []) = if nat_le 49 digit && nat_le digit 57 then Some (digit - 48) else None
region_of _ = None

-- an atom that marks no region
abbrev pub plain_atom : Option (List ℕ) → Option (List ℕ) → Option Atom
plain_atom (Some event) (Some thread) = Some (record { event = event; thread_var = thread; opens = None; closes = None })
plain_atom (Some event) None = None
plain_atom None thread = None

-- an atom that opens the region of this number
abbrev pub opening_atom : Option (List ℕ) → Option (List ℕ) → Option ℕ → Option Atom
opening_atom (Some event) (Some thread) (Some n) = Some (record { event = event; thread_var = thread; opens = Some n; closes = None })
opening_atom (Some event) (Some thread) None = None
opening_atom (Some event) None number = None
opening_atom None thread number = None

-- an atom that closes the region of this number
abbrev pub closing_atom : Option (List ℕ) → Option (List ℕ) → Option ℕ → Option Atom
closing_atom (Some event) (Some thread) (Some n) = Some (record { event = event; thread_var = thread; opens = None; closes = Some n })
closing_atom (Some event) (Some thread) None = None
closing_atom (Some event) None number = None
closing_atom None thread number = None

-- the bytes between those of a kind
abbrev pub cut_at : ℕ → List ℕ → List (List ℕ)
cut_at at bytes = slice_split (λ b. b == at) bytes

-- two parts and no more
abbrev pub halves : List (List ℕ) → Option (List ℕ × List ℕ)
halves (front ∷ back ∷ []) = Some (front, back)
halves _ = None

-- the atom of an event and what follows its `@`, by the two sides of a `<` and of a `>` there
abbrev pub marked_atom : List ℕ → List ℕ → Option (List ℕ × List ℕ) → Option (List ℕ × List ℕ) → Option Atom
marked_atom event target (Some opening) closing = opening_atom (name_of event) (name_of opening.0) (region_of opening.1)
marked_atom event target None (Some closing) = closing_atom (name_of event) (name_of closing.0) (region_of closing.1)
marked_atom event target None None = plain_atom (name_of event) (name_of target)

-- the atom of an event and what follows its `@`
abbrev pub atom_with : Option (List ℕ × List ℕ) → Option Atom
atom_with (Some sides) = marked_atom sides.0 sides.1 (halves (cut_at 60 sides.1)) (halves (cut_at 62 sides.1))
atom_with None = None

-- the atom that a word spells
abbrev pub atom_of : List ℕ → Option Atom
atom_of word = atom_with (halves (cut_at 64 word))

use Rattle.std.specs.Prelude.{◌≡◌, ℕ, List, ◌++◌, take, Option, None, Some}

-- where the bytes written are told, the piece was appended to them
abbrev pub Appends : Option (List ℕ) → Option (List ℕ) → List ℕ → Type 0
Appends None new piece = Unit {0}
Appends (Some old) new piece = new ≡ Some (old ++ piece)

-- where the bytes written are told, a prefix of the piece was appended to them
abbrev pub AppendsFront : Option (List ℕ) → Option (List ℕ) → List ℕ → Type 0
AppendsFront None new piece = Unit {0}
AppendsFront (Some old) new piece = (k : ℕ) × (new ≡ Some (old ++ take k piece))

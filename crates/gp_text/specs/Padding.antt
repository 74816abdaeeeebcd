-- How a name's bytes stand in its fixed row: at the front, and zeros after them.
use Rattle.std.specs.Prelude.{◌≡◌, ℕ, ◌-◌, ◌≤◌, true, List, ◌++◌, length, take, drop, replicate}
use Rattle.std.proofs.Common.{arith, refl}
use Rattle.std.proofs.lemmas.List.{length-take-le, take-append-drop}
use Rattle.gp_text.specs.Name.{is_name}
use Rattle.gp_text.specs.declared.name.Name.TheInside.{Inside}

-- the bytes of the name
abbrev pub bytes_of : Inside → List ℕ
bytes_of n = take n.len n.bytes

-- the row has its size, the name fits in it, zeros follow it, and its bytes are a name
pub record IsPadded (n : Inside) : Type 0 where
  pub whole : length n.bytes ≡ 32
  pub fits : n.len ≤ 32
  pub zeros : drop n.len n.bytes ≡ replicate (32 - n.len) 0
  pub named : is_name (take n.len n.bytes) ≡ true

-- the row that holds these bytes
abbrev pub padded : List ℕ → Inside
padded bytes = record { bytes = bytes ++ replicate (32 - length bytes) 0; len = length bytes }

-- a name's row is made again from its bytes
pub padded-bytes_of : (n : Inside) → IsPadded n → padded (bytes_of n) ≡ n
padded-bytes_of n p =
    let len : length (take n.len n.bytes) ≡ n.len =
    length-take-le n.len n.bytes (omega (arith, p.whole, p.fits)) in
    rw (len, ← p.zeros, take-append-drop) refl

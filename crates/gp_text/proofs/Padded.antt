-- The row that a name is written to.
use Rattle.std.proofs.Common.{◌≡◌, ℕ, ◌≤◌, true, List, ◌++◌, length, length-append, drop, refl, arith}
use Rattle.std.specs.Prelude.{replicate}
use Rattle.std.proofs.lemmas.Bool.Decides.{nat_tests}
use Rattle.std.proofs.lemmas.List.{drop-replicate, length-replicate}
use Rattle.std.proofs.Math.Seq.{take-append_seam, drop-append_seam}
use Rattle.gp_text.specs.Name.{is_name}
use Rattle.gp_text.specs.Padding.{IsPadded}

-- a name fits in its row
pub name_fits : (bytes : List ℕ) → is_name bytes ≡ true → length bytes ≤ 32
name_fits bytes named = grind (arith, nat_tests)

-- a row of zeros that begins with a name
pub named_row : (bytes : List ℕ) → is_name bytes ≡ true → IsPadded record { bytes = bytes ++ drop (length bytes) (replicate 32 0); len = length bytes }
named_row bytes named =
    let fits : length bytes ≤ 32 = name_fits bytes named in
    record {
      whole = simp (length-append, drop-replicate, length-replicate) (omega arith);
      fits = fits;
      zeros = rw (drop-append_seam, drop-replicate) refl;
      named = rw take-append_seam named;
    }

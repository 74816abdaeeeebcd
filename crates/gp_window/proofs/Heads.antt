-- The first lines of a manifest, one after another.
use Rattle.std.proofs.Common.{◌≡◌, refl, ℕ, List, drop}
use Rattle.std.specs.Prelude.{Ok, slice_get}
use Rattle.gp_text.specs.declared.line.Line.{Line}
use Rattle.gp_window.specs.Manifest.{epochs_of, field_of, roots_of, with_roots, with_threads}

-- with the third and the fourth line
pub with_both : (last format threads epochs : ℕ) (roots : List ℕ) (lines : List Line)
    → field_of last epochs_of (slice_get lines 2) ≡ Ok epochs → field_of last (roots_of threads) (slice_get lines 3) ≡ Ok roots
    → with_roots format threads epochs roots (drop 4 lines) ≡ with_threads last format threads lines
with_both last format threads epochs roots lines third fourth = rw (third, fourth) refl

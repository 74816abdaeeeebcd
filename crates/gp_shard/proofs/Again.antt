-- The text of a part is read as the part.
use Rattle.std.proofs.Common.{◌≡◌, refl, ap, ◌∙◌, ℕ, ◌+◌, ◌≤◌, [], ◌∷◌, Ok, arith, codes, decimal, lit≤}
use Rattle.std.specs.List.{AllByRecursion}
use Rattle.gp_text.specs.Lines.{end_line_of}
use Rattle.gp_text.specs.Numbers.{OneSpelling}
use Rattle.gp_text.specs.Spelling.{IsPlainLine, IsShortWord, PlainWords, ReadsAgain, numbered}
use Rattle.gp_shard.specs.declared.shard.Shard.{Shard}
use Rattle.gp_shard.specs.Reading.{shard_in, shard_of_text}
use Rattle.gp_shard.specs.Shard.{IsShard, shard_text, shard_words}
use Rattle.gp_shard.proofs.Spelled.{spelled_is_read}

short_number : PlainWords → (n : ℕ) → n ≤ 4097 → IsShortWord (decimal n)
short_number plain n small =
    let is = plain.numbers n (omega (arith, small)) in
    record { plain = is.0; short = omega (arith, is.1) }

-- each line of a part is a line of a text
plain_lines : PlainWords → (s : Shard) → IsShard s → AllByRecursion IsPlainLine (shard_words s)
plain_lines plain s is =
    let number : (n : ℕ) → n ≤ 4097 → IsShortWord (decimal n) = short_number plain in
    let part = is.part in
    let parts = is.parts in
    let epochs = is.epochs in
    let inside = is.inside in (
      plain.lines (codes "gpshard" ∷ codes "1" ∷ []) (record { plain = refl; short = lit≤ tt }, (record { plain = refl; short = lit≤ tt }, tt)) (lit≤ tt) refl,
      (
        plain.lines (codes "part" ∷ decimal s.part ∷ decimal s.parts ∷ [])
            (record { plain = refl; short = lit≤ tt }, (number s.part (omega arith), (number s.parts (omega arith), tt))) (lit≤ tt) refl,
        (
          plain.lines (codes "windows" ∷ decimal (s.before + 1) ∷ decimal s.count ∷ decimal s.epochs ∷ [])
              (record { plain = refl; short = lit≤ tt }, (number (s.before + 1) (omega arith), (number s.count (omega arith), (number s.epochs (omega arith), tt)))) (lit≤ tt) refl,
          tt,
        ),
      ),
    )

pub read_again : OneSpelling → PlainWords → ReadsAgain → (s : Shard) → IsShard s → shard_of_text (shard_text s) ≡ Ok s
read_again law plain reads s is =
    ap (shard_in (end_line_of (shard_text s))) (reads (shard_words s) (plain_lines plain s is))
    ∙ spelled_is_read law (end_line_of (shard_text s)) (numbered 1 (shard_words s)) s (record { words = refl; kept = is })

-- A text has no more lines than it has bytes, and one.
use Rattle.std.proofs.Common.{ℕ, ◌+◌, ◌-◌, ◌<◌, ◌≤◌, ◌^◌, ◌==◌, Bool, true, false, if◌then◌else◌, List, [], ◌∷◌, length, arith, length-append}
use Rattle.std.proofs.lemmas.List.Splits.{length-slice_split}
use Rattle.std.proofs.lemmas.List.Sums.{count_by-le-length}
use Rattle.gp_text.specs.Line.{words_of}
use Rattle.gp_text.specs.Lines.{is_passed_over, kept_from, kept_lines, kept_lines_of, parts_of}
use Rattle.gp_text.specs.declared.line.Line.{Line}

kept_one : (b : Bool) (line : Line) → length (if b then [] else line ∷ []) ≤ 1
kept_one true line = omega arith
kept_one false line = omega arith

kept_few : (n : ℕ) (parts : List (List ℕ)) → length (kept_from n parts) ≤ length parts
kept_few n [] = omega arith
kept_few n (part ∷ parts) =
    let words = words_of part in
    omega (arith, kept_few (n + 1) parts, kept_one (is_passed_over words) (record { number = n; words = words }), length-append (kept_lines n words) (kept_from (n + 1) parts))

pub few_lines : (bytes : List ℕ) → length bytes < 2 ^ 32 - 1 → length (kept_lines_of bytes) < 2 ^ 32
few_lines bytes few =
    omega (arith, few, kept_few 1 (parts_of bytes), length-slice_split (λ b. b == 10) bytes, count_by-le-length (λ b. b == 10) bytes)

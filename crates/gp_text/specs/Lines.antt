-- The lines of a text, and why a text is refused.
use Rattle.std.specs.Prelude.{ℕ, ◌+◌, Bool, true, false, ◌||◌, ◌==◌, nat_lt, if◌then◌else◌, List, [], ◌∷◌, ◌++◌, count_by, length, Result, Ok, Err}
use Rattle.std.specs.List.{slice_split, list_any}
use Rattle.gp_text.specs.Line.{words_of}
use Rattle.gp_base.specs.Results.{and_then}
use Rattle.gp_text.specs.declared.line.Line.{Line}
use Rattle.gp_text.specs.declared.lines.TextFault.{TextFault}
use Rattle.gp_text.specs.declared.lines.TextFault.TheVariants.{NotAscii, LongLine, NoLastNewline}

-- the texts between the newlines, one more than there are newlines
abbrev pub parts_of : List ℕ → List (List ℕ)
parts_of bytes = slice_split (λ b. b == 10) bytes

-- the line at which a text ends: one more than its newlines
abbrev pub end_line_of : List ℕ → ℕ
end_line_of bytes = count_by (λ b. b == 10) bytes + 1

-- outside the printable characters of ASCII
abbrev pub is_strange : ℕ → Bool
is_strange b = nat_lt b 32 || nat_lt 126 b

-- the fault of one line: its bytes are looked at before its length
abbrev pub check_of : ℕ → List ℕ → Result (Unit {0}) TextFault
check_of n line =
    if list_any is_strange line then Err (NotAscii n)
    else (if nat_lt 4096 (length line) then Err (LongLine n) else Ok tt)

-- what follows the last newline, in the line of number n, which is to be nothing
abbrev pub at_end : ℕ → List ℕ → Result (Unit {0}) TextFault
at_end n [] = Ok tt
at_end n (b ∷ bytes) = Err (NoLastNewline n)

-- the first fault of these parts of a text, the first of which has the number n
abbrev pub check_from : ℕ → List (List ℕ) → Result (Unit {0}) TextFault
check_from n [] = Ok tt
check_from n (part ∷ []) = and_then (check_of n part) (λ u. at_end n part)
check_from n (part ∷ next ∷ more) = and_then (check_of n part) (λ u. check_from (n + 1) (next ∷ more))

-- the first fault of a text
abbrev pub check_of_text : List ℕ → Result (Unit {0}) TextFault
check_of_text bytes = check_from 1 (parts_of bytes)

-- a line without words, or a comment
abbrev pub is_passed_over : List (List ℕ) → Bool
is_passed_over [] = true
is_passed_over ([] ∷ words) = false
is_passed_over ((b ∷ bytes) ∷ words) = b == 35

-- the line of these words, where it is not passed over
abbrev pub kept_lines : ℕ → List (List ℕ) → List Line
kept_lines n words =
    if is_passed_over words then [] else record { number = n; words = words } ∷ []

-- the lines of these parts of a text that are not passed over; the first part has the number n
abbrev pub kept_from : ℕ → List (List ℕ) → List Line
kept_from n [] = []
kept_from n (part ∷ parts) = kept_lines n (words_of part) ++ kept_from (n + 1) parts

-- the lines of a text that are not passed over
abbrev pub kept_lines_of : List ℕ → List Line
kept_lines_of bytes = kept_from 1 (parts_of bytes)

-- the lines of a text, or its first fault
abbrev pub lines_of : List ℕ → Result (List Line) TextFault
lines_of bytes = and_then (check_of_text bytes) (λ u. Ok (kept_lines_of bytes))

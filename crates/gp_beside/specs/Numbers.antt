-- The files `t1.places`, `t2.places` and so on: the number of a place for each event of the thread's trace, 0 for none, and `mark` where
-- a window ends there.
use Rattle.std.specs.Prelude.{ℕ, ◌+◌, ◌==◌, nat_le, nat_lt, List, [], ◌∷◌, ◌++◌, Option, Some, None, Result, Ok, Err, if◌then◌else◌, codes, length, slice_get, unwrap_or}
use Rattle.std.specs.Str.{bytes_eq}
use Rattle.gp_base.specs.Results.{and_then}
use Rattle.gp_text.specs.Lines.{end_line_of}
use Rattle.gp_text.specs.Numbers.{small_number_of}
use Rattle.gp_text.specs.declared.line.Line.{Line}
use Rattle.gp_trace.specs.declared.event.Event.{Event}
use Rattle.gp_beside.specs.declared.fault.Cause.{Cause}
use Rattle.gp_beside.specs.declared.fault.Cause.TheVariants.{BadLine, EventCount, UnknownPlace}
use Rattle.gp_beside.specs.declared.numbers.Numbers.{Numbers}

-- how many events the segment has that is being told; behind the last one, none
abbrev pub size_due : List (List Event) → Numbers → ℕ
size_due segments told = length (unwrap_or (slice_get segments (length told.whole)) [])

-- with the number of the next event's place: one of so many places, and an event that the trace has
abbrev pub with_number : ℕ → List (List Event) → Numbers → ℕ → ℕ → Result Numbers Cause
with_number places segments told line number =
    if nat_lt places number then Err (UnknownPlace line) else
    (if nat_le (size_due segments told) (length told.begun) then Err (EventCount line) else
    Ok (record { whole = told.whole; begun = told.begun ++ number ∷ [] }))

-- with the end of the segment, which has all its events; the last segment has no mark
abbrev pub with_mark : List (List Event) → Numbers → ℕ → Result Numbers Cause
with_mark segments told line =
    if nat_le (length segments) (length told.whole + 1) then Err (EventCount line) else
    (if length told.begun == size_due segments told then Ok (record { whole = told.whole ++ told.begun ∷ []; begun = [] })
    else Err (EventCount line))

-- with a number, where the word is one
abbrev pub with_number_of : ℕ → List (List Event) → Numbers → ℕ → Option ℕ → Result Numbers Cause
with_number_of places segments told line None = Err (BadLine line)
with_number_of places segments told line (Some number) = with_number places segments told line number

-- with the line of this number and these words
abbrev pub with_words : ℕ → List (List Event) → Numbers → ℕ → List (List ℕ) → Result Numbers Cause
with_words places segments told line (word ∷ []) =
    if bytes_eq word (codes "mark") then with_mark segments told line
    else with_number_of places segments told line (small_number_of word)
with_words places segments told line words = Err (BadLine line)

-- with further lines
abbrev pub with_lines : ℕ → List (List Event) → Numbers → List Line → Result Numbers Cause
with_lines places segments told [] = Ok told
with_lines places segments told (line ∷ lines) =
    and_then (with_words places segments told line.number line.words) (λ more. with_lines places segments more lines)

-- nothing is told yet
abbrev pub no_numbers : Numbers
no_numbers = record { whole = []; begun = [] }

-- all segments, where the last one has all its events at the end, which is this line
abbrev pub finished : List (List Event) → ℕ → Numbers → Result (List (List ℕ)) Cause
finished segments last told =
    if length told.whole + 1 == length segments then
    (if length told.begun == size_due segments told then Ok (told.whole ++ told.begun ∷ []) else Err (EventCount last))
    else Err (EventCount last)

-- the numbers that lines tell which end at this line, or the first that breaks a rule
abbrev pub numbers_of : ℕ → List (List Event) → ℕ → List Line → Result (List (List ℕ)) Cause
numbers_of places segments last lines = and_then (with_lines places segments no_numbers lines) (finished segments last)

-- what the bytes of a file tell that has these lines
abbrev pub numbers_told : ℕ → List (List Event) → List ℕ → List Line → Result (List (List ℕ)) Cause
numbers_told places segments bytes lines = numbers_of places segments (end_line_of bytes) lines

-- The file `places`: a head, then source files by name, then places, each by a file's number, a line and a function.
use Rattle.std.specs.Prelude.{ℕ, Bool, false, ◌==◌, ◌&&◌, ◌||◌, nat_le, not, List, [], ◌∷◌, ◌++◌, Option, Some, None, Result, Ok, Err, if◌then◌else◌, codes, length}
use Rattle.std.specs.Str.{bytes_eq}
use Rattle.gp_base.specs.Results.{and_then}
use Rattle.gp_text.specs.Lines.{end_line_of}
use Rattle.gp_text.specs.Numbers.{small_number_of}
use Rattle.gp_text.specs.declared.line.Line.{Line}
use Rattle.gp_beside.specs.declared.fault.Cause.{Cause}
use Rattle.gp_beside.specs.declared.fault.Cause.TheVariants.{BadLine, TooMany, UnknownFile}
use Rattle.gp_beside.specs.declared.place_list.PlaceLine.{PlaceLine}
use Rattle.gp_beside.specs.declared.place_list.PlaceList.{PlaceList}

-- `gpplaces 1`
abbrev pub is_head : List (List ℕ) → Bool
is_head (keyword ∷ format ∷ []) = bytes_eq keyword (codes "gpplaces") && bytes_eq format (codes "1")
is_head words = false

-- with a file: at most 1,024 of them, and none behind a place
abbrev pub with_file : PlaceList → ℕ → List ℕ → Result PlaceList Cause
with_file told number name =
    if not (length told.places == 0) then Err (BadLine number) else
    (if nat_le 1024 (length told.files) then Err (TooMany number) else
    Ok (record { files = told.files ++ name ∷ []; places = told.places }))

-- with a place: of a file that was named, and at most 65,536 of them
abbrev pub with_place : PlaceList → ℕ → PlaceLine → Result PlaceList Cause
with_place told number place =
    if place.file == 0 || not (nat_le place.file (length told.files)) then Err (UnknownFile number) else
    (if nat_le 65536 (length told.places) then Err (TooMany number) else
    Ok (record { files = told.files; places = told.places ++ place ∷ [] }))

-- a place of these numbers, where they are numbers
abbrev pub place_with : Option ℕ → Option ℕ → List ℕ → Option PlaceLine
place_with (Some file) (Some line) function = Some (record { file = file; line = line; function = function })
place_with (Some file) None function = None
place_with None line function = None

-- with a place, where the line has one
abbrev pub with_place_of : PlaceList → ℕ → Option PlaceLine → Result PlaceList Cause
with_place_of told number None = Err (BadLine number)
with_place_of told number (Some place) = with_place told number place

-- with a line that has two words: `file NAME`
abbrev pub with_two : PlaceList → ℕ → List ℕ → List ℕ → Result PlaceList Cause
with_two told number keyword name = if bytes_eq keyword (codes "file") then with_file told number name else Err (BadLine number)

-- with a line that has four words: `place FILE LINE FUNCTION`
abbrev pub with_four : PlaceList → ℕ → List ℕ → List ℕ → List ℕ → List ℕ → Result PlaceList Cause
with_four told number keyword file line function =
    if bytes_eq keyword (codes "place") then with_place_of told number (place_with (small_number_of file) (small_number_of line) function)
    else Err (BadLine number)

-- with the line of this number and these words
abbrev pub with_words : PlaceList → ℕ → List (List ℕ) → Result PlaceList Cause
with_words told number (keyword ∷ name ∷ []) = with_two told number keyword name
with_words told number (keyword ∷ file ∷ line ∷ function ∷ []) = with_four told number keyword file line function
with_words told number words = Err (BadLine number)

-- with further lines
abbrev pub with_lines : PlaceList → List Line → Result PlaceList Cause
with_lines told [] = Ok told
with_lines told (line ∷ lines) = and_then (with_words told line.number line.words) (λ more. with_lines more lines)

-- no file and no place
abbrev pub empty_list : PlaceList
empty_list = record { files = []; places = [] }

-- what lines tell that end at this line, or the first that breaks a rule
abbrev pub list_of : ℕ → List Line → Result PlaceList Cause
list_of last [] = Err (BadLine last)
list_of last (line ∷ lines) = if is_head line.words then with_lines empty_list lines else Err (BadLine line.number)

-- what the bytes of a file tell that has these lines
abbrev pub list_told : List ℕ → List Line → Result PlaceList Cause
list_told bytes lines = list_of (end_line_of bytes) lines

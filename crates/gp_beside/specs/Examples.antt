-- Small files, and what they tell.
use Rattle.std.specs.Prelude.{◌≡◌, ℕ, true, false, List, [], ◌∷◌, ◌++◌, Option, Some, None, Result, Ok, Err, codes, replicate}
use Rattle.gp_outside.specs.Folders.{File}
use Rattle.gp_place.specs.Beside.{nothing_beside}
use Rattle.gp_place.specs.declared.beside.Sighting.{Sighting}
use Rattle.gp_text.specs.Spelling.{joined}
use Rattle.gp_text.specs.declared.lines.TextFault.TheVariants.{LongLine, NoLastNewline, NotAscii}
use Rattle.gp_trace.specs.declared.event.Event.{Event}
use Rattle.gp_trace.specs.declared.event.Event.TheVariants.{Join, Start}
use Rattle.gp_beside.specs.declared.fault.Cause.{Cause}
use Rattle.gp_beside.specs.declared.fault.Cause.TheVariants.{BadLine, EventCount, Text, TooLong, TooMany, UnknownFile, UnknownPlace}
use Rattle.gp_beside.specs.declared.fault.NoteFile.{NoteFile}
use Rattle.gp_beside.specs.declared.fault.NoteFile.TheVariants.{Confirmed, Places, ThreadPlaces}
use Rattle.gp_beside.specs.declared.place_list.PlaceLine.{PlaceLine}
use Rattle.gp_beside.specs.declared.place_list.PlaceList.{PlaceList}
use Rattle.gp_beside.specs.Beside.{fault_of, noted_at, some_list}
use Rattle.gp_beside.specs.Files.{told_in}
use Rattle.gp_beside.specs.Numbers.{numbers_told}
use Rattle.gp_beside.specs.Refusal.{fault_words}
use Rattle.gp_beside.specs.Sightings.{sightings_told}
use Rattle.gp_beside.specs.Sources.{is_inside, line_of, place_of, shown_line}

-- the text of these lines
abbrev pub text : List (List ℕ) → List ℕ
text [] = []
text (line ∷ lines) = line ++ 10 ∷ text lines

abbrev pub head : List ℕ
head = codes "gpplaces 1"

-- what the file `places` of these lines tells
abbrev pub listed : List (List ℕ) → Result (Option PlaceList) Cause
listed lines = told_in None some_list (Some (text lines))

-- two files, and a place in each of them
abbrev pub two_places : PlaceList
two_places = record {
  files = codes "a.c" ∷ codes "b.c" ∷ [];
  places = record { file = 1; line = 3; function = codes "main" } ∷ record { file = 2; line = 0; function = codes "run" } ∷ [];
}

-- segments of two events and of one
abbrev pub segments : List (List Event)
segments = (Start 2 ∷ Join 2 ∷ []) ∷ (Start 3 ∷ []) ∷ []

-- what the file of a thread with these segments tells, in these lines, where there are two places
abbrev pub numbered : List (List ℕ) → Result (List (List ℕ)) Cause
numbered lines = told_in [] (numbers_told 2 segments) (Some (text lines))

-- what the file `confirmed` of these lines tells
abbrev pub confirmed : List (List ℕ) → Result (List Sighting) Cause
confirmed lines = told_in [] sightings_told (Some (text lines))

-- a source of two lines, the second of which begins with a tab
abbrev pub source : List (List ℕ)
source = codes "int x;" ∷ (9 ∷ codes "x = 1;") ∷ []

abbrev pub place_at : ℕ → PlaceLine
place_at line = record { file = 1; line = line; function = codes "main" }

-- the line that tells this fault
abbrev pub told : NoteFile → Cause → List ℕ
told file cause = joined (fault_words (fault_of file cause))

-- a directory whose file `confirmed` breaks a rule
abbrev pub broken : List File
broken = record { name = codes "d/confirmed"; bytes = text (codes "seen" ∷ []) } ∷ []

pub record ExamplesHold : Type 0 where
  -- the file `places`
  pub two : listed (head ∷ codes "file a.c" ∷ codes "file b.c" ∷ codes "place 1 3 main" ∷ codes "place 2 0 run" ∷ []) ≡ Ok (Some two_places)
  pub absent : told_in None some_list None ≡ Ok None
  pub nothing : listed [] ≡ Err (BadLine 1)
  pub no_head : listed (codes "file a.c" ∷ []) ≡ Err (BadLine 1)
  pub late_file : listed (head ∷ codes "file a.c" ∷ codes "place 1 3 main" ∷ codes "file b.c" ∷ []) ≡ Err (BadLine 4)
  pub file_zero : listed (head ∷ codes "file a.c" ∷ codes "file b.c" ∷ codes "place 0 3 main" ∷ []) ≡ Err (UnknownFile 4)
  pub file_three : listed (head ∷ codes "file a.c" ∷ codes "file b.c" ∷ codes "place 3 3 main" ∷ []) ≡ Err (UnknownFile 4)
  pub no_decimal : listed (head ∷ codes "file a.c" ∷ codes "place 01 3 main" ∷ []) ≡ Err (BadLine 3)
  -- the file of a thread
  pub each : numbered (codes "1" ∷ codes "0" ∷ codes "mark" ∷ codes "2" ∷ []) ≡ Ok ((1 ∷ 0 ∷ []) ∷ (2 ∷ []) ∷ [])
  pub number_too_many : numbered (codes "1" ∷ codes "0" ∷ codes "2" ∷ codes "mark" ∷ codes "2" ∷ []) ≡ Err (EventCount 3)
  pub number_too_few : numbered (codes "1" ∷ codes "mark" ∷ codes "2" ∷ []) ≡ Err (EventCount 2)
  pub number_lacks_at_end : numbered (codes "1" ∷ codes "0" ∷ codes "mark" ∷ []) ≡ Err (EventCount 4)
  pub mark_too_many : numbered (codes "1" ∷ codes "0" ∷ codes "mark" ∷ codes "2" ∷ codes "mark" ∷ []) ≡ Err (EventCount 5)
  pub mark_too_few : numbered (codes "1" ∷ codes "0" ∷ []) ≡ Err (EventCount 3)
  pub no_place : numbered (codes "3" ∷ []) ≡ Err (UnknownPlace 1)
  pub no_number : numbered (codes "one" ∷ []) ≡ Err (BadLine 1)
  -- places, and lines of a source
  pub tab : shown_line (9 ∷ codes "x" ++ 9 ∷ codes "= 1;") ≡ codes "x = 1;"
  pub long : shown_line (replicate 201 97) ≡ replicate 200 97
  pub placed : place_of two_places.files (source ∷ []) (place_at 2) ≡ record { file = codes "a.c"; line = 2; function = codes "main"; source = codes "x = 1;" }
  pub unknown_source : place_of two_places.files [] (place_at 2) ≡ record { file = codes "a.c"; line = 2; function = codes "main"; source = [] }
  pub second_line : line_of (source ∷ []) (place_at 2) ≡ codes "x = 1;"
  pub no_line : line_of (source ∷ []) (place_at 0) ≡ []
  pub behind_last : line_of (source ∷ []) (place_at 3) ≡ []
  -- names
  pub from_root : is_inside (codes "/etc/hosts") ≡ false
  pub above : is_inside (codes "a/../../b") ≡ false
  pub spelled : is_inside (codes "%2e%2e/b") ≡ false
  pub dots : is_inside (codes "a..b/c.c") ≡ true
  -- the file `confirmed`
  pub seen : confirmed (codes "window 2 property lost instance 0 seen twice" ∷ codes "window 10 property p instance 3 once" ∷ [])
      ≡ Ok (record { window = 2; property = codes "lost"; instance = 0; text = codes "seen twice" }
      ∷ record { window = 10; property = codes "p"; instance = 3; text = codes "once" } ∷ [])
  pub no_word : confirmed (codes "window 2 property lost instance 0" ∷ []) ≡ Err (BadLine 1)
  -- how faults are told
  pub toolong : told Places TooLong ≡ codes "left out: refused places toolong"
  pub notascii : told Places (Text (NotAscii 2)) ≡ codes "left out: refused places 2 notascii"
  pub longline : told Confirmed (Text (LongLine 3)) ≡ codes "left out: refused confirmed 3 longline"
  pub nolastnewline : told Confirmed (Text (NoLastNewline 4)) ≡ codes "left out: refused confirmed 4 nolastnewline"
  pub badline : told (ThreadPlaces 12) (BadLine 5) ≡ codes "left out: refused t12.places 5 badline"
  pub unknownfile : told Places (UnknownFile 6) ≡ codes "left out: refused places 6 unknownfile"
  pub unknownplace : told (ThreadPlaces 1) (UnknownPlace 7) ≡ codes "left out: refused t1.places 7 unknownplace"
  pub eventcount : told (ThreadPlaces 1) (EventCount 10) ≡ codes "left out: refused t1.places 10 eventcount"
  pub toomany : told Places (TooMany 1030) ≡ codes "left out: refused places 1030 toomany"
  -- all files together
  pub no_files : noted_at [] (codes "d") None [] ≡ record { beside = nothing_beside; left_out = [] }
  pub left_out : noted_at broken (codes "d") None [] ≡ record { beside = nothing_beside; left_out = fault_of Confirmed (BadLine 1) ∷ [] }

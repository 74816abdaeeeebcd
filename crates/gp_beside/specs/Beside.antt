-- What stands beside a report, by the files that are told: where in the program its events are, and which instances were seen to happen. A
-- file that is not there tells nothing. Where one breaks a rule, all places are left out, or all sightings, and that is told.
use Rattle.std.specs.Prelude.{ℕ, List, [], ◌∷◌, ◌++◌, Option, Some, None, Result, Ok, Err, length}
use Rattle.gp_base.specs.Results.{and_then, or_refused, then_rest}
use Rattle.gp_outside.specs.Folders.{File}
use Rattle.gp_place.specs.Places.{nowhere}
use Rattle.gp_place.specs.declared.beside.Sighting.{Sighting}
use Rattle.gp_place.specs.declared.places.Places.{Places}
use Rattle.gp_text.specs.declared.line.Line.{Line}
use Rattle.gp_trace.specs.Trace.{LocalTraceForm}
use Rattle.gp_beside.specs.declared.beside.Noted.{Noted}
use Rattle.gp_beside.specs.declared.fault.Cause.{Cause}
use Rattle.gp_beside.specs.declared.fault.NoteFault.{NoteFault}
use Rattle.gp_beside.specs.declared.fault.NoteFile.{NoteFile}
use Rattle.gp_beside.specs.declared.fault.NoteFile.TheVariants as file
use Rattle.gp_beside.specs.declared.place_list.PlaceList.{PlaceList}
use Rattle.gp_beside.specs.Files.{told_at}
use Rattle.gp_beside.specs.Numbers.{numbers_told}
use Rattle.gp_beside.specs.PlaceList.{list_of, list_told}
use Rattle.gp_beside.specs.Sightings.{sightings_told}
use Rattle.gp_beside.specs.Sources.{places_of}

-- a fault of this file
abbrev pub fault_of : NoteFile → Cause → NoteFault
fault_of file cause = record { file = file; cause = cause }

-- the numbers of the places of a thread's events, among so many places; where the thread has no file, none
abbrev pub thread_numbers : List File → List ℕ → ℕ → LocalTraceForm → Result (List (List ℕ)) NoteFault
thread_numbers files directory places trace =
    or_refused (fault_of (file.ThreadPlaces trace.thread))
    (told_at files directory (file.ThreadPlaces trace.thread) [] (numbers_told places trace.segments))

-- the same of threads
abbrev pub all_numbers : List File → List ℕ → ℕ → List LocalTraceForm → Result (List (List (List ℕ))) NoteFault
all_numbers files directory places [] = Ok []
all_numbers files directory places (trace ∷ traces) =
    then_rest (thread_numbers files directory places trace) (all_numbers files directory places traces)

-- places with these numbers, where the sources may lie in a directory
abbrev pub placed : List File → Option (List ℕ) → PlaceList → List (List (List ℕ)) → Result Places NoteFault
placed files source told numbers =
    Ok (record { places = places_of files source told; numbers = numbers })

-- the places of the events of these traces, by the file `places` and those of the threads; without it no other is looked at
abbrev pub places_by : List File → List ℕ → Option (List ℕ) → List LocalTraceForm → Option PlaceList → Result Places NoteFault
places_by files directory source traces None = Ok nowhere
places_by files directory source traces (Some told) =
    and_then (all_numbers files directory (length told.places) traces) (placed files source told)

-- what the file `places` tells, where it is there
abbrev pub some_list : List ℕ → List Line → Result (Option PlaceList) Cause
some_list bytes lines = and_then (list_told bytes lines) (λ told. Ok (Some told))

-- the same of lines that end at this line
abbrev pub some_list_of : ℕ → List Line → Result (Option PlaceList) Cause
some_list_of last lines = and_then (list_of last lines) (λ told. Ok (Some told))

-- the same of the file in a directory
abbrev pub list_at : List File → List ℕ → Result (Option PlaceList) NoteFault
list_at files directory = or_refused (fault_of file.Places) (told_at files directory file.Places None some_list)

-- the places, by what that file tells
abbrev pub places_at : List File → List ℕ → Option (List ℕ) → List LocalTraceForm → Result Places NoteFault
places_at files directory source traces =
    and_then (list_at files directory) (places_by files directory source traces)

-- what was seen
abbrev pub sightings_at : List File → List ℕ → Result (List Sighting) NoteFault
sightings_at files directory = or_refused (fault_of file.Confirmed) (told_at files directory file.Confirmed [] sightings_told)

-- what was read, or this in place of what breaks a rule
abbrev pub or_else : {A : Type 0} → A → Result A NoteFault → A
or_else none (Ok told) = told
or_else none (Err fault) = none

-- the fault of what breaks a rule
abbrev pub fault_in : {A : Type 0} → Result A NoteFault → List NoteFault
fault_in (Ok told) = []
fault_in (Err fault) = fault ∷ []

-- what stands beside a report, and what is left out of it
abbrev pub noted_by : Result Places NoteFault → Result (List Sighting) NoteFault → Noted
noted_by places sightings = record {
  beside = record { places = or_else nowhere places; sightings = or_else [] sightings };
  left_out = fault_in places ++ fault_in sightings;
}

-- what stands beside the report in a directory on a recording of these traces, where the sources of the program may lie in another one
abbrev pub noted_at : List File → List ℕ → Option (List ℕ) → List LocalTraceForm → Noted
noted_at files directory source traces = noted_by (places_at files directory source traces) (sightings_at files directory)

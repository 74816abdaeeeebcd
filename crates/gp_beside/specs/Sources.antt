-- Lines of the program's source, and the places with theirs.
use Rattle.std.specs.Prelude.{ℕ, zero, suc, ◌-◌, Bool, false, not, ◌==◌, ◌||◌, ◌&&◌, nat_le, nat_lt, List, [], ◌∷◌, ◌++◌, Option, Some, None, codes, if◌then◌else◌, length, map, slice_get, take, unwrap_or}
use Rattle.std.specs.List.{list_any, slice_split}
use Rattle.std.specs.Str.{bytes_eq, is_utf8}
use Rattle.gp_outside.specs.Folders.{File, file_named}
use Rattle.gp_place.specs.declared.places.Place.{Place}
use Rattle.gp_beside.specs.declared.files.Content.{Content}
use Rattle.gp_beside.specs.declared.files.Content.TheVariants as content
use Rattle.gp_beside.specs.declared.place_list.PlaceLine.{PlaceLine}
use Rattle.gp_beside.specs.declared.place_list.PlaceList.{PlaceList}

-- whether a name begins at the root; 47 is the slash
abbrev pub begins_at_root : List ℕ → Bool
begins_at_root [] = false
begins_at_root (b ∷ bytes) = b == 47

-- whether a name leads nowhere but into the directory that it is looked up in: it does not begin at the root, no part of it is `..`, and
-- it has no `%`, behind which other bytes are spelled; 37 is the `%`. It is text, as a folder asks of names
abbrev pub is_inside : List ℕ → Bool
is_inside name =
    not (begins_at_root name) && not (list_any (λ b. b == 37) name)
    && not (list_any (λ part. bytes_eq part (codes "..")) (slice_split (λ b. b == 47) name)) && is_utf8 name

-- the name, where it leads into the directory
abbrev pub inside : List ℕ → Option (List ℕ)
inside name = if is_inside name then Some name else None

-- the lines of a source of at most 1,048,576 bytes; a longer one has none
abbrev pub lines_of_source : Option (List ℕ) → List (List ℕ)
lines_of_source None = []
lines_of_source (Some bytes) = if nat_lt 1048576 (length bytes) then [] else slice_split (λ b. b == 10) bytes

-- the lines of what was read of a source
abbrev pub source_lines : Content → List (List ℕ)
source_lines content.Absent = []
source_lines content.TooLong = []
source_lines (content.Held bytes) = slice_split (λ b. b == 10) bytes

-- the lines of the source of this name, where the sources are said to lie in a directory
abbrev pub source_at : List File → Option (List ℕ) → List ℕ → List (List ℕ)
source_at files None name = []
source_at files (Some directory) name =
    if is_inside name then lines_of_source (file_named files (directory ++ codes "/" ++ name)) else []

-- a byte of a line as it is shown: what is no character, as a tab, is a space
abbrev pub shown_byte : ℕ → ℕ
shown_byte b = if nat_lt b 32 || b == 127 then 32 else b

-- without the spaces and tabs that it begins with
abbrev pub trimmed : List ℕ → List ℕ
trimmed [] = []
trimmed (b ∷ bytes) = if nat_le b 32 then trimmed bytes else b ∷ bytes

-- a line as it is shown: at most 200 bytes of it
abbrev pub shown_line : List ℕ → List ℕ
shown_line line = map shown_byte (take 200 (trimmed line))

-- what is shown of a line, where it is there
abbrev pub shown_of : Option (List ℕ) → List ℕ
shown_of None = []
shown_of (Some line) = shown_line line

-- the line of this number, from 1
abbrev pub line_at : List (List ℕ) → ℕ → Option (List ℕ)
line_at lines zero = None
line_at lines (suc before) = slice_get lines before

-- what is shown of the line of a place among files that have these lines
abbrev pub line_of : List (List (List ℕ)) → PlaceLine → List ℕ
line_of sources place = shown_of (line_at (unwrap_or (slice_get sources (place.file - 1)) []) place.line)

-- a place among files of these names that have these lines
abbrev pub place_of : List (List ℕ) → List (List (List ℕ)) → PlaceLine → Place
place_of names sources place = record {
  file = unwrap_or (slice_get names (place.file - 1)) [];
  line = place.line;
  function = place.function;
  source = line_of sources place;
}

-- the places, by what the files tell of the sources
abbrev pub places_of : List File → Option (List ℕ) → PlaceList → List Place
places_of files source told = map (place_of told.files (map (source_at files source) told.files)) told.places

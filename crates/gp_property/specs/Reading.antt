-- What a line means where it stands in a file of properties.
use Rattle.std.specs.Prelude.{ℕ, ◌+◌, ◌==◌, Bool, false, nat_le, List, [], ◌∷◌, ◌++◌, length, count_by, Option, Some, None, Result, Ok, Err, if◌then◌else◌, codes}
use Rattle.std.specs.List.{list_any}
use Rattle.std.specs.Str.{bytes_eq}
use Rattle.gp_text.specs.declared.line.Line.{Line}
use Rattle.gp_text.specs.declared.lines.TextFault.{TextFault}
use Rattle.gp_text.specs.Lines.{end_line_of, lines_of}
use Rattle.gp_base.specs.Results.{and_then}
use Rattle.gp_text.specs.Name.{name_of}
use Rattle.gp_property.specs.declared.fault.PropertyFault.{PropertyFault}
use Rattle.gp_property.specs.declared.fault.PropertyFault.TheVariants.{Text, Empty, BadWord, RepeatedName}
use Rattle.gp_property.specs.declared.property.EventDef.{EventDef}
use Rattle.gp_property.specs.declared.property.PatternStep.{PatternStep}
use Rattle.gp_property.specs.declared.reading.Reading.{Reading}
use Rattle.gp_property.specs.Checks.{checked_pattern, is_defined}
use Rattle.gp_property.specs.Draft.{DraftForm}
use Rattle.gp_property.specs.Pattern.{pattern_of}
use Rattle.gp_property.specs.PropertyForm.{PropertyForm}
use Rattle.gp_property.specs.Shape.{definition_of}

-- no property is read, and none is begun
abbrev pub nothing_read : Reading
nothing_read = record { done = []; draft = None }

-- whether a property of this name is read
abbrev pub is_taken : List PropertyForm → List ℕ → Bool
is_taken done name = list_any (λ property. bytes_eq property.name name) done

-- a property of this name is begun
abbrev pub begun : List PropertyForm → ℕ → Option (List ℕ) → Result Reading PropertyFault
begun done number None = Err (BadWord number)
begun done number (Some name) =
    if nat_le 64 (length done) then Err (BadWord number)
    else (if is_taken done name then Err (RepeatedName number)
    else Ok (record { done = done; draft = Some (record { name = name; events = [] }) }))

-- `property name`
abbrev pub property_name_of : List (List ℕ) → Option (List ℕ)
property_name_of (keyword ∷ name ∷ []) = if bytes_eq keyword (codes "property") then name_of name else None
property_name_of _ = None

-- the begun property has one event more
abbrev pub with_event : List PropertyForm → DraftForm → ℕ → Option EventDef → Result Reading PropertyFault
with_event done draft number None = Err (BadWord number)
with_event done draft number (Some event) =
    if nat_le 16 (length draft.events) then Err (BadWord number)
    else (if is_defined draft.events event.name then Err (RepeatedName number)
    else Ok (record { done = done; draft = Some (record { name = draft.name; events = draft.events ++ event ∷ [] }) }))

-- a property is done, where its pattern breaks no rule
abbrev pub done_with : List PropertyForm → DraftForm → List PatternStep → Result (Unit {0}) PropertyFault → Result Reading PropertyFault
done_with done draft pattern (Err fault) = Err fault
done_with done draft pattern (Ok u) =
    Ok (record { done = done ++ (record { name = draft.name; events = draft.events; pattern = pattern }) ∷ []; draft = None })

-- the pattern ends the begun property
abbrev pub with_pattern : List PropertyForm → DraftForm → ℕ → Option (List PatternStep) → Result Reading PropertyFault
with_pattern done draft number None = Err (BadWord number)
with_pattern done draft number (Some pattern) = done_with done draft pattern (checked_pattern number draft.events pattern)

-- a line of a begun property, whose pattern is due: an event or the pattern, and no new property
abbrev pub line_within : List PropertyForm → DraftForm → ℕ → List (List ℕ) → Result Reading PropertyFault
line_within done draft number [] = Err (BadWord number)
line_within done draft number (keyword ∷ words) =
    if bytes_eq keyword (codes "property") then Err (Empty number)
    else (if bytes_eq keyword (codes "event") then with_event done draft number (definition_of words)
    else (if bytes_eq keyword (codes "pattern") then with_pattern done draft number (pattern_of words)
    else Err (BadWord number)))

-- a line, by whether a property is begun
abbrev pub line_at : List PropertyForm → Option DraftForm → ℕ → List (List ℕ) → Result Reading PropertyFault
line_at done None number words = begun done number (property_name_of words)
line_at done (Some draft) number words = line_within done draft number words

-- a pattern without atoms
abbrev pub is_bare_pattern : List (List ℕ) → Bool
is_bare_pattern (keyword ∷ []) = bytes_eq keyword (codes "pattern")
is_bare_pattern _ = false

-- one line more
abbrev pub next_line : Reading → Line → Result Reading PropertyFault
next_line reading line =
    if is_bare_pattern line.words then Err (Empty line.number)
    else line_at reading.done reading.draft line.number line.words

-- all lines, in order
abbrev pub reading_after : Reading → List Line → Result Reading PropertyFault
reading_after reading [] = Ok reading
reading_after reading (line ∷ lines) = and_then (next_line reading line) (λ next. reading_after next lines)

-- at the end no pattern is due, and there is a property
abbrev pub at_end : ℕ → List PropertyForm → Option DraftForm → Result (List PropertyForm) PropertyFault
at_end last done (Some draft) = Err (Empty last)
at_end last [] None = Err (Empty last)
at_end last (property ∷ properties) None = Ok (property ∷ properties)

-- the properties that were read by the end, which has this number
abbrev pub all_read : ℕ → Result Reading PropertyFault → Result (List PropertyForm) PropertyFault
all_read last (Ok reading) = at_end last reading.done reading.draft
all_read last (Err fault) = Err fault

-- the properties of these lines of a text whose end has this number
abbrev pub properties_from : ℕ → List Line → Result (List PropertyForm) PropertyFault
properties_from last lines = all_read last (reading_after nothing_read lines)

-- the properties of a text, where it has lines
abbrev pub properties_in : ℕ → Result (List Line) TextFault → Result (List PropertyForm) PropertyFault
properties_in last (Ok lines) = properties_from last lines
properties_in last (Err fault) = Err (Text fault)

-- the properties that a text spells, or the first fault in it
abbrev pub properties_of : List ℕ → Result (List PropertyForm) PropertyFault
properties_of bytes = properties_in (end_line_of bytes) (lines_of bytes)

-- A text is no file of properties by a fault of its lines or of the text.
use Rattle.std.proofs.Common.{ℕ, List, [], ◌∷◌, Option, Some, None, Result, Ok, Err, codes, length, nat_le}
use Rattle.std.specs.Str.{bytes_eq}
use Rattle.gp_text.specs.declared.line.Line.{Line}
use Rattle.gp_text.specs.declared.lines.TextFault.{TextFault}
use Rattle.gp_text.specs.Lines.{end_line_of, lines_of}
use Rattle.gp_property.specs.declared.atoms.PatternAtom.{PatternAtom}
use Rattle.gp_property.specs.declared.fault.PropertyFault.{PropertyFault}
use Rattle.gp_property.specs.declared.property.EventDef.{EventDef}
use Rattle.gp_property.specs.declared.property.PatternStep.{PatternStep}
use Rattle.gp_property.specs.declared.reading.Reading.{Reading}
use Rattle.gp_property.specs.Atoms.{atoms_from}
use Rattle.gp_property.specs.Checks.{are_defined, are_well_used, checked_pattern, checked_regions, has_too_many, is_defined}
use Rattle.gp_property.specs.Draft.{DraftForm}
use Rattle.gp_property.specs.Pattern.{pattern_of}
use Rattle.gp_property.specs.PropertyForm.{PropertyForm}
use Rattle.gp_property.specs.Reading.{all_read, at_end, begun, done_with, is_bare_pattern, is_taken, line_at, line_within, next_line, nothing_read, properties_in, property_name_of, reading_after, with_event, with_pattern}
use Rattle.gp_property.specs.Shape.{definition_of}
use Rattle.gp_due.specs.Readers.{PropertiesWantNoMemory}
use Rattle.gp_due.specs.Saying.{OnlySays, PropertySays, TextSays}
use Rattle.gp_due.proofs.Lines.{lines_say}
use Rattle.gp_due.proofs.Results as of

begun_says : (done : List PropertyForm) (number : ℕ) (name : Option (List ℕ)) → OnlySays PropertySays (begun done number name)
begun_says done number None = of.fault tt
begun_says done number (Some name) = of.either (nat_le 64 (length done)) (of.fault tt) (of.either (is_taken done name) (of.fault tt) of.value)

event_says : (done : List PropertyForm) (draft : DraftForm) (number : ℕ) (event : Option EventDef) → OnlySays PropertySays (with_event done draft number event)
event_says done draft number None = of.fault tt
event_says done draft number (Some event) =
    of.either (nat_le 16 (length draft.events)) (of.fault tt) (of.either (is_defined draft.events event.name) (of.fault tt) of.value)

regions_say : (number : ℕ) (atoms : List PatternAtom) → OnlySays PropertySays (checked_regions number atoms)
regions_say number atoms = of.either (are_well_used atoms) of.value (of.fault tt)

checks_say : (number : ℕ) (events : List EventDef) (pattern : List PatternStep) → OnlySays PropertySays (checked_pattern number events pattern)
unfolding checked_pattern
checks_say number events pattern =
    of.either (has_too_many pattern) (of.fault tt) (of.either (are_defined events pattern) (regions_say number (atoms_from events 0 pattern)) (of.fault tt))

done_says : (done : List PropertyForm) (draft : DraftForm) (pattern : List PatternStep) (checked : Result (Unit {0}) PropertyFault)
    → OnlySays PropertySays checked → OnlySays PropertySays (done_with done draft pattern checked)
done_says done draft pattern (Err fault) says = of.fault says.fault
done_says done draft pattern (Ok u) says = of.value

pattern_says : (done : List PropertyForm) (draft : DraftForm) (number : ℕ) (pattern : Option (List PatternStep)) → OnlySays PropertySays (with_pattern done draft number pattern)
pattern_says done draft number None = of.fault tt
pattern_says done draft number (Some pattern) = done_says done draft pattern (checked_pattern number draft.events pattern) (checks_say number draft.events pattern)

within_says : (done : List PropertyForm) (draft : DraftForm) (number : ℕ) (words : List (List ℕ)) → OnlySays PropertySays (line_within done draft number words)
within_says done draft number [] = of.fault tt
within_says done draft number (keyword ∷ words) =
    of.either (bytes_eq keyword (codes "property")) (of.fault tt)
    (of.either (bytes_eq keyword (codes "event")) (event_says done draft number (definition_of words))
    (of.either (bytes_eq keyword (codes "pattern")) (pattern_says done draft number (pattern_of words)) (of.fault tt)))

line_says : (done : List PropertyForm) (draft : Option DraftForm) (number : ℕ) (words : List (List ℕ)) → OnlySays PropertySays (line_at done draft number words)
line_says done None number words = begun_says done number (property_name_of words)
line_says done (Some draft) number words = within_says done draft number words

next_says : (reading : Reading) (line : Line) → OnlySays PropertySays (next_line reading line)
next_says reading line = of.either (is_bare_pattern line.words) (of.fault tt) (line_says reading.done reading.draft line.number line.words)

walk_says : (reading : Reading) (lines : List Line) → OnlySays PropertySays (reading_after reading lines)
walk_says reading [] = of.value
walk_says reading (line ∷ lines) = of.in_turn (next_says reading line) (λ next. walk_says next lines)

end_says : (last : ℕ) (done : List PropertyForm) (draft : Option DraftForm) → OnlySays PropertySays (at_end last done draft)
end_says last done (Some draft) = of.fault tt
end_says last [] None = of.fault tt
end_says last (property ∷ properties) None = of.value

all_say : (last : ℕ) (read : Result Reading PropertyFault) → OnlySays PropertySays read → OnlySays PropertySays (all_read last read)
all_say last (Ok reading) says = end_says last reading.done reading.draft
all_say last (Err fault) says = of.fault says.fault

in_says : (last : ℕ) (lines : Result (List Line) TextFault) → OnlySays TextSays lines → OnlySays PropertySays (properties_in last lines)
in_says last (Ok lines) says = all_say last (reading_after nothing_read lines) (walk_says nothing_read lines)
in_says last (Err fault) says = of.fault says.fault

pub properties_say : PropertiesWantNoMemory
properties_say bytes = in_says (end_line_of bytes) (lines_of bytes) (lines_say bytes)

-- Lines that spell properties are read as these properties.
use Rattle.std.proofs.Common.{◌≡◌, refl, sym, ap, ◌∙◌, ℕ, ◌+◌, ◌<◌, ◌≤◌, true, false, List, [], ◌∷◌, ◌++◌, length, map, arith, append_assoc, append-nil, length-append}
use Rattle.std.specs.Prelude.{Some, None, Ok, codes}
use Rattle.std.specs.List.{AllByRecursion}
use Rattle.std.proofs.lemmas.Bool.{lt-leb}
use Rattle.gp_text.specs.declared.line.Line.{Line}
use Rattle.gp_text.specs.Numbers.{OneSpelling}
use Rattle.gp_text.specs.Name.{is_name}
use Rattle.gp_base.specs.Results.{and_then}
use Rattle.gp_property.specs.declared.property.Atom.{Atom}
use Rattle.gp_property.specs.declared.property.EventDef.{EventDef}
use Rattle.gp_property.specs.declared.property.PatternStep.{PatternStep}
use Rattle.gp_property.specs.PropertyForm.{PropertyForm}
use Rattle.gp_property.specs.declared.reading.Reading.{Reading}
use Rattle.gp_property.specs.Checks.{checked_pattern, is_defined}
use Rattle.gp_property.specs.Grammar.{AreNew, lines_of_all, Spells}
use Rattle.gp_property.specs.Property.{AreAtoms, AreNewEvents, AreSteps, IsEvent, IsProperty}
use Rattle.gp_property.specs.Reading.{all_read, at_end, done_with, is_bare_pattern, is_taken, next_line, properties_from, reading_after, with_event, with_pattern}
use Rattle.gp_property.specs.Words.{atoms_words, event_words, pattern_words, property_lines, steps_words}
use Rattle.gp_property.proofs.PatternAgain.{pattern_again}
use Rattle.gp_property.proofs.ShapeAgain.{definition_again}

-- the words of each line
abbrev pub words_in : List Line → List (List (List ℕ))
words_in lines = map (λ (line : Line). line.words) lines

-- no property is begun, or this one
abbrev pub between : List PropertyForm → Reading
between done = record { done = done; draft = None }

abbrev pub within : List PropertyForm → List ℕ → List EventDef → Reading
within done name events = record { done = done; draft = Some (record { name = name; events = events }) }

-- what is read after lines goes on from what their front gives
record Goes (from to : Reading) (lines : List Line) (rest : List (List (List ℕ))) : Type 0 where
  left : List Line
  words : words_in left ≡ rest
  goes : reading_after from lines ≡ reading_after to left

-- one line, and then the rest
one_line : (from to : Reading) (line : Line) (lines : List Line) → next_line from line ≡ Ok to → reading_after from (line ∷ lines) ≡ reading_after to lines
one_line from to line lines is = ap (λ read. and_then read (λ next. reading_after next lines)) is

-- one line, and then what follows
goes_on : (from mid to end : Reading) (line : Line) (lines left : List Line) → next_line from line ≡ Ok mid → reading_after mid lines ≡ reading_after to left → to ≡ end
    → reading_after from (line ∷ lines) ≡ reading_after end left
goes_on from mid to end line lines left here rest is = one_line from mid line lines here ∙ rest ∙ ap (λ reading. reading_after reading left) is

-- lines, and then further lines
then_goes : (from mid to : Reading) (lines left last : List Line) → reading_after from lines ≡ reading_after mid left → reading_after mid left ≡ reading_after to last
    → reading_after from lines ≡ reading_after to last
then_goes from mid to lines left last first second = first ∙ second

-- the line `property name`
name_line : (done : List PropertyForm) (name : List ℕ) (line : Line) → line.words ≡ codes "property" ∷ name ∷ [] → is_name name ≡ true
    → length done < 64 → is_taken done name ≡ false → next_line (between done) line ≡ Ok (within done name [])
name_line done name line words named room new =
    rw (words, named, lt-leb 64 (length done) room, new) refl

-- the line of an event
event_line : OneSpelling → (done : List PropertyForm) (name : List ℕ) (before : List EventDef) (event : EventDef) (line : Line)
    → line.words ≡ event_words event → IsEvent event → length before < 16 → is_defined before event.name ≡ false
    → next_line (within done name before) line ≡ Ok (within done name (before ++ event ∷ []))
event_line spelled done name before event line words is room new =
    rw words (ap (with_event done (record { name = name; events = before }) line.number) (definition_again spelled event is)
    ∙ rw (lt-leb 16 (length before) room, new) refl)

-- a pattern of the language breaks no rule
checked_again : (number : ℕ) (property : PropertyForm) → IsProperty property → checked_pattern number property.events property.pattern ≡ Ok tt
unfolding checked_pattern
checked_again number property is = rw (is.few_atoms, is.known, is.regions) refl

-- the line of a pattern has atoms
some_atoms : (atoms : List Atom) (rest : List (List ℕ)) → AreAtoms atoms → is_bare_pattern (codes "pattern" ∷ (atoms_words atoms ++ rest)) ≡ false
some_atoms [] rest is = absurd is
some_atoms (atom ∷ atoms) rest is = refl

some_steps : (pattern : List PatternStep) → AreSteps pattern → is_bare_pattern (pattern_words pattern) ≡ false
some_steps [] is = absurd is
some_steps (step ∷ steps) is = some_atoms step.atoms (steps_words steps) is.0

-- the line of a pattern
pattern_line : (done : List PropertyForm) (property : PropertyForm) (line : Line)
    → line.words ≡ pattern_words property.pattern → IsProperty property
    → next_line (within done property.name property.events) line ≡ Ok (between (done ++ property ∷ []))
pattern_line done property line words is =
    rw words (rw (some_steps property.pattern is.steps)
    (ap (with_pattern done (record { name = property.name; events = property.events }) line.number) (pattern_again property.pattern is.steps)
    ∙ ap (done_with done (record { name = property.name; events = property.events }) property.pattern) (checked_again line.number property is)))

events_again : OneSpelling → (done : List PropertyForm) (name : List ℕ) (before events : List EventDef) (lines : List Line) (rest : List (List (List ℕ)))
    → words_in lines ≡ map event_words events ++ rest → AllByRecursion IsEvent events → length before + length events ≤ 16 → AreNewEvents before events
    → Goes (within done name before) (within done name (before ++ events)) lines rest
events_again spelled done name before [] lines rest words are room new =
    record { left = lines; words = words; goes = ap (λ events. reading_after (within done name events) lines) (sym (append-nil before)) }
events_again spelled done name before (event ∷ events) [] rest words are room new = (cc)
events_again spelled done name before (event ∷ events) (line ∷ lines) rest words are room new =
    let here : line.words ≡ event_words event = cc in
    let later : words_in lines ≡ map event_words events ++ rest = cc in
    let goes : Goes (within done name (before ++ event ∷ [])) (within done name ((before ++ event ∷ []) ++ events)) lines rest =
    events_again spelled done name (before ++ event ∷ []) events lines rest later are.1 (omega (arith, length-append before (event ∷ []))) new.1 in
    record {
      left = goes.left;
      words = goes.words;
      goes = goes_on (within done name before) (within done name (before ++ event ∷ [])) (within done name ((before ++ event ∷ []) ++ events)) (within done name (before ++ event ∷ events))
          line lines goes.left (event_line spelled done name before event line here are.0 (omega arith) new.0) goes.goes
          (ap (within done name) (append_assoc before (event ∷ []) events));
    }

last_again : (done : List PropertyForm) (property : PropertyForm) (lines : List Line) (rest : List (List (List ℕ)))
    → words_in lines ≡ pattern_words property.pattern ∷ rest → IsProperty property
    → Goes (within done property.name property.events) (between (done ++ property ∷ [])) lines rest
last_again done property [] rest words is = (cc)
last_again done property (line ∷ lines) rest words is =
    let here : line.words ≡ pattern_words property.pattern = cc in
    record {
      left = lines;
      words = (cc);
      goes = one_line (within done property.name property.events) (between (done ++ property ∷ [])) line lines (pattern_line done property line here is);
    }

one_again : OneSpelling → (done : List PropertyForm) (property : PropertyForm) (lines : List Line) (rest : List (List (List ℕ)))
    → words_in lines ≡ property_lines property ++ rest → IsProperty property → length done < 64 → is_taken done property.name ≡ false
    → Goes (between done) (between (done ++ property ∷ [])) lines rest
one_again spelled done property [] rest words is room new = (cc)
one_again spelled done property (line ∷ lines) rest words is room new =
    let here : line.words ≡ codes "property" ∷ property.name ∷ [] = cc in
    let later : words_in lines ≡ (map event_words property.events ++ pattern_words property.pattern ∷ []) ++ rest = cc in
    let events : Goes (within done property.name []) (within done property.name property.events) lines (pattern_words property.pattern ∷ rest) =
    events_again spelled done property.name [] property.events lines (pattern_words property.pattern ∷ rest)
    (later ∙ append_assoc (map event_words property.events) (pattern_words property.pattern ∷ []) rest)
    is.events (omega (arith, is.some_events)) is.new_events in
    let last : Goes (within done property.name property.events) (between (done ++ property ∷ [])) events.left rest =
    last_again done property events.left rest events.words is in
    record {
      left = last.left;
      words = last.words;
      goes = goes_on (between done) (within done property.name []) (between (done ++ property ∷ [])) (between (done ++ property ∷ []))
          line lines last.left (name_line done property.name line here is.named room new) (then_goes (within done property.name []) (within done property.name property.events) (between (done ++ property ∷ [])) lines events.left last.left events.goes last.goes) refl;
    }

all_again : OneSpelling → (done properties : List PropertyForm) (lines : List Line)
    → words_in lines ≡ lines_of_all properties → AllByRecursion IsProperty properties → length done + length properties ≤ 64 → AreNew done properties
    → reading_after (between done) lines ≡ Ok (between (done ++ properties))
all_again spelled done [] [] words are room new = ap (λ all. Ok (between all)) (sym (append-nil done))
all_again spelled done [] (line ∷ lines) words are room new = (cc)
all_again spelled done (property ∷ properties) lines words are room new =
    let goes : Goes (between done) (between (done ++ property ∷ [])) lines (lines_of_all properties) =
    one_again spelled done property lines (lines_of_all properties) words are.0 (omega arith) new.0 in
    goes.goes
    ∙ all_again spelled (done ++ property ∷ []) properties goes.left goes.words are.1 (omega (arith, length-append done (property ∷ []))) new.1
    ∙ ap (λ all. Ok (between all)) (append_assoc done (property ∷ []) properties)

ends : (last : ℕ) (properties : List PropertyForm) → 1 ≤ length properties → at_end last properties None ≡ Ok properties
ends last [] some = absurd (omega arith)
ends last (property ∷ properties) some = refl

pub spelled_read : OneSpelling → (last : ℕ) (lines : List Line) (properties : List PropertyForm) → Spells lines properties → properties_from last lines ≡ Ok properties
spelled_read spelled last lines properties is =
    ap (all_read last) (all_again spelled [] properties lines is.words is.each (omega (arith, is.most)) is.apart)
    ∙ ends last properties is.some

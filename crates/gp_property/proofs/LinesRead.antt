-- What is read as properties is spelled by the lines.
use Rattle.std.proofs.Common.{◌≡◌, refl, sym, ap, ◌∙◌, ℕ, ◌<◌, ◌≤◌, Bool, true, false, List, [], ◌∷◌, ◌++◌, length, map, arith, append_assoc, append-nil, length-append, inl, inr, lit≤}
use Rattle.std.specs.Prelude.{Option, Some, None, Result, Ok, Err, codes, nat_le, if◌then◌else◌}
use Rattle.std.specs.List.{AllByRecursion}
use Rattle.std.specs.Str.{bytes_eq}
use Rattle.std.proofs.lemmas.Bool.{leb-false}
use Rattle.gp_text.specs.declared.line.Line.{Line}
use Rattle.gp_text.specs.Numbers.{OneSpelling}
use Rattle.gp_base.specs.Results.{and_then}
use Rattle.gp_property.specs.declared.fault.PropertyFault.{PropertyFault}
use Rattle.gp_property.specs.declared.fault.PropertyFault.TheVariants.{BadWord, RepeatedName}
use Rattle.gp_property.specs.declared.property.EventDef.{EventDef}
use Rattle.gp_property.specs.declared.property.PatternStep.{PatternStep}
use Rattle.gp_property.specs.PropertyForm.{PropertyForm}
use Rattle.gp_property.specs.Draft.{DraftForm, IsDraft}
use Rattle.gp_property.specs.declared.reading.Reading.{Reading}
use Rattle.gp_property.specs.Checks.{checked_pattern, is_defined}
use Rattle.gp_property.specs.Grammar.{AreNew, lines_of_all, Spells}
use Rattle.gp_property.specs.Property.{AreSteps, IsEvent, IsProperty}
use Rattle.gp_property.specs.Pattern.{pattern_of}
use Rattle.gp_property.specs.Reading.{all_read, at_end, begun, done_with, is_bare_pattern, is_taken, line_at, line_within, next_line, nothing_read, properties_from, property_name_of, reading_after, with_event, with_pattern}
use Rattle.gp_property.specs.Shape.{definition_of}
use Rattle.gp_property.specs.Words.{event_words, pattern_words, property_lines}
use Rattle.gp_property.proofs.LinesAgain.{between, within, words_in}
use Rattle.gp_property.proofs.PatternRead.{pattern_read}
use Rattle.gp_property.proofs.Drafts.{all_more, event_more, finished_draft, IsKept, kept, name_from, no_events}
use Rattle.gp_property.proofs.ShapeRead.{definition_read}
use Rattle.gp_property.proofs.Bytes.{either, same_bytes}

-- the lines of a property that is begun
abbrev begun_lines : Option DraftForm → List (List (List ℕ))
begun_lines None = []
begun_lines (Some draft) = (codes "property" ∷ draft.name ∷ []) ∷ map event_words draft.events

-- a property that can be begun after these
record IsBegun (done : List PropertyForm) (draft : DraftForm) : Type 0 where
  is : IsDraft draft
  new : is_taken done draft.name ≡ false
  room : length done < 64

abbrev MayBegin : List PropertyForm → Option DraftForm → Type 0
MayBegin done None = Unit {0}
MayBegin done (Some draft) = IsBegun done draft

-- these lines spell what is read
record IsRead (reading : Reading) (lines : List (List (List ℕ))) : Type 0 where
  spells : lines ≡ lines_of_all reading.done ++ begun_lines reading.draft
  each : AllByRecursion IsProperty reading.done
  apart : AreNew [] reading.done
  most : length reading.done ≤ 64
  draft : MayBegin reading.done reading.draft

new_more : (before properties : List PropertyForm) (property : PropertyForm) → AreNew before properties → is_taken (before ++ properties) property.name ≡ false
    → AreNew before (properties ++ property ∷ [])
new_more before [] property are new =
    let here : is_taken before property.name ≡ false = rw append-nil at new in
    (here, tt)
new_more before (first ∷ properties) property are new =
    let later : is_taken ((before ++ first ∷ []) ++ properties) property.name ≡ false =
    ap (λ all. is_taken all property.name) (append_assoc before (first ∷ []) properties) ∙ new in
    (are.0, new_more (before ++ first ∷ []) properties property are.1 later)

map_more : (events : List EventDef) (event : EventDef) → map event_words (events ++ event ∷ []) ≡ map event_words events ++ event_words event ∷ []
map_more [] event = refl
map_more (first ∷ events) event = ap (λ rest. event_words first ∷ rest) (map_more events event)

lines_more : (done : List PropertyForm) (property : PropertyForm) → lines_of_all (done ++ property ∷ []) ≡ lines_of_all done ++ property_lines property
lines_more [] property = append-nil (property_lines property)
lines_more (first ∷ done) property =
    ap (λ rest. property_lines first ++ rest) (lines_more done property) ∙ sym (append_assoc (property_lines first) (lines_of_all done) (property_lines property))

-- a property was begun where there is room and its name is new
begun_by : (full taken : Bool) (done : List PropertyForm) (number : ℕ) (name : List ℕ) (next : Reading)
    → (if full then Err (BadWord number) else (if taken then Err (RepeatedName number) else Ok (within done name []))) ≡ Ok next
    → (full ≡ false) × (taken ≡ false) × (next ≡ within done name [])
begun_by true taken done number name next e = (cc)
begun_by false true done number name next e = (cc)
begun_by false false done number name next e = (refl, refl, (cc))

begun_read : (done : List PropertyForm) (number : ℕ) (words : List (List ℕ)) (name : Option (List ℕ)) (next : Reading) (lines : List (List (List ℕ)))
    → property_name_of words ≡ name → begun done number name ≡ Ok next → IsRead (between done) lines → IsRead next (lines ++ words ∷ [])
begun_read done number words None next lines named e is = (cc)
begun_read done number words (Some name) next lines named e is =
    let made = begun_by (nat_le 64 (length done)) (is_taken done name) done number name next e in
    let spelled = name_from words name named in
    let next_is : next ≡ within done name [] = made.2 in
    rw (next_is, spelled.0) (record {
      spells = ap (λ all. all ++ (codes "property" ∷ name ∷ []) ∷ []) (is.spells ∙ append-nil (lines_of_all done));
      each = is.each;
      apart = is.apart;
      most = is.most;
      draft = record { is = no_events name spelled.1; new = made.1; room = leb-false 64 (length done) made.0 };
    })

-- an event was added where there is room and its name is new
event_by : (full taken : Bool) (done : List PropertyForm) (name : List ℕ) (events : List EventDef) (number : ℕ) (event : EventDef) (next : Reading)
    → (if full then Err (BadWord number) else (if taken then Err (RepeatedName number) else Ok (within done name (events ++ event ∷ [])))) ≡ Ok next
    → (full ≡ false) × (taken ≡ false) × (next ≡ within done name (events ++ event ∷ []))
event_by true taken done name events number event next e = (cc)
event_by false true done name events number event next e = (cc)
event_by false false done name events number event next e = (refl, refl, (cc))

event_made : (done : List PropertyForm) (name : List ℕ) (events : List EventDef) (event : EventDef) (next : Reading) (lines : List (List (List ℕ))) (words : List (List ℕ))
    → next ≡ within done name (events ++ event ∷ []) → words ≡ event_words event → IsEvent event → length events < 16 → is_defined events event.name ≡ false
    → IsRead (within done name events) lines → IsRead next (lines ++ words ∷ [])
event_made done name events event next lines words made spelled event_is room new is =
    rw (made, spelled) (record {
      spells = ap (λ all. all ++ event_words event ∷ []) is.spells
          ∙ append_assoc (lines_of_all done) ((codes "property" ∷ name ∷ []) ∷ map event_words events) (event_words event ∷ [])
          ∙ ap (λ rest. lines_of_all done ++ ((codes "property" ∷ name ∷ []) ∷ rest)) (sym (map_more events event));
      each = is.each;
      apart = is.apart;
      most = is.most;
      draft = record { is = event_more name events event is.draft.is event_is room new; new = is.draft.new; room = is.draft.room };
    })

event_read : OneSpelling → (done : List PropertyForm) (name : List ℕ) (events : List EventDef) (number : ℕ) (words : List (List ℕ)) (event : Option EventDef) (next : Reading) (lines : List (List (List ℕ)))
    → definition_of words ≡ event → with_event done (record { name = name; events = events }) number event ≡ Ok next
    → IsRead (within done name events) lines → IsRead next (lines ++ (codes "event" ∷ words) ∷ [])
event_read spelled done name events number words None next lines read e is = (cc)
event_read spelled done name events number words (Some event) next lines read e is =
    let made = event_by (nat_le 16 (length events)) (is_defined events event.name) done name events number event next e in
    let line = definition_read spelled words event read in
    event_made done name events event next lines (codes "event" ∷ words) made.2 line.0 line.1 (leb-false 16 (length events) made.0) made.1 is

done_from : (done : List PropertyForm) (draft : DraftForm) (pattern : List PatternStep) (checked : Result (Unit {0}) PropertyFault) (next : Reading)
    → done_with done draft pattern checked ≡ Ok next
    → (checked ≡ Ok tt) × (next ≡ between (done ++ (record { name = draft.name; events = draft.events; pattern = pattern }) ∷ []))
done_from done draft pattern (Err fault) next e = (cc)
done_from done draft pattern (Ok u) next e = (refl, (cc))

property_made : (done : List PropertyForm) (property : PropertyForm) (next : Reading) (lines : List (List (List ℕ))) (words : List (List ℕ))
    → next ≡ between (done ++ property ∷ []) → words ≡ pattern_words property.pattern → AreSteps property.pattern → IsKept property.events property.pattern
    → IsRead (within done property.name property.events) lines → IsRead next (lines ++ words ∷ [])
property_made done property next lines words made spelled steps keeps is =
    rw (made, spelled) (record {
      spells = ap (λ all. all ++ pattern_words property.pattern ∷ []) is.spells
          ∙ append_assoc (lines_of_all done) ((codes "property" ∷ property.name ∷ []) ∷ map event_words property.events) (pattern_words property.pattern ∷ [])
          ∙ sym (append-nil (lines_of_all (done ++ property ∷ [])) ∙ lines_more done property);
      each = all_more IsProperty done property is.each (finished_draft property is.draft.is steps keeps);
      apart = new_more [] done property is.apart is.draft.new;
      most = omega (arith, length-append done (property ∷ []), is.draft.room);
      draft = tt;
    })

pattern_line_read : (done : List PropertyForm) (name : List ℕ) (events : List EventDef) (number : ℕ) (words : List (List ℕ)) (pattern : Option (List PatternStep)) (next : Reading) (lines : List (List (List ℕ)))
    → pattern_of words ≡ pattern → with_pattern done (record { name = name; events = events }) number pattern ≡ Ok next
    → IsRead (within done name events) lines → IsRead next (lines ++ (codes "pattern" ∷ words) ∷ [])
pattern_line_read done name events number words None next lines read e is = (cc)
pattern_line_read done name events number words (Some pattern) next lines read e is =
    let from = done_from done (record { name = name; events = events }) pattern (checked_pattern number events pattern) next e in
    let line = pattern_read words pattern read in
    property_made done (record { name = name; events = events; pattern = pattern }) next lines (codes "pattern" ∷ words) from.1
    (ap (λ rest. codes "pattern" ∷ rest) line.0) line.1 (kept number events pattern from.0) is

within_read : OneSpelling → (done : List PropertyForm) (name : List ℕ) (events : List EventDef) (number : ℕ) (words : List (List ℕ)) (next : Reading) (lines : List (List (List ℕ)))
    → line_within done (record { name = name; events = events }) number words ≡ Ok next
    → IsRead (within done name events) lines → IsRead next (lines ++ words ∷ [])
within_read spelled done name events number [] next lines e is = (cc)
within_read spelled done name events number (keyword ∷ words) next lines e is =
    elim (either (bytes_eq keyword (codes "property")) _ _ (Ok next) e) [
      | inl new ↦ (cc)
      | inr older ↦ elim (either (bytes_eq keyword (codes "event")) _ _ (Ok next) older.1) [
        | inl event ↦
            let read : IsRead next (lines ++ (codes "event" ∷ words) ∷ []) =
            event_read spelled done name events number words (definition_of words) next lines refl event.1 is in
            rw (same_bytes keyword (codes "event") event.0) read
        | inr last ↦ elim (either (bytes_eq keyword (codes "pattern")) _ _ (Ok next) last.1) [
          | inl pattern ↦
              let read : IsRead next (lines ++ (codes "pattern" ∷ words) ∷ []) =
              pattern_line_read done name events number words (pattern_of words) next lines refl pattern.1 is in
              rw (same_bytes keyword (codes "pattern") pattern.0) read
          | inr other ↦ (cc)
        ]
      ]
    ]

at_read : OneSpelling → (done : List PropertyForm) (draft : Option DraftForm) (number : ℕ) (words : List (List ℕ)) (next : Reading) (lines : List (List (List ℕ)))
    → line_at done draft number words ≡ Ok next → IsRead (record { done = done; draft = draft }) lines → IsRead next (lines ++ words ∷ [])
at_read spelled done None number words next lines e is = begun_read done number words (property_name_of words) next lines refl e is
at_read spelled done (Some draft) number words next lines e is = within_read spelled done draft.name draft.events number words next lines e is

line_read : OneSpelling → (reading next : Reading) (line : Line) (lines : List (List (List ℕ))) → next_line reading line ≡ Ok next
    → IsRead reading lines → IsRead next (lines ++ line.words ∷ [])
line_read spelled reading next line lines e is =
    elim (either (is_bare_pattern line.words) _ _ (Ok next) e) [
      | inl bare ↦ (cc)
      | inr full ↦ at_read spelled reading.done reading.draft line.number line.words next lines full.1 is
    ]

read_from : (first : Result Reading PropertyFault) (rest : Reading → Result Reading PropertyFault) (last : Reading) → and_then first rest ≡ Ok last
    → (next : Reading) × (first ≡ Ok next) × (rest next ≡ Ok last)
read_from (Err fault) rest last e = (cc)
read_from (Ok next) rest last e = (next, refl, e)

lines_read : OneSpelling → (reading last : Reading) (before : List (List (List ℕ))) (lines : List Line) → reading_after reading lines ≡ Ok last
    → IsRead reading before → IsRead last (before ++ words_in lines)
lines_read spelled reading last before [] e is =
    let made : last ≡ reading = cc in
    rw (made, append-nil before) is
lines_read spelled reading last before (line ∷ lines) e is =
    let from = read_from (next_line reading line) (λ next. reading_after next lines) last e in
    let here : IsRead last ((before ++ line.words ∷ []) ++ words_in lines) =
    lines_read spelled from.0 last (before ++ line.words ∷ []) lines from.2 (line_read spelled reading from.0 line before from.1 is) in
    rw (append_assoc before (line.words ∷ []) (words_in lines)) at here

ended_with : (last : ℕ) (done : List PropertyForm) (draft : Option DraftForm) (properties : List PropertyForm) → at_end last done draft ≡ Ok properties
    → (draft ≡ None) × (properties ≡ done) × (1 ≤ length done)
ended_with last [] (Some draft) properties e = (cc)
ended_with last (property ∷ done) (Some draft) properties e = (cc)
ended_with last [] None properties e = (cc)
ended_with last (property ∷ done) None properties e = (refl, (cc), omega arith)

spelled_by : (lines : List Line) (done : List PropertyForm) (draft : Option DraftForm) (properties : List PropertyForm)
    → draft ≡ None → properties ≡ done → 1 ≤ length done → IsRead (record { done = done; draft = draft }) (words_in lines) → Spells lines properties
spelled_by lines done None properties none made some is =
    rw made (record {
      words = is.spells ∙ append-nil (lines_of_all done);
      some = some;
      most = is.most;
      apart = is.apart;
      each = is.each;
    })
spelled_by lines done (Some draft) properties none made some is = (cc)

all_from : OneSpelling → (last : ℕ) (lines : List Line) (properties : List PropertyForm) (reading : Result Reading PropertyFault)
    → reading_after nothing_read lines ≡ reading → all_read last reading ≡ Ok properties → Spells lines properties
all_from spelled last lines properties (Err fault) read e = (cc)
all_from spelled last lines properties (Ok reading) read e =
    let end = ended_with last reading.done reading.draft properties e in
    spelled_by lines reading.done reading.draft properties end.0 end.1 end.2
    (lines_read spelled nothing_read reading [] lines read (record { spells = refl; each = tt; apart = tt; most = lit≤ tt; draft = tt }))

pub read_spelled : OneSpelling → (last : ℕ) (lines : List Line) (properties : List PropertyForm) → properties_from last lines ≡ Ok properties → Spells lines properties
read_spelled spelled last lines properties e = all_from spelled last lines properties (reading_after nothing_read lines) refl e

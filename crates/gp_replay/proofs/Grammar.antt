-- Lines that spell a schedule are read as it, and no others are.
use Rattle.std.proofs.Common.{ℕ, ◌≡◌, ◌<◌, ◌≤◌, ◌^◌, ap, sym, ◌∙◌, refl, subst, List, [], ◌∷◌, ◌++◌, map, arith}
use Rattle.std.specs.Prelude.{Option, Some, None, Result, Ok, Err, IfOk, codes}
use Rattle.std.specs.List.{AllByRecursion}
use Rattle.gp_text.specs.Numbers.{OneSpelling, between, number_after}
use Rattle.gp_base.specs.Results.{or_refusal, then_rest, with_prefix}
use Rattle.gp_text.specs.declared.line.Line.{Line}
use Rattle.gp_window.specs.NumberLaws.{is_between, keyword_and_number, number_is_after, was_between}
use Rattle.gp_window.specs.EventIds.{EventIdsReadExactly, event_id_of, event_id_text}
use Rattle.gp_window.specs.declared.schedule.EventId.{EventId}
use Rattle.gp_replay.specs.Grammar.{AreEventIds, Spells, words_in}
use Rattle.gp_replay.specs.Schedule.{event_ids_of, events_of, joined, schedule_after, schedule_of, schedule_with}
use Rattle.gp_replay.specs.declared.schedule.ScheduleFault.{ScheduleFault}
use Rattle.gp_replay.specs.declared.schedule.ScheduleFault.TheVariants.{BadLine}
use Rattle.gp_replay.specs.declared.schedule.WindowSchedule.{WindowSchedule}

-- a value that was there, and the values after it
both_there : {A : Type 0} (fault : ScheduleFault) (first : Option A) (rest : Result (List A) ScheduleFault) (all : List A)
    → then_rest (or_refusal fault first) rest ≡ Ok all
    → (one : A) × (more : List A) × (first ≡ Some one) × (rest ≡ Ok more) × (one ∷ more ≡ all)
both_there fault None rest all e = cc
both_there fault (Some one) (Err other) all e = cc
both_there fault (Some one) (Ok more) all e = (one, more, refl, refl, (cc))

-- a word that names an event is its text
word_is_text : EventIdsReadExactly → (word : List ℕ) (id : EventId) → (id.thread < 2 ^ 32) × (id.index < 2 ^ 32) → event_id_of word ≡ Some id → word ≡ event_id_text id
word_is_text law word id small e = (law word id small.0 small.1).0 e

-- the words of a line that is read are the texts of the events
words_are_texts : EventIdsReadExactly → (number : ℕ) (words : List (List ℕ)) (ids : List EventId) → AreEventIds ids
    → event_ids_of number words ≡ Ok ids → words ≡ map event_id_text ids
words_are_texts law number [] [] small e = refl
words_are_texts law number [] (id ∷ ids) small e = cc
words_are_texts law number (word ∷ words) [] small e =
    let parts = both_there (BadLine number) (event_id_of word) (event_ids_of number words) [] e in
    let bad : parts.0 ∷ parts.1 ≡ [] = parts.4 in cc
words_are_texts law number (word ∷ words) (id ∷ ids) small e =
    let parts = both_there (BadLine number) (event_id_of word) (event_ids_of number words) (id ∷ ids) e in
    let all : parts.0 ∷ parts.1 ≡ id ∷ ids = parts.4 in
    let same : parts.0 ≡ id = cc in
    let more : parts.1 ≡ ids = cc in
    let here : word ≡ event_id_text id = word_is_text law word id small.0 (parts.2 ∙ ap Some same) in
    let later : words ≡ map event_id_text ids = words_are_texts law number words ids small.1 (parts.3 ∙ ap Ok more) in
    ap (λ w. w ∷ words) here ∙ ap (λ rest. event_id_text id ∷ rest) later

-- the texts of events are read as these
texts_are_read : EventIdsReadExactly → (number : ℕ) (ids : List EventId) → AreEventIds ids → event_ids_of number (map event_id_text ids) ≡ Ok ids
texts_are_read law number [] small = refl
texts_are_read law number (id ∷ ids) small =
    let here : event_id_of (event_id_text id) ≡ Some id = (law (event_id_text id) id small.0.0 small.0.1).1 refl in
    ap (λ (o : Option EventId). then_rest (or_refusal (BadLine number) o) (event_ids_of number (map event_id_text ids))) here
    ∙ ap (λ (rest : Result (List EventId) ScheduleFault). then_rest (Ok id) rest) (texts_are_read law number ids small.1)

-- the events of a line, and those of the lines after it
both_parts : (first rest : Result (List EventId) ScheduleFault) (all : List EventId) → joined first rest ≡ Ok all
    → (some : List EventId) × (more : List EventId) × (first ≡ Ok some) × (rest ≡ Ok more) × (some ++ more ≡ all)
both_parts (Err fault) rest all e = cc
both_parts (Ok some) (Err fault) all e = cc
both_parts (Ok some) (Ok more) all e = (some, more, refl, refl, (cc))

-- what holds of two lists in a row holds of each
all_parts : {A : Type 0} (P : A → Type 0) (some more : List A) → AllByRecursion P (some ++ more) → AllByRecursion P some × AllByRecursion P more
all_parts P [] more all = (tt, all)
all_parts P (one ∷ some) more all = let parts = all_parts P some more all.1 in ((all.0, parts.0), parts.1)

map_parts : {A B : Type 0} (f : A → B) (some more : List A) → map f (some ++ more) ≡ map f some ++ map f more
map_parts f [] more = refl
map_parts f (one ∷ some) more = ap (λ rest. f one ∷ rest) (map_parts f some more)

-- two lists in a row that are the texts of some values part these values
parts_of_map : {A B : Type 0} (f : A → B) (some more : List B) (all : List A) → some ++ more ≡ map f all
    → (first : List A) × (rest : List A) × (all ≡ first ++ rest) × (some ≡ map f first) × (more ≡ map f rest)
parts_of_map f [] more all e = ([], all, refl, refl, e)
parts_of_map f (one ∷ some) more [] e = cc
parts_of_map f (one ∷ some) more (a ∷ all) e =
    let here : one ≡ f a = cc in
    let later : some ++ more ≡ map f all = cc in
    let parts = parts_of_map f some more all later in
    (a ∷ parts.0, parts.1, ap (λ rest. a ∷ rest) parts.2, ap (λ b. b ∷ some) here ∙ ap (λ rest. f a ∷ rest) parts.3, parts.4)

lines_are_texts : EventIdsReadExactly → (lines : List Line) (ids : List EventId) → AreEventIds ids → events_of lines ≡ Ok ids → words_in lines ≡ map event_id_text ids
lines_are_texts law [] [] small e = refl
lines_are_texts law [] (id ∷ ids) small e = cc
lines_are_texts law (line ∷ lines) ids small e =
    let parts = both_parts (event_ids_of line.number line.words) (events_of lines) ids e in
    let each = all_parts (λ (id : EventId). (id.thread < 2 ^ 32) × (id.index < 2 ^ 32)) parts.0 parts.1 (subst AreEventIds (sym parts.4) small) in
    let here : line.words ≡ map event_id_text parts.0 = words_are_texts law line.number line.words parts.0 each.0 parts.2 in
    let later : words_in lines ≡ map event_id_text parts.1 = lines_are_texts law lines parts.1 each.1 parts.3 in
    ap (λ words. words ++ words_in lines) here
    ∙ ap (λ words. map event_id_text parts.0 ++ words) later
    ∙ sym (map_parts event_id_text parts.0 parts.1)
    ∙ ap (map event_id_text) parts.4

texts_are_lines : EventIdsReadExactly → (lines : List Line) (ids : List EventId) → AreEventIds ids → words_in lines ≡ map event_id_text ids → events_of lines ≡ Ok ids
texts_are_lines law [] [] small e = refl
texts_are_lines law [] (id ∷ ids) small e = cc
texts_are_lines law (line ∷ lines) ids small e =
    let parts = parts_of_map event_id_text line.words (words_in lines) ids e in
    let each = all_parts (λ (id : EventId). (id.thread < 2 ^ 32) × (id.index < 2 ^ 32)) parts.0 parts.1 (subst AreEventIds parts.2 small) in
    let here : event_ids_of line.number line.words ≡ Ok parts.0 =
    ap (event_ids_of line.number) parts.3 ∙ texts_are_read law line.number parts.0 each.0 in
    let later : events_of lines ≡ Ok parts.1 = texts_are_lines law lines parts.1 each.1 parts.4 in
    ap (λ (first : Result (List EventId) ScheduleFault). joined first (events_of lines)) here
    ∙ ap (λ (rest : Result (List EventId) ScheduleFault). with_prefix parts.0 rest) later
    ∙ ap Ok (sym parts.2)

-- the events that were read are the schedule's
events_given : (window : ℕ) (events : Result (List EventId) ScheduleFault) (read : WindowSchedule) → schedule_with window events ≡ Ok read
    → (events ≡ Ok read.schedule.events) × (window ≡ read.window)
events_given window (Err fault) read e = cc
events_given window (Ok events) read e =
    let P : Result WindowSchedule ScheduleFault → Type 0 =
    λ r. IfOk r (λ given. (◌≡◌ {A = Result (List EventId) ScheduleFault} (Ok events) (Ok given.schedule.events)) × (window ≡ given.window)) in
    subst P e (refl, refl)

-- the window that was named, and the events that were read
window_given : (number : ℕ) (window : Option ℕ) (lines : List Line) (read : WindowSchedule) → schedule_after number window lines ≡ Ok read
    → (window ≡ Some read.window) × (events_of lines ≡ Ok read.schedule.events)
window_given number None lines read e = cc
window_given number (Some window) lines read e = let given = events_given window (events_of lines) read e in (ap Some given.1, given.0)

-- lines that are read spell what was read
pub read_is_spelled : OneSpelling → EventIdsReadExactly → (epochs end : ℕ) (lines : List Line) (read : WindowSchedule) → epochs < 2 ^ 32
    → AreEventIds read.schedule.events → schedule_of epochs end lines ≡ Ok read → Spells epochs lines read
read_is_spelled numbers ids epochs end [] read few small e = cc
read_is_spelled numbers ids epochs end (line ∷ lines) read few small e =
    let given = window_given line.number (between 1 epochs (number_after (codes "window") line.words)) lines read e in
    let named = was_between 1 epochs (number_after (codes "window") line.words) read.window given.0 in
    let least : 1 ≤ read.window = named.1 in
    let most : read.window ≤ epochs = named.2 in
    record {
      first = line;
      rest = lines;
      all = refl;
      window = keyword_and_number numbers (codes "window") line.words read.window named.0;
      least = least;
      most = most;
      events = lines_are_texts ids lines read.schedule.events small given.1;
    }

-- lines that spell a schedule are read as it
pub spelled_is_read : OneSpelling → EventIdsReadExactly → (epochs end : ℕ) (lines : List Line) (read : WindowSchedule) → epochs < 2 ^ 32
    → AreEventIds read.schedule.events → Spells epochs lines read → schedule_of epochs end lines ≡ Ok read
spelled_is_read numbers ids epochs end lines read few small s =
    let least : 1 ≤ read.window = s.least in
    let most : read.window ≤ epochs = s.most in
    let named : number_after (codes "window") s.first.words ≡ Some read.window =
    ap (number_after (codes "window")) s.window ∙ number_is_after numbers (codes "window") read.window (omega arith) in
    ap (schedule_of epochs end) s.all
    ∙ ap (λ (number : Option ℕ). schedule_after s.first.number (between 1 epochs number) s.rest) named
    ∙ ap (λ (window : Option ℕ). schedule_after s.first.number window s.rest) (is_between 1 epochs read.window least most)
    ∙ ap (λ (events : Result (List EventId) ScheduleFault). schedule_with read.window events) (texts_are_lines ids s.rest read.schedule.events small s.events)

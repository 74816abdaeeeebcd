-- The id of an event as a word `T.X`: thread T, index X in its segment.
use Rattle.std.specs.Prelude.{◌≡◌, ◌↔◌, ℕ, ◌++◌, ◌==◌, ◌<◌, ◌^◌, List, [], ◌∷◌, Option, Some, None, codes, decimal}
use Rattle.std.specs.List.{slice_split}
use Rattle.gp_text.specs.Numbers.{small_number_of}
use Rattle.gp_window.specs.declared.schedule.EventId.{EventId}

-- the text of an id
abbrev pub event_id_text : EventId → List ℕ
event_id_text id = decimal id.thread ++ codes "." ++ decimal id.index

-- the id of this thread and index
abbrev pub event_id_with : Option ℕ → Option ℕ → Option EventId
event_id_with (Some thread) (Some index) = Some (record { thread = thread; index = index })
event_id_with (Some thread) None = None
event_id_with None index = None

-- the id that the two sides of a point name
abbrev pub event_id_from : List (List ℕ) → Option EventId
event_id_from (thread ∷ index ∷ []) = event_id_with (small_number_of thread) (small_number_of index)
event_id_from _ = None

-- the id that a word names; 46 is the point
abbrev pub event_id_of : List ℕ → Option EventId
event_id_of word = event_id_from (slice_split (λ b. b == 46) word)

-- a word is read as an id exactly where it is the id's text
abbrev pub EventIdsReadExactly : Type 0
EventIdsReadExactly =
    (word : List ℕ) (id : EventId) → id.thread < 2 ^ 32 → id.index < 2 ^ 32 → (event_id_of word ≡ Some id) ↔ (word ≡ event_id_text id)

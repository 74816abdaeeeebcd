-- The lines of a schedule, one event after another.
use Rattle.std.proofs.Common.{ℕ, ◌≡◌, ◌+◌, ◌<◌, ap, sym, ◌∙◌, append_assoc, Bool, List, [], ◌∷◌, ◌++◌, drop, get_or, length, take}
use Rattle.std.specs.Prelude.{Option}
use Rattle.std.proofs.lemmas.List.{drop_more, take_more}
use Rattle.gp_window.specs.Ids.{contains_event}
use Rattle.gp_window.specs.WindowForm.{WindowForm}
use Rattle.gp_window.specs.declared.schedule.EventId.{EventId}
use Rattle.gp_story.specs.declared.story.Source.{Source}
use Rattle.gp_story.specs.declared.story.StoryLine.{StoryLine}
use Rattle.gp_story.specs.Lines.{line_of, lines_from}
use Rattle.gp_story.specs.Shared.{shares}
use Rattle.gp_story.specs.Source.{source_of, starter_of}

-- a line that is made of these is that of the event
pub made_line : (window : WindowForm) (marked before : List EventId) (id : EventId) (source : Source) (starter : Option EventId) (is_marked is_shared : Bool)
    → source ≡ source_of window before id → starter ≡ starter_of window before id → is_marked ≡ contains_event marked id → is_shared ≡ shares window id
    → ◌≡◌ {A = StoryLine} (record { place = length before; event = id; source = source; started_by = starter; is_marked = is_marked; is_shared = is_shared }) (line_of window marked before id)
made_line window marked before id source starter is_marked is_shared a b c d =
    ap (λ (s : Source). record { place = length before; event = id; source = s; started_by = starter; is_marked = is_marked; is_shared = is_shared }) a
    ∙ ap (λ (s : Option EventId). record { place = length before; event = id; source = source_of window before id; started_by = s; is_marked = is_marked; is_shared = is_shared }) b
    ∙ ap (λ (m : Bool). record { place = length before; event = id; source = source_of window before id; started_by = starter_of window before id; is_marked = m; is_shared = is_shared }) c
    ∙ ap (λ (s : Bool). record { place = length before; event = id; source = source_of window before id; started_by = starter_of window before id; is_marked = contains_event marked id; is_shared = s }) d

-- one line more goes from those that are left to those that are told
pub one_line : (window : WindowForm) (marked schedule : List EventId) (lines next all : List StoryLine) (line : StoryLine) (place : ℕ) (d : EventId) → place < length schedule
    → line ≡ line_of window marked (take place schedule) (get_or schedule place d) → next ≡ lines ++ line ∷ []
    → lines ++ lines_from window marked (take place schedule) (drop place schedule) ≡ all
    → next ++ lines_from window marked (take (place + 1) schedule) (drop (place + 1) schedule) ≡ all
one_line window marked schedule lines next all line place d below is longer told =
    let id : EventId = get_or schedule place d in
    let own : StoryLine = line_of window marked (take place schedule) id in
    ap (λ (front : List StoryLine). front ++ lines_from window marked (take (place + 1) schedule) (drop (place + 1) schedule)) (longer ∙ ap (λ (l : StoryLine). lines ++ l ∷ []) is)
    ∙ append_assoc lines (own ∷ []) (lines_from window marked (take (place + 1) schedule) (drop (place + 1) schedule))
    ∙ ap (λ (ids : List EventId). lines ++ own ∷ lines_from window marked ids (drop (place + 1) schedule)) (take_more schedule place d below)
    ∙ ap (λ (ids : List EventId). lines ++ lines_from window marked (take place schedule) ids) (sym (drop_more schedule place d below))
    ∙ told

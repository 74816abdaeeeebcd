use Rattle.std.proofs.Common.{◌≡◌, ◌+◌, ◌++◌, [], ◌∷◌, decimal, List, ℕ, OnOk, subst}
use Rattle.gp_text.specs.Spelling.{spelling}
use Rattle.gp_text.specs.SpellingLaws.{line_put}
use Rattle.gp_place.specs.Places.{behind}
use Rattle.gp_window.specs.EventIds.{event_id_text}
use Rattle.gp_window.specs.Events.{event_at}
use Rattle.gp_window.specs.WindowForm.{WindowForm}
use Rattle.gp_story.specs.declared.story.StoryLine.{StoryLine}
use Rattle.gp_tell.specs.StoryText.{single_line, told_words}
use Rattle.gp_tell.proofs.story.put_single.Goals as goal

pub returns : goal.returns
returns c =
    let window : WindowForm = c.args.window.now in
    let line : StoryLine = c.args.line.now in
    let whole : c.put_event_told.new.text.items ++ 10 ∷ [] ≡ c.args.text.now.items ++ spelling (single_line (behind c.args.places.now window.number) window line ∷ []) =
    rw (c.in_ok-put_event_told.ensures, c.in_ok-put_number.ensures)
    (line_put c.args.text.now.items (decimal (line.place + 1)) (event_id_text line.event ∷ (told_words (event_at window line.event) line ++ behind c.args.places.now window.number line.event))) in
    subst (λ (text : List ℕ). OnOk c.end_line.result (c.end_line.new.text.items ≡ text)) whole c.end_line.ensures

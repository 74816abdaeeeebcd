use Rattle.std.proofs.Common.{◌≡◌, ◌+◌, ◌++◌, [], ◌∷◌, ◌∙◌, ap, codes, decimal, List, ℕ, OnOk, subst}
use Rattle.gp_text.specs.Spelling.{spelling}
use Rattle.gp_text.specs.SpellingLaws.{line_put}
use Rattle.gp_window.specs.EventIds.{event_id_text}
use Rattle.gp_story.specs.declared.story.StoryLine.{StoryLine}
use Rattle.gp_tell.specs.StoryText.{run_line}
use Rattle.gp_tell.proofs.Told.{three_put}
use Rattle.gp_tell.proofs.story.put_run_line.Goals as goal

pub returns : goal.returns
returns c =
    let text : List ℕ = c.args.text.now.items in
    let first : StoryLine = c.args.first.now in
    let last : StoryLine = c.args.last.now in
    let number : List ℕ = decimal (first.place + 1) in
    let place : List (List ℕ) = codes "to" ∷ decimal (last.place + 1) ∷ [] in
    let events : List (List ℕ) = event_id_text first.event ∷ codes "to" ∷ (event_id_text last.event ++ codes ",") ∷ [] in
    let count : List (List ℕ) = decimal c.args.count ∷ codes "events that nobody else has to do with" ∷ [] in
    let whole : c.put_count.new.text.items ++ 10 ∷ [] ≡ text ++ spelling (run_line first last c.args.count ∷ []) =
    rw (c.in_ok-put_count.ensures, c.in_ok-put_events.ensures, c.in_ok-put_last_place.ensures, c.in_ok-put_number.ensures)
    (ap (λ (line : List ℕ). line ++ 10 ∷ []) (three_put (text ++ number) place events count) ∙ line_put text number (place ++ (events ++ count))) in
    subst (λ (line : List ℕ). OnOk c.end_line.result (c.end_line.new.text.items ≡ line)) whole c.end_line.ensures

use Rattle.std.proofs.Common.{◌≡◌, ◌++◌, [], ◌∷◌, ◌∙◌, ap, append_assoc, codes, List, ℕ, OnOk, subst}
use Rattle.gp_place.specs.Places.{behind}
use Rattle.gp_text.specs.Spelling.{spelling}
use Rattle.gp_tell.specs.StoryText.{story_lines}
use Rattle.gp_view.proofs.text.put_headed_story.Goals as goal

pub returns : goal.returns
returns c =
    let lines : List (List (List ℕ)) = story_lines (behind c.args.places.now c.args.window.now.number) c.args.window.now c.args.story.now in
    let whole : c.extend_from_slice.new.self.items ++ spelling lines ≡ c.args.text.now.items ++ spelling ((codes "it can happen so:" ∷ []) ∷ lines) =
    ap (λ (text : List ℕ). text ++ spelling lines) c.in_ok-extend_from_slice.ensures.items ∙ append_assoc c.args.text.now.items (codes "it can happen so:\n") (spelling lines) in
    subst (λ (text : List ℕ). OnOk c.put_story.result (c.put_story.new.text.items ≡ text)) whole c.put_story.ensures

use Rattle.std.proofs.Common.{◌≡◌, ◌++◌, [], ◌∷◌, ◌∙◌, ap, codes, List, ℕ, OnOk, subst}
use Rattle.gp_text.specs.Spelling.{after_words, spelling}
use Rattle.gp_text.specs.SpellingLaws.{line_put}
use Rattle.gp_tell.specs.Naming.{name_by}
use Rattle.gp_tell.specs.ReasonText.{cycle_line, cycle_words}
use Rattle.gp_tell.proofs.reason.put_cycle_line.Goals as goal

pub returns : goal.returns
returns c =
    let text : List ℕ = c.args.text.now.items in
    let words : List (List ℕ) = cycle_words (name_by c.args.naming.now) c.args.first c.args.others.now in
    let whole : c.put_cycle_words.new.text.items ++ 10 ∷ [] ≡ text ++ spelling (cycle_line (name_by c.args.naming.now) c.args.first c.args.others.now ∷ []) =
    ap (λ (line : List ℕ). line ++ 10 ∷ [])
    (c.in_ok-put_cycle_words.ensures ∙ ap (λ (line : List ℕ). line ++ after_words words) c.in_ok-extend_from_slice.ensures.items)
    ∙ line_put text (codes "-") words in
    subst (λ (line : List ℕ). OnOk c.end_line.result (c.end_line.new.text.items ≡ line)) whole c.end_line.ensures

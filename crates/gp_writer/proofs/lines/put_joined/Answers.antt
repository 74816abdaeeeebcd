use Rattle.std.proofs.Common.{◌≡◌, ◌++◌, ◌∙◌, ap, List, ℕ, OnOk, map, subst}
use Rattle.gp_text.specs.Spelling.{after_words}
use Rattle.gp_writer.proofs.LineByLine.{first_put}
use Rattle.gp_writer.proofs.lines.put_joined.Goals as goal

pub returns : goal.returns
returns g c =
    let first = ap (λ (text : List ℕ). text ++ after_words (map g.W.Spelled.word c.in-Some.rest.now)) c.in_ok-put.ensures in
    let line = first_put g.W.Spelled.word c.args.text.now.items c.args.words.now c.in-Some.rest.now c.in-Some.first.now c.in-Some.ensures.cases.0 in
    subst (λ (text : List ℕ). OnOk c.put_words.result (c.put_words.new.text.items ≡ text)) (first ∙ line) c.put_words.ensures

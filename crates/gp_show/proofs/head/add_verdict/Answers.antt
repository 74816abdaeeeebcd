-- The verdict, and an empty line behind it.
use Rattle.std.proofs.Common.{[], ◌∷◌, ◌++◌, ◌∙◌, ap}
use Rattle.gp_overview.specs.Verdict.{verdict_words}
use Rattle.gp_show.proofs.Pieces.{line_and_empty}
use Rattle.gp_show.proofs.head.add_verdict.Goals as goal

pub returns : goal.returns
returns c =
    c.in_ok-push.ensures.items ∙ ap (λ text. text ++ 10 ∷ []) c.in_ok-put_verdict.ensures
    ∙ line_and_empty c.args.text.now.items (verdict_words c.args.windows.now c.args.checked)

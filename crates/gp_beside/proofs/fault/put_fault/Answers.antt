use Rattle.std.proofs.Common.{ℕ, List, ◌∷◌, ◌++◌, ap, ◌∙◌, codes}
use Rattle.std.proofs.lemmas.Result.{on_ok_weaker}
use Rattle.gp_text.specs.Spelling.{after_words}
use Rattle.gp_beside.specs.Files.{name_of}
use Rattle.gp_beside.specs.Refusal.{cause_words}
use Rattle.gp_beside.proofs.Put.{first_put}
use Rattle.gp_beside.proofs.fault.put_fault.Goals as goal

pub returns : goal.returns
returns c =
    let words : List (List ℕ) = name_of c.args.fault.file ∷ cause_words c.args.fault.cause in
    on_ok_weaker c.put_told.result (λ is.
    is ∙ ap (λ (text : List ℕ). text ++ after_words words) c.in_ok-extend_from_slice.ensures.items ∙ first_put c.args.text.now.items (codes "left out: refused") words)
    c.put_told.ensures

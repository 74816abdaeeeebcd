use Rattle.std.proofs.Common.{◌≡◌, ◌++◌, ◌∷◌, codes, List, ℕ, OnOk, subst}
use Rattle.gp_checker.specs.declared.failure.Failure.{Failure}
use Rattle.gp_text.specs.Spelling.{after_words, joined}
use Rattle.gp_overview.specs.Verdict.{place_words, reason_words, rejected_words}
use Rattle.gp_overview.proofs.Told.{line_put}
use Rattle.gp_overview.proofs.verdict.put_rejected.Goals as goal

pub returns : goal.returns
returns c =
    let text : List ℕ = c.args.text.now.items in
    let failure : Failure = c.args.failure in
    let cause : List (List ℕ) = codes "since" ∷ reason_words failure.reason failure.place in
    let whole : c.put_place.new.text.items ++ after_words cause ≡ text ++ joined (rejected_words failure) =
    rw (c.in_ok-put_place.ensures, c.in_ok-extend_from_slice.ensures.items) (line_put text (codes "the report is rejected at") (place_words failure.reason failure) cause) in
    subst (λ (told : List ℕ). OnOk c.put_cause.result (c.put_cause.new.text.items ≡ told)) whole c.put_cause.ensures

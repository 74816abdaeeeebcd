-- What is told as JSON is the text of one value, and so is what is told as SARIF.
use Rattle.std.proofs.Common.{◌≡◌, refl, sym, ap, ◌∙◌, ℕ, ◌+◌, List, [], ◌∷◌, ◌++◌, length, map, subst}
use Rattle.std.specs.Prelude.{codes}
use Rattle.gp_checker.specs.declared.failure.Checked.TheVariants.{Accepted, Rejected}
use Rattle.gp_json.specs.Json.{comma, elements_of, elements_text, json_text}
use Rattle.gp_property.specs.PropertyForm.{PropertyForm}
use Rattle.gp_place.specs.declared.beside.Beside.{Beside}
use Rattle.gp_sarif.specs.Log.{PiecesAreTheLog}
use Rattle.gp_sarif.specs.Results.{result_value}
use Rattle.gp_values.specs.Instances.{answered_value}
use Rattle.gp_values.specs.Report.{PiecesAreTheValue}
use Rattle.gp_view.specs.Answered.{AnsweredForm}
use Rattle.gp_words.specs.declared.showing.Style.{Style}
use Rattle.gp_words.specs.declared.showing.Style.TheVariants.{Json, Sarif}
use Rattle.gp_show.specs.Choice.{asked_of, shown_of}
use Rattle.gp_show.specs.Laws.{JsonIsOneValue, SarifIsOneLog}
use Rattle.gp_show.specs.Show.{before_text, foot_text, shown_text, submitted_answers, told_from, unshown_text}
use Rattle.gp_show.specs.Shown.{counts_shown, findings_counted, instances_shown, log_shown, results_shown, shown_value}

-- instances one after another are the elements of an array
told_elements : (properties : List PropertyForm) (beside : Beside) (before : ℕ) (answers : List AnsweredForm)
    → told_from Json properties beside before answers ≡ elements_text before (elements_of (map (answered_value beside) answers))
told_elements properties beside before [] = refl
told_elements properties beside before (answered ∷ answers) =
    ap (λ rest. comma before ++ json_text (answered_value beside answered) ++ rest) (told_elements properties beside (before + 1) answers)

pub one_value : PiecesAreTheValue → JsonIsOneValue
one_value pieces command submission noted Accepted is =
    let answers : List AnsweredForm = submitted_answers submission in
    let shown : List AnsweredForm = shown_of command answers in
    let asked : List AnsweredForm = asked_of command answers in
    let before : List ℕ = before_text Json submission noted Accepted in
    let after : List ℕ = shown_text Json (length shown) (length asked) in
    subst (λ (style : Style). (before_text style submission noted Accepted ++ (told_from style submission.listing.properties noted.beside 0 shown ++ shown_text style (length shown) (length asked))) ++ foot_text style
    ≡ json_text (shown_value command submission noted Accepted) ++ codes "\n") (sym is)
    (ap (λ told. (before ++ (told ++ after)) ++ foot_text Json) (told_elements submission.listing.properties noted.beside 0 shown)
    ∙ pieces submission.listing.properties submission.report.windows Accepted noted.left_out (instances_shown command submission noted Accepted) (counts_shown command submission Accepted))
one_value pieces command submission noted (Rejected failure) is =
    subst (λ (style : Style). (before_text style submission noted (Rejected failure) ++ unshown_text style) ++ foot_text style
    ≡ json_text (shown_value command submission noted (Rejected failure)) ++ codes "\n") (sym is)
    (pieces submission.listing.properties submission.report.windows (Rejected failure) noted.left_out [] (counts_shown command submission (Rejected failure)))

-- results one after another are the elements of an array
told_results : (properties : List PropertyForm) (beside : Beside) (before : ℕ) (answers : List AnsweredForm)
    → told_from Sarif properties beside before answers ≡ elements_text before (elements_of (map (result_value properties beside.places) answers))
told_results properties beside before [] = refl
told_results properties beside before (answered ∷ answers) =
    ap (λ rest. comma before ++ json_text (result_value properties beside.places answered) ++ rest) (told_results properties beside (before + 1) answers)

pub one_log : PiecesAreTheLog → SarifIsOneLog
one_log pieces command submission noted Accepted is =
    let answers : List AnsweredForm = submitted_answers submission in
    let shown : List AnsweredForm = shown_of command answers in
    let asked : List AnsweredForm = asked_of command answers in
    let before : List ℕ = before_text Sarif submission noted Accepted in
    let after : List ℕ = shown_text Sarif (length shown) (length asked) in
    subst (λ (style : Style). (before_text style submission noted Accepted ++ (told_from style submission.listing.properties noted.beside 0 shown ++ shown_text style (length shown) (length asked))) ++ foot_text style
    ≡ json_text (log_shown command submission noted Accepted) ++ codes "\n") (sym is)
    (ap (λ told. (before ++ (told ++ after)) ++ foot_text Sarif) (told_results submission.listing.properties noted.beside 0 shown)
    ∙ pieces submission.listing.properties submission.report.windows Accepted noted.left_out (results_shown command submission noted Accepted) (findings_counted command submission Accepted))
one_log pieces command submission noted (Rejected failure) is =
    subst (λ (style : Style). (before_text style submission noted (Rejected failure) ++ unshown_text style) ++ foot_text style
    ≡ json_text (log_shown command submission noted (Rejected failure)) ++ codes "\n") (sym is)
    (pieces submission.listing.properties submission.report.windows (Rejected failure) noted.left_out [] (findings_counted command submission (Rejected failure)))

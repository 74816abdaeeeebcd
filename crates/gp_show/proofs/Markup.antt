-- Nothing of what a page shows is read as markup.
use Rattle.std.proofs.Common.{◌≡◌, refl, sym, ℕ, ◌+◌, List, [], ◌∷◌, ◌++◌, length, subst}
use Rattle.std.specs.Prelude.{codes}
use Rattle.gp_beside.specs.Refusal.{fault_words}
use Rattle.gp_beside.specs.declared.beside.Noted.{Noted}
use Rattle.gp_beside.specs.declared.fault.NoteFault.{NoteFault}
use Rattle.gp_checker.specs.declared.failure.Checked.{Checked}
use Rattle.gp_checker.specs.declared.failure.Checked.TheVariants.{Accepted, Rejected}
use Rattle.gp_drawing.specs.Markup.{DrawingsHaveOwnMarkup, HasOwnMarkup}
use Rattle.gp_drawing.specs.MarkupLaws.{markup_append, markup_before, markup_between, markup_by_test, markup_flat_map, markup_nil, markup_words}
use Rattle.gp_drawing.specs.Svg.{tip}
use Rattle.gp_overview.specs.Laws.{OverviewsHaveOwnMarkup}
use Rattle.gp_overview.specs.Page.{table_part, verdict_part}
use Rattle.gp_place.specs.declared.beside.Beside.{Beside}
use Rattle.gp_predict.specs.declared.submission.Submission.{Submission}
use Rattle.gp_property.specs.PropertyForm.{PropertyForm}
use Rattle.gp_text.specs.Spelling.{joined}
use Rattle.gp_view.specs.Answered.{AnsweredForm}
use Rattle.gp_view.specs.Laws.{AnswersHaveOwnMarkup}
use Rattle.gp_view.specs.Page.{answered_part}
use Rattle.gp_words.specs.declared.showing.Style.{Style}
use Rattle.gp_words.specs.declared.showing.Style.TheVariants.{Page}
use Rattle.gp_show.specs.Choice.{asked_of, shown_of}
use Rattle.gp_show.specs.Laws.{PagesHaveOwnMarkup}
use Rattle.gp_words.specs.Showing.{ShowForm}
use Rattle.gp_show.specs.Show.{before_text, body_text, foot_text, head_text, left_out_part, left_out_text, page_foot, page_head, shown_text, shown_words, style_sheet, submitted_answers, told_from, unshown_text}

style_own : HasOwnMarkup style_sheet
unfolding style_sheet
style_own = markup_by_test style_sheet refl

head_own : DrawingsHaveOwnMarkup → HasOwnMarkup page_head
unfolding page_head
head_own drawings =
    let before : List ℕ =
    codes "<!doctype html>\n<html lang='en'>\n<head>\n<meta charset='utf-8'>\n<meta name='viewport' content='width=device-width'>\n<title>gpshow</title>\n<style>\n" in
    let between : List ℕ = codes "</style>\n</head>\n<body>\n" in
    markup_before (before ++ style_sheet ++ between ++ tip) (codes "<h1>gpshow</h1>\n")
    (markup_append (before ++ style_sheet ++ between) tip (markup_between before style_sheet between refl style_own refl) drawings.tip) refl

foot_own : HasOwnMarkup page_foot
unfolding page_foot
foot_own = markup_by_test page_foot refl

count_own : (shown asked : ℕ) → HasOwnMarkup (shown_text Page shown asked)
count_own shown asked = markup_words (codes "<p>") (joined (shown_words shown asked)) (codes "</p>\n") refl refl

module _ (drawings : DrawingsHaveOwnMarkup) (overviews : OverviewsHaveOwnMarkup) (answers_own : AnswersHaveOwnMarkup) where
  before_own : (submission : Submission) (checked : Checked) → HasOwnMarkup (head_text Page submission checked)
  before_own submission checked =
      markup_append (page_head ++ verdict_part submission.report.windows checked) (table_part submission.listing.properties submission.report.windows)
      (markup_append page_head (verdict_part submission.report.windows checked) (head_own drawings) (overviews.verdict submission.report.windows checked))
      (overviews.table submission.listing.properties submission.report.windows)

  one_left_out_own : (fault : NoteFault) → HasOwnMarkup (left_out_part fault)
  unfolding left_out_part
  one_left_out_own fault = markup_words (codes "<p>") (joined (fault_words fault)) (codes "</p>\n") refl refl

  left_out_own : (faults : List NoteFault) → HasOwnMarkup (left_out_text Page faults)
  left_out_own faults = markup_flat_map left_out_part faults one_left_out_own

  all_before_own : (submission : Submission) (noted : Noted) (checked : Checked) → HasOwnMarkup (before_text Page submission noted checked)
  all_before_own submission noted checked =
      markup_append (head_text Page submission checked) (left_out_text Page noted.left_out) (before_own submission checked) (left_out_own noted.left_out)

  told_own : (properties : List PropertyForm) (beside : Beside) (before : ℕ) (answers : List AnsweredForm) → HasOwnMarkup (told_from Page properties beside before answers)
  told_own properties beside before [] = markup_nil
  told_own properties beside before (answered ∷ answers) =
      markup_append (answered_part beside answered) (told_from Page properties beside (before + 1) answers) (answers_own beside answered) (told_own properties beside (before + 1) answers)

  -- the style is a page
  body_own : (command : ShowForm) (submission : Submission) (noted : Noted) (checked : Checked) → command.style ≡ Page → HasOwnMarkup (body_text command submission noted checked)
  body_own command submission noted Accepted is =
      let properties = submission.listing.properties in
      let shown : List AnsweredForm = shown_of command (submitted_answers submission) in
      let asked : List AnsweredForm = asked_of command (submitted_answers submission) in
      subst (λ (style : Style). HasOwnMarkup (told_from style properties noted.beside 0 shown ++ shown_text style (length shown) (length asked))) (sym is)
      (markup_append (told_from Page properties noted.beside 0 shown) (shown_text Page (length shown) (length asked))
      (told_own properties noted.beside 0 shown) (count_own (length shown) (length asked)))
  body_own command submission noted (Rejected failure) is = subst (λ (style : Style). HasOwnMarkup (unshown_text style)) (sym is) markup_nil

  pub pages_own : PagesHaveOwnMarkup
  pages_own command submission noted checked is =
      let before : List ℕ = before_text command.style submission noted checked in
      let body : List ℕ = body_text command submission noted checked in
      markup_append (before ++ body) (foot_text command.style)
      (markup_append before body
      (subst (λ (style : Style). HasOwnMarkup (before_text style submission noted checked)) (sym is) (all_before_own submission noted checked))
      (body_own command submission noted checked is))
      (subst (λ (style : Style). HasOwnMarkup (foot_text style)) (sym is) foot_own)

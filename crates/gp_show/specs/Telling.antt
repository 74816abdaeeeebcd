-- What the result of gpshow tells.
use Rattle.gp_predict.specs.Told.{Told}
use Rattle.gp_words.specs.Showing.{show_form}
use Rattle.gp_show.specs.declared.shown.Shown.{Shown}
use Rattle.gp_show.specs.Show.{of_shown}

-- what is shown of a report that was checked, with what stands beside it
abbrev pub of_result : Shown → Told
of_result shown = of_shown (show_form shown.command) shown.submission shown.noted shown.checked

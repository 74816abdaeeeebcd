-- What is true of the instances that are told.
use Rattle.gp_drawing.specs.Markup.{HasOwnMarkup}
use Rattle.gp_place.specs.declared.beside.Beside.{Beside}
use Rattle.gp_view.specs.Answered.{AnsweredForm}
use Rattle.gp_view.specs.Page.{answered_part}

-- nothing of what is told of an instance, its places and what was seen of it among that, is read as markup
abbrev pub AnswersHaveOwnMarkup : Type 0
AnswersHaveOwnMarkup = (beside : Beside) (answered : AnsweredForm) → HasOwnMarkup (answered_part beside answered)

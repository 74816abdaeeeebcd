-- What is shown of a report was told, or why there is nothing to tell.
use Rattle.gp_predict.specs.Finished.{CameToBy, told_by}
use Rattle.gp_predict.specs.RunLaws.{ran}
use Rattle.gp_words.specs.Showing.{show_form}
use Rattle.gp_show.specs.Due.{Means, Text}
use Rattle.gp_show.specs.Telling.{of_result}
use Rattle.gp_show.proofs.Reached.{reached, text_means}
use Rattle.gp_show.proofs.top.answer.Goals as goal

pub returns-clause-run : goal.returns-clause-run
returns-clause-run g c =
    ran Means _ _ _ _ _ _ _ _ _ Text text_means of_result c.shown_at-made.result
    (reached (show_form c.args.command.now) (g.F.Folder.files c.args.folder.now) (CameToBy Means Text (told_by of_result c.shown_at-made.result)) c.shown_at-made.ensures.stage.told)
    c.shown_at-made.ensures.stage.fault c.shown_at-made.ensures.stage.absent c.finish.ensures.finished

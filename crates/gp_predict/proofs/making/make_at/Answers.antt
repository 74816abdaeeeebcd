-- What making came to was told, and what it left.
use Rattle.std.proofs.Common.{subst}
use Rattle.gp_make.specs.declared.recipe.Recipe.{Recipe}
use Rattle.gp_predict.specs.Asking.{recipe_of}
use Rattle.gp_predict.specs.Tasks.{Means, Text}
use Rattle.gp_predict.specs.Telling.{of_answer}
use Rattle.gp_predict.specs.Finished.{CameTo, told_by}
use Rattle.gp_words.specs.Command.{form_of}
use Rattle.gp_make.specs.Writing.{made_at}
use Rattle.gp_predict.specs.Making.{LeavesMade, made_answer}
use Rattle.gp_predict.specs.RunLaws.{ran, where_due}
use Rattle.gp_predict.proofs.Left.{left_made, never_absent}
use Rattle.gp_predict.proofs.Ran.{text_means}
use Rattle.gp_predict.proofs.making.make_at.Goals as goal

pub returns-clause-run : goal.returns-clause-run
returns-clause-run g c =
    let came = told_by of_answer c.made-made.result in
    ran Means _ _ _ _ _ _ _ _ _ Text text_means of_answer c.made-made.result
    (where_due (Text (made_answer (recipe_of (form_of c.args.command.now)))) (CameTo came)
    (subst (λ (recipe : Recipe). CameTo came (Text (made_answer recipe))) c.recipe_of-recipe.ensures.numbers c.made-made.ensures.due))
    c.made-made.ensures.fault (λ is none. never_absent c.made-made.result _ _ _ c.made-made.ensures.stopped is) c.finish.ensures.finished

pub returns-clause-left : goal.returns-clause-left
returns-clause-left g c =
    subst (λ (recipe : Recipe). LeavesMade (made_at c.args.command.now.folder.now recipe) c.finish.result.status (g.F.Folder.files c.args.folder.now) (g.F.Folder.files c.made-made.new.folder))
    c.recipe_of-recipe.ensures.numbers
    (left_made of_answer c.made-made.result (made_at c.args.command.now.folder.now c.recipe_of-recipe.result) c.finish.result _ _ _ _ (g.F.Folder.files c.args.folder.now)
    (g.F.Folder.files c.made-made.new.folder) c.made-made.ensures.all c.made-made.ensures.stopped c.finish.ensures.finished)

-- What the words ask of an analysis and of a recording that is made.
use Rattle.gp_make.specs.declared.recipe.Recipe.{Recipe}
use Rattle.gp_words.specs.Command.{CommandForm}
use Rattle.gp_predict.specs.declared.analysing.Asked.{Asked}

-- how many workers an analysis has, the budget of each query, and the format of its report
abbrev pub asked_of : CommandForm → Asked
asked_of command = record { workers = command.workers; budget = command.budget; format = command.format }

-- from which three numbers a recording is made
abbrev pub recipe_of : CommandForm → Recipe
recipe_of command = record { seed = command.seed; threads = command.threads; events = command.events }

use Rattle.std.proofs.lemmas.List.Elements.{All-map}
use Rattle.gp_clause.specs.Clause.{NamesBelow}
use Rattle.gp_certificate.specs.declared.step.Step.{Step}
use Rattle.gp_solver_rows.proofs.derivation.are_within.Goals as goal

pub returns : goal.returns
returns c = λ holds. All-map (NamesBelow c.args.variables) (λ (step : Step). step.clause) c.args.steps.now (c.all_named.ensures holds)

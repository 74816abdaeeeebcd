use Rattle.std.proofs.Common.{nat_lt, rules}
use Rattle.std.proofs.lemmas.List.Sorted.{answers_always}
use Rattle.gp_base.specs.CountLaws.{rises_from_tests}
use Rattle.gp_report.proofs.Rising.{rises_answered}
use Rattle.gp_clause.specs.declared.lit.Lit.{Lit}
use Rattle.gp_report.proofs.reading.steps.rises.Goals as goal

pub returns : goal.returns
returns c =
    rises_answered c.args.lits.now _
    (rises_from_tests (λ (l : Lit). l.variable) _ _ (c.is_sorted_by.ensures.cases (λ a b. nat_lt a.variable b.variable) (answers_always _ _ _ (λ f a r g called. search rules))))

-- One worker answers the one query.
use Rattle.std.proofs.Common.{◌∙◌, sym, subst, List, [], ◌∷◌}
use Rattle.gp_clause.specs.declared.problem.Query.{Query}
use Rattle.gp_constraint.specs.Extended.{nothing_asked}
use Rattle.gp_workers.specs.Work.{CanBeAsked, IsWork}
use Rattle.gp_linked.proofs.Asked.{is_asked, one_answer}
use Rattle.gp_linked.proofs.asking.ask.Goals as goal

pub work_one-work-requires : goal.work_one-work-requires
work_one-work-requires c = record {
  asked = subst (λ (queries : List Query). CanBeAsked c.args.problem.now queries c.args.budget) (sym (c.as_slice.ensures.value ∙ c.in_ok-queries.ensures)) c.requires;
}

pub only-requires-clause-answers : goal.only-requires-clause-answers
only-requires-clause-answers c =
    let work = c.in_ok-work.work in
    let one : IsWork c.args.problem.now (nothing_asked ∷ []) 1 c.args.budget work =
    subst (λ (queries : List Query). IsWork c.args.problem.now queries 1 c.args.budget work) (c.as_slice.ensures.value ∙ c.in_ok-queries.ensures) c.in_ok-work.ensures.work in
    one_answer c.args.problem.now c.args.budget work.records work.answers one.answers

pub only-requires-clause-records : goal.only-requires-clause-records
only-requires-clause-records c = c.in_ok-work.ensures.work.workers

pub returns : goal.returns
returns c =
    let work = c.in_ok-work.work in
    let one : IsWork c.args.problem.now (nothing_asked ∷ []) 1 c.args.budget work =
    subst (λ (queries : List Query). IsWork c.args.problem.now queries 1 c.args.budget work) (c.as_slice.ensures.value ∙ c.in_ok-queries.ensures) c.in_ok-work.ensures.work in
    is_asked c.args.problem.now c.args.budget work c.only.result one c.in_ok-work.ensures.alone c.only.ensures.answers c.only.ensures.records

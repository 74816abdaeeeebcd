use Rattle.std.proofs.Common.{sym, subst, ◌∙◌, ℕ, Bool, List, length, arith}
use Rattle.std.proofs.lemmas.List.{length-append}
use Rattle.gp_search.specs.Inside.{all_kinds}
use Rattle.gp_search.specs.Moves.{IsTruthOf}
use Rattle.gp_search.proofs.Meeting.{model_meets}
use Rattle.gp_search.proofs.engine.Engine.model.Goals as goal

pub returns : goal.returns
returns c =
    let P : List Bool → Type 0 = λ truth. IsTruthOf c.args.self.now.solver (length (all_kinds c.args.asked.now.problem.now c.args.asked.now.query.now)) truth in
    let Q : ℕ → Type 0 = λ n. IsTruthOf c.args.self.now.solver n c.in_ok-truth.truth.items in
    model_meets c.args.asked.now.problem.now c.args.asked.now.query.now c.args.self.now _ c.true_or_false.ensures c.requires.turning c.requires.settled c.requires.all c.requires.assumed c.places.ensures.feasible
    (subst P (sym c.from_vec.ensures) (subst Q (omega (arith, c.len.ensures, c.len-2.ensures, length-append c.args.asked.now.problem.now.kinds c.args.asked.now.query.now.locals)) c.in_ok-truth.ensures))
    (c.from_vec-2.ensures ∙ (c.in_ok-places.ensures.items ∙ c.places.ensures.places))

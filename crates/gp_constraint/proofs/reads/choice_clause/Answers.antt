use Rattle.std.proofs.Common.{ap, subst, ◌∙◌, ◌≡◌, List, ◌∷◌, ◌++◌, false}
use Rattle.std.specs.Prelude.{flat_map}
use Rattle.gp_window.specs.WindowForm.{WindowForm}
use Rattle.gp_constraint.specs.declared.point.Point.{Point}
use Rattle.gp_constraint.specs.declared.term.Term.{Term}
use Rattle.gp_constraint.specs.Limited.{IsAdded}
use Rattle.gp_constraint.specs.Reads.{choice, start_choice}
use Rattle.gp_constraint.specs.Terms.{executed, simplified}
use Rattle.gp_constraint.proofs.Tabled.{choices_tabled}
use Rattle.gp_constraint.proofs.reads.choice_clause.Goals as goal

pub returns : goal.returns
returns c =
    let points : List Point = c.args.points.now in
    let window : WindowForm = c.args.window.now in
    let r : Point = c.args.r.now in
    let terms : c.as_slice.result.now ≡ executed r false ∷ (flat_map (choice r) points ++ start_choice window r) =
    c.as_slice.ensures ∙ c.in_ok-terms.ensures
    ∙ ap (λ (writes : List Point). executed r false ∷ (flat_map (choice r) writes ++ start_choice window r)) c.writes_for.ensures
    ∙ ap (λ (choices : List Term). executed r false ∷ (choices ++ start_choice window r)) (choices_tabled points r) in
    subst (λ (ts : List Term). IsAdded c.add.result c.args.clauses.now c.add.new.self (simplified ts)) terms c.add.ensures

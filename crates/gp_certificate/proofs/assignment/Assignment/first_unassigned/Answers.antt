use Rattle.std.proofs.Common.{◌≢◌, None, List, All, sym, ◌∙◌, subst}
use Rattle.std.proofs.lemmas.Bool.{false≢true}
use Rattle.std.proofs.lemmas.List.{take_all}
use Rattle.std.proofs.lemmas.List.Elements.{All-more}
use Rattle.gp_clause.specs.declared.lit.Lit.{Lit}
use Rattle.gp_certificate.specs.Assignment.{value_of}
use Rattle.gp_certificate.proofs.assignment.Assignment.first_unassigned.Goals as goal

pub loop-lit-preserved : goal.loop-lit-preserved
loop-lit-preserved c =
    All-more (λ (lit : Lit). value_of c.args.self.now.values.items lit.variable ≢ None) c.args.clause.now c.loop-lit.lit-index _ c.loop-lit-test.true c.loop-lit.invariant
    (λ none. false≢true (sym c.if-is_unassigned.false ∙ c.is_unassigned.ensures.1 none))

pub returns : goal.returns
returns c =
    let P : List Lit → Type 0 = λ ls. All (λ (lit : Lit). value_of c.args.self.now.values.items lit.variable ≢ None) ls in
    subst P (take_all c.loop-lit.lit-index c.args.clause.now c.loop-lit-test.false) c.loop-lit.invariant

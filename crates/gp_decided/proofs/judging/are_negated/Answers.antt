use Rattle.std.proofs.Common.{All, Contains, List, sym, refl, ◌∙◌, subst}
use Rattle.std.proofs.lemmas.Bool.{false≢true}
use Rattle.std.proofs.lemmas.List.{take_all}
use Rattle.std.proofs.lemmas.List.Elements.{All-get_or, All-more}
use Rattle.gp_clause.specs.declared.lit.Lit.{Lit}
use Rattle.gp_clause.specs.Lit.{opposite}
use Rattle.gp_decided.proofs.judging.are_negated.Goals as goal

pub returns-then-not-is_among : goal.returns-then-not-is_among
returns-then-not-is_among c = (
  λ told. absurd (false≢true told),
  λ all. absurd (false≢true (sym c.if-not-is_among.true ∙ c.is_among.ensures.1
      (subst (Contains c.args.assumed.now) (sym c.negated.ensures) (All-get_or (λ lit. Contains c.args.assumed.now (opposite lit)) c.args.lits.now c.loop-lit.lit-index _ c.loop-lit-test.true all)))),
)

pub loop-lit-preserved : goal.loop-lit-preserved
loop-lit-preserved c =
    All-more (λ lit. Contains c.args.assumed.now (opposite lit)) c.args.lits.now c.loop-lit.lit-index _ c.loop-lit-test.true c.loop-lit.invariant
    (subst (Contains c.args.assumed.now) c.negated.ensures (c.is_among.ensures.0 c.if-not-is_among.false))

pub returns : goal.returns
returns c = (
  λ told. subst (λ (lits : List Lit). All (λ lit. Contains c.args.assumed.now (opposite lit)) lits) (take_all c.loop-lit.lit-index c.args.lits.now c.loop-lit-test.false) c.loop-lit.invariant,
  λ all. refl,
)

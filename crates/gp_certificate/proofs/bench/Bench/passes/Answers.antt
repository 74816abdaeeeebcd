use Rattle.std.proofs.Common.{◌≡◌, ◌↔◌, ◌++◌, ◌∷◌, [], IsTrue, List, length, ap, sym, ◌∙◌, subst, arith}
use Rattle.std.proofs.lemmas.List.{length_push}
use Rattle.gp_clause.specs.declared.lit.Lit.{Lit}
use Rattle.gp_clause.specs.Clause.{NamesOnce}
use Rattle.gp_certificate.specs.Bench.{BenchForm}
use Rattle.gp_certificate.specs.ClauseList.{joined}
use Rattle.gp_certificate.specs.LevelLaws.{back_again, joined_more}
use Rattle.gp_certificate.specs.Step.{Passes}
use Rattle.gp_certificate.proofs.bench.Bench.passes.Goals as goal

pub assume-requires-clause-once : goal.assume-requires-clause-once
assume-requires-clause-once c = subst (λ (ls : List (List Lit)). NamesOnce (joined ls ++ c.args.lits.now)) (sym c.requires.nothing) c.requires.once

pub is_refuted-refuted-requires : goal.is_refuted-refuted-requires
is_refuted-refuted-requires c = λ empty.
    absurd (omega (arith, length_push c.args.self.now.assumed c.args.lits.now, ap (λ (ls : List (List Lit)). length ls) (sym (ap (λ (b : BenchForm). b.assumed) c.assume.ensures) ∙ empty)))

pub retract-requires : goal.retract-requires
retract-requires c = λ empty.
    absurd (omega (arith, length_push c.args.self.now.assumed c.args.lits.now, ap (λ (ls : List (List Lit)). length ls) (sym (ap (λ (b : BenchForm). b.assumed) c.assume.ensures) ∙ empty)))

pub returns-clause-passes : goal.returns-clause-passes
returns-clause-passes c =
    let old = c.args.self.now in
    let all : joined (old.assumed ++ c.args.lits.now ∷ []) ≡ c.args.lits.now = joined_more old.assumed c.args.lits.now ∙ ap (λ (ls : List (List Lit)). joined ls ++ c.args.lits.now) c.requires.nothing in
    subst (λ ls. IsTrue c.is_refuted-refuted.result ↔ Passes old.edges old.kinds old.loaded ls) all
    (subst (λ (b : BenchForm). IsTrue c.is_refuted-refuted.result ↔ Passes b.edges b.kinds b.loaded (joined b.assumed)) c.assume.ensures c.is_refuted-refuted.ensures)

pub returns-clause-same : goal.returns-clause-same
returns-clause-same c = back_again c.args.self.now c.assume.new.self c.retract.new.self c.args.lits.now c.assume.ensures c.retract.ensures

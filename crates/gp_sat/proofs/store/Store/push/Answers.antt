use Rattle.std.proofs.Common.{◌∙◌, ap, true, List, [], ◌∷◌, ◌++◌, arith}
use Rattle.gp_clause.specs.declared.lit.Lit.{Lit}
use Rattle.gp_sat.specs.declared.store.Begin.{Begin}
use Rattle.gp_sat.specs.Stored.{Stored}
use Rattle.gp_sat.proofs.Ranging.{pushed}
use Rattle.gp_sat.proofs.store.Store.push.Goals as goal

pub invariant_of-self-2 : goal.invariant_of-self-2
invariant_of-self-2 c = (pushed c.self.inside.literals.items c.args.clause.now c.extend_from_slice.new.self.items c.self.inside.begins.items c.push_reserved.new.self.items c.in_ok-begin.begin
    (c.in_ok-extend_from_slice.ensures.items ∙ ap (λ (xs : List Lit). c.self.inside.literals.items ++ xs) c.lits.ensures.lits)
    (c.push_reserved.ensures.items ∙ ap (λ (xs : List Begin). xs ++ c.in_ok-begin.begin ∷ []) c.in_ok-reserve.ensures.items)
    (omega (arith, c.in_ok-begin.ensures, c.len.ensures)) c.lits.ensures.rising c.self.invariant).0

pub returns-clause-ok : goal.returns-clause-ok
returns-clause-ok c = (pushed c.self.inside.literals.items c.args.clause.now c.extend_from_slice.new.self.items c.self.inside.begins.items c.push_reserved.new.self.items c.in_ok-begin.begin
    (c.in_ok-extend_from_slice.ensures.items ∙ ap (λ (xs : List Lit). c.self.inside.literals.items ++ xs) c.lits.ensures.lits)
    (c.push_reserved.ensures.items ∙ ap (λ (xs : List Begin). xs ++ c.in_ok-begin.begin ∷ []) c.in_ok-reserve.ensures.items)
    (omega (arith, c.in_ok-begin.ensures, c.len.ensures)) c.lits.ensures.rising c.self.invariant).1
    ∙ ap (λ (xs : List Stored). xs ++ record { clause = c.args.clause.now; attached = true } ∷ []) c.self.view_is

-- A take gives the first clause that waits, where one does.
use Rattle.std.proofs.Common.{◌≡◌, ◌-◌, subst, sym, ℕ, List, Some, All, drop, length, map}
use Rattle.gp_clause.specs.declared.lit.Lit.{Lit}
use Rattle.gp_clause.specs.declared.problem.Problem.{Problem}
use Rattle.gp_derivation.specs.Exchange.{IsGood}
use Rattle.gp_search.specs.Mail.{Gives}
use Rattle.gp_solver_rows.specs.declared.memory_mail.Offer.{Offer}
use Rattle.gp_solver_rows.specs.declared.memory_mail.Pile.{Pile}
use Rattle.gp_solver_rows.proofs.Mailing.{gives, keeps, tells}
use Rattle.gp_solver_rows.proofs.memory_mail.MemoryMailMail.take.Goals as goal

pub invariant_of-self : goal.invariant_of-self
invariant_of-self g c =
    let all = g.L.Letters.all in
    let pile = c.self.inside.pile in
    let after = c.next.new.self.waiting.items in
    subst (λ (problem : Problem). (after ≡ drop (length all - length after) all) × All (IsGood problem) after) (sym c.next.ensures.problem)
    (keeps (IsGood pile.problem.now) all pile.waiting.items after c.next.result c.self.invariant c.next.ensures.waiting)

pub returns-clause-told : goal.returns-clause-told
returns-clause-told g c =
    let all = g.L.Letters.all in
    let pile = c.self.inside.pile in
    let after = c.next.new.self in
    let told : List Offer → List (ℕ × List Lit) = map (λ (offer : Offer). (offer.entry, offer.clause)) in
    subst (λ (before : Pile). Gives (Some (tells all before.waiting.items (told before.offered.items) before.empty)) (Some (tells all after.waiting.items (told after.offered.items) after.empty)) c.next.result)
    c.self.view_is
    (subst (λ (offers : List Offer). Gives (Some (tells all pile.waiting.items (told pile.offered.items) pile.empty)) (Some (tells all after.waiting.items (told offers) after.empty)) c.next.result)
    (sym c.next.ensures.offered)
    (gives all pile.waiting.items after.waiting.items (told pile.offered.items) pile.empty after.empty c.next.result c.self.invariant.0 c.next.ensures.waiting c.next.ensures.empty))

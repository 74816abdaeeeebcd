use Rattle.std.proofs.Common.{rules, ◌<◌, length, get_or, cond, ◌-◌, ◌==◌, List, ℕ, ap, ◌∙◌, arith}
use Rattle.std.proofs.lemmas.List.{get_or_default}
use Rattle.gp_clause.specs.declared.lit.Lit.{Lit}
use Rattle.gp_certificate.specs.ClauseList.{ListForm}
use Rattle.gp_certificate.proofs.Splitting.{many, list_at}
use Rattle.gp_certificate.proofs.clause_list.ClauseList.get.Goals as goal

pub start_of-start-requires : goal.start_of-start-requires
start_of-start-requires c =
    let within : c.args.number < length c.self.inside.ends.items =
    omega (arith, c.requires, ap (λ (l : ListForm). length l.lists) c.self.view_is, many c.self.inside.lits.items c.self.inside.ends.items c.self.invariant) in
    omega (arith, within, ap (λ (es : List ℕ). length es) c.deref.ensures.value)

pub index-end-requires : goal.index-end-requires
index-end-requires c =
    let within : c.args.number < length c.self.inside.ends.items =
    omega (arith, c.requires, ap (λ (l : ListForm). length l.lists) c.self.view_is, many c.self.inside.lits.items c.self.inside.ends.items c.self.invariant) in
    omega (arith, within, ap (λ (es : List ℕ). length es) c.deref.ensures.value, c.deref.ensures.len)

pub part-requires-clause-order : goal.part-requires-clause-order
part-requires-clause-order c =
    let within : c.args.number < length c.self.inside.ends.items =
    omega (arith, c.requires, ap (λ (l : ListForm). length l.lists) c.self.view_is, many c.self.inside.lits.items c.self.inside.ends.items c.self.invariant) in
    let parts = list_at c.self.inside.lits.items c.self.inside.ends.items c.args.number c.start_of-start.result c.index-end.result.now c.self.invariant within
    (c.start_of-start.ensures ∙ ap (λ (es : List ℕ). cond (c.args.number == 0) 0 (get_or es (c.args.number - 1) 0)) c.deref.ensures.value)
    (c.index-end.ensures ∙ get_or_default c.self.inside.ends.items c.args.number c.index-end.result.now 0 within) in
    parts.1

pub part-requires-clause-within : goal.part-requires-clause-within
part-requires-clause-within c =
    let within : c.args.number < length c.self.inside.ends.items =
    omega (arith, c.requires, ap (λ (l : ListForm). length l.lists) c.self.view_is, many c.self.inside.lits.items c.self.inside.ends.items c.self.invariant) in
    let parts = list_at c.self.inside.lits.items c.self.inside.ends.items c.args.number c.start_of-start.result c.index-end.result.now c.self.invariant within
    (c.start_of-start.ensures ∙ ap (λ (es : List ℕ). cond (c.args.number == 0) 0 (get_or es (c.args.number - 1) 0)) c.deref.ensures.value)
    (c.index-end.ensures ∙ get_or_default c.self.inside.ends.items c.args.number c.index-end.result.now 0 within) in
    omega (arith, parts.2, ap (λ (ls : List Lit). length ls) c.deref-2.ensures.value)

pub returns : goal.returns
returns c =
    let within : c.args.number < length c.self.inside.ends.items =
    omega (arith, c.requires, ap (λ (l : ListForm). length l.lists) c.self.view_is, many c.self.inside.lits.items c.self.inside.ends.items c.self.invariant) in
    let parts = list_at c.self.inside.lits.items c.self.inside.ends.items c.args.number c.start_of-start.result c.index-end.result.now c.self.invariant within
    (c.start_of-start.ensures ∙ ap (λ (es : List ℕ). cond (c.args.number == 0) 0 (get_or es (c.args.number - 1) 0)) c.deref.ensures.value)
    (c.index-end.ensures ∙ get_or_default c.self.inside.ends.items c.args.number c.index-end.result.now 0 within) in
    search (rules, parts.0)

use Rattle.std.proofs.Common.{rules, ◌≡◌, ◌-◌, ◌==◌, take, get_or, cond, length, List, ℕ, ap, sym, ◌∙◌, arith}
use Rattle.std.proofs.lemmas.List.{take_all}
use Rattle.gp_certificate.specs.ClauseList.{ListForm, pieces}
use Rattle.gp_certificate.proofs.Splitting.{many, first_view, split_of, view_of}
use Rattle.gp_certificate.proofs.clause_list.ClauseList.truncate.Goals as goal

pub returns-then-count-len-clause-lists : goal.returns-then-count-len-clause-lists
returns-then-count-len-clause-lists c =
    let size : c.len.result ≡ length c.self.inside.ends.items = search rules in
    sym (take_all c.args.count c.args.self.now.lists (omega (arith, size, c.if-count-len.true, ap (λ (l : ListForm). length l.lists) c.self.view_is, many c.self.inside.lits.items c.self.inside.ends.items c.self.invariant)))

pub invariant_of-self : goal.invariant_of-self
invariant_of-self c =
    let size : c.len.result ≡ length c.self.inside.ends.items = search rules in
    let lists = take c.args.count (pieces 0 c.self.inside.ends.items c.self.inside.lits.items) in
    let both = first_view c.self.inside.lits.items c.self.inside.ends.items c.args.count c.start_of-start.result c.self.invariant (omega (arith, size, c.if-count-len.false))
    (c.start_of-start.ensures ∙ ap (λ (es : List ℕ). cond (c.args.count == 0) 0 (get_or es (c.args.count - 1) 0)) c.deref.ensures.value) in
    split_of lists c.truncate-2.new.self.items c.truncate.new.self.items (c.truncate-2.ensures.items ∙ both.0) (c.truncate.ensures.items ∙ both.1)

pub returns-clause-lists : goal.returns-clause-lists
returns-clause-lists c =
    let size : c.len.result ≡ length c.self.inside.ends.items = search rules in
    let lists = take c.args.count (pieces 0 c.self.inside.ends.items c.self.inside.lits.items) in
    let both = first_view c.self.inside.lits.items c.self.inside.ends.items c.args.count c.start_of-start.result c.self.invariant (omega (arith, size, c.if-count-len.false))
    (c.start_of-start.ensures ∙ ap (λ (es : List ℕ). cond (c.args.count == 0) 0 (get_or es (c.args.count - 1) 0)) c.deref.ensures.value) in
    view_of lists c.truncate-2.new.self.items c.truncate.new.self.items (c.truncate-2.ensures.items ∙ both.0) (c.truncate.ensures.items ∙ both.1)
    ∙ ap (λ (l : ListForm). take c.args.count l.lists) c.self.view_is

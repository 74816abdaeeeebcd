use Rattle.std.proofs.Common.{rules, ◌≡◌, ◌≤◌, ◌+◌, ◌++◌, ◌∷◌, [], length, ap, ◌∙◌, arith, vec_len, vec_capacity}
use Rattle.gp_certificate.specs.ClauseList.{ListForm, pieces, joined}
use Rattle.gp_certificate.proofs.Splitting.{many, used, pushed_view, split_of, view_of}
use Rattle.gp_certificate.proofs.clause_list.ClauseList.push_reserved.Goals as goal

pub push_reserved-requires : goal.push_reserved-requires
push_reserved-requires c =
    let size : vec_len c.self.inside.ends ≡ length c.self.inside.ends.items = search rules in
    omega (arith, size, c.requires.places, ap (λ (l : ListForm). length l.lists) c.self.view_is, ap (λ (l : ListForm). l.places) c.self.view_is, many c.self.inside.lits.items c.self.inside.ends.items c.self.invariant)

pub invariant_of-self : goal.invariant_of-self
invariant_of-self c =
    let size : vec_len c.self.inside.lits ≡ length c.self.inside.lits.items = search rules in
    let room : vec_len c.self.inside.lits + length c.args.lits.now ≤ vec_capacity c.self.inside.lits =
    omega (arith, size, c.requires.room, ap (λ (l : ListForm). length (joined l.lists)) c.self.view_is, ap (λ (l : ListForm). l.room) c.self.view_is, used c.self.inside.lits.items c.self.inside.ends.items c.self.invariant) in
    let items : c.extend_from_slice.new.self.items ≡ c.self.inside.lits.items ++ c.args.lits.now = search rules in
    let count : c.len.result ≡ length c.extend_from_slice.new.self.items = search rules in
    let lists = pieces 0 c.self.inside.ends.items c.self.inside.lits.items ++ c.args.lits.now ∷ [] in
    let both = pushed_view c.self.inside.lits.items c.extend_from_slice.new.self.items c.self.inside.ends.items c.push_reserved.new.self.items c.args.lits.now c.len.result c.self.invariant items c.push_reserved.ensures.items count in
    split_of lists c.extend_from_slice.new.self.items c.push_reserved.new.self.items both.0 both.1

pub returns-clause-lists : goal.returns-clause-lists
returns-clause-lists c =
    let size : vec_len c.self.inside.lits ≡ length c.self.inside.lits.items = search rules in
    let room : vec_len c.self.inside.lits + length c.args.lits.now ≤ vec_capacity c.self.inside.lits =
    omega (arith, size, c.requires.room, ap (λ (l : ListForm). length (joined l.lists)) c.self.view_is, ap (λ (l : ListForm). l.room) c.self.view_is, used c.self.inside.lits.items c.self.inside.ends.items c.self.invariant) in
    let items : c.extend_from_slice.new.self.items ≡ c.self.inside.lits.items ++ c.args.lits.now = search rules in
    let count : c.len.result ≡ length c.extend_from_slice.new.self.items = search rules in
    let lists = pieces 0 c.self.inside.ends.items c.self.inside.lits.items ++ c.args.lits.now ∷ [] in
    let both = pushed_view c.self.inside.lits.items c.extend_from_slice.new.self.items c.self.inside.ends.items c.push_reserved.new.self.items c.args.lits.now c.len.result c.self.invariant items c.push_reserved.ensures.items count in
    view_of lists c.extend_from_slice.new.self.items c.push_reserved.new.self.items both.0 both.1 ∙ ap (λ (l : ListForm). l.lists ++ c.args.lits.now ∷ []) c.self.view_is

use Rattle.std.proofs.Common.{◌≡◌, sym, ◌∙◌, ap, subst, ℕ, ◌<◌, Bool, List, length, get_or, arith}
use Rattle.std.specs.Vec.{with_items}
use Rattle.std.proofs.lemmas.List.{with_items_is}
use Rattle.std.proofs.lemmas.List.Elements.{Contains-get_or}
use Rattle.gp_sat.specs.Marking.{IsMarked}
use Rattle.gp_sat.proofs.Queueing.{all_unmarked}
use Rattle.gp_sat.proofs.marking.Marking.clear.Goals as goal

pub unmark_all-requires : goal.unmark_all-requires
unmark_all-requires c =
    subst (λ (vs : List ℕ). (k : ℕ) → k < length vs → get_or vs k 0 < length c.as_mut_slice.result.now) (sym c.as_slice.ensures.value)
    (subst (λ (ms : List Bool). (k : ℕ) → k < length c.args.self.now.marked.items → get_or c.args.self.now.marked.items k 0 < length ms) (sym c.as_mut_slice.ensures.value)
    (λ k below. c.requires.within (get_or c.args.self.now.marked.items k 0) (Contains-get_or c.args.self.now.marked.items k 0 below)))

pub returns : goal.returns
returns c =
    let size : length c.unmark_all.new.marks ≡ length c.args.self.now.marks.items = c.unmark_all.ensures.size ∙ ap (λ (ms : List Bool). length ms) c.as_mut_slice.ensures.value in
    let written : (with_items c.args.self.now.marks c.unmark_all.new.marks).items ≡ c.unmark_all.new.marks = with_items_is c.args.self.now.marks c.unmark_all.new.marks (omega (arith, size)) in
    let none : (v : ℕ) → IsMarked c.unmark_all.new.marks v → ⊥ = all_unmarked c.args.self.now.marks.items c.unmark_all.new.marks c.args.self.now.marked.items c.requires
    (subst (λ (vs : List ℕ). (k : ℕ) → k < length vs → IsMarked c.unmark_all.new.marks (get_or vs k 0) → ⊥) c.as_slice.ensures.value c.unmark_all.ensures.gone)
    (subst (λ (ms : List Bool). (v : ℕ) → IsMarked c.unmark_all.new.marks v → IsMarked ms v) c.as_mut_slice.ensures.value c.unmark_all.ensures.kept) in
    record {
      size = ap (λ (ms : List Bool). length ms) written ∙ size;
      none = subst (λ (ms : List Bool). (v : ℕ) → IsMarked ms v → ⊥) (sym written) none;
      unlisted = c.clear.ensures.items;
      empty = c.clear-2.ensures.items;
      ordered = c.clear-2.ensures.heap_order;
    }

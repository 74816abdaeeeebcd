use Rattle.std.proofs.Common.{rules, ◌≡◌, ◌+◌, ◌-◌, ◌≤◌, ◌++◌, [], List, length, take, All, refl, ap, sym, ◌∙◌, subst, arith}
use Rattle.std.specs.Option.{option_to_list}
use Rattle.std.proofs.lemmas.List.{length-append, length-take, length_push, nil_from_length}
use Rattle.gp_clause.specs.declared.lit.Lit.{Lit}
use Rattle.gp_clause.specs.Clause.{NamesBelow, NamesOnce}
use Rattle.gp_clause.specs.Problem.{IsValidKind}
use Rattle.gp_difference.specs.declared.bound.Bound.{Bound}
use Rattle.gp_difference.specs.Graph.{GraphForm}
use Rattle.gp_certificate.specs.declared.assignment.Assignment.{Assignment}
use Rattle.gp_certificate.specs.declared.level.Level.{Level}
use Rattle.gp_certificate.specs.declared.places.Places.{Places}
use Rattle.gp_certificate.specs.Assignment.{IsKept}
use Rattle.gp_certificate.specs.Bench.{BenchForm, stack_of}
use Rattle.gp_certificate.specs.ClauseList.{joined}
use Rattle.gp_certificate.specs.Levels.{Stack, IsStack}
use Rattle.gp_certificate.specs.Loaded.{LoadedForm}
use Rattle.gp_certificate.proofs.Levelling.{stack_sizes, stack_top, stack_back}
use Rattle.gp_certificate.proofs.Propagating.{kept_with}
use Rattle.gp_certificate.proofs.Readying.{fixed_with, exact_cut, below_take, once_take}
use Rattle.gp_certificate.proofs.bench.Bench.retract.Goals as goal

pub returns-in_default : goal.returns-in_default
returns-in_default c =
    let b = c.self.inside in
    let none : length b.levels.items ≡ 0 = search (rules, c.in_default.ensures.cases, c.in_default.is) in
    let empty : b.assumed.lists ≡ [] = nil_from_length b.assumed.lists (omega (arith, none, stack_sizes b.places.edges b.kinds.items b.loaded.clauses (stack_of b) c.self.invariant.stack)) in
    absurd (c.requires (sym (ap (λ (v : BenchForm). v.assumed) c.self.view_is) ∙ empty))

pub raise_to-requires-clause-before : goal.raise_to-requires-clause-before
raise_to-requires-clause-before c =
    let b = c.self.inside in
    let top = stack_top b.places.edges b.kinds.items b.loaded.clauses (stack_of b) c.pop.new.self.items c.in-Some.level c.self.invariant.stack
    (c.pop.ensures.items ∙ ap (λ o. c.pop.new.self.items ++ option_to_list o) c.in-Some.is) in
    omega (arith, top.3.cursor_mark, top.3.onward)

pub cut_to-requires : goal.cut_to-requires
cut_to-requires c = subst (λ (a : Assignment). IsKept a) (sym c.raise_to.ensures.cursor) (kept_with c.self.inside.assignment _ c.self.invariant.kept)

pub undo_to-requires : goal.undo_to-requires
undo_to-requires c =
    let b = c.self.inside in
    let top = stack_top b.places.edges b.kinds.items b.loaded.clauses (stack_of b) c.pop.new.self.items c.in-Some.level c.self.invariant.stack
    (c.pop.ensures.items ∙ ap (λ o. c.pop.new.self.items ++ option_to_list o) c.in-Some.is) in
    omega (arith, top.3.bound_mark, ap (λ (bs : List Bound). length bs) top.3.kept.1, length-append top.0.kept top.3.kept.0)

pub invariant_of-self-2 : goal.invariant_of-self-2
invariant_of-self-2 c =
    let b = c.self.inside in
    let level = c.in-Some.level in
    let front = c.pop.new.self.items in
    let top = stack_top b.places.edges b.kinds.items b.loaded.clauses (stack_of b) front level c.self.invariant.stack (c.pop.ensures.items ∙ ap (λ o. front ++ option_to_list o) c.in-Some.is) in
    let raised = c.raise_to.new.self in
    let cut = c.cut_to.new.self in
    let places = c.undo_to.new.self in
    let loaded = c.raise_to.new.loaded in
    let count : c.len.result ≡ length front = search rules in
    let clauses : loaded.clauses ≡ b.loaded.clauses = ap (λ (l : LoadedForm). l.clauses) c.raise_to.ensures.same in
    let edges : places.edges ≡ b.places.edges = ap (λ (p : Places). p.edges) c.undo_to.ensures.same in
    let trail : raised.trail.items ≡ b.assignment.trail.items = ap (λ (a : Assignment). a.trail.items) c.raise_to.ensures.cursor in
    let cursor : raised.cursor ≡ level.cursor = ap (λ (a : Assignment). a.cursor) c.raise_to.ensures.cursor in
    let long : length b.assignment.trail.items ≡ length top.0.trail + length top.3.trail.0 = ap (λ (ls : List Lit). length ls) top.3.trail.1 ∙ length-append top.0.trail top.3.trail.0 in
    let marked : level.bounds ≤ length b.places.graph.kept = omega (arith, top.3.bound_mark, ap (λ (bs : List Bound). length bs) top.3.kept.1, length-append top.0.kept top.3.kept.0) in
    let lists : c.truncate.new.self.lists ≡ take (length front) b.assumed.lists = c.truncate.ensures.lists ∙ ap (λ n. take n b.assumed.lists) count in
    let back : Stack = record { assumed = c.truncate.new.self.lists; levels = front; trail = cut.trail.items; kept = places.graph.kept; cursor = cut.cursor } in
    record {
      kept = c.cut_to.ensures.kept;
      size = c.cut_to.ensures.size ∙ ap (λ (a : Assignment). length a.values.items) c.raise_to.ensures.cursor ∙ c.self.invariant.size;
      lasting = c.self.invariant.lasting;
      few = c.self.invariant.few;
      kinds = subst (λ points. All (IsValidKind points) b.kinds.items) (sym (ap (λ (g : GraphForm). g.points) c.undo_to.ensures.graph)) c.self.invariant.kinds;
      fixed = fixed_with b.places places c.undo_to.ensures.same (ap (λ (g : GraphForm). g.edges) c.undo_to.ensures.graph) c.self.invariant.fixed;
      room = omega (
        arith,
        c.self.invariant.room,
        marked,
        ap (λ (g : GraphForm). length g.kept) c.undo_to.ensures.graph,
        ap (λ (g : GraphForm). g.room) c.undo_to.ensures.graph,
        length-take level.bounds b.places.graph.kept,
      );
      within = subst (λ cs. All (NamesBelow (length b.kinds.items)) cs) (sym clauses) c.self.invariant.within;
      once = subst (λ cs. All NamesOnce cs) (sym clauses) c.self.invariant.once;
      rows = omega (arith, c.self.invariant.rows, ap (λ (l : LoadedForm). l.rows) c.raise_to.ensures.same);
      exact = exact_cut raised cut loaded level.trail c.raise_to.ensures.exact c.cut_to.ensures.cursor c.cut_to.ensures.trail (omega (arith, cursor, top.3.cursor_mark, top.3.within, top.3.trail_mark))
          (omega (arith, top.3.trail_mark, long, ap (λ (ls : List Lit). length ls) trail));
      stack = subst (λ es. IsStack es b.kinds.items loaded.clauses back) (sym edges) (subst (λ cs. IsStack b.places.edges b.kinds.items cs back) (sym clauses)
          (stack_back b.places.edges b.kinds.items b.loaded.clauses (stack_of b) back top.0 top.1 level front top.2 top.3 top.4 lists refl (c.cut_to.ensures.trail ∙ ap (take level.trail) trail)
          (ap (λ (g : GraphForm). g.kept) c.undo_to.ensures.graph) (c.cut_to.ensures.cursor ∙ cursor)));
      below = subst (λ ls. NamesBelow (length b.kinds.items) (joined ls)) (sym lists) (below_take (length b.kinds.items) b.assumed.lists (length front) c.self.invariant.below);
      names = subst (λ ls. NamesOnce (joined ls)) (sym lists) (once_take b.assumed.lists (length front) c.self.invariant.names);
      levels = omega (arith, c.self.invariant.levels, c.pop.ensures.capacity);
      lits = omega (arith, c.self.invariant.lits, c.truncate.ensures.room);
      lists = omega (arith, c.self.invariant.lists, c.truncate.ensures.places);
    }

pub returns : goal.returns
returns c =
    let b = c.self.inside in
    let front = c.pop.new.self.items in
    let level = c.in-Some.level in
    let count : c.len.result ≡ length front = search rules in
    let grown = c.pop.ensures.items ∙ ap (λ o. front ++ option_to_list o) c.in-Some.is in
    let less : c.len.result ≡ length b.assumed.lists - 1 =
    omega (arith, count, stack_sizes b.places.edges b.kinds.items b.loaded.clauses (stack_of b) c.self.invariant.stack, ap (λ (ls : List Level). length ls) grown, length_push front level) in
    let new : BenchForm = record {
      points = c.undo_to.new.self.graph.points;
      edges = c.undo_to.new.self.edges;
      lasting = take b.lasting b.kinds.items;
      kinds = b.kinds.items;
      loaded = c.raise_to.new.loaded.clauses;
      assumed = c.truncate.new.self.lists;
    } in
    subst (λ (v : BenchForm). new ≡ record v { assumed = take (length v.assumed - 1) v.assumed }) c.self.view_is (λ i. record {
      points = ap (λ (g : GraphForm). g.points) c.undo_to.ensures.graph i;
      edges = ap (λ (p : Places). p.edges) c.undo_to.ensures.same i;
      lasting = take b.lasting b.kinds.items;
      kinds = b.kinds.items;
      loaded = ap (λ (l : LoadedForm). l.clauses) c.raise_to.ensures.same i;
      assumed = (c.truncate.ensures.lists ∙ ap (λ n. take n b.assumed.lists) less) i;
    })

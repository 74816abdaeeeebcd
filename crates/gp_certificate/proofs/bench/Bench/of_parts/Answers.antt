use Rattle.std.proofs.Common.{rules, ◌≡◌, ℕ, ◌++◌, [], All, List, length, ap, sym, ◌∙◌, subst, arith}
use Rattle.std.proofs.lemmas.List.Elements.{All-append, All-nil}
use Rattle.gp_clause.specs.declared.kind.Kind.{Kind}
use Rattle.gp_clause.specs.Clause.{NamesBelow, NamesOnce}
use Rattle.gp_clause.specs.Problem.{IsValidKind}
use Rattle.gp_difference.specs.Graph.{GraphForm}
use Rattle.gp_certificate.specs.ClauseList.{joined}
use Rattle.gp_certificate.specs.Levels.IsStack.{base}
use Rattle.gp_certificate.specs.Loaded.{LoadedForm}
use Rattle.gp_certificate.proofs.Readying.{exact_none, fixed_with}
use Rattle.gp_certificate.proofs.bench.Bench.of_parts.Goals as goal

pub invariant_of-result : goal.invariant_of-result
invariant_of-result c =
    let kinds = c.args.kinds in
    let m = c.make_room.ensures in
    let room = c.in-Ok.ensures.room in
    let count : c.len.result ≡ length kinds.items = search rules in
    let clauses : c.make_room.new.loaded.clauses ≡ [] = ap (λ (l : LoadedForm). l.clauses) m.loaded.same ∙ c.new-loaded.ensures.clauses in
    let left : c.make_room.new.loaded.left ≡ [] = ap (λ (l : LoadedForm). l.left) m.loaded.same ∙ c.new-loaded.ensures.left in
    let lists : c.make_room.new.assumed.lists ≡ [] = m.assumed.lists ∙ c.new-assumed.ensures in
    record {
      kept = m.assignment.kept;
      size = ap (λ vs. length vs) m.assignment.values ∙ c.requires.size;
      lasting = c.requires.lasting.0;
      few = c.requires.lasting.1;
      kinds = subst (λ points. All (IsValidKind points) kinds.items) (sym (ap (λ (g : GraphForm). g.points) m.places.graph)) c.requires.kinds;
      fixed = fixed_with c.args.places c.make_room.new.places m.places.same (ap (λ (g : GraphForm). g.edges) m.places.graph) c.requires.fixed;
      room = omega (arith, count, room.bounds);
      within = subst (λ cs. All (NamesBelow (length kinds.items)) cs) (sym clauses) (All-nil (NamesBelow (length kinds.items)));
      once = subst (λ cs. All NamesOnce cs) (sym clauses) (All-nil NamesOnce);
      rows = omega (arith, count, room.rows);
      exact = exact_none c.make_room.new.assignment c.make_room.new.loaded (m.assignment.cursor ∙ c.requires.cursor) clauses left;
      stack = base _ (record {
        assumed = lists;
        levels = search rules;
        trail = m.assignment.trail ∙ c.requires.none;
        kept = ap (λ (g : GraphForm). g.kept) m.places.graph ∙ c.requires.bare;
        cursor = m.assignment.cursor ∙ c.requires.cursor;
      });
      below = subst (λ ls. NamesBelow (length kinds.items) (joined ls)) (sym lists) (λ k d few. absurd (omega (arith, few)));
      names = subst (λ ls. NamesOnce (joined ls)) (sym lists) (λ variable. omega arith);
      levels = omega (arith, count, room.deep);
      lits = omega (arith, count, room.lits);
      lists = omega (arith, count, room.lists);
    }

use Rattle.std.proofs.Common.{rules, ◌≡◌, ◌++◌, List, length, All, refl, ap, sym, ◌∙◌, subst, arith, vec_len}
use Rattle.std.specs.Prelude.{MatchBool}
use Rattle.std.proofs.lemmas.List.{length-append}
use Rattle.gp_clause.specs.declared.lit.Lit.{Lit}
use Rattle.gp_clause.specs.Clause.{NamesBelow, NamesOnce}
use Rattle.gp_clause.specs.Lit.{negations}
use Rattle.gp_clause.specs.Problem.{IsValidKind}
use Rattle.gp_certificate.specs.declared.level.Level.{Level}
use Rattle.gp_certificate.specs.declared.places.Places.{Places}
use Rattle.gp_certificate.specs.Bench.{BenchForm, stack_of}
use Rattle.gp_certificate.specs.ClauseList.{joined}
use Rattle.gp_certificate.specs.LevelLaws.{few_names}
use Rattle.gp_certificate.specs.Levels.{Stack, IsStack, IsCarried, IsSettled}
use Rattle.gp_certificate.specs.Loaded.{LoadedForm}
use Rattle.gp_certificate.specs.Lost.{is_lost}
use Rattle.gp_certificate.specs.Step.{LeadsToConflict}
use Rattle.gp_certificate.proofs.Levelling.{may_go_on, carried_at, next_stack, stack_sizes, below_both}
use Rattle.gp_certificate.proofs.Readying.{fixed_with}
use Rattle.gp_certificate.proofs.Splitting.{joined_push}
use Rattle.gp_certificate.proofs.bench.Bench.assume.Goals as goal

pub go_on-refutes-requires-clause-may : goal.go_on-refutes-requires-clause-may
go_on-refutes-requires-clause-may c = λ lost.
    let b = c.self.inside in
    may_go_on b.places.edges b.kinds.items b.loaded.clauses (stack_of b) b.assignment b.places refl refl refl refl c.self.invariant.kept c.self.invariant.fixed c.self.invariant.stack
    (sym (c.is_lost.ensures ∙ ap is_lost c.deref-2.ensures.value) ∙ lost)

pub push_reserved-requires-clause-room : goal.push_reserved-requires-clause-room
push_reserved-requires-clause-room c =
    let b = c.self.inside in
    let below : NamesBelow (length b.kinds.items) c.args.lits.now = subst (λ (v : BenchForm). NamesBelow (length v.kinds) c.args.lits.now) (sym c.self.view_is) c.requires.within in
    let once : NamesOnce (joined b.assumed.lists ++ c.args.lits.now) = subst (λ (v : BenchForm). NamesOnce (joined v.assumed ++ c.args.lits.now)) (sym c.self.view_is) c.requires.once in
    let few = few_names (length b.kinds.items) (joined b.assumed.lists ++ c.args.lits.now) once (below_both (length b.kinds.items) (joined b.assumed.lists) c.args.lits.now c.self.invariant.below below) in
    omega (arith, few, length-append (joined b.assumed.lists) c.args.lits.now, c.self.invariant.lits)

pub push_reserved-requires-2 : goal.push_reserved-requires-2
push_reserved-requires-2 c =
    let b = c.self.inside in
    let size : vec_len b.levels ≡ length b.levels.items = search rules in
    omega (
      arith,
      size,
      stack_sizes b.places.edges b.kinds.items b.loaded.clauses (stack_of b) c.self.invariant.stack,
      c.requires.few,
      ap (λ (v : BenchForm). length v.assumed) c.self.view_is,
      ap (λ (v : BenchForm). length v.kinds) c.self.view_is,
      c.self.invariant.levels,
    )

pub invariant_of-self : goal.invariant_of-self
invariant_of-self c =
    let b = c.self.inside in
    let n = c.go_on-refutes.new in
    let e = c.go_on-refutes.ensures in
    let lits = c.args.lits.now in
    let below : NamesBelow (length b.kinds.items) lits = subst (λ (v : BenchForm). NamesBelow (length v.kinds) lits) (sym c.self.view_is) c.requires.within in
    let once : NamesOnce (joined b.assumed.lists ++ lits) = subst (λ (v : BenchForm). NamesOnce (joined v.assumed ++ lits)) (sym c.self.view_is) c.requires.once in
    let clauses : n.loaded.clauses ≡ b.loaded.clauses = ap (λ (l : LoadedForm). l.clauses) e.loaded in
    let edges : n.places.edges ≡ b.places.edges = ap (λ (p : Places). p.edges) e.places in
    let all : joined c.push_reserved.new.self.lists ≡ joined b.assumed.lists ++ lits = ap joined c.push_reserved.ensures.lists ∙ joined_push b.assumed.lists lits in
    let was : MatchBool c.is_lost.result (LeadsToConflict b.places.edges c.deref.result.now b.loaded.clauses (negations (joined b.assumed.lists)))
    (IsCarried c.deref.result.now b.loaded.clauses (negations (joined b.assumed.lists)) b.assignment b.places.graph) =
    subst (λ ks. MatchBool c.is_lost.result (LeadsToConflict b.places.edges ks b.loaded.clauses (negations (joined b.assumed.lists))) (IsCarried ks b.loaded.clauses (negations (joined b.assumed.lists)) b.assignment b.places.graph)) (sym c.deref.ensures.value)
    (subst (λ t. MatchBool t (LeadsToConflict b.places.edges b.kinds.items b.loaded.clauses (negations (joined b.assumed.lists))) (IsCarried b.kinds.items b.loaded.clauses (negations (joined b.assumed.lists)) b.assignment b.places.graph))
    (sym (c.is_lost.ensures ∙ ap is_lost c.deref-2.ensures.value))
    (carried_at b.places.edges b.kinds.items b.loaded.clauses (stack_of b) b.assignment b.places.graph refl refl c.self.invariant.kept c.self.invariant.stack)) in
    let tells : MatchBool c.go_on-refutes.result (LeadsToConflict b.places.edges b.kinds.items b.loaded.clauses (negations (joined b.assumed.lists ++ lits)))
    (IsSettled b.places.edges b.kinds.items b.loaded.clauses (negations (joined b.assumed.lists ++ lits)) n.assignment n.places.graph) =
    subst (λ ks. MatchBool c.go_on-refutes.result (LeadsToConflict b.places.edges ks b.loaded.clauses (negations (joined b.assumed.lists ++ lits))) (IsSettled b.places.edges ks b.loaded.clauses (negations (joined b.assumed.lists ++ lits)) n.assignment n.places.graph))
    c.deref.ensures.value (e.gives (joined b.assumed.lists) once was) in
    let level : Level = record { trail = length c.trail-trail.result.now; cursor = c.cursor-cursor.result; bounds = c.mark-bounds.result; refutes = c.go_on-refutes.result } in
    let new_stack : Stack = record { assumed = c.push_reserved.new.self.lists; levels = c.push_reserved-2.new.self.items; trail = n.assignment.trail.items; kept = n.places.graph.kept; cursor = n.assignment.cursor } in
    record {
      kept = e.extends.kept;
      size = e.extends.size ∙ c.self.invariant.size;
      lasting = c.self.invariant.lasting;
      few = c.self.invariant.few;
      kinds = subst (λ points. All (IsValidKind points) b.kinds.items) (sym e.graph.points) c.self.invariant.kinds;
      fixed = fixed_with b.places n.places e.places e.graph.edges c.self.invariant.fixed;
      room = omega (arith, c.self.invariant.room, e.graph.room);
      within = subst (λ cs. All (NamesBelow (length b.kinds.items)) cs) (sym clauses) c.self.invariant.within;
      once = subst (λ cs. All NamesOnce cs) (sym clauses) c.self.invariant.once;
      rows = omega (arith, c.self.invariant.rows, ap (λ (l : LoadedForm). l.rows) e.loaded);
      exact = e.exact;
      stack = subst (λ es. IsStack es b.kinds.items n.loaded.clauses new_stack) (sym edges) (subst (λ cs. IsStack b.places.edges b.kinds.items cs new_stack) (sym clauses)
          (next_stack b.places.edges b.kinds.items b.loaded.clauses (stack_of b) new_stack lits level b.assignment n.assignment b.places.graph n.places.graph c.self.invariant.stack refl refl refl refl refl refl
          c.push_reserved.ensures.lists c.push_reserved-2.ensures.items (ap (λ (ls : List Lit). length ls) c.trail-trail.ensures) c.mark-bounds.ensures c.cursor-cursor.ensures c.self.invariant.exact.within e.onward e.extends.kept
          e.extends e.graph tells));
      below = subst (λ ls. NamesBelow (length b.kinds.items) ls) (sym all) (below_both (length b.kinds.items) (joined b.assumed.lists) lits c.self.invariant.below below);
      names = subst (λ ls. NamesOnce ls) (sym all) once;
      levels = omega (arith, c.self.invariant.levels, c.push_reserved-2.ensures.capacity);
      lits = omega (arith, c.self.invariant.lits, c.push_reserved.ensures.room);
      lists = omega (arith, c.self.invariant.lists, c.push_reserved.ensures.places);
    }

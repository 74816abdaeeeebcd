-- What a turn keeps true when the trail moves.
use Rattle.std.proofs.Common.{◌≡◌, refl, sym, ◌∙◌, ap, subst, ℕ, ◌+◌, ◌-◌, ◌<◌, ◌≤◌, min, not, false, Option, Some, None, List, [], ◌∷◌, ◌++◌, length, get_or, take, drop, All, Contains, ◌⊎◌, inl, inr, arith}
use Rattle.std.proofs.lemmas.Bool.{cases_lt}
use Rattle.std.proofs.lemmas.List.{length-append, length-map, length-take, length_push, length-set, get_or_append_left, get_or_push, take-append-le, take-take, take-append-drop, take_at}
use Rattle.std.proofs.lemmas.List.Elements.{All-contains, All-more, filter_map-append, Contains-get_or}
use Rattle.gp_clause.specs.declared.kind.Kind.{Kind}
use Rattle.gp_clause.specs.declared.lit.Lit.{Lit}
use Rattle.gp_clause.specs.declared.problem.Problem.{Problem}
use Rattle.gp_clause.specs.declared.problem.Query.{Query}
use Rattle.gp_clause.specs.Clause.{NamesBelow}
use Rattle.gp_derivation.specs.Tester.{TesterForm}
use Rattle.gp_difference.specs.declared.bound.Bound.{Bound}
use Rattle.gp_difference.specs.Graph.{GraphForm}
use Rattle.gp_sat.specs.declared.assigned.Assigned.{Assigned}
use Rattle.gp_sat.specs.Stored.{Stored}
use Rattle.gp_sat.specs.State.{SolverForm, assigned, clause_at, IsAttached, with_literal, kept_to}
use Rattle.gp_sat.specs.Standing.{IsFalse, IsQuiet, Each}
use Rattle.gp_sat.specs.Sound.{IsSound, true_lit}
use Rattle.gp_sat.specs.Changes.{Propagates, Backjumps, IsOfLevel, IsUpTo, HasPresent}
use Rattle.gp_sat.specs.Looking.{IsTrueLit}
use Rattle.gp_sat.specs.SolverLaws.{Adds, added, adds_literal, added_cases, added_stays}
use Rattle.gp_search.specs.declared.engine.Engine.{Engine}
use Rattle.gp_search.specs.declared.engine.Level.{Level}
use Rattle.gp_search.specs.Bounds.{under, bounds_along}
use Rattle.gp_clause.specs.Kind.{bound_at}
use Rattle.gp_search.specs.Inside.{all_kinds, IsTurning, IsAsserted, IsReasoned, IsAssuming, IsGraphOf, IsLevelled, IsTrueTo, no_level}
use Rattle.gp_search.specs.Moves.{BeginsLevel}
use Rattle.gp_search.proofs.Levels.{at_place, back_was, back_stays, bounds_back, levelled_more, levelled_decided, levelled_back}
use Rattle.gp_search.proofs.Wholes.{HasSameLog, taught_moved, whole_moved}
use Rattle.gp_base.specs.ListLaws.{first_or_rest, here, there}

-- the reasons after a propagation
reasoned_more : (names : ℕ) (old new : SolverForm) → ((number : ℕ) → IsAttached old.clauses number → NamesBelow names (clause_at old.clauses number)) → Propagates old new → IsReasoned names old → IsReasoned names new
reasoned_more names old new named more reasoned = record {
  attached = λ v a number is reason. elim (more.forced v a is) [
    | inl was ↦ subst (λ (cs : List Stored). IsAttached cs number) (sym more.clauses) (reasoned.attached v a number was reason)
    | inr forced ↦ let same : forced.number ≡ number = cc in subst (λ (n : ℕ). IsAttached new.clauses n) same forced.attached
  ];
  below = λ v a is. elim (more.forced v a is) [
    | inl was ↦ reasoned.below v a was
    | inr forced ↦
        let attached : IsAttached old.clauses forced.number = subst (λ (cs : List Stored). IsAttached cs forced.number) more.clauses forced.attached in
        let within : Contains (clause_at old.clauses forced.number) (true_lit v a) = subst (λ (cs : List Stored). Contains (clause_at cs forced.number) (true_lit v a)) more.clauses forced.forcing.within in
        All-contains (λ (l : Lit). l.variable < names) (clause_at old.clauses forced.number) (true_lit v a) (named forced.number attached) within
  ];
}

-- what the graph keeps after a propagation
asserted_more : (kinds : List Kind) (old new : SolverForm) (graph : GraphForm) (asserted : ℕ) → IsSound old → IsSound new → Propagates old new → IsAsserted kinds old graph asserted → IsAsserted kinds new graph asserted
asserted_more kinds old new graph asserted old_sound sound more was = record {
  within = omega (arith, longer, was.within);
  kept = was.kept ∙ ap (bounds_along kinds) (sym (ap (take asserted) more.added.1 ∙ take-append-le asserted old.trail more.added.0 was.within));
  present = λ place d above within. elim (cases_lt place (length old.trail)) [
    | inl before ↦
        let same : get_or new.trail place d ≡ get_or old.trail place d = ap (λ (ls : List Lit). get_or ls place d) more.added.1 ∙ get_or_append_left old.trail more.added.0 d place before in
        let one = was.present place d above before in
        subst (λ (l : Lit). IsOfLevel new new.level l) (sym same) (one.0, more.stays (get_or old.trail place d).variable one.0 one.1, one.2 ∙ sym more.level)
    | inr after ↦
        let there = sound.ordered.off_trail place d within in
        elim (more.forced (get_or new.trail place d).variable there.0 there.1) [
          | inl early ↦ absurd (omega (arith, old_sound.ordered.within (get_or new.trail place d).variable there.0 early, there.2, after))
          | inr forced ↦ (there.0, there.1, forced.present)
        ]
  ];
  room = omega (arith, more.variables, was.room);
}
  where
    longer : length old.trail ≤ length new.trail
    longer = omega (arith, ap (λ (ls : List Lit). length ls) more.added.1, length-append old.trail more.added.0)

-- the decisions after a propagation
assuming_more : (assumed : List Lit) (old new : SolverForm) (level : ℕ) → Propagates old new → IsAssuming assumed old level → IsAssuming assumed new level
assuming_more assumed old new level more was = record {
  within = omega (arith, more.level, was.within);
  decided = λ v a is none low. elim (more.forced v a is) [
    | inl early ↦ was.decided v a early none low
    | inr forced ↦ absurd (let clash : ⊥ = cc in clash)
  ];
  all_true = λ above lit among. let one = was.all_true (omega (arith, above, more.level)) lit among in (one.0, more.stays lit.variable one.0 one.1, one.2, one.3);
}

pub propagated : (problem : Problem) (query : Query) (engine : Engine) (solver : SolverForm) → IsTurning problem query engine → IsSound solver → Propagates engine.solver solver
    → IsTurning problem query (record engine { solver = solver })
propagated problem query engine solver turning sound more = record {
  whole = whole_moved problem query engine (record engine { solver = solver }) (record { log = refl; pure = refl; begins = refl; learned = refl; tester = refl }) turning.whole more.clauses more.variables turning.whole.graph;
  variables = omega (arith, more.variables, turning.variables);
  used = more.used ∙ turning.used;
  sound = sound;
  reasoned = reasoned_more (length (all_kinds problem query)) engine.solver solver turning.whole.stored.named more turning.reasoned;
  asserted = asserted_more (all_kinds problem query) engine.solver solver engine.graph engine.asserted turning.sound sound more turning.asserted;
  assuming = assuming_more query.assumed engine.solver solver engine.assumed more turning.assuming;
  levels = levelled_more (all_kinds problem query) query.assumed engine.solver solver engine.levels.items engine.next more turning.levels;
  kinds = turning.kinds;
  taught = turning.taught;
}

-- the reasons after a decision
reasoned_decided : (names : ℕ) (s : SolverForm) (lit : Lit) (level : ℕ) → lit.variable < length s.values → assigned s lit.variable ≡ None → lit.variable < names → IsReasoned names s
    → IsReasoned names (with_literal s lit level None)
reasoned_decided names s lit level within free below was =
    let adds : Adds (assigned s) (assigned (with_literal s lit level None)) lit.variable (added s lit level None) = adds_literal s lit level None within free in record {
      attached = λ v a number is reason. elim (added_cases adds v a is) [
        | inl here ↦ absurd (let gone : a.reason ≡ None = ap (λ (x : Assigned). x.reason) here.1 in let clash : ⊥ = cc in clash)
        | inr early ↦ was.attached v a number early reason
      ];
      below = λ v a is. elim (added_cases adds v a is) [
        | inl here ↦ subst (λ (n : ℕ). n < names) (sym here.0) below
        | inr early ↦ was.below v a early
      ];
    }

-- what the graph keeps after a decision, where it had the bounds of the whole trail
asserted_decided : (kinds : List Kind) (s : SolverForm) (graph : GraphForm) (asserted level : ℕ) (lit : Lit) → lit.variable < length s.values → assigned s lit.variable ≡ None → asserted ≡ length s.trail
    → length (with_literal s lit level None).values ≡ length s.values → IsAsserted kinds s graph asserted → IsAsserted kinds (with_literal s lit level None) graph asserted
asserted_decided kinds s graph asserted level lit inside free all values was = record {
  within = omega (arith, all, length_push s.trail lit);
  kept = was.kept ∙ ap (bounds_along kinds) (sym (take-append-le asserted s.trail (lit ∷ []) was.within));
  present = λ place d above within.
      let last : length s.trail ≡ place = omega (arith, above, within, all, length_push s.trail lit) in
      let adds : Adds (assigned s) (assigned (with_literal s lit level None)) lit.variable (added s lit level None) = adds_literal s lit level None inside free in
      subst (λ (l : Lit). IsOfLevel (with_literal s lit level None) level l) (sym (get_or_push s.trail lit d place last)) (added s lit level None, adds.here, refl);
  room = omega (arith, values, was.room);
}

-- an engine after a decision
pub record IsDecidedOn (old new : Engine) (lit : Lit) : Type 0 where
  pub same : HasSameLog old new
  pub solver : new.solver ≡ with_literal old.solver lit (old.solver.level + 1) None
  pub graph : new.graph ≡ old.graph
  pub asserted : new.asserted ≡ old.asserted
  pub levels : new.levels.items ≡ old.levels.items ++ record { bounds = length old.graph.kept; next = old.next } ∷ []
  pub next : new.next ≡ old.next

pub decided_on : (old new : Engine) (lit : Lit) (assumed : ℕ) → BeginsLevel old new lit → IsDecidedOn old (record new { assumed = assumed }) lit
decided_on old new lit assumed begun = record {
  same = record {
    log = ap (λ (e : Engine). e.log.items) begun.same;
    pure = ap (λ (e : Engine). e.pure.items) begun.same;
    begins = ap (λ (e : Engine). e.begins) begun.same;
    learned = ap (λ (e : Engine). e.learned) begun.same;
    tester = ap (λ (e : Engine). e.tester) begun.same;
  };
  solver = begun.solver;
  graph = ap (λ (e : Engine). e.graph) begun.same;
  asserted = ap (λ (e : Engine). e.asserted) begun.same;
  levels = begun.levels;
  next = ap (λ (e : Engine). e.next) begun.same;
}

-- all but the assumptions after a decision
decided_but : (problem : Problem) (query : Query) (old new : Engine) (lit : Lit) → IsTurning problem query old → IsSound new.solver → old.asserted ≡ length old.solver.trail → assigned old.solver lit.variable ≡ None
    → lit.variable < length (all_kinds problem query) → IsDecidedOn old new lit → IsAssuming query.assumed (with_literal old.solver lit (old.solver.level + 1) None) new.assumed → IsTurning problem query new
decided_but problem query old new lit turning sound all free below decided assuming =
    let kinds : List Kind = all_kinds problem query in
    let s : SolverForm = old.solver in
    let t : SolverForm = with_literal s lit (s.level + 1) None in
    let inside : lit.variable < length s.values = omega (arith, below, turning.variables) in
    let values : length t.values ≡ length s.values = length-set s.values lit.variable (Some (added s lit (s.level + 1) None)) in
    let more : length new.solver.values ≡ length s.values = ap (λ (x : SolverForm). length x.values) decided.solver ∙ values in
    let solver_at : (P : SolverForm → Type 0) → P t → P new.solver = λ P is. subst P (sym decided.solver) is in
    let mark : length old.graph.kept ≡ length (bounds_along kinds (take (length s.trail) s.trail)) =
    ap (λ (bs : List Bound). length bs) turning.asserted.kept ∙ ap (λ (n : ℕ). length (bounds_along kinds (take n s.trail))) all in
    let levels : IsLevelled kinds query.assumed t (old.levels.items ++ record { bounds = length old.graph.kept; next = old.next } ∷ []) old.next =
    levelled_decided kinds query.assumed s old.levels.items old.next (length old.graph.kept) lit turning.sound inside free mark turning.levels in
    record {
      whole = whole_moved problem query old new decided.same turning.whole (ap (λ (x : SolverForm). x.clauses) decided.solver) more (subst (λ (g : GraphForm). IsGraphOf problem g) (sym decided.graph) turning.whole.graph);
      variables = omega (arith, more, turning.variables);
      used = ap (λ (x : SolverForm). x.used) decided.solver ∙ turning.used;
      sound = sound;
      reasoned = solver_at (IsReasoned (length kinds)) (reasoned_decided (length kinds) s lit (s.level + 1) inside free below turning.reasoned);
      asserted = subst (λ (n : ℕ). IsAsserted kinds new.solver new.graph n) (sym decided.asserted)
          (subst (λ (g : GraphForm). IsAsserted kinds new.solver g old.asserted) (sym decided.graph)
          (solver_at (λ x. IsAsserted kinds x old.graph old.asserted) (asserted_decided kinds s old.graph old.asserted (s.level + 1) lit inside free all values turning.asserted)));
      assuming = solver_at (λ x. IsAssuming query.assumed x new.assumed) assuming;
      levels = subst (λ (n : ℕ). IsLevelled kinds query.assumed new.solver new.levels.items n) (sym decided.next)
          (subst (λ (ls : List Level). IsLevelled kinds query.assumed new.solver ls old.next) (sym decided.levels)
          (solver_at (λ x. IsLevelled kinds query.assumed x (old.levels.items ++ record { bounds = length old.graph.kept; next = old.next } ∷ []) old.next) levels));
      kinds = ap (λ (t : TesterForm). t.kinds) decided.same.tester ∙ turning.kinds;
      taught = taught_moved problem query old new decided.same turning.taught;
    }

-- an assumption was decided, where no other literal was
pub assumed_decided : (problem : Problem) (query : Query) (old new : Engine) (lit : Lit) → IsTurning problem query old → IsSound new.solver → old.asserted ≡ length old.solver.trail → Contains query.assumed lit
    → assigned old.solver lit.variable ≡ None → lit.variable < length (all_kinds problem query) → old.solver.level ≤ old.assumed → IsDecidedOn old new lit → new.assumed ≡ new.solver.level → IsTurning problem query new
assumed_decided problem query old new lit turning sound all among free below low decided same =
    let s : SolverForm = old.solver in
    let next : SolverForm = with_literal s lit (s.level + 1) None in
    let inside : lit.variable < length s.values = omega (arith, below, turning.variables) in
    let adds : Adds (assigned s) (assigned next) lit.variable (added s lit (s.level + 1) None) = adds_literal s lit (s.level + 1) None inside free in
    let levels : new.assumed ≡ s.level + 1 = same ∙ ap (λ (x : SolverForm). x.level) decided.solver in
    decided_but problem query old new lit turning sound all free below decided (record {
      within = omega (arith, levels);
      decided = λ v a there none up. elim (added_cases adds v a there) [
        | inl here ↦ subst (λ (l : Lit). Contains query.assumed l) (λ i. record { variable = (sym here.0) i; positive = (sym (ap (λ (x : Assigned). x.positive) here.1)) i }) among
        | inr early ↦ turning.assuming.decided v a early none (omega (arith, (turning.sound.ordered.present v a early).0, low))
      ];
      all_true = λ above. absurd (omega (arith, above, levels));
    })

-- a variable was decided, where all that is assumed is true
pub free_decided : (problem : Problem) (query : Query) (old new : Engine) (lit : Lit) → IsTurning problem query old → IsSound new.solver → old.asserted ≡ length old.solver.trail
    → Each (IsTrueLit (assigned old.solver)) query.assumed → assigned old.solver lit.variable ≡ None → lit.variable < length (all_kinds problem query) → IsDecidedOn old new lit → new.assumed ≡ old.assumed
    → IsTurning problem query new
free_decided problem query old new lit turning sound all holds free below decided same =
    let s : SolverForm = old.solver in
    let next : SolverForm = with_literal s lit (s.level + 1) None in
    let inside : lit.variable < length s.values = omega (arith, below, turning.variables) in
    let adds : Adds (assigned s) (assigned next) lit.variable (added s lit (s.level + 1) None) = adds_literal s lit (s.level + 1) None inside free in
    let stays : (l : Lit) → IsTrueTo s old.assumed l → IsTrueTo next old.assumed l = λ l one. (one.0, added_stays adds l.variable one.0 one.1, one.2, one.3) in
    let assuming : IsAssuming query.assumed next old.assumed = record {
      within = omega (arith, turning.assuming.within);
      decided = λ v a there none up. elim (added_cases adds v a there) [
        | inl here ↦ absurd (omega (arith, up, ap (λ (x : Assigned). x.level) here.1, turning.assuming.within))
        | inr early ↦ turning.assuming.decided v a early none up
      ];
      all_true = λ _ l among. stays l (elim (cases_lt old.assumed s.level) [
        | inl above ↦ turning.assuming.all_true above l among
        | inr at_top ↦ let one = holds l among in (one.0, one.1, one.2, omega (arith, (turning.sound.ordered.present l.variable one.0 one.1).0, at_top))
      ]);
    } in
    decided_but problem query old new lit turning sound all free below decided (subst (λ (n : ℕ). IsAssuming query.assumed next n) (sym same) assuming)

-- the same engine with other places of assumptions
pub turning_levels : (problem : Problem) (query : Query) (old new : Engine) → IsTurning problem query old → HasSameLog old new → new.solver ≡ old.solver → new.graph ≡ old.graph → new.asserted ≡ old.asserted → new.assumed ≡ old.assumed
    → IsLevelled (all_kinds problem query) query.assumed old.solver new.levels.items new.next → IsTurning problem query new
turning_levels problem query old new turning same solver graph asserted assumed levels =
    let kinds : List Kind = all_kinds problem query in
    let solver_at : (P : SolverForm → Type 0) → P old.solver → P new.solver = λ P is. subst P (sym solver) is in
    record {
      whole = whole_moved problem query old new same turning.whole (ap (λ (x : SolverForm). x.clauses) solver) (ap (λ (x : SolverForm). length x.values) solver) (subst (λ (g : GraphForm). IsGraphOf problem g) (sym graph) turning.whole.graph);
      variables = solver_at (λ x. length kinds ≤ length x.values) turning.variables;
      used = solver_at (λ x. x.used ≡ length kinds) turning.used;
      sound = solver_at IsSound turning.sound;
      reasoned = solver_at (IsReasoned (length kinds)) turning.reasoned;
      asserted = subst (λ (n : ℕ). IsAsserted kinds new.solver new.graph n) (sym asserted)
          (subst (λ (g : GraphForm). IsAsserted kinds new.solver g old.asserted) (sym graph)
          (solver_at (λ x. IsAsserted kinds x old.graph old.asserted) turning.asserted));
      assuming = subst (λ (n : ℕ). IsAssuming query.assumed new.solver n) (sym assumed) (solver_at (λ x. IsAssuming query.assumed x old.assumed) turning.assuming);
      levels = solver_at (λ x. IsLevelled kinds query.assumed x new.levels.items new.next) levels;
      kinds = ap (λ (t : TesterForm). t.kinds) same.tester ∙ turning.kinds;
      taught = taught_moved problem query old new same turning.taught;
    }

-- one assumption more was seen to be true
pub passed_next : (problem : Problem) (query : Query) (engine : Engine) (d : Lit) (next : ℕ) → IsTurning problem query engine → engine.next < length query.assumed → IsTrueLit (assigned engine.solver) (get_or query.assumed engine.next d)
    → next ≡ engine.next + 1 → IsTurning problem query (record engine { next = next })
passed_next problem query engine d next turning within holds is =
    turning_levels problem query engine (record engine { next = next }) turning (record { log = refl; pure = refl; begins = refl; learned = refl; tester = refl }) refl refl refl refl (record {
      counted = turning.levels.counted;
      begun = λ below low. turning.levels.begun below low;
      passed = subst (λ (n : ℕ). All (IsTrueLit (assigned engine.solver)) (take n query.assumed)) (sym is)
          (All-more (IsTrueLit (assigned engine.solver)) query.assumed engine.next d within turning.levels.passed holds);
    })

-- a front of the bounds of a front
front_bounds : (kinds : List Kind) (trail rest lits : List Lit) (asserted low : ℕ) → trail ++ rest ≡ lits → low ≤ asserted → low ≤ length trail
    → take (length (bounds_along kinds (take low trail))) (bounds_along kinds (take asserted lits)) ≡ bounds_along kinds (take low trail)
front_bounds kinds trail rest lits asserted low is less within =
    let f = λ (lit : Lit). under lit.variable (bound_at kinds lit) in
    let front : take low lits ≡ take low trail = ap (take low) (sym is) ∙ take-append-le low trail rest within in
    let parts : take asserted lits ≡ take low trail ++ drop low (take asserted lits) =
    sym (take-append-drop low (take asserted lits)) ∙ ap (λ (ls : List Lit). ls ++ drop low (take asserted lits)) (take-take low asserted lits less ∙ front) in
    ap (λ (ls : List Lit). take (length (bounds_along kinds (take low trail))) (bounds_along kinds ls)) parts
    ∙ (ap (take (length (bounds_along kinds (take low trail)))) (filter_map-append f (take low trail) (drop low (take asserted lits)))
    ∙ take_at (bounds_along kinds (take low trail)) (bounds_along kinds (drop low (take asserted lits))) (length (bounds_along kinds (take low trail))) refl)

-- so there are no more of the first than of the second
fewer_bounds : (kinds : List Kind) (trail rest lits : List Lit) (asserted low : ℕ) → trail ++ rest ≡ lits → low ≤ asserted → low ≤ length trail
    → length (bounds_along kinds (take low trail)) ≤ length (bounds_along kinds (take asserted lits))
fewer_bounds kinds trail rest lits asserted low is less within =
    let n : ℕ = length (bounds_along kinds (take low trail)) in
    let same : length (take n (bounds_along kinds (take asserted lits))) ≡ n = ap (λ (bs : List Bound). length bs) (front_bounds kinds trail rest lits asserted low is less within) in
    omega (arith, same, length-take n (bounds_along kinds (take asserted lits)))

-- the graph has all bounds of the trail that a backjump keeps
kept_within : (kinds : List Kind) (old new : SolverForm) (graph : GraphForm) (asserted level : ℕ) → Backjumps old new level → level < old.level → IsAsserted kinds old graph asserted → length new.trail ≤ asserted
kept_within kinds old new graph asserted level back below was = elim (cases_lt asserted (length new.trail)) [
  | inr enough ↦ enough
  | inl past ↦
      let d : Lit = record { variable = 0; positive = false } in
      let longer : length new.trail ≤ length old.trail = omega (arith, ap (λ (ls : List Lit). length ls) back.trail, length-append new.trail back.rest) in
      let same : get_or old.trail asserted d ≡ get_or new.trail asserted d = ap (λ (ls : List Lit). get_or ls asserted d) (sym back.trail) ∙ get_or_append_left new.trail back.rest d asserted past in
      let one : IsOfLevel old old.level (get_or new.trail asserted d) = subst (λ (l : Lit). IsOfLevel old old.level l) same (was.present asserted d (omega arith) (omega (arith, past, longer))) in
      let up : IsUpTo old level (get_or new.trail asserted d) = back.stays (get_or new.trail asserted d) (Contains-get_or new.trail asserted d past) in
      let equal : one.0 ≡ up.0 = cc in
      absurd (omega (arith, one.2, up.2, below, ap (λ (x : Assigned). x.level) equal))
]

asserted_back : (kinds : List Kind) (old new : SolverForm) (graph next : GraphForm) (asserted low mark level : ℕ) → Backjumps old new level → level < old.level → low ≡ length new.trail
    → mark ≡ length (bounds_along kinds (take low new.trail)) → next ≡ record graph { kept = take mark graph.kept; room = graph.room + (length graph.kept - mark) } → IsAsserted kinds old graph asserted
    → IsAsserted kinds new next low
asserted_back kinds old new graph next asserted low mark level back below least marked undone was =
    let less : low ≤ asserted = omega (arith, least, kept_within kinds old new graph asserted level back below was) in
    record {
      within = omega (arith, least);
      kept = ap (λ (g : GraphForm). g.kept) undone ∙ (ap (λ (bs : List Bound). take mark bs) was.kept ∙ (ap (λ (n : ℕ). take n (bounds_along kinds (take asserted old.trail))) marked
          ∙ front_bounds kinds new.trail back.rest old.trail asserted low back.trail less (omega (arith, least))));
      present = λ place d above within. absurd (omega (arith, above, within, least));
      room =
          let kept : length next.kept ≡ length (take mark graph.kept) = ap (λ (g : GraphForm). length g.kept) undone in
          let room : next.room ≡ graph.room + (length graph.kept - mark) = ap (λ (g : GraphForm). g.room) undone in
          let all : length graph.kept ≡ length (bounds_along kinds (take asserted old.trail)) = ap (λ (bs : List Bound). length bs) was.kept in
          let fewer : length (bounds_along kinds (take low new.trail)) ≤ length (bounds_along kinds (take asserted old.trail)) =
          fewer_bounds kinds new.trail back.rest old.trail asserted low back.trail less (omega (arith, least)) in
          let values : length new.values ≡ length old.values = ap (λ (vs : List (Option Assigned)). length vs) back.values ∙ length-map old.values (kept_to level) in
          omega (arith, kept, room, all, fewer, values, marked, was.room, length-take mark graph.kept);
    }

-- a mark of a level is one that the graph can be taken back to
pub mark_within : (problem : Problem) (query : Query) (engine : Engine) (solver : SolverForm) (level : ℕ) (begun : Level) → IsTurning problem query engine → Backjumps engine.solver solver level → level < engine.solver.level
    → begun ≡ get_or engine.levels.items level no_level → begun.bounds ≤ length engine.graph.kept
mark_within problem query engine solver level begun turning back below is =
    let kinds : List Kind = all_kinds problem query in
    let s : SolverForm = engine.solver in
    let marked : (get_or engine.levels.items level no_level).bounds ≡ length (bounds_along kinds (take (length solver.trail) solver.trail)) =
    bounds_back kinds query.assumed s solver level (get_or engine.levels.items level no_level) turning.sound back (turning.levels.begun level below) in
    let fewer : length (bounds_along kinds (take (length solver.trail) solver.trail)) ≤ length (bounds_along kinds (take engine.asserted s.trail)) =
    fewer_bounds kinds solver.trail back.rest s.trail engine.asserted (length solver.trail) back.trail (kept_within kinds s solver engine.graph engine.asserted level back below turning.asserted) (omega arith) in
    omega (arith, ap (λ (b : Level). b.bounds) is, marked, fewer, ap (λ (bs : List Bound). length bs) turning.asserted.kept)

-- a level has what stood when it began
pub begun_at : (problem : Problem) (query : Query) (engine : Engine) (level : ℕ) (begun : Level) → IsTurning problem query engine → level < engine.solver.level → begun ≡ get_or engine.levels.items level begun
    → begun ≡ get_or engine.levels.items level no_level
begun_at problem query engine level begun turning below is = is ∙ at_place engine.levels.items level begun no_level (omega (arith, below, turning.levels.counted))

-- an engine after a backjump
pub record IsTakenBack (old new : Engine) (level : ℕ) (begun : Level) : Type 0 where
  pub same : HasSameLog old new
  pub back : Backjumps old.solver new.solver level
  pub begun_is : begun ≡ get_or old.levels.items level no_level
  pub graph : new.graph ≡ record old.graph { kept = take begun.bounds old.graph.kept; room = old.graph.room + (length old.graph.kept - begun.bounds) }
  pub asserted : new.asserted ≡ length new.solver.trail
  pub assumed : new.assumed ≡ min old.assumed level
  pub levels : new.levels.items ≡ take level old.levels.items
  pub next : new.next ≡ begun.next

pub went_back : (problem : Problem) (query : Query) (old new : Engine) (level : ℕ) (begun : Level) → IsTurning problem query old → IsSound new.solver → level < old.solver.level → IsTakenBack old new level begun → IsTurning problem query new
went_back problem query old new level begun turning sound below taken =
    let kinds : List Kind = all_kinds problem query in
    let s : SolverForm = old.solver in
    let back : Backjumps s new.solver level = taken.back in
    let mark : ℕ = begun.bounds in
    let marked : mark ≡ length (bounds_along kinds (take (length new.solver.trail) new.solver.trail)) =
    ap (λ (b : Level). b.bounds) taken.begun_is ∙ bounds_back kinds query.assumed s new.solver level (get_or old.levels.items level no_level) turning.sound back (turning.levels.begun level below) in
    let values : length new.solver.values ≡ length s.values = ap (λ (vs : List (Option Assigned)). length vs) back.values ∙ length-map s.values (kept_to level) in
    record {
      whole = whole_moved problem query old new taken.same turning.whole back.clauses values
          (record { points = ap (λ (g : GraphForm). g.points) taken.graph ∙ turning.whole.graph.points; edges = ap (λ (g : GraphForm). g.edges) taken.graph ∙ turning.whole.graph.edges });
      variables = omega (arith, values, turning.variables);
      used = back.used ∙ turning.used;
      sound = sound;
      reasoned = record {
        attached = λ v a number is reason. subst (λ (cs : List Stored). IsAttached cs number) (sym back.clauses) (turning.reasoned.attached v a number (back_was s new.solver level back v a is).0 reason);
        below = λ v a is. turning.reasoned.below v a (back_was s new.solver level back v a is).0;
      };
      asserted = asserted_back kinds s new.solver old.graph new.graph old.asserted new.asserted mark level back below taken.asserted
          (marked ∙ ap (λ (n : ℕ). length (bounds_along kinds (take n new.solver.trail))) (sym taken.asserted)) taken.graph turning.asserted;
      assuming = record {
        within = omega (arith, taken.assumed, back.reached);
        decided = λ v a is none low. turning.assuming.decided v a (back_was s new.solver level back v a is).0 none (omega (arith, low, taken.assumed));
        all_true = λ above lit among.
            let one = turning.assuming.all_true (omega (arith, above, taken.assumed, back.reached, below)) lit among in
            (one.0, back_stays s new.solver level back lit.variable one.0 one.1 (omega (arith, one.3, above, taken.assumed, back.reached)), one.2, omega (arith, one.3, above, taken.assumed, back.reached));
      };
      levels = subst (λ (n : ℕ). IsLevelled kinds query.assumed new.solver new.levels.items n) (sym (taken.next ∙ ap (λ (b : Level). b.next) taken.begun_is))
          (subst (λ (ls : List Level). IsLevelled kinds query.assumed new.solver ls (get_or old.levels.items level no_level).next) (sym taken.levels)
          (levelled_back kinds query.assumed s new.solver old.levels.items old.next level turning.sound back below turning.levels));
      kinds = ap (λ (t : TesterForm). t.kinds) taken.same.tester ∙ turning.kinds;
      taught = taught_moved problem query old new taken.same turning.taught;
    }

-- a literal of a false clause is of the present level, or all are below it
present_or_below : (s : SolverForm) (lits : List Lit) → IsSound s → Each (IsFalse (assigned s)) lits
    → HasPresent s lits ⊎ ((lit : Lit) → Contains lits lit → (a : Assigned) × (assigned s lit.variable ≡ Some a) × (a.positive ≡ not lit.positive) × (a.level < s.level))
present_or_below s [] sound all_false = inr (λ lit is. absurd (omega (arith, is.1)))
present_or_below s (lit ∷ lits) sound all_false = at (present_or_below s lits sound (λ l is. all_false l (there lit lits l is))) (all_false lit (here lit lits))
  where
    at : HasPresent s lits ⊎ ((l : Lit) → Contains lits l → (a : Assigned) × (assigned s l.variable ≡ Some a) × (a.positive ≡ not l.positive) × (a.level < s.level)) → IsFalse (assigned s) lit
        → HasPresent s (lit ∷ lits) ⊎ ((l : Lit) → Contains (lit ∷ lits) l → (a : Assigned) × (assigned s l.variable ≡ Some a) × (a.positive ≡ not l.positive) × (a.level < s.level))
    at (inl one) fell = inl (one.0, there lit lits one.0 one.1, one.2)
    at (inr below) (a, is, sign) = elim (cases_lt a.level s.level) [
      | inl less ↦ inr (λ l among. elim (first_or_rest lit lits l among) [
        | inl same ↦ (a, ap (λ (x : Lit). assigned s x.variable) (sym same) ∙ is, sign ∙ ap (λ (x : Lit). not x.positive) same, less)
        | inr rest ↦ below l rest
      ])
      | inr at_top ↦ inl (lit, here lit lits, (a, is, let most : a.level ≤ s.level = (sound.ordered.present lit.variable a is).0 in omega (arith, most, at_top)))
    ]

-- an attached clause that is false has a literal of the present level above level 0, since the trail is closed below
pub conflict_present : (s : SolverForm) (number : ℕ) → IsSound s → IsAttached s.clauses number → Each (IsFalse (assigned s)) (clause_at s.clauses number) → 0 < s.level
    → HasPresent s (clause_at s.clauses number)
conflict_present s number sound attached all_false above = elim (present_or_below s (clause_at s.clauses number) sound all_false) [
  | inl one ↦ one
  | inr below ↦
      let quiet : IsQuiet (s.level - 1) (assigned s) (clause_at s.clauses number) = sound.closed (s.level - 1) (omega (arith, above)) number attached in
      absurd (quiet.not_false (λ lit is. let one = below lit is in (one.0, one.1, one.2, omega (arith, one.3, above))))
]

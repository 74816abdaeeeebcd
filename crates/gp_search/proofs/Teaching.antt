-- What an engine learns at a conflict above the assumptions.
use Rattle.std.proofs.Common.{◌≡◌, ◌≢◌, refl, sym, ◌∙◌, ap, subst, ℕ, ◌+◌, ◌-◌, ◌<◌, ◌≤◌, Option, Some, List, [], ◌∷◌, length, get_or, map, take, drop, All, Contains, ◌⊎◌, inl, inr, arith}
use Rattle.std.specs.List.{slice_get}
use Rattle.std.proofs.lemmas.Bool.{cases_lt}
use Rattle.std.proofs.lemmas.Option.{same_Some}
use Rattle.std.proofs.lemmas.List.{length-drop, length-take-le, get_or-drop, get_or-take}
use Rattle.std.proofs.lemmas.List.Elements.{All-contains, Contains-append_cases}
use Rattle.gp_clause.specs.declared.edge.Edge.{Edge}
use Rattle.gp_clause.specs.declared.kind.Kind.{Kind}
use Rattle.gp_clause.specs.declared.lit.Lit.{Lit}
use Rattle.gp_clause.specs.declared.problem.Problem.{Problem}
use Rattle.gp_clause.specs.declared.problem.Query.{Query}
use Rattle.gp_clause.specs.Clause.{NamesBelow}
use Rattle.gp_clause.specs.Closure.{ClosureIsLeast, IsTrueIn}
use Rattle.gp_clause.specs.Edge.{Keeps}
use Rattle.gp_clause.specs.Kind.{KeepsBound, bound_in, bound_at}
use Rattle.gp_derivation.specs.declared.log.LogEntry.{LogEntry}
use Rattle.gp_derivation.specs.declared.record.Turn.{Turn}
use Rattle.gp_certificate.specs.declared.step.Step.{Step}
use Rattle.gp_derivation.specs.Log.{logged}
use Rattle.gp_derivation.specs.Spent.{IsNewBy, turned}
use Rattle.gp_certificate.specs.Step.{Passes, named}
use Rattle.gp_clause.specs.Lit.{negations}
use Rattle.gp_derivation.specs.Tight.{IsTight}
use Rattle.gp_difference.specs.Graph.{HasPlaces, all_edges}
use Rattle.gp_difference.specs.Places.{place_at}
use Rattle.gp_sat.specs.declared.analysis.Learned.{Learned}
use Rattle.gp_sat.specs.declared.assigned.Assigned.{Assigned}
use Rattle.gp_sat.specs.State.{SolverForm, assigned, clause_at, IsAttached}
use Rattle.gp_sat.specs.Standing.{IsFalse, IsFalseTo, Each}
use Rattle.gp_sat.specs.Sound.{true_lit}
use Rattle.gp_sat.specs.Changes.{IsOfLevel}
use Rattle.gp_sat.specs.Learning.{HasOnePresent, IsBelowLevel, IsFirstPoint}
use Rattle.gp_sat.specs.SolverLaws.{attached_within, within_values}
use Rattle.gp_search.specs.declared.engine.Engine.{Engine}
use Rattle.gp_search.specs.Inside.{all_kinds, turn_from, IsConflict, IsTurning, IsTrueTo}
use Rattle.gp_search.specs.Moves.{IsStudied, IsTightened, with_number}
use Rattle.gp_base.specs.ListLaws.{all_from_contains, contains_from_map, contains_from_take, first_or_rest, here, there}
use Rattle.gp_search.proofs.LearnedSteps.{clause_got, hints_attached, learned_passes}
use Rattle.gp_search.proofs.Lists.{filtered_cases}
use Rattle.gp_search.proofs.Meeting.{base_at, bound_kept, edge_among}
use Rattle.gp_search.proofs.News.{AreAttached, IsCalm, closed_leaves, false_in, free_in, negations_true, new_by, not_refuted, true_from, true_in, values_to}
use Rattle.gp_search.proofs.Turns.{entry_clause}
use Rattle.gp_clause.specs.LitLaws.{lits_cases}

-- a literal that is true below the present level is one whose bound the graph has
asserted_front : (problem : Problem) (query : Query) (engine : Engine) (level : ℕ) (lit : Lit) → IsTurning problem query engine → level < engine.solver.level → IsTrueTo engine.solver level lit
    → Contains (take engine.asserted engine.solver.trail) lit
asserted_front problem query engine level lit turning under (a, is, sign, low) =
    let s : SolverForm = engine.solver in
    let on : get_or s.trail a.place lit ≡ true_lit lit.variable a = turning.sound.ordered.on_trail lit.variable a lit is in
    let itself : true_lit lit.variable a ≡ lit = λ i. record { variable = lit.variable; positive = sign i } in
    let early : a.place < engine.asserted = elim (cases_lt a.place engine.asserted) [
      | inl before ↦ before
      | inr late ↦
          let one : IsOfLevel s s.level (get_or s.trail a.place lit) = turning.asserted.present a.place lit late (turning.sound.ordered.within lit.variable a is) in
          let top : IsOfLevel s s.level lit = subst (λ (l : Lit). IsOfLevel s s.level l) (on ∙ itself) one in
          let same : a ≡ top.0 = let both : Some a ≡ Some top.0 = sym is ∙ top.1 in same_Some a top.0 both in
          absurd (omega (arith, ap (λ (x : Assigned). x.level) same, top.2, low, under))
    ] in (
      a.place,
      omega (arith, early, length-take-le engine.asserted s.trail turning.asserted.within),
      get_or-take engine.asserted s.trail a.place lit early ∙ (on ∙ itself),
    )

-- below the present level all is calm
pub engine_calm : (problem : Problem) (query : Query) (engine : Engine) (level : ℕ) (clauses : List (List Lit)) → IsTurning problem query engine → HasPlaces engine.graph → level < engine.solver.level → AreAttached engine.solver clauses
    → IsCalm problem.edges (all_kinds problem query) clauses (values_to engine.solver level) (place_at engine.graph.places)
engine_calm problem query engine level clauses turning feasible under attached = record {
  leaves = closed_leaves engine.solver level clauses (turning.sound.closed level under) attached;
  fixed = all_from_contains (Keeps (place_at engine.graph.places)) problem.edges (λ edge is.
      All-contains (Keeps (place_at engine.graph.places)) (all_edges engine.graph) edge feasible.keeps (edge_among engine.graph edge (subst (λ (es : List Edge). Contains es edge) (sym turning.whole.graph.edges) is)));
  bounds = λ lit kind edge holds got is.
      let front : Contains (take engine.asserted engine.solver.trail) lit = asserted_front problem query engine level lit turning under (true_from engine.solver level lit holds) in
      let kept : KeepsBound (place_at engine.graph.places) (bound_at (all_kinds problem query) lit) =
      bound_kept (all_kinds problem query) engine.graph (take engine.asserted engine.solver.trail) lit (place_at engine.graph.places) turning.asserted.kept feasible.keeps front in
      let by_kind : bound_at (all_kinds problem query) lit ≡ Some edge = ap (λ (o : Option Kind). bound_in o lit.positive) got ∙ is in
      subst (KeepsBound (place_at engine.graph.places)) by_kind kept;
}

-- above the levels of the assumptions all of them are true
assumed_true : (problem : Problem) (query : Query) (engine : Engine) (level : ℕ) → IsTurning problem query engine → engine.assumed ≤ level → level < engine.solver.level → All (IsTrueIn (values_to engine.solver level)) query.assumed
assumed_true problem query engine level turning low under = all_from_contains (IsTrueIn (values_to engine.solver level)) query.assumed (λ lit is.
    let one = turning.assuming.all_true (omega (arith, low, under)) lit is in
    true_in engine.solver level lit (one.0, one.1, one.2, omega (arith, one.3, low)))

-- the clauses of a turn are attached
pub turned_attached : (problem : Problem) (query : Query) (engine : Engine) (turn : Turn) → IsTurning problem query engine → turn.begins ≡ engine.begins
    → AreAttached engine.solver (turned problem engine.log.items turn (length engine.log.items))
turned_attached problem query engine turn turning same clause among =
    elim (Contains-append_cases problem.clauses (map clause_of (take (length log - turn.begins) (drop turn.begins log))) clause among) [
      | inl base ↦ let one = base_at problem query engine turning clause base in (one.0, turning.whole.stored.base one.0 one.1, one.2)
      | inr entry ↦ own (contains_from_map clause_of (take (length log - turn.begins) (drop turn.begins log)) clause entry)
    ]
  where
    log : List LogEntry
    log = engine.log.items

    clause_of : LogEntry → List Lit
    clause_of entry = entry.step.clause

    own : (e : LogEntry) × Contains (take (length engine.log.items - turn.begins) (drop turn.begins engine.log.items)) e × (e.step.clause ≡ clause)
        → (number : ℕ) × IsAttached engine.solver.clauses number × (clause_at engine.solver.clauses number ≡ clause)
    own (e, there, is) =
        let items : List LogEntry = engine.log.items in
        let inside : Contains (drop turn.begins items) e = contains_from_take (length items - turn.begins) (drop turn.begins items) e there in
        let place : ℕ = turn.begins + inside.0 in
        let within : place < length items = omega (arith, inside.1, length-drop turn.begins items) in
        let got : get_or items place e ≡ e = sym (get_or-drop turn.begins items inside.0 e) ∙ inside.2 in (
          length problem.clauses + place,
          turning.whole.keeping.current place (omega (arith, same)) within,
          entry_clause problem items engine.solver.clauses place e turning.whole.stored.lits within ∙ (ap (λ (x : LogEntry). x.step.clause) got ∙ is),
        )

-- the clauses that hints name are attached where the hints are
pub named_attached : (problem : Problem) (log : List LogEntry) (s : SolverForm) (hints : List ℕ) → map (λ (stored : _). stored.clause) s.clauses ≡ logged problem log → ((hint : ℕ) → Contains hints hint → IsAttached s.clauses hint)
    → AreAttached s (named (logged problem log) hints)
named_attached problem log s hints same attached clause among =
    let one = filtered_cases (λ (hint : ℕ). slice_get (logged problem log) hint) hints clause among in
    let is : IsAttached s.clauses one.0 = attached one.0 one.1 in
    let both : Some (clause_at s.clauses one.0) ≡ Some clause = sym (clause_got problem log s.clauses one.0 same (attached_within s.clauses one.0 is)) ∙ one.2 in
    (one.0, is, same_Some (clause_at s.clauses one.0) clause both)

-- a literal stands in a clause or does not
contains_or_not : (clause : List Lit) (lit : Lit) → Contains clause lit ⊎ (Contains clause lit → ⊥)
contains_or_not [] lit = inr (λ is. absurd (let short : is.0 < 0 = is.1 in omega (arith, short)))
contains_or_not (x ∷ clause) lit = at (lits_cases x lit) (contains_or_not clause lit)
  where
    at : (x ≡ lit) ⊎ (x ≢ lit) → Contains clause lit ⊎ (Contains clause lit → ⊥) → Contains (x ∷ clause) lit ⊎ (Contains (x ∷ clause) lit → ⊥)
    at (inl same) rest = inl (subst (λ (l : Lit). Contains (x ∷ clause) l) same (here x clause))
    at (inr differ) (inl rest) = inl (there x clause lit rest)
    at (inr differ) (inr none) = inr (λ is. elim (first_or_rest x clause lit is) [ inl same ↦ differ same | inr rest ↦ none rest ])

-- a false literal of a level below the present one is false to the level below it
false_below : (s : SolverForm) (level : ℕ) (lit : Lit) → level + 1 ≡ s.level → IsFalse (assigned s) lit → IsBelowLevel s s.level lit → IsFalseTo level (assigned s) lit
false_below s level lit top (a, is, sign) (b, also, below) =
    let same : a ≡ b = let both : Some a ≡ Some b = sym is ∙ also in same_Some a b both in
    (a, is, sign, omega (arith, ap (λ (x : Assigned). x.level) same, below, top))

-- what an analysis gave, and a part of it that still passes: clauses that are attached refute its negation
pub record IsPart (problem : Problem) (query : Query) (engine : Engine) (clauses : List (List Lit)) (learned clause : List Lit) : Type 0 where
  pub all_false : Each (IsFalse (assigned engine.solver)) learned
  pub point : HasOnePresent engine.solver learned
  pub some : All (Contains learned) clause
  pub passes : Passes problem.edges (all_kinds problem query) clauses clause
  pub attached : AreAttached engine.solver clauses

-- such a part keeps the one literal of the present level
pub part_point : (law : ClosureIsLeast) (problem : Problem) (query : Query) (engine : Engine) (clauses : List (List Lit)) (learned clause : List Lit) → IsTurning problem query engine → HasPlaces engine.graph → 0 < engine.solver.level
    → IsPart problem query engine clauses learned clause → HasOnePresent engine.solver clause
part_point law problem query engine clauses learned clause turning feasible above part = record {
  lit = part.point.lit;
  within = elim (contains_or_not clause part.point.lit) [
    | inl is ↦ is
    | inr none ↦ absurd (not_refuted law problem.edges (all_kinds problem query) clauses (values_to s level) (place_at engine.graph.places) (negations clause)
        (engine_calm problem query engine level clauses turning feasible (omega (arith, above)) part.attached)
        (negations_true (values_to s level) clause (λ lit is. false_in s level lit (below lit is (λ same. none (subst (λ (l : Lit). Contains clause l) same is)))))
        part.passes.refuted)
  ];
  present = part.point.present;
  others = λ other is apart. part.point.others other (All-contains (Contains learned) clause other part.some is) apart;
}
  where
    s : SolverForm
    s = engine.solver

    level : ℕ
    level = engine.solver.level - 1

    below : (lit : Lit) → Contains clause lit → lit ≢ part.point.lit → IsFalseTo (engine.solver.level - 1) (assigned engine.solver) lit
    below lit is apart =
        let among : Contains learned lit = All-contains (Contains learned) clause lit part.some is in
        false_below engine.solver (engine.solver.level - 1) lit (omega (arith, above)) (part.all_false lit among) (part.point.others lit among apart)

-- and it is new by that literal
pub part_new : (law : ClosureIsLeast) (problem : Problem) (query : Query) (engine : Engine) (turn : Turn) (clause : List Lit) → IsTurning problem query engine → HasPlaces engine.graph → engine.assumed < engine.solver.level
    → turn.begins ≡ engine.begins → Each (IsFalse (assigned engine.solver)) clause → (point : HasOnePresent engine.solver clause)
    → IsNewBy problem query (turned problem engine.log.items turn (length engine.log.items)) clause point.lit
part_new law problem query engine turn clause turning feasible above same all_false point =
    let s : SolverForm = engine.solver in
    let level : ℕ = s.level - 1 in
    let top : level + 1 ≡ s.level = omega (arith, above) in
    let clauses : List (List Lit) = turned problem engine.log.items turn (length engine.log.items) in
    new_by law problem query clauses (values_to s level) (place_at engine.graph.places) clause point.lit
    (engine_calm problem query engine level clauses turning feasible (omega (arith, top)) (turned_attached problem query engine turn turning same))
    (assumed_true problem query engine level turning (omega (arith, top, above)) (omega (arith, top))) point.within
    (free_in s level point.lit.variable point.present.0 point.present.1 (omega (arith, point.present.2, top)))
    (λ other is apart. false_in s level other (false_below s level other top (all_false other is) (point.others other is apart)))

-- what a conflict gives, with the number of the conflict beside the hints
pub studied : (problem : Problem) (query : Query) (engine : Engine) (conflict : List Lit) (number : Option ℕ) (answer : Learned) (hints : List ℕ) → IsTurning problem query engine
    → IsConflict problem query engine.solver conflict number → IsFirstPoint engine.solver conflict answer → hints ≡ with_number answer.hints number
    → IsStudied problem query engine (record { clause = answer.clause; hints = hints })
studied problem query engine conflict number answer hints turning found first same =
    let P : List ℕ → Type 0 = λ hs. IsStudied problem query engine (record { clause = answer.clause; hints = hs }) in
    subst P (sym same) (record {
      passes = learned_passes problem query engine conflict number answer.clause answer.hints turning found first.learned;
      attached = hints_attached engine.solver (length (all_kinds problem query)) answer.hints number turning.reasoned first.learned.reasons found.attached;
      all_false = first.learned.all_false;
      point = first.point;
    })

-- what holds with the edges and the kinds of a problem and a query, and with the hints of a step and the log, by the tester's
-- and by equal ones
pub to_tester : (problem : Problem) (query : Query) (engine : Engine) (own hints : List ℕ) (log : List LogEntry) (P : List Edge → List Kind → List (List Lit) → Type 0) → IsTurning problem query engine → log ≡ engine.log.items → hints ≡ own
    → P problem.edges (all_kinds problem query) (named (logged problem engine.log.items) own) → P engine.tester.edges engine.tester.kinds (named (logged problem log) hints)
to_tester problem query engine own hints log P turning logs same is =
    subst (λ (es : List Edge). P es engine.tester.kinds (named (logged problem log) hints)) (sym turning.whole.tester.edges)
    (subst (λ (ks : List Kind). P problem.edges ks (named (logged problem log) hints)) (sym turning.kinds)
    (subst (λ (es : List LogEntry). P problem.edges (all_kinds problem query) (named (logged problem es) hints)) (sym logs)
    (subst (λ (hs : List ℕ). P problem.edges (all_kinds problem query) (named (logged problem engine.log.items) hs)) (sym same) is)))

from_tester : (problem : Problem) (query : Query) (engine : Engine) (own hints : List ℕ) (log : List LogEntry) (P : List Edge → List Kind → List (List Lit) → Type 0) → IsTurning problem query engine → log ≡ engine.log.items → hints ≡ own
    → P engine.tester.edges engine.tester.kinds (named (logged problem log) hints) → P problem.edges (all_kinds problem query) (named (logged problem engine.log.items) own)
from_tester problem query engine own hints log P turning logs same is =
    subst (λ (hs : List ℕ). P problem.edges (all_kinds problem query) (named (logged problem engine.log.items) hs)) same
    (subst (λ (es : List LogEntry). P problem.edges (all_kinds problem query) (named (logged problem es) hints)) logs
    (subst (λ (ks : List Kind). P problem.edges ks (named (logged problem log) hints)) turning.kinds
    (subst (λ (es : List Edge). P es engine.tester.kinds (named (logged problem log) hints)) turning.whole.tester.edges is)))

-- what hints name has variables of the problem and the query alone
pub named_within : (problem : Problem) (query : Query) (engine : Engine) (step : Step) → IsTurning problem query engine → IsStudied problem query engine step
    → All (NamesBelow (length (all_kinds problem query))) (named (logged problem engine.log.items) step.hints)
named_within problem query engine step turning studied = all_from_contains (NamesBelow (length (all_kinds problem query))) (named (logged problem engine.log.items) step.hints) (λ clause among.
    let one = named_attached problem engine.log.items engine.solver step.hints turning.whole.stored.lits studied.attached clause among in
    subst (λ (c : List Lit). NamesBelow (length (all_kinds problem query)) c) one.2 (turning.whole.stored.named one.0 one.1))

-- a tight part of a step may be learned
pub tightened : (law : ClosureIsLeast) (problem : Problem) (query : Query) (engine : Engine) (step : Step) (hints : List ℕ) (log : List LogEntry) (tight : List Lit) → IsTurning problem query engine → HasPlaces engine.graph
    → engine.assumed < engine.solver.level → IsStudied problem query engine step → log ≡ engine.log.items → hints ≡ step.hints → All (Contains step.clause) tight
    → Passes engine.tester.edges engine.tester.kinds (named (logged problem log) hints) tight → IsTight engine.tester.edges engine.tester.kinds (named (logged problem log) hints) tight
    → IsTightened problem query engine (record { clause = tight; hints = step.hints })
tightened law problem query engine step hints log tight turning feasible above studied logs same some passes is_tight =
    let clauses : List (List Lit) = named (logged problem engine.log.items) step.hints in
    let passing : Passes problem.edges (all_kinds problem query) clauses tight = from_tester problem query engine step.hints hints log (λ es ks cs. Passes es ks cs tight) turning logs same passes in
    let all_false : Each (IsFalse (assigned engine.solver)) tight = λ lit is. studied.all_false lit (All-contains (Contains step.clause) tight lit some is) in
    let point : HasOnePresent engine.solver tight = part_point law problem query engine clauses step.clause tight turning feasible (omega (arith, above)) (record {
      all_false = studied.all_false;
      point = studied.point;
      some = some;
      passes = passing;
      attached = named_attached problem engine.log.items engine.solver step.hints turning.whole.stored.lits studied.attached;
    }) in
    record {
      lesson = record {
        passes = record { hints = studied.passes.hints; usable = studied.passes.usable; passes = passing };
        lit = point.lit;
        is_new = part_new law problem query engine (turn_from engine.begins (length engine.log.items) (length engine.log.items)) tight turning feasible above refl all_false point;
        tight = from_tester problem query engine step.hints hints log (λ es ks cs. IsTight es ks cs tight) turning logs same is_tight;
      };
      all_false = all_false;
      point = point;
    }

-- the literals of such a step are of variables of the solver
pub false_within : (s : SolverForm) (lits : List Lit) → Each (IsFalse (assigned s)) lits → All (λ lit. lit.variable < length s.values) lits
false_within s lits all_false = all_from_contains (λ (lit : Lit). lit.variable < length s.values) lits (λ lit is. let fell = all_false lit is in within_values s.values lit.variable fell.0 fell.1)

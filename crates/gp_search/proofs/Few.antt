-- A turn learns fewer clauses than there are over its variables.
use Rattle.std.proofs.Common.{◌≡◌, ◌≢◌, refl, sym, ◌∙◌, ap, subst, ℕ, ◌+◌, ◌-◌, ◌<◌, ◌≤◌, ◌^◌, Bool, true, false, not, Some, List, [], ◌∷◌, ◌++◌, length, get_or, map, take, drop, Contains, ◌⊎◌, inl, inr, arith}
use Rattle.std.specs.List.{slice_get}
use Rattle.std.proofs.lemmas.Bool.{false≢true}
use Rattle.std.proofs.lemmas.Option.{get_or_from_slice_get}
use Rattle.std.proofs.lemmas.List.{get_or-drop, get_or-map, get_or-take, length-append, length-drop, length-map, length-take}
use Rattle.std.proofs.lemmas.List.Elements.{Contains-append_right}
use Rattle.gp_clause.specs.declared.kind.Kind.{Kind}
use Rattle.gp_clause.specs.declared.lit.Lit.{Lit}
use Rattle.gp_clause.specs.declared.problem.Problem.{Problem}
use Rattle.gp_clause.specs.declared.problem.Query.{Query}
use Rattle.gp_clause.specs.Clause.{IsRising, NamesBelow}
use Rattle.gp_clause.specs.Closure.Derived.{given, forced}
use Rattle.gp_clause.specs.Counting.{AreDistinctClauses, ClausesAreFew}
use Rattle.gp_clause.specs.Lit.{opposite, lit_eq, negations}
use Rattle.gp_clause.specs.LitLaws.{lit_eq_decides}
use Rattle.gp_derivation.specs.declared.log.LogEntry.{LogEntry}
use Rattle.gp_derivation.specs.declared.log.Origin.{Origin}
use Rattle.gp_derivation.specs.declared.log.Origin.TheVariants.{Learned, Taken}
use Rattle.gp_derivation.specs.declared.record.Turn.{Turn}
use Rattle.gp_certificate.specs.declared.step.Step.{Step}
use Rattle.gp_base.specs.ListLaws.{contains_map, first_or_rest, here, there}
use Rattle.gp_derivation.specs.Log.{IsLearned, OriginPasses}
use Rattle.gp_derivation.specs.Spent.{IsNewBy, turned}
use Rattle.gp_derivation.specs.Tight.{left_out}
use Rattle.gp_search.specs.declared.engine.Engine.{Engine}
use Rattle.gp_search.specs.Inside.{IsTurning, turn_from}
use Rattle.gp_search.proofs.Turns.{some_entry}

-- the clause of an entry
abbrev clause_of : LogEntry → List Lit
clause_of entry = entry.step.clause

-- another literal of a clause is left when one is left out
left_in : (lit : Lit) (clause : List Lit) (other : Lit) → Contains clause other → other ≢ lit → Contains (left_out lit clause) other
left_in lit [] other is apart = absurd (let short : is.0 < 0 = is.1 in omega (arith, short))
left_in lit (x ∷ clause) other is apart = at (not (lit_eq x lit)) refl (first_or_rest x clause other is) (λ rest. left_in lit clause other rest apart)
  where
    not_same : (b : Bool) → not b ≡ false → b ≡ true
    not_same true kept = refl
    not_same false kept = absurd (false≢true (sym kept))

    at : (keep : Bool) → not (lit_eq x lit) ≡ keep → (x ≡ other) ⊎ Contains clause other → (Contains clause other → Contains (left_out lit clause) other) → Contains (left_out lit (x ∷ clause)) other
    at true passes (inl same) more = rw passes (subst (λ (l : Lit). Contains (x ∷ left_out lit clause) l) same (here x (left_out lit clause)))
    at true passes (inr rest) more = rw passes (there x (left_out lit clause) other (more rest))
    at false fails (inl same) more = absurd (apart (sym same ∙ (lit_eq_decides x lit).0 (not_same (lit_eq x lit) fails)))
    at false fails (inr rest) more = rw fails (more rest)

-- a clause that is new by some literal is none of the clauses beside it
new_apart : (problem : Problem) (query : Query) (clauses : List (List Lit)) (clause : List Lit) (lit : Lit) → IsNewBy problem query clauses clause lit → Contains clauses clause → ⊥
new_apart problem query clauses clause lit news among =
    news.unassigned lit.positive (forced clause lit among news.within (λ other is apart.
    given (opposite other) (Contains-append_right query.assumed (negations (left_out lit clause)) (opposite other) (contains_map opposite (left_out lit clause) other (left_in lit clause other is apart)))))

-- the clause at a place of what was learned
own_clause : (log : List LogEntry) (learned k : ℕ) (d : List Lit) → k < length (map clause_of (drop learned log)) → (entry : LogEntry) × (slice_get log (learned + k) ≡ Some entry) × (get_or (map clause_of (drop learned log)) k d ≡ entry.step.clause)
own_clause log learned k d within =
    let inside : k < length (drop learned log) = omega (arith, within, length-map (drop learned log) clause_of) in
    let one = some_entry log (learned + k) (omega (arith, inside, length-drop learned log)) in (
      one.0,
      one.1,
      get_or-map clause_of (drop learned log) k one.0 d inside ∙ ap clause_of (get_or-drop learned log k one.0 ∙ get_or_from_slice_get log (learned + k) one.0 one.0 one.1),
    )

-- a learned entry that passes has variables of the problem and the query alone
own_named : (problem : Problem) (locals : List Kind) (log : List LogEntry) (begins place : ℕ) (step : Step) (origin : Origin) → IsLearned origin → OriginPasses problem locals log begins place step origin
    → NamesBelow (length (problem.kinds ++ locals)) step.clause
own_named problem locals log begins place step Learned is passes = passes.passes.in_range
own_named problem locals log begins place step (Taken sender certificate) wrong passes = absurd wrong

-- what stands before a place of a turn is beside what is learned there
turned_before : (problem : Problem) (log : List LogEntry) (turn : Turn) (place later : ℕ) (entry : LogEntry) → turn.begins ≤ place → place < later → later ≤ length log → slice_get log place ≡ Some entry
    → Contains (turned problem log turn later) entry.step.clause
turned_before problem log turn place later entry low before high got =
    let b : ℕ = turn.begins in
    let front : List LogEntry = take (later - b) (drop b log) in
    let within : place - b < length front = omega (arith, low, before, high, length-take (later - b) (drop b log), length-drop b log) in
    let split : b + (place - b) ≡ place = omega (arith, low) in
    let is : get_or front (place - b) entry ≡ entry =
    get_or-take (later - b) (drop b log) (place - b) entry (omega (arith, low, before)) ∙ (get_or-drop b log (place - b) entry ∙ (ap (λ (n : ℕ). get_or log n entry) split ∙ get_or_from_slice_get log place entry entry got)) in
    Contains-append_right problem.clauses (map clause_of front) (clause_of entry) (contains_map clause_of front entry (place - b, within, is))

-- what stands behind a place
behind : (low place k : ℕ) → low ≤ place → low ≤ place + k
behind low place k under = omega (arith, under)

further : (place i j : ℕ) → i < j → place + i < place + j
further place i j before = omega (arith, before)

up_to : (place count : ℕ) → place < count → place ≤ count
up_to place count within = omega (arith, within)

earlier : (i j count : ℕ) → i < j → j < count → i < count
earlier i j count before within = omega (arith, before, within)

itself : (place : ℕ) → place ≤ place
itself place = omega arith

-- the clauses that a turn learned are different, and of its variables
all_distinct : (problem : Problem) (query : Query) (engine : Engine) → IsTurning problem query engine → AreDistinctClauses (length problem.kinds + length query.locals) (map clause_of (drop engine.learned engine.log.items))
all_distinct problem query engine turning = record {
  rising = λ k d within.
      let one = own_clause engine.log.items engine.learned k d within in
      subst IsRising (sym one.2) (turning.taught.rising (engine.learned + k) one.0 one.1 (behind engine.learned engine.learned k (itself engine.learned)));
  named = λ k d within.
      let one = own_clause engine.log.items engine.learned k d within in
      let own : IsLearned one.0.origin = turning.whole.log.learned (engine.learned + k) one.0 one.1 (behind engine.learned engine.learned k (itself engine.learned)) in
      let named : NamesBelow (length (problem.kinds ++ query.locals)) one.0.step.clause =
      own_named problem query.locals engine.log.items engine.begins (engine.learned + k) one.0.step one.0.origin own (turning.whole.log.passes.current (engine.learned + k) one.0 one.1 (behind engine.begins engine.learned k turning.whole.log.began)) in
      let P : ℕ → Type 0 = λ n. NamesBelow n one.0.step.clause in
      let Q : List Lit → Type 0 = λ c. NamesBelow (length problem.kinds + length query.locals) c in
      subst Q (sym one.2) (subst P (length-append problem.kinds query.locals) named);
  filled = λ k d within.
      let one = own_clause engine.log.items engine.learned k d within in
      let news = new_at k one.0 one.1 within in
      let inside = news.1.within in
      omega (arith, inside.1, ap (λ (c : List Lit). length c) one.2);
  distinct = λ i j d before within.
      let first = own_clause engine.log.items engine.learned i d (earlier i j _ before within) in
      let second = own_clause engine.log.items engine.learned j d within in
      let news = new_at j second.0 second.1 within in
      let among : Contains (turned problem engine.log.items (turn_from engine.begins engine.learned (length engine.log.items)) (engine.learned + j)) first.0.step.clause =
      turned_before problem engine.log.items (turn_from engine.begins engine.learned (length engine.log.items)) (engine.learned + i) (engine.learned + j) first.0 (behind engine.begins engine.learned i turning.whole.log.began) (further engine.learned i j before) (up_to (engine.learned + j) (length engine.log.items) (place_within j within)) first.1 in
      λ same.
      let equal : first.0.step.clause ≡ second.0.step.clause = sym first.2 ∙ (same ∙ second.2) in
      let clauses : List (List Lit) = turned problem engine.log.items (turn_from engine.begins engine.learned (length engine.log.items)) (engine.learned + j) in
      new_apart problem query clauses second.0.step.clause news.0 news.1 (subst (λ (c : List Lit). Contains clauses c) equal among);
}
  where
    place_within : (k : ℕ) → k < length (map clause_of (drop engine.learned engine.log.items)) → engine.learned + k < length engine.log.items
    place_within k within = omega (arith, within, length-map (drop engine.learned engine.log.items) clause_of, length-drop engine.learned engine.log.items)

    new_at : (k : ℕ) (entry : LogEntry) → slice_get engine.log.items (engine.learned + k) ≡ Some entry → k < length (map clause_of (drop engine.learned engine.log.items))
        → (lit : Lit) × IsNewBy problem query (turned problem engine.log.items (turn_from engine.begins engine.learned (length engine.log.items)) (engine.learned + k)) entry.step.clause lit
    new_at k entry got within = turning.taught.news (engine.learned + k) entry got (behind engine.learned engine.learned k (itself engine.learned)) (place_within k within)

-- so they are fewer than three to the power of the number of variables
pub few_learned : (problem : Problem) (query : Query) (engine : Engine) (budget : ℕ) → ClausesAreFew → IsTurning problem query engine → length engine.log.items ≡ engine.learned + budget → budget < 3 ^ (length problem.kinds + length query.locals)
few_learned problem query engine budget law turning counted =
    let cs : List (List Lit) = map clause_of (drop engine.learned engine.log.items) in
    let size : length cs ≡ budget = omega (arith, length-map (drop engine.learned engine.log.items) clause_of, length-drop engine.learned engine.log.items, counted) in
    let few : length cs < 3 ^ (length problem.kinds + length query.locals) = law (length problem.kinds + length query.locals) cs (all_distinct problem query engine turning) in
    let P : ℕ → Type 0 = λ n. n < 3 ^ (length problem.kinds + length query.locals) in
    subst P size few

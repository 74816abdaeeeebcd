-- How a turn begins and ends.
use Rattle.std.proofs.Common.{◌≡◌, ◌≢◌, refl, sym, ◌∙◌, ap, subst, ℕ, ◌+◌, ◌-◌, ◌*◌, ◌<◌, ◌≤◌, ◌^◌, zero, suc, Bool, true, false, cond, Option, Some, None, List, [], ◌∷◌, ◌++◌, length, get_or, map, replicate, take, All, inl, inr, arith}
use Rattle.std.specs.Prelude.{slice_set}
use Rattle.std.specs.List.{slice_get}
use Rattle.std.specs.Option.{option_map}
use Rattle.std.proofs.lemmas.Bool.{cases_lt, cases_eq, false≢true}
use Rattle.std.proofs.lemmas.Option.{slice_get-get_or, slice_get-map, slice_get_within, get_or_from_slice_get, same_Some, none-some}
use Rattle.std.proofs.lemmas.List.{length-append, length-replicate, length-set, length-map, get_or-map, get_or-set_same, get_or-set_other}
use Rattle.std.proofs.lemmas.List.Elements.{All-nil, All-weaker}
use Rattle.gp_clause.specs.declared.lit.Lit.{Lit}
use Rattle.gp_clause.specs.declared.problem.Problem.{Problem}
use Rattle.gp_clause.specs.declared.problem.Query.{Query}
use Rattle.gp_clause.specs.Clause.{NamesBelow}
use Rattle.gp_clause.specs.Problem.{IsValidProblem, IsValidQuery}
use Rattle.gp_derivation.specs.declared.log.LogEntry.{LogEntry}
use Rattle.gp_derivation.specs.Log.{IsPure, LogGrows, logged}
use Rattle.gp_base.specs.ListLaws.{slice_get_front, slice_get_back}
use Rattle.gp_derivation.specs.Numbering.{size_of}
use Rattle.gp_difference.specs.Graph.{GraphForm}
use Rattle.gp_sat.specs.declared.assigned.Assigned.{Assigned}
use Rattle.gp_sat.specs.Stored.{Stored}
use Rattle.gp_sat.specs.State.{SolverForm, assigned, clause_at, no_clause, IsAttached, without_clause}
use Rattle.gp_sat.specs.Sound.{IsSound}
use Rattle.gp_sat.specs.Looking.{IsTrueLit}
use Rattle.gp_sat.specs.SolverLaws.{attached_within, free_at}
use Rattle.gp_search.specs.declared.engine.Engine.{Engine}
use Rattle.gp_search.specs.declared.engine.Level.{Level}
use Rattle.gp_search.specs.Bounds.{bounds_along}
use Rattle.gp_search.specs.Inside.{all_kinds, IsPlain, IsMarked, IsStored, IsKeeping, IsPassing, IsGraphOf, IsWhole, IsTaking, IsTurning, IsIdle, IsBlank, IsTesterOf}
use Rattle.gp_search.specs.Moves.{retired, IsRetired, IsRoomy, of_clauses}
use Rattle.gp_search.proofs.LearnedSteps.{clauses_counted, clause_got}
use Rattle.gp_search.proofs.Purity.{pure_within}
use Rattle.gp_search.proofs.Taught.{taught_none}

-- a solver with room has it where it takes other variables into use
pub used_roomy : (s t next : SolverForm) (variables used : ℕ) → IsRoomy s t variables → next ≡ record t { used = used } → IsRoomy s next variables
used_roomy s t next variables used room is = record {
  values = λ v. ap (λ (x : SolverForm). assigned x v) is ∙ room.values v;
  trail = ap (λ (x : SolverForm). x.trail) is ∙ room.trail;
  clauses = ap (λ (x : SolverForm). x.clauses) is ∙ room.clauses;
  level = ap (λ (x : SolverForm). x.level) is ∙ room.level;
  more = omega (arith, ap (λ (x : SolverForm). length x.values) is, room.more);
  room = omega (arith, ap (λ (x : SolverForm). length x.values) is, room.room);
}

-- what is attached between turns names variables of the problem, and so of the query too
stored_wider : (problem : Problem) (query : Query) (begins : ℕ) (log : List LogEntry) (clauses : List Stored) → IsStored problem begins (length problem.kinds) log clauses
    → IsStored problem begins (length (all_kinds problem query)) log clauses
stored_wider problem query begins log clauses old = record {
  lits = old.lits;
  base = old.base;
  named = λ number is. All-weaker (λ (lit : Lit). lit.variable < length problem.kinds) (λ (lit : Lit). lit.variable < length (all_kinds problem query))
      (λ lit below. omega (arith, below, length-append problem.kinds query.locals)) (clause_at clauses number) (old.named number is);
  usable = old.usable;
}

-- an engine at the beginning of a turn
pub record IsBegunFrom (problem : Problem) (old new : Engine) : Type 0 where
  pub log : new.log.items ≡ old.log.items
  pub pure : new.pure.items ≡ old.pure.items
  pub begins : new.begins ≡ length old.log.items
  pub learned : new.learned ≡ length old.log.items
  pub clauses : new.solver.clauses ≡ old.solver.clauses
  pub values : length old.solver.values ≤ length new.solver.values
  pub graph : IsGraphOf problem new.graph
  pub tester : IsTesterOf problem new.tester

pub begun_whole : (problem : Problem) (query : Query) (old new : Engine) → LogGrows → IsIdle problem old → IsValidQuery problem query
    → length problem.clauses + 64 * (length old.log.items + 1) < 2 ^ 32 → IsBegunFrom problem old new → IsWhole problem query new
begun_whole problem query old new grows idle asked few begun =
    let log : List LogEntry = old.log.items in
    let bases : ℕ = length problem.clauses in
    let names : ℕ = length (all_kinds problem query) in
    let passing : IsPassing problem query.locals log (length log) (length log) = record {
      began = omega arith;
      within = omega arith;
      small = idle.log.small;
      learned = λ place entry got late. idle.log.learned place entry got late;
      passes = grows.next_turn problem [] query.locals log (length log) idle.log.passes;
    } in
    let stored : IsStored problem (length log) names log old.solver.clauses = stored_wider problem query (length log) log old.solver.clauses idle.stored in
    record {
      valid = idle.valid;
      asked = asked;
      few = omega (arith, few, begun.learned, ap (λ (es : List LogEntry). length es) begun.log);
      log = subst (λ (n : ℕ). IsPassing problem query.locals new.log.items new.begins n) (sym begun.learned)
          (subst (λ (n : ℕ). IsPassing problem query.locals new.log.items n (length log)) (sym begun.begins)
          (subst (λ (es : List LogEntry). IsPassing problem query.locals es (length log) (length log)) (sym begun.log) passing));
      stored = subst (λ (n : ℕ). IsStored problem n names new.log.items new.solver.clauses) (sym begun.begins)
          (subst (λ (es : List LogEntry). IsStored problem (length log) names es new.solver.clauses) (sym begun.log)
          (subst (λ (cs : List Stored). IsStored problem (length log) names log cs) (sym begun.clauses) stored));
      keeping = subst (λ (n : ℕ). IsKeeping bases n (length new.log.items) new.pure.items new.solver.clauses) (sym begun.begins)
          (subst (λ (es : List LogEntry). IsKeeping bases (length log) (length es) new.pure.items new.solver.clauses) (sym begun.log)
          (subst (λ (bs : List Bool). IsKeeping bases (length log) (length log) bs new.solver.clauses) (sym begun.pure)
          (subst (λ (cs : List Stored). IsKeeping bases (length log) (length log) old.pure.items cs) (sym begun.clauses) idle.keeping)));
      marked = subst (λ (es : List LogEntry). IsMarked problem es new.pure.items) (sym begun.log) (subst (λ (bs : List Bool). IsMarked problem log bs) (sym begun.pure) idle.marked);
      graph = begun.graph;
      tester = begun.tester;
      variables = omega (arith, begun.values, idle.variables);
    }

-- a blank solver assigns nothing
pub blank_free : (s : SolverForm) → IsBlank s → (v : ℕ) → assigned s v ≡ None
blank_free s blank v = ap (λ (vs : List (Option Assigned)). get_or vs v None) blank.values ∙ free_at (length s.values) v

begun_turning : (problem : Problem) (query : Query) (engine : Engine) → IsWhole problem query engine → IsSound engine.solver → ((v : ℕ) → assigned engine.solver v ≡ None) → engine.solver.trail ≡ [] → engine.solver.level ≡ 0
    → engine.graph.kept ≡ [] → length engine.solver.values ≤ engine.graph.room → length (all_kinds problem query) ≤ length engine.solver.values → engine.solver.used ≡ length (all_kinds problem query)
    → engine.asserted ≡ 0 → engine.assumed ≡ 0 → engine.next ≡ 0 → engine.levels.items ≡ [] → engine.tester.kinds ≡ all_kinds problem query → engine.learned ≡ length engine.log.items → IsTurning problem query engine
begun_turning problem query engine whole sound free trail level kept room enough used none_asserted none_assumed none_seen none_begun kinds learned = record {
  whole = whole;
  variables = enough;
  used = used;
  sound = sound;
  reasoned = record {
    attached = λ v a number is _. absurd (clash v a is);
    below = λ v a is. absurd (clash v a is);
  };
  asserted = record {
    within = omega (arith, none_asserted);
    kept = kept ∙ ap (λ (n : ℕ). bounds_along (all_kinds problem query) (take n engine.solver.trail)) (sym none_asserted);
    present = λ place d _ within. absurd (let none : length engine.solver.trail ≡ 0 = ap (λ (ls : List Lit). length ls) trail in omega (arith, within, none));
    room = omega (arith, room);
  };
  assuming = record {
    within = omega (arith, none_assumed);
    decided = λ v a is _ _. absurd (clash v a is);
    all_true = λ above. absurd (omega (arith, above, level));
  };
  levels = record {
    counted = ap (λ (ls : List Level). length ls) none_begun ∙ sym level;
    begun = λ below low. absurd (omega (arith, low, level));
    passed = subst (λ (n : ℕ). All (IsTrueLit (assigned engine.solver)) (take n query.assumed)) (sym none_seen) (All-nil (IsTrueLit (assigned engine.solver)));
  };
  kinds = kinds;
  taught = taught_none problem query engine.log.items engine.begins engine.learned (omega (arith, learned));
}
  where
    clash : (v : ℕ) (a : Assigned) → assigned engine.solver v ≡ Some a → ⊥
    clash v a is = let none : assigned engine.solver v ≡ None = free v in let wrong : ⊥ = cc in wrong

pub begun_taking : (problem : Problem) (query : Query) (engine : Engine) → IsWhole problem query engine → IsSound engine.solver → ((v : ℕ) → assigned engine.solver v ≡ None) → engine.solver.trail ≡ [] → engine.solver.level ≡ 0
    → engine.graph.kept ≡ [] → length engine.solver.values ≤ engine.graph.room → length (all_kinds problem query) ≤ length engine.solver.values → engine.solver.used ≡ length (all_kinds problem query)
    → engine.asserted ≡ 0 → engine.assumed ≡ 0 → engine.next ≡ 0 → engine.levels.items ≡ [] → engine.tester.kinds ≡ all_kinds problem query → engine.learned ≡ length engine.log.items → IsTaking problem query engine
begun_taking problem query engine whole sound free trail level kept room enough used none_asserted none_assumed none_seen none_begun kinds learned = record {
  turning = begun_turning problem query engine whole sound free trail level kept room enough used none_asserted none_assumed none_seen none_begun kinds learned;
  bottom = level;
  learned = learned;
}

-- detaching changes no literals
detached_lits : (clauses : List Stored) (number : ℕ) → map (λ (stored : Stored). stored.clause) (slice_set clauses number (record { clause = clause_at clauses number; attached = false })) ≡ map (λ (stored : Stored). stored.clause) clauses
detached_lits [] number = refl
detached_lits (stored ∷ clauses) zero = refl
detached_lits (stored ∷ clauses) (suc number) = ap (λ (xs : List (List Lit)). stored.clause ∷ xs) (detached_lits clauses number)

detached_other : (clauses : List Stored) (number other : ℕ) → other ≢ number → get_or (slice_set clauses number (record { clause = clause_at clauses number; attached = false })) other no_clause ≡ get_or clauses other no_clause
detached_other clauses number other apart = get_or-set_other clauses number other (record { clause = clause_at clauses number; attached = false }) no_clause apart

detached_not : (clauses : List Stored) (number : ℕ) → IsAttached (slice_set clauses number (record { clause = clause_at clauses number; attached = false })) number → ⊥
detached_not clauses number is =
    let within : number < length clauses = omega (arith, attached_within (slice_set clauses number (record { clause = clause_at clauses number; attached = false })) number is, length-set clauses number (record { clause = clause_at clauses number; attached = false })) in
    let same : get_or (slice_set clauses number (record { clause = clause_at clauses number; attached = false })) number no_clause ≡ record { clause = clause_at clauses number; attached = false } =
    get_or-set_same clauses number (record { clause = clause_at clauses number; attached = false }) no_clause within in
    false≢true (sym (ap (λ (s : Stored). s.attached) same) ∙ is)

-- one more entry is retired, unless it has a mark
pub retired_more : (bases begins place : ℕ) (marks : List Bool) (old now next : SolverForm) → begins ≤ place → next ≡ retired marks bases place now → IsRetired bases begins place marks old now → IsRetired bases begins (place + 1) marks old next
retired_more bases begins place marks old now next from is done = subst (λ (s : SolverForm). IsRetired bases begins (place + 1) marks old s) (sym is) (at (get_or marks place false) refl)
  where
    with_mark : get_or marks place false ≡ true → IsRetired bases begins (place + 1) marks old now
    with_mark mark = record {
      blank = done.blank;
      variables = done.variables;
      lits = done.lits;
      base = done.base;
      fewer = done.fewer;
      marked = λ p low high attached. elim (cases_lt p place) [
        | inl before ↦ done.marked p low before attached
        | inr after ↦ let same : p ≡ place = omega (arith, high, after) in ap (λ (n : ℕ). get_or marks n false) same ∙ mark
      ];
      kept = done.kept;
    }

    other : (p number : ℕ) → p ≢ number → IsAttached (without_clause now number).clauses p → IsAttached now.clauses p
    other p number apart attached = sym (ap (λ (s : Stored). s.attached) (detached_other now.clauses number p apart)) ∙ attached

    without_mark : get_or marks place false ≡ false → IsRetired bases begins (place + 1) marks old (without_clause now (bases + place))
    without_mark none = record {
      blank = record { values = done.blank.values; trail = done.blank.trail; level = done.blank.level };
      variables = done.variables;
      lits = detached_lits now.clauses (bases + place) ∙ done.lits;
      base = λ number below attached. ap (λ (s : Stored). s.attached) (detached_other now.clauses (bases + place) number (λ same. omega (arith, below, same))) ∙ done.base number below attached;
      fewer = λ number attached. elim (cases_eq number (bases + place)) [
        | inl same ↦ absurd (detached_not now.clauses (bases + place) (subst (λ (n : ℕ). IsAttached (without_clause now (bases + place)).clauses n) same attached))
        | inr apart ↦ done.fewer number (other number (bases + place) apart attached)
      ];
      marked = λ p low high attached. elim (cases_eq p place) [
        | inl same ↦ absurd (detached_not now.clauses (bases + place) (subst (λ (n : ℕ). IsAttached (without_clause now (bases + place)).clauses (bases + n)) same attached))
        | inr apart ↦ done.marked p low (omega (arith, high, apart)) (other (bases + p) (bases + place) (λ same. apart (omega (arith, same))) attached)
      ];
      kept = λ p mark attached.
          let apart : bases + p ≢ bases + place = λ same.
          let equal : p ≡ place = omega (arith, same) in
          false≢true (sym none ∙ (ap (λ (n : ℕ). get_or marks n false) (sym equal) ∙ mark)) in
          ap (λ (s : Stored). s.attached) (detached_other now.clauses (bases + place) (bases + p) apart) ∙ done.kept p mark attached;
    }

    at : (mark : Bool) → get_or marks place false ≡ mark → IsRetired bases begins (place + 1) marks old (cond mark now (without_clause now (bases + place)))
    at true mark = with_mark mark
    at false mark = without_mark mark

-- the clause of an entry has the number of its place after those of the problem
pub entry_clause : (problem : Problem) (log : List LogEntry) (clauses : List Stored) (other : ℕ) (d : LogEntry) → map (λ (stored : Stored). stored.clause) clauses ≡ logged problem log → other < length log
    → clause_at clauses (length problem.clauses + other) ≡ (get_or log other d).step.clause
entry_clause problem log clauses other d same within =
    let number : ℕ = length problem.clauses + other in
    let all : number < length clauses = omega (arith, within, clauses_counted problem log clauses same) in
    let got : slice_get (logged problem log) number ≡ Some (clause_at clauses number) = clause_got problem log clauses number same all in
    let back : slice_get (logged problem log) number ≡ slice_get (map (λ (entry : LogEntry). entry.step.clause) log) other = slice_get_back problem.clauses (map (λ (entry : LogEntry). entry.step.clause) log) other in
    let entry : slice_get (map (λ (e : LogEntry). e.step.clause) log) other ≡ Some (get_or log other d).step.clause =
    slice_get-map (λ (e : LogEntry). e.step.clause) log other ∙ ap (option_map (λ (e : LogEntry). e.step.clause)) (slice_get-get_or log other d within) in
    let both : Some (clause_at clauses number) ≡ Some (get_or log other d).step.clause = sym got ∙ (back ∙ entry) in
    same_Some (clause_at clauses number) (get_or log other d).step.clause both

-- the clause of a base number is the problem's
base_clause : (problem : Problem) (log : List LogEntry) (clauses : List Stored) (number : ℕ) (d : List Lit) → map (λ (stored : Stored). stored.clause) clauses ≡ logged problem log → number < length problem.clauses
    → clause_at clauses number ≡ get_or problem.clauses number d
base_clause problem log clauses number d same within =
    let all : number < length clauses = omega (arith, within, clauses_counted problem log clauses same) in
    let got : slice_get (logged problem log) number ≡ Some (clause_at clauses number) = clause_got problem log clauses number same all in
    let front : slice_get (logged problem log) number ≡ slice_get problem.clauses number = slice_get_front problem.clauses (map (λ (entry : LogEntry). entry.step.clause) log) number within in
    let one : slice_get problem.clauses number ≡ Some (get_or problem.clauses number d) = slice_get-get_or problem.clauses number d within in
    let both : Some (clause_at clauses number) ≡ Some (get_or problem.clauses number d) = sym got ∙ (front ∙ one) in
    same_Some (clause_at clauses number) (get_or problem.clauses number d) both

-- a clause of a base number or of a plain entry names variables of the problem
base_named : (problem : Problem) (log : List LogEntry) (clauses : List Stored) (number : ℕ) → map (λ (stored : Stored). stored.clause) clauses ≡ logged problem log → number < length problem.clauses
    → All (NamesBelow (length problem.kinds)) problem.clauses → NamesBelow (length problem.kinds) (clause_at clauses number)
base_named problem log clauses number same within all =
    let P : List Lit → Type 0 = λ c. NamesBelow (length problem.kinds) c in
    subst P (sym (base_clause problem log clauses number [] same within)) (all number [] within)

plain_named : (problem : Problem) (log : List LogEntry) (clauses : List Stored) (other : ℕ) (entry : LogEntry) → map (λ (stored : Stored). stored.clause) clauses ≡ logged problem log → slice_get log other ≡ Some entry
    → IsPlain problem log other → NamesBelow (length problem.kinds) (clause_at clauses (length problem.clauses + other))
plain_named problem log clauses other entry same got plain =
    let P : List Lit → Type 0 = λ c. NamesBelow (length problem.kinds) c in
    let within : other < length log = slice_get_within log other entry got in
    let clause : clause_at clauses (length problem.clauses + other) ≡ entry.step.clause =
    entry_clause problem log clauses other entry same within ∙ ap (λ (e : LogEntry). e.step.clause) (get_or_from_slice_get log other entry entry got) in
    subst P (sym clause) (plain.below entry got)

-- each place of a log has an entry
pub some_entry : (log : List LogEntry) (other : ℕ) → other < length log → (entry : LogEntry) × (slice_get log other ≡ Some entry)
some_entry [] other within = absurd (omega arith)
some_entry (entry ∷ log) zero within = (entry, refl)
some_entry (entry ∷ log) (suc other) within = some_entry log other (omega arith)

-- the engine between turns
pub finished : (problem : Problem) (query : Query) (engine : Engine) (solver : SolverForm) (graph : GraphForm) → LogGrows → IsWhole problem query engine
    → IsRetired (length problem.clauses) engine.begins (length engine.log.items) engine.pure.items engine.solver solver → graph ≡ record engine.graph { kept = []; room = graph.room }
    → IsIdle problem (record engine { solver = solver; graph = graph })
finished problem query engine solver graph grows whole done undone =
    let log : List LogEntry = engine.log.items in
    let lits : map (λ (stored : Stored). stored.clause) solver.clauses ≡ logged problem log = done.lits ∙ whole.stored.lits in
    record {
      valid = whole.valid;
      log = record {
        began = omega arith;
        within = omega arith;
        small = whole.log.small;
        learned = λ place entry got late. absurd (omega (arith, slice_get_within log place entry got, late));
        passes = grows.next_turn problem query.locals [] log engine.begins whole.log.passes;
      };
      stored = record {
        lits = lits;
        base = λ number within. done.base number within (whole.stored.base number within);
        named = λ number is. elim (cases_lt number (length problem.clauses)) [
          | inl base ↦ base_named problem log solver.clauses number lits base whole.valid.clauses
          | inr entry ↦
              let other : ℕ = number - length problem.clauses in
              let same : number ≡ length problem.clauses + other = omega (arith, entry) in
              let P : ℕ → Type 0 = λ n. NamesBelow (length problem.kinds) (clause_at solver.clauses n) in
              subst P (sym same) (named other (subst (λ (n : ℕ). IsAttached solver.clauses n) same is))
        ];
        usable = λ other is. inl (plain other is);
      };
      keeping = record {
        current = λ place low high. absurd (omega (arith, low, high));
        marked = λ place mark. done.kept place mark (whole.keeping.marked place mark);
      };
      marked = whole.marked;
      pure = λ place is. let mark = whole.marked.pure place is in done.kept place mark (whole.keeping.marked place mark);
      graph = record { points = ap (λ (g : GraphForm). g.points) undone ∙ whole.graph.points; edges = ap (λ (g : GraphForm). g.edges) undone ∙ whole.graph.edges };
      tester = whole.tester;
      variables = omega (arith, done.variables, whole.variables);
      blank = done.blank;
      kept = ap (λ (g : GraphForm). g.kept) undone;
      few = omega (arith, whole.few, whole.log.within);
    }
  where
    within : (other : ℕ) → IsAttached solver.clauses (length problem.clauses + other) → other < length engine.log.items
    within other is = omega (arith, attached_within solver.clauses (length problem.clauses + other) is, clauses_counted problem engine.log.items solver.clauses (done.lits ∙ whole.stored.lits))

    plain : (other : ℕ) → IsAttached solver.clauses (length problem.clauses + other) → IsPlain problem engine.log.items other
    plain other is = elim (whole.stored.usable other (done.fewer (length problem.clauses + other) is)) [
      | inl one ↦ one
      | inr later ↦ whole.marked.plain other (done.marked other later (within other is) is)
    ]

    named : (other : ℕ) → IsAttached solver.clauses (length problem.clauses + other) → NamesBelow (length problem.kinds) (clause_at solver.clauses (length problem.clauses + other))
    named other is =
        let entry = some_entry engine.log.items other (within other is) in
        plain_named problem engine.log.items solver.clauses other entry.0 (done.lits ∙ whole.stored.lits) entry.1 (plain other is)

-- what holds of more places holds of fewer
pub retired_enough : (bases begins upto less : ℕ) (marks : List Bool) (old new : SolverForm) → less ≤ upto → IsRetired bases begins upto marks old new → IsRetired bases begins less marks old new
retired_enough bases begins upto less marks old new few done = record {
  blank = done.blank;
  variables = done.variables;
  lits = done.lits;
  base = done.base;
  fewer = done.fewer;
  marked = λ place low high is. done.marked place low (omega (arith, high, few)) is;
  kept = done.kept;
}

-- the engine but for its solver and its graph stays
pub same_more : (old now next : Engine) (solver : SolverForm) → now ≡ record old { solver = now.solver; graph = now.graph } → next ≡ record now { solver = solver } → next ≡ record old { solver = next.solver; graph = next.graph }
same_more old now next solver first second = λ i. record {
  solver = next.solver;
  graph = next.graph;
  log = (ap (λ (e : Engine). e.log) second ∙ ap (λ (e : Engine). e.log) first) i;
  pure = (ap (λ (e : Engine). e.pure) second ∙ ap (λ (e : Engine). e.pure) first) i;
  begins = (ap (λ (e : Engine). e.begins) second ∙ ap (λ (e : Engine). e.begins) first) i;
  learned = (ap (λ (e : Engine). e.learned) second ∙ ap (λ (e : Engine). e.learned) first) i;
  asserted = (ap (λ (e : Engine). e.asserted) second ∙ ap (λ (e : Engine). e.asserted) first) i;
  assumed = (ap (λ (e : Engine). e.assumed) second ∙ ap (λ (e : Engine). e.assumed) first) i;
  next = (ap (λ (e : Engine). e.next) second ∙ ap (λ (e : Engine). e.next) first) i;
  levels = (ap (λ (e : Engine). e.levels) second ∙ ap (λ (e : Engine). e.levels) first) i;
  tester = (ap (λ (e : Engine). e.tester) second ∙ ap (λ (e : Engine). e.tester) first) i;
}

pub undone_more : (old : GraphForm) (now next : Engine) (solver : SolverForm) → now.graph ≡ record old { kept = []; room = now.graph.room } → next ≡ record now { solver = solver } → next.graph ≡ record old { kept = []; room = next.graph.room }
undone_more old now next solver first second =
    let same : next.graph ≡ now.graph = ap (λ (e : Engine). e.graph) second in
    same ∙ (first ∙ (λ i. record old { kept = []; room = (sym (ap (λ (g : GraphForm). g.room) same)) i }))

-- the retired solver by equal marks and numbers
pub retired_same : (marks others : List Bool) (bases count place : ℕ) (now next : SolverForm) → next ≡ retired marks bases place now → marks ≡ others → bases ≡ count → next ≡ retired others count place now
retired_same marks others bases count place now next is same counted = is ∙ (λ i. retired (same i) (counted i) place now)

-- the clauses of a new solver
abbrev fresh : List Lit → Stored
fresh clause = record { clause = clause; attached = true }

all_lits : (clauses : List (List Lit)) → map (λ (stored : Stored). stored.clause) (map fresh clauses) ≡ clauses ++ []
all_lits [] = refl
all_lits (clause ∷ clauses) = ap (λ (cs : List (List Lit)). clause ∷ cs) (all_lits clauses)

attached_all : (clauses : List (List Lit)) (number : ℕ) → number < length clauses → IsAttached (map fresh clauses) number
attached_all clauses number within = ap (λ (s : Stored). s.attached) (get_or-map fresh clauses number [] no_clause within)

names_all : (clauses : List (List Lit)) (number names : ℕ) → All (NamesBelow names) clauses → IsAttached (map fresh clauses) number → NamesBelow names (clause_at (map fresh clauses) number)
names_all clauses number names all is =
    let within : number < length clauses = omega (arith, attached_within (map fresh clauses) number is, length-map clauses fresh) in
    let P : List Lit → Type 0 = λ c. NamesBelow names c in
    subst P (sym (ap (λ (s : Stored). s.clause) (get_or-map fresh clauses number [] no_clause within))) (all number [] within)

-- a new engine is idle
pub new_idle : (problem : Problem) (engine : Engine) → IsValidProblem problem → engine.log.items ≡ [] → engine.pure.items ≡ [] → engine.solver ≡ of_clauses (length problem.kinds) problem.clauses → IsGraphOf problem engine.graph → engine.graph.kept ≡ []
    → IsTesterOf problem engine.tester → engine.learned ≡ 0 → IsIdle problem engine
new_idle problem engine valid log pure solver graph kept tester learned = record {
  valid = valid;
  log = subst (λ (es : List LogEntry). IsPassing problem [] es (length es) (length es)) (sym log) empty_passing;
  stored = subst (λ (es : List LogEntry). IsStored problem (length es) (length problem.kinds) es engine.solver.clauses) (sym log)
      (subst (λ (s : SolverForm). IsStored problem 0 (length problem.kinds) [] s.clauses) (sym solver) base_stored);
  keeping = record {
    current = λ place low high. absurd (omega (arith, low, high));
    marked = λ place mark. absurd (false≢true (sym (ap (λ (bs : List Bool). get_or bs place false) pure) ∙ mark));
  };
  marked = subst (λ (es : List LogEntry). IsMarked problem es engine.pure.items) (sym log) (subst (λ (bs : List Bool). IsMarked problem [] bs) (sym pure) (record { size = refl; plain = λ place is. absurd (false≢true is); pure = λ place is. absurd (none_pure place is) }));
  pure = λ place is. absurd (none_pure place (subst (λ (es : List LogEntry). IsPure problem es place) log is));
  graph = graph;
  tester = tester;
  variables = omega (arith, ap (λ (s : SolverForm). length s.values) solver, length-replicate {A = Option Assigned} (length problem.kinds) None);
  blank = subst IsBlank (sym solver) (record { values = ap (λ (n : ℕ). replicate n None) (sym (length-replicate {A = Option Assigned} (length problem.kinds) None)); trail = refl; level = refl });
  kept = kept;
  few = omega (arith, learned);
}
  where
    none_pure : (place : ℕ) → IsPure problem [] place → ⊥
    none_pure place is = let within = pure_within problem [] place is in absurd (omega (arith, within))

    empty_passing : IsPassing problem [] [] 0 0
    empty_passing = record {
      began = omega arith;
      within = omega arith;
      small = All-nil (λ (entry : LogEntry). size_of entry ≤ 64);
      learned = λ place entry got _. absurd (none-some entry got);
      passes = record { earlier = λ place entry got _. absurd (none-some entry got); current = λ place entry got _. absurd (none-some entry got) };
    }

    base_stored : IsStored problem 0 (length problem.kinds) [] (map fresh problem.clauses)
    base_stored = record {
      lits = all_lits problem.clauses;
      base = λ number within. attached_all problem.clauses number within;
      named = λ number is. names_all problem.clauses number (length problem.kinds) valid.clauses is;
      usable = λ other is. inr (omega arith);
    }

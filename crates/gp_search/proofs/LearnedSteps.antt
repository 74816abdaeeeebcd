-- What is learned passes.
use Rattle.std.proofs.Common.{◌≡◌, refl, sym, ◌∙◌, ap, subst, ℕ, ◌+◌, ◌<◌, Option, Some, None, List, [], ◌∷◌, ◌++◌, length, map, All, Contains, inl, inr, arith}
use Rattle.std.specs.List.{slice_get}
use Rattle.std.proofs.lemmas.List.{length-map, length-append, get_or-map}
use Rattle.std.proofs.lemmas.List.Elements.{All-contains_itself, Contains-append_left, Contains-append_right, Contains-append_cases}
use Rattle.std.proofs.lemmas.Option.{slice_get-get_or}
use Rattle.gp_clause.specs.declared.lit.Lit.{Lit}
use Rattle.gp_clause.specs.declared.problem.Problem.{Problem}
use Rattle.gp_clause.specs.declared.problem.Query.{Query}
use Rattle.gp_clause.specs.Clause.{NamesBelow}
use Rattle.gp_clause.specs.Closure.{Derived}
use Rattle.gp_clause.specs.Closure.Derived.{given, forced}
use Rattle.gp_clause.specs.Lit.{opposite, negations}
use Rattle.gp_derivation.specs.declared.log.LogEntry.{LogEntry}
use Rattle.gp_derivation.specs.Log.{logged, LearnedPasses, IsUsable}
use Rattle.gp_certificate.specs.Step.{named, LeadsToConflict}
use Rattle.gp_base.specs.ListLaws.{all_from_contains, contains_from_map, contains_map, first_or_rest, here}
use Rattle.gp_certificate.specs.NamedLaws.{named_contains}
use Rattle.gp_clause.specs.ClosureLaws.{derived_more}
use Rattle.gp_sat.specs.Stored.{Stored}
use Rattle.gp_sat.specs.State.{SolverForm, assigned, clause_at, no_clause, IsAttached}
use Rattle.gp_sat.specs.Standing.{IsFalse, IsForcing, Each}
use Rattle.gp_sat.specs.Sound.{IsSound, true_lit}
use Rattle.gp_sat.specs.Learning.{IsLearned, IsReason, hinted}
use Rattle.gp_sat.specs.Looking.{IsTrueLit}
use Rattle.gp_sat.specs.SolverLaws.{attached_within}
use Rattle.gp_search.specs.declared.engine.Engine.{Engine}
use Rattle.gp_search.specs.Inside.{all_kinds, IsTurning, IsConflict, IsNumber, numbered, IsReasoned}
use Rattle.gp_search.specs.Moves.{with_number}
use Rattle.gp_search.proofs.Heads.{IsHeaded, IsReached, reached, through, true_opposite}
use Rattle.gp_clause.specs.LitLaws.{lits_cases, opposite_twice}

-- the reason of an assignment has one true literal
pub reason_headed : (s : SolverForm) (number : ℕ) → IsSound s → IsReason s number → IsHeaded (assigned s) (clause_at s.clauses number)
reason_headed s number sound (variable, a, is, reason) =
    let forcing : IsForcing (assigned s) (clause_at s.clauses number) (true_lit variable a) a.place = (sound.explained.forced variable a number is reason).1 in
    record {
      head = true_lit variable a;
      within = forcing.within;
      holds = (a, is, refl);
      others = λ other among apart. let fell = forcing.others other among apart in (fell.0, fell.1, fell.2);
    }

-- the conflict of an analysis is reached from the negation of what is learned
pub learned_reached : (s : SolverForm) (conflict clause : List Lit) (hints : List ℕ) → IsSound s → Each (IsFalse (assigned s)) conflict → IsLearned s conflict clause hints
    → IsReached (negations clause) (hinted s hints) conflict
learned_reached s conflict clause hints sound all_false learned =
    reached (assigned s) (negations clause) (hinted s hints) conflict starts heads all_false learned.passes
  where
    starts : Each (IsTrueLit (assigned s)) (negations clause)
    starts lit is = let one = contains_from_map opposite clause lit is in
        subst (λ (l : Lit). IsTrueLit (assigned s) l) one.2 (true_opposite (assigned s) one.0 (learned.all_false one.0 one.1))

    heads : (c : List Lit) → Contains (hinted s hints) c → IsHeaded (assigned s) c
    heads c is = let one = contains_from_map (clause_at s.clauses) hints c is in
        subst (λ (x : List Lit). IsHeaded (assigned s) x) one.2 (reason_headed s one.0 sound (learned.reasons one.0 one.1))

-- the clause of a number in the list of all
pub clause_got : (problem : Problem) (log : List LogEntry) (clauses : List Stored) (number : ℕ) → map (λ (stored : Stored). stored.clause) clauses ≡ logged problem log → number < length clauses
    → slice_get (logged problem log) number ≡ Some (clause_at clauses number)
clause_got problem log clauses number same within =
    let lits : List (List Lit) = map (λ (stored : Stored). stored.clause) clauses in
    let inside : number < length lits = omega (arith, within, length-map clauses (λ (stored : Stored). stored.clause)) in
    subst (λ (xs : List (List Lit)). slice_get xs number ≡ Some (clause_at clauses number)) same
    (slice_get-get_or lits number [] inside ∙ ap (λ (c : List Lit). Some c) (get_or-map (λ (stored : Stored). stored.clause) clauses number no_clause [] within))

pub clauses_counted : (problem : Problem) (log : List LogEntry) (clauses : List Stored) → map (λ (stored : Stored). stored.clause) clauses ≡ logged problem log
    → length clauses ≡ length problem.clauses + length log
clauses_counted problem log clauses same =
    let mapped : length (map (λ (stored : Stored). stored.clause) clauses) ≡ length clauses = length-map clauses (λ (stored : Stored). stored.clause) in
    let both : length (map (λ (stored : Stored). stored.clause) clauses) ≡ length (logged problem log) = ap (λ (xs : List (List Lit)). length xs) same in
    let parts : length (logged problem log) ≡ length problem.clauses + length (map (λ (entry : LogEntry). entry.step.clause) log) = length-append problem.clauses (map (λ (entry : LogEntry). entry.step.clause) log) in
    let entries : length (map (λ (entry : LogEntry). entry.step.clause) log) ≡ length log = length-map log (λ (entry : LogEntry). entry.step.clause) in
    omega (arith, mapped, both, parts, entries)

-- hints with a number beside them
pub with_number_hints : (hints : List ℕ) (number : Option ℕ) (hint : ℕ) → Contains hints hint → Contains (with_number hints number) hint
with_number_hints hints None hint is = is
with_number_hints hints (Some number) hint is = Contains-append_left hints (number ∷ []) hint is

-- all hints are attached
pub hints_attached : (s : SolverForm) (names : ℕ) (hints : List ℕ) (number : Option ℕ) → IsReasoned names s → ((hint : ℕ) → Contains hints hint → IsReason s hint) → IsNumber s number
    → (hint : ℕ) → Contains (with_number hints number) hint → IsAttached s.clauses hint
hints_attached s names hints None reasoned reasons attached hint is =
    let why = reasons hint is in reasoned.attached why.0 why.1 hint why.2 why.3
hints_attached s names hints (Some number) reasoned reasons attached hint is = elim (Contains-append_cases hints (number ∷ []) hint is) [
  | inl front ↦ let why = reasons hint front in reasoned.attached why.0 why.1 hint why.2 why.3
  | inr back ↦ elim (first_or_rest number [] hint back) [
    | inl same ↦ subst (λ (n : ℕ). IsAttached s.clauses n) same attached
    | inr none ↦ absurd (let short : none.0 < 0 = none.1 in omega (arith, short))
  ]
]

-- the clause of the number is among those that the hints name
numbered_among : (problem : Problem) (log : List LogEntry) (s : SolverForm) (hints : List ℕ) (number : Option ℕ) → map (λ (stored : Stored). stored.clause) s.clauses ≡ logged problem log → IsNumber s number
    → All (Contains (named (logged problem log) (with_number hints number))) (numbered s number)
numbered_among problem log s hints None same attached = λ k d within. absurd (omega (arith, within))
numbered_among problem log s hints (Some number) same attached = all_from_contains (Contains (named (logged problem log) (hints ++ number ∷ []))) (clause_at s.clauses number ∷ []) (λ clause is.
    elim (first_or_rest (clause_at s.clauses number) [] clause is) [
      | inl one ↦ subst (λ (c : List Lit). Contains (named (logged problem log) (hints ++ number ∷ [])) c) one
          (named_contains (logged problem log) (hints ++ number ∷ []) number (clause_at s.clauses number) (Contains-append_right hints (number ∷ []) number (here number []))
          (clause_got problem log s.clauses number same (attached_within s.clauses number attached)))
      | inr none ↦ absurd (let short : none.0 < 0 = none.1 in omega (arith, short))
    ])

-- the clauses of the hints are among those that they name in the log
hinted_among : (problem : Problem) (log : List LogEntry) (s : SolverForm) (names : ℕ) (hints : List ℕ) (number : Option ℕ) → map (λ (stored : Stored). stored.clause) s.clauses ≡ logged problem log → IsReasoned names s
    → ((hint : ℕ) → Contains hints hint → IsReason s hint) → All (Contains (named (logged problem log) (with_number hints number))) (hinted s hints)
hinted_among problem log s names hints number same reasoned reasons = all_from_contains (Contains (named (logged problem log) (with_number hints number))) (hinted s hints) (λ clause is.
    let one = contains_from_map (clause_at s.clauses) hints clause is in
    let why = reasons one.0 one.1 in
    let within : one.0 < length s.clauses = attached_within s.clauses one.0 (reasoned.attached why.0 why.1 one.0 why.2 why.3) in
    subst (λ (c : List Lit). Contains (named (logged problem log) (with_number hints number)) c) one.2
    (named_contains (logged problem log) (with_number hints number) one.0 (clause_at s.clauses one.0) (with_number_hints hints number one.0 one.1)
    (clause_got problem log s.clauses one.0 same within)))

-- a clause whose literals are false names variables that are assigned
pub names_from_false : (s : SolverForm) (names : ℕ) (clause : List Lit) → IsReasoned names s → Each (IsFalse (assigned s)) clause → NamesBelow names clause
names_from_false s names clause reasoned all_false = all_from_contains (λ (lit : Lit). lit.variable < names) clause (λ lit is.
    let fell = all_false lit is in reasoned.below lit.variable fell.0 fell.1)

-- what refutes the negation of a clause that hints lead to makes it a step of the log
pub step_passes : (problem : Problem) (query : Query) (engine : Engine) (hints : List ℕ) (number : Option ℕ) (clause : List Lit) → IsTurning problem query engine
    → ((hint : ℕ) → Contains hints hint → IsReason engine.solver hint) → IsNumber engine.solver number → NamesBelow (length (all_kinds problem query)) clause
    → LeadsToConflict problem.edges (all_kinds problem query) (named (logged problem engine.log.items) (with_number hints number)) (negations clause)
    → LearnedPasses problem query.locals engine.log.items engine.begins (length engine.log.items) (record { clause = clause; hints = with_number hints number })
step_passes problem query engine hints number clause turning reasons attached names refuted = record {
  hints = all_from_contains (λ hint. hint < length problem.clauses + length engine.log.items) (with_number hints number) (λ hint is. below hint (stands hint is));
  usable = λ other is. usable other (stands (length problem.clauses + other) is);
  passes = record { in_range = names; refuted = refuted };
}
  where
    stands : (hint : ℕ) → Contains (with_number hints number) hint → IsAttached engine.solver.clauses hint
    stands = hints_attached engine.solver (length (all_kinds problem query)) hints number turning.reasoned reasons attached

    below : (hint : ℕ) → IsAttached engine.solver.clauses hint → hint < length problem.clauses + length engine.log.items
    below hint is = omega (arith, attached_within engine.solver.clauses hint is, clauses_counted problem engine.log.items engine.solver.clauses turning.whole.stored.lits)

    usable : (other : ℕ) → IsAttached engine.solver.clauses (length problem.clauses + other) → IsUsable problem engine.log.items engine.begins (length engine.log.items) other
    usable other is = elim (turning.whole.stored.usable other is) [
      | inl plain ↦ inl plain.pure
      | inr later ↦ inr (later, omega (arith, attached_within engine.solver.clauses (length problem.clauses + other) is, clauses_counted problem engine.log.items engine.solver.clauses turning.whole.stored.lits))
    ]

-- what an analysis learns is a step of the log, with the number of the conflict beside its hints
pub learned_passes : (problem : Problem) (query : Query) (engine : Engine) (conflict : List Lit) (number : Option ℕ) (clause : List Lit) (hints : List ℕ) → IsTurning problem query engine
    → IsConflict problem query engine.solver conflict number → IsLearned engine.solver conflict clause hints
    → LearnedPasses problem query.locals engine.log.items engine.begins (length engine.log.items) (record { clause = clause; hints = with_number hints number })
learned_passes problem query engine conflict number clause hints turning found learned =
    let s : SolverForm = engine.solver in
    let same = turning.whole.stored.lits in
    let more : List (List Lit) = named (logged problem engine.log.items) (with_number hints number) in
    let among : All (Contains more) (hinted s hints) = hinted_among problem engine.log.items s (length (all_kinds problem query)) hints number same turning.reasoned learned.reasons in
    let reaches : IsReached (negations clause) (hinted s hints) conflict = learned_reached s conflict clause hints turning.sound found.all_false learned in
    step_passes problem query engine hints number clause turning learned.reasons found.attached
    (names_from_false s (length (all_kinds problem query)) clause turning.reasoned learned.all_false)
    (through problem.edges (all_kinds problem query) (negations clause) more (numbered s number) conflict
    (λ lit is. derived_more (negations clause) (hinted s hints) (negations clause) more (All-contains_itself (negations clause)) among (opposite lit) (reaches lit is))
    (numbered_among problem engine.log.items s hints number same found.attached) found.passes.refuted)

-- what forces a literal whose negation is in the start is false
forced_false : (start : List Lit) (clauses : List (List Lit)) (lit : Lit) → Contains start lit → (Contains start (opposite lit) → ⊥) → (other : Lit) → other ≡ opposite lit → Derived start clauses other
    → (clause : List Lit) × Contains clauses clause × ((l : Lit) → Contains clause l → Derived start clauses (opposite l))
forced_false start clauses lit is absent other same (given l among) = absurd (absent (subst (λ (x : Lit). Contains start x) same among))
forced_false start clauses lit is absent other same (forced clause l one within others) = (
  clause,
  one,
  λ each among. elim (lits_cases each l) [
    | inl equal ↦ given (opposite each) (subst (λ (x : Lit). Contains start x) (sym (ap opposite (equal ∙ same) ∙ opposite_twice lit)) is)
    | inr differ ↦ others each among differ
  ],
)

-- the final clause where an assumed literal is false: what the analysis of that literal gives, and its negation
pub final_passes : (problem : Problem) (query : Query) (engine : Engine) (lit : Lit) (clause final : List Lit) (hints : List ℕ) → IsTurning problem query engine
    → IsFalse (assigned engine.solver) lit → IsLearned engine.solver (lit ∷ []) clause hints → ((l : Lit) → Contains clause l → Contains final l) → Contains final (opposite lit)
    → (Contains final lit → ⊥) → NamesBelow (length (all_kinds problem query)) final
    → LearnedPasses problem query.locals engine.log.items engine.begins (length engine.log.items) (record { clause = final; hints = hints })
final_passes problem query engine lit clause final hints turning fell learned longer has absent names =
    let s : SolverForm = engine.solver in
    let same = turning.whole.stored.lits in
    let more : List (List Lit) = named (logged problem engine.log.items) hints in
    let among : All (Contains more) (hinted s hints) = hinted_among problem engine.log.items s (length (all_kinds problem query)) hints None same turning.reasoned learned.reasons in
    let reaches : IsReached (negations clause) (hinted s hints) (lit ∷ []) = learned_reached s (lit ∷ []) clause hints turning.sound alone learned in
    let derived : Derived (negations final) more (opposite lit) = derived_more (negations clause) (hinted s hints) (negations final) more starts among (opposite lit) (reaches lit (here lit [])) in
    let there_is : Contains (negations final) lit = subst (λ (l : Lit). Contains (negations final) l) (opposite_twice lit) (contains_map opposite final (opposite lit) has) in
    step_passes problem query engine hints None final turning learned.reasons tt names
    (inl (forced_false (negations final) more lit there_is apart (opposite lit) refl derived))
  where
    alone : Each (IsFalse (assigned engine.solver)) (lit ∷ [])
    alone other is = elim (first_or_rest lit [] other is) [
      | inl one ↦ subst (λ (l : Lit). IsFalse (assigned engine.solver) l) one fell
      | inr none ↦ absurd (let short : none.0 < 0 = none.1 in omega (arith, short))
    ]

    starts : All (Contains (negations final)) (negations clause)
    starts = all_from_contains (Contains (negations final)) (negations clause) (λ l is.
        let one = contains_from_map opposite clause l is in
        subst (λ (x : Lit). Contains (negations final) x) one.2 (contains_map opposite final one.0 (longer one.0 one.1)))

    apart : Contains (negations final) (opposite lit) → ⊥
    apart is =
        let one = contains_from_map opposite final (opposite lit) is in
        absent (subst (λ (l : Lit). Contains final l) (sym (opposite_twice one.0) ∙ (ap opposite one.2 ∙ opposite_twice lit)) one.1)

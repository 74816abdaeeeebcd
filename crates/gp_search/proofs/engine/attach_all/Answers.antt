use Rattle.std.proofs.Common.{◌≡◌, ◌∙◌, sym, ap, subst, ℕ, ◌+◌, ◌^◌, ◌<◌, true, List, [], ◌∷◌, ◌++◌, length, take, get_or, inl, arith}
use Rattle.std.specs.Prelude.{All}
use Rattle.std.proofs.lemmas.List.{take_more, length-take, length-map, length-replicate, map-append}
use Rattle.gp_clause.specs.declared.lit.Lit.{Lit}
use Rattle.gp_clause.specs.Clause.{NamesBelow}
use Rattle.gp_sat.specs.Stored.{Stored}
use Rattle.gp_sat.specs.State.{SolverForm, with_clause}
use Rattle.gp_search.specs.Moves.{of_clauses}
use Rattle.gp_search.proofs.engine.attach_all.Goals as goal

attached : List Lit → Stored
attached clause = record { clause = clause; attached = true }

-- one clause more
one_more : (variables : ℕ) (clauses : List (List Lit)) (clause : List Lit) → with_clause (of_clauses variables clauses) clause ≡ of_clauses variables (clauses ++ clause ∷ [])
unfolding attached
one_more variables clauses clause = ap (λ (all : List Stored). record (of_clauses variables []) { clauses = all }) (sym (map-append attached clauses (clause ∷ [])))

-- the clause at the next place is attached to those before it
next : (s then : SolverForm) (variables i : ℕ) (clauses : List (List Lit)) (clause : List Lit) → s ≡ of_clauses variables (take i clauses) → i < length clauses
    → clause ≡ get_or clauses i clause → then ≡ with_clause s clause → then ≡ of_clauses variables (take (i + 1) clauses)
next s then variables i clauses clause is within read made =
    made ∙ ap (λ (s : SolverForm). with_clause s clause) is ∙ one_more variables (take i clauses) clause
    ∙ ap (of_clauses variables) (ap (λ (last : List Lit). take i clauses ++ last ∷ []) read ∙ sym (take_more clauses i clause within))

few : (s : SolverForm) (variables i : ℕ) (clauses : List (List Lit)) → s ≡ of_clauses variables (take i clauses) → i < length clauses → length clauses < 2 ^ 30 → length s.clauses + 1 < 2 ^ 32
unfolding attached
few s variables i clauses is within small =
    omega (arith, ap (λ (s : SolverForm). length s.clauses) is, length-map (take i clauses) attached, length-take i clauses)

named : (s : SolverForm) (variables i : ℕ) (clauses : List (List Lit)) (clause : List Lit) → s ≡ of_clauses variables (take i clauses) → i < length clauses
    → clause ≡ get_or clauses i clause → All (NamesBelow variables) clauses → NamesBelow (length s.values) clause
named s variables i clauses clause is within read names =
    subst (λ (s : SolverForm). NamesBelow (length s.values) clause) (sym is)
    (rw length-replicate (subst (λ (c : List Lit). NamesBelow variables c) (sym read) (names i clause within)))

pub attach-requires-clause-few : goal.attach-requires-clause-few
attach-requires-clause-few c =
    few c.loop-clause.solver _ c.loop-clause.clause-index c.args.problem.now.clauses c.loop-clause.invariant
    (subst (λ (cs : List (List Lit)). c.loop-clause.clause-index < length cs) c.as_slice-clause-items.ensures c.loop-clause-test.true) c.requires.valid.few_clauses

pub attach-requires-clause-named : goal.attach-requires-clause-named
attach-requires-clause-named c =
    named c.loop-clause.solver _ c.loop-clause.clause-index c.args.problem.now.clauses c.clause-item.result c.loop-clause.invariant
    (subst (λ (cs : List (List Lit)). c.loop-clause.clause-index < length cs) c.as_slice-clause-items.ensures c.loop-clause-test.true)
    (c.clause-item.is ∙ ap (λ (cs : List (List Lit)). get_or cs c.loop-clause.clause-index c.clause-item.result) c.as_slice-clause-items.ensures) c.requires.valid.clauses

pub attach-requires-clause-may : goal.attach-requires-clause-may
attach-requires-clause-may c = inl (ap (λ (s : SolverForm). s.level) c.loop-clause.invariant)

pub loop-clause-preserved : goal.loop-clause-preserved
loop-clause-preserved c =
    next c.loop-clause.solver c.attach.new.self _ c.loop-clause.clause-index c.args.problem.now.clauses c.clause-item.result c.loop-clause.invariant
    (subst (λ (cs : List (List Lit)). c.loop-clause.clause-index < length cs) c.as_slice-clause-items.ensures c.loop-clause-test.true)
    (c.clause-item.is ∙ ap (λ (cs : List (List Lit)). get_or cs c.loop-clause.clause-index c.clause-item.result) c.as_slice-clause-items.ensures) c.in_ok-attach.ensures.ok

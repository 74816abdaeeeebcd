-- The last steps of refutations, and their cones.
use Rattle.std.proofs.Common.{◌≡◌, ◌≢◌, refl, sym, ◌∙◌, ap, subst, ℕ, zero, suc, ◌+◌, ◌<◌, ◌≤◌, ◌^◌, ◌==◌, Bool, true, false, cond, not, Some, List, [], ◌∷◌, ◌++◌, length, All, Contains, sum_by, IsPermutation, inl, inr, arith}
use Rattle.std.proofs.lemmas.Bool.{cases_eq, eq-eqb, ne_eqb}
use Rattle.std.proofs.lemmas.Bool.Decides.{nat_tests}
use Rattle.std.specs.List.{slice_get}
use Rattle.std.proofs.lemmas.Option.{same_Some}
use Rattle.std.proofs.lemmas.List.Sums.{sum_by-cons, sum_by-append}
use Rattle.std.proofs.lemmas.List.Sorted.{Contains-permutation, IsPermutation-sym}
use Rattle.std.proofs.lemmas.List.Elements.{All-contains, All-head, All-tail, Contains-push, Contains-push_cases, Contains-append_left}
use Rattle.gp_clause.specs.declared.lit.Lit.{Lit}
use Rattle.gp_clause.specs.declared.problem.Problem.{Problem}
use Rattle.gp_clause.specs.declared.problem.Query.{Query}
use Rattle.gp_clause.specs.Clause.{occurrences, IsRising}
use Rattle.gp_clause.specs.Lit.{opposite}
use Rattle.gp_base.specs.CountLaws.{count_none, count_two, once_from_rising}
use Rattle.gp_derivation.specs.declared.log.LogEntry.{LogEntry}
use Rattle.gp_derivation.specs.declared.log.Origin.{Origin}
use Rattle.gp_derivation.specs.declared.log.Origin.TheVariants.{Learned, Taken}
use Rattle.gp_certificate.specs.declared.step.Step.{Step}
use Rattle.gp_derivation.specs.EarlierLaws.{all_earlier}
use Rattle.gp_derivation.specs.Log.{IsLearned, LearnedPasses}
use Rattle.gp_derivation.specs.Cones.{ConeChecks, ConeIsThere, RefutesByCone, cone_of, cone_step, cone_steps, is_needed}
use Rattle.gp_derivation.specs.Numbering.{CanBeNumbered, number_of, size_of, steps_by}
use Rattle.gp_sat.specs.declared.assigned.Assigned.{Assigned}
use Rattle.gp_sat.specs.State.{SolverForm, assigned}
use Rattle.gp_sat.specs.Standing.{IsFalse, Each}
use Rattle.gp_sat.specs.Sound.{true_lit}
use Rattle.gp_sat.specs.Learning.{IsLearned as Follows, IsDecided}
use Rattle.gp_search.specs.declared.engine.Engine.{Engine}
use Rattle.gp_search.specs.Inside.{all_kinds, IsTurning, IsAssuming, IsWhole, most_steps}
use Rattle.gp_base.specs.ListLaws.{all_from_contains}
use Rattle.gp_search.proofs.LearnedSteps.{final_passes}
use Rattle.gp_clause.specs.LitLaws.{opposite_twice}

learned_one : (origin : Origin) → IsLearned origin → steps_by origin ≡ 1
learned_one Learned is = refl
learned_one (Taken sender certificate) wrong = absurd wrong

-- a log whose entries are learned ones from a place on stands for few steps
few_steps : (log : List LogEntry) (from : ℕ) → All (λ (entry : LogEntry). size_of entry ≤ 64) log → ((place : ℕ) (entry : LogEntry) → slice_get log place ≡ Some entry → from ≤ place → IsLearned entry.origin)
    → sum_by size_of log ≤ most_steps log from
few_steps [] from small learned = omega arith
few_steps (entry ∷ log) zero small learned =
    let rest : sum_by size_of log ≤ most_steps log 0 = few_steps log 0 (All-tail (λ (e : LogEntry). size_of e ≤ 64) entry log small) (λ place own got _. learned (suc place) own got (omega arith)) in
    omega (arith, sum_by-cons size_of entry log, learned_one entry.origin (learned 0 entry refl (omega arith)), rest)
few_steps (entry ∷ log) (suc from) small learned =
    let rest : sum_by size_of log ≤ most_steps log from = few_steps log from (All-tail (λ (e : LogEntry). size_of e ≤ 64) entry log small) (λ place own got late. learned (suc place) own got (omega (arith, late))) in
    let first : size_of entry ≤ 64 = All-head (λ (e : LogEntry). size_of e ≤ 64) entry log small in
    omega (arith, sum_by-cons size_of entry log, first, rest)

-- behind the steps of a log there is a number for one more
pub numbered_behind : (problem : Problem) (query : Query) (engine : Engine) → IsWhole problem query engine → length problem.clauses + sum_by size_of engine.log.items + 1 < 2 ^ 32
numbered_behind problem query engine whole = omega (arith, few_steps engine.log.items engine.learned whole.log.small whole.log.learned, whole.few)

-- a step whose hints name what stands in the log has a cone
pub can_number : (problem : Problem) (query : Query) (engine : Engine) (bases : ℕ) (log : List LogEntry) (step : Step) → IsTurning problem query engine → bases ≡ length problem.clauses → log ≡ engine.log.items
    → All (λ hint. hint < length problem.clauses + length engine.log.items) step.hints → CanBeNumbered bases log step
can_number problem query engine bases log step turning counted same hints =
    let P : ℕ → Type 0 = λ n. CanBeNumbered n log step in
    let Q : List LogEntry → Type 0 = λ xs. CanBeNumbered (length problem.clauses) xs step in
    subst P (sym counted) (subst Q (sym same) (record {
      entries = all_earlier problem query.locals engine.log.items engine.begins turning.whole.log.passes;
      hints = hints;
      few = numbered_behind problem query engine turning.whole;
    }))

-- a step that passes at the end of a log, and has negated assumptions alone, refutes the query by its cone
pub refutes_by_cone : ConeIsThere → ConeChecks → (problem : Problem) (query : Query) (engine : Engine) (last : Step) → IsTurning problem query engine → LearnedPasses problem query.locals engine.log.items engine.begins (length engine.log.items) last
    → All (λ lit. Contains query.assumed (opposite lit)) last.clause → RefutesByCone problem query engine.log.items last
refutes_by_cone there checks problem query engine last turning passes negated = record {
  numbered = numbered;
  refutes = record {
    checks = checks problem query engine.log.items engine.begins last (cone_of bases engine.log.items last) turning.whole.valid turning.whole.log.passes passes (there bases engine.log.items last numbered);
    ends = (cone_step bases (number_of bases kept engine.log.items) last, (cone_steps bases kept engine.log.items (length engine.log.items), refl), negated);
  };
}
  where
    bases : ℕ
    bases = length problem.clauses

    kept : ℕ → Bool
    kept = is_needed bases engine.log.items last.hints

    numbered : CanBeNumbered bases engine.log.items last
    numbered = can_number problem query engine bases engine.log.items last turning refl refl passes.hints

-- how often a literal counts for a variable
abbrev counted : ℕ → Lit → ℕ
counted v lit = cond (lit.variable == v) 1 0

counted_one : (v : ℕ) (lit : Lit) → lit.variable ≡ v → counted v lit ≡ 1
counted_one v lit is = grind (arith, nat_tests)

counted_none : (v : ℕ) (lit : Lit) → lit.variable ≢ v → counted v lit ≡ 0
counted_none v lit apart = grind (arith, nat_tests)

-- a false literal that was decided is the negation of what is assumed, where every decision is
pub decided_negated : (query : Query) (s : SolverForm) (assumed : ℕ) (lit : Lit) → IsAssuming query.assumed s assumed → s.level ≤ assumed → ((v : ℕ) (a : Assigned) → assigned s v ≡ Some a → a.level ≤ s.level) → IsDecided s lit → IsFalse (assigned s) lit
    → Contains query.assumed (opposite lit)
decided_negated query s assumed lit assuming low levels (a, is, none) (b, also, sign) =
    let same : a ≡ b = let both : Some a ≡ Some b = sym is ∙ also in same_Some a b both in
    let one : Contains query.assumed (true_lit lit.variable a) = assuming.decided lit.variable a is none (omega (arith, levels lit.variable a is, low)) in
    subst (λ (l : Lit). Contains query.assumed l) (λ i. record { variable = lit.variable; positive = (ap (λ (x : Assigned). x.positive) same ∙ sign) i }) one

-- the clause of a final analysis has negated assumptions alone
pub final_negated : (problem : Problem) (query : Query) (engine : Engine) (clause : List Lit) → IsTurning problem query engine → engine.solver.level ≤ engine.assumed
    → Each (IsDecided engine.solver) clause → Each (IsFalse (assigned engine.solver)) clause → All (λ lit. Contains query.assumed (opposite lit)) clause
final_negated problem query engine clause turning low decisions all_false =
    all_from_contains (λ (lit : Lit). Contains query.assumed (opposite lit)) clause (λ lit is.
    decided_negated query engine.solver engine.assumed lit turning.assuming low (λ v a there. (turning.sound.ordered.present v a there).0) (decisions lit is) (all_false lit is))

differs : (lit : Lit) → lit ≢ opposite lit
differs lit same = at lit.positive (ap (λ (l : Lit). l.positive) same)
  where
    at : (sign : Bool) → sign ≡ not sign → ⊥
    at true is = let clash : ⊥ = cc in clash
    at false is = let clash : ⊥ = cc in clash

-- no decision is of the variable of a false assumption
pub apart_from_false : (problem : Problem) (query : Query) (engine : Engine) (lit : Lit) (clause : List Lit) → IsTurning problem query engine → engine.solver.level ≤ engine.assumed → Contains query.assumed lit
    → IsFalse (assigned engine.solver) lit → Each (IsDecided engine.solver) clause → Each (IsFalse (assigned engine.solver)) clause → (other : Lit) → Contains clause other → other.variable ≢ lit.variable
apart_from_false problem query engine lit clause turning low among (b, also, sign) decisions all_false other is same =
    let a = decisions other is in
    let one : a.0 ≡ b = let both : Some a.0 ≡ Some b = sym a.1 ∙ (ap (assigned engine.solver) same ∙ also) in same_Some a.0 b both in
    let assumed : Contains query.assumed (true_lit other.variable a.0) =
    turning.assuming.decided other.variable a.0 a.1 a.2 (omega (arith, (turning.sound.ordered.present other.variable a.0 a.1).0, low)) in
    let negation : Contains query.assumed (opposite lit) =
    subst (λ (l : Lit). Contains query.assumed l) (λ i. record { variable = same i; positive = (ap (λ (x : Assigned). x.positive) one ∙ sign) i }) assumed in
    let own : (lit.variable == lit.variable) ≡ true = eq-eqb lit.variable lit.variable refl in
    omega (arith, count_two (λ (l : Lit). l.variable == lit.variable) query.assumed lit (opposite lit) (differs lit) among negation own own, turning.whole.asked.once lit.variable)

-- so the negation of the assumption may stand beside the clause of the analysis
pub once_beside : (lits clause : List Lit) (lit : Lit) → IsRising clause → lits ≡ clause ++ opposite lit ∷ [] → ((other : Lit) → Contains clause other → other.variable ≢ lit.variable)
    → (v : ℕ) → occurrences v lits ≤ 1
once_beside lits clause lit rising same apart v =
    let P : List Lit → Type 0 = λ xs. occurrences v xs ≤ 1 in
    let count : Lit → ℕ = counted v in
    let sum : occurrences v (clause ++ opposite lit ∷ []) ≡ occurrences v clause + occurrences v (opposite lit ∷ []) = sum_by-append count clause (opposite lit ∷ []) in
    let last : occurrences v (opposite lit ∷ []) ≡ counted v lit + 0 = sum_by-cons count (opposite lit) [] in
    subst P (sym same) (elim (cases_eq lit.variable v) [
      | inl here_it_is ↦
          let none : occurrences v clause ≡ 0 = count_none (λ (l : Lit). l.variable == v) clause (λ other is. ne_eqb other.variable v (λ equal. apart other is (equal ∙ sym here_it_is))) in
          omega (arith, sum, last, none, counted_one v lit here_it_is)
      | inr elsewhere ↦ omega (arith, sum, last, counted_none v lit elsewhere, once_from_rising (λ (l : Lit). l.variable) v clause rising)
    ])

-- the last step where an assumption is false
pub assumption_passes : (problem : Problem) (query : Query) (engine : Engine) (lit : Lit) (clause lits final : List Lit) (hints : List ℕ) → IsTurning problem query engine → engine.solver.level ≤ engine.assumed
    → Contains query.assumed lit → IsFalse (assigned engine.solver) lit → Follows engine.solver (lit ∷ []) clause hints → Each (IsDecided engine.solver) clause
    → lits ≡ clause ++ opposite lit ∷ [] → IsPermutation lits final
    → LearnedPasses problem query.locals engine.log.items engine.begins (length engine.log.items) (record { clause = final; hints = hints })
assumption_passes problem query engine lit clause lits final hints turning low among fell learned decisions same sorted =
    let beside : (l : Lit) → Contains (clause ++ opposite lit ∷ []) l → Contains final l = λ l is. Contains-permutation lits final l sorted (subst (λ (xs : List Lit). Contains xs l) (sym same) is) in
    let back : (l : Lit) → Contains final l → Contains (clause ++ opposite lit ∷ []) l = λ l is. subst (λ (xs : List Lit). Contains xs l) same (Contains-permutation final lits l (IsPermutation-sym lits final sorted) is) in
    let apart : (other : Lit) → Contains clause other → other.variable ≢ lit.variable = apart_from_false problem query engine lit clause turning low among fell decisions learned.all_false in
    final_passes problem query engine lit clause final hints turning fell learned
    (λ l is. beside l (Contains-append_left clause (opposite lit ∷ []) l is)) (beside (opposite lit) (Contains-push clause (opposite lit)))
    (λ is. elim (Contains-push_cases clause (opposite lit) lit (back lit is)) [
      | inl one ↦ apart lit one refl
      | inr equal ↦ differs lit (sym equal)
    ])
    (all_from_contains (λ (l : Lit). l.variable < length (all_kinds problem query)) final (λ l is. elim (Contains-push_cases clause (opposite lit) l (back l is)) [
      | inl one ↦ let no = learned.all_false l one in turning.reasoned.below l.variable no.0 no.1
      | inr equal ↦ subst (λ (v : ℕ). v < length (all_kinds problem query)) (ap (λ (x : Lit). x.variable) equal) (turning.reasoned.below lit.variable fell.0 fell.1)
    ]))

pub assumption_negated : (problem : Problem) (query : Query) (engine : Engine) (lit : Lit) (clause lits final : List Lit) → IsTurning problem query engine → engine.solver.level ≤ engine.assumed
    → Contains query.assumed lit → Each (IsDecided engine.solver) clause → Each (IsFalse (assigned engine.solver)) clause → lits ≡ clause ++ opposite lit ∷ [] → IsPermutation lits final
    → All (λ l. Contains query.assumed (opposite l)) final
assumption_negated problem query engine lit clause lits final turning low among decisions all_false same sorted =
    let back : (l : Lit) → Contains final l → Contains (clause ++ opposite lit ∷ []) l = λ l is. subst (λ (xs : List Lit). Contains xs l) same (Contains-permutation final lits l (IsPermutation-sym lits final sorted) is) in
    all_from_contains (λ (l : Lit). Contains query.assumed (opposite l)) final (λ l is. elim (Contains-push_cases clause (opposite lit) l (back l is)) [
      | inl one ↦ All-contains (λ (x : Lit). Contains query.assumed (opposite x)) clause l (final_negated problem query engine clause turning low decisions all_false) one
      | inr equal ↦ subst (λ (x : Lit). Contains query.assumed x) (sym (ap opposite (sym equal) ∙ opposite_twice lit)) among
    ])

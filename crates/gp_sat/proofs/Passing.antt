-- The clause of a finished walk follows from its hints and the conflict.
use Rattle.std.proofs.Common.{◌≡◌, refl, ap, subst, ℕ, ◌+◌, ◌<◌, Bool, zero, suc, Some, List, [], ◌∷◌, inl, inr, arith}
use Rattle.std.specs.Prelude.{Contains, IsPermutation}
use Rattle.std.proofs.lemmas.List.Sorted.{Contains-permutation, IsPermutation-sym}
use Rattle.gp_clause.specs.declared.lit.Lit.{Lit}
use Rattle.gp_clause.specs.Lit.{opposite, negations}
use Rattle.gp_clause.specs.Closure.{Derived}
use Rattle.gp_clause.specs.Closure.Derived.{given, forced}
use Rattle.gp_sat.specs.declared.analysis.Stop.{Stop}
use Rattle.gp_sat.specs.declared.analysis.Stop.TheVariants.{Decisions, FirstPoint}
use Rattle.gp_sat.specs.declared.assigned.Assigned.{Assigned}
use Rattle.gp_sat.specs.State.{SolverForm, assigned, clause_at}
use Rattle.gp_sat.specs.Standing.{Each, IsFalse, IsForcing, IsFalseBefore}
use Rattle.gp_sat.specs.Sound.{IsSound, true_lit}
use Rattle.gp_sat.specs.Learning.{hinted, IsLearned, HasOnePresent, IsHighestBelow, IsDecided, IsUniquePoint, HasPresentFrom}
use Rattle.gp_sat.specs.Marking.{IsMarked}
use Rattle.gp_sat.specs.Walking.{IsStopped, IsWalked, IsSearched}
use Rattle.gp_base.specs.ListLaws.{contains_map, here, there}
use Rattle.gp_clause.specs.LitLaws.{opposite_twice}

-- each marked literal of the trail is derived
derives : (s : SolverForm) (stop : Stop) (conflict clause : List Lit) (marks : List Bool) (lits : List Lit) (hints : List ℕ) → IsSound s → IsWalked s stop 0 marks lits hints
    → ((x : Lit) → Contains lits x → Contains clause x)
    → (bound v : ℕ) (a : Assigned) → a.place < bound → assigned s v ≡ Some a → IsMarked marks v → Derived (negations clause) (conflict ∷ hinted s hints) (true_lit v a)
derives s stop conflict clause marks lits hints sound walked among zero v a below is marked = absurd (omega (arith, below))
derives s stop conflict clause marks lits hints sound walked among (suc bound) v a below is marked = elim (walked.handled v a is marked (omega arith)) [
  | inl kept ↦ given (true_lit v a) (subst (λ (l : Lit). Contains (negations clause) l) (opposite_twice (true_lit v a))
      (contains_map opposite clause (opposite (true_lit v a)) (among (opposite (true_lit v a)) kept)))
  | inr followed ↦
      let forcing : IsForcing (assigned s) (clause_at s.clauses followed.number) (true_lit v a) a.place = (sound.explained.forced v a followed.number is followed.reason).1 in
      forced (clause_at s.clauses followed.number) (true_lit v a)
      (there conflict (hinted s hints) (clause_at s.clauses followed.number) (contains_map (clause_at s.clauses) hints followed.number followed.hint))
      forcing.within
      (λ other within apart.
      let fell : IsFalseBefore a.place (assigned s) other = forcing.others other within apart in
      subst (λ (l : Lit). Derived (negations clause) (conflict ∷ hinted s hints) l) (λ i. record { variable = other.variable; positive = fell.2 i })
      (derives s stop conflict clause marks lits hints sound walked among bound other.variable fell.0 (omega (arith, fell.3, below)) fell.1 (followed.marked other within)))
]

-- the clause passes from the hints and the conflict, and is false
pub learned : (s : SolverForm) (stop : Stop) (conflict clause : List Lit) (marks : List Bool) (lits : List Lit) (hints : List ℕ) → IsSound s → IsWalked s stop 0 marks lits hints
    → Each (IsFalse (assigned s)) conflict → ((lit : Lit) → Contains conflict lit → IsMarked marks lit.variable) → IsPermutation lits clause → IsLearned s conflict clause hints
learned s stop conflict clause marks lits hints sound walked all_false started sorted = record {
  passes = (
    conflict,
    here conflict (hinted s hints),
    λ lit is.
        let fell : IsFalse (assigned s) lit = all_false lit is in
        subst (λ (l : Lit). Derived (negations clause) (conflict ∷ hinted s hints) l) (λ i. record { variable = lit.variable; positive = fell.2 i })
        (derives s stop conflict clause marks lits hints sound walked (λ x within. Contains-permutation lits clause x sorted within) (fell.0.place + 1) lit.variable fell.0 (omega arith) fell.1 (started lit is)),
  );
  reasons = walked.reasons;
  all_false = λ lit is.
      let stopped : IsStopped s stop 0 lit = walked.stopped lit (Contains-permutation clause lits lit (IsPermutation-sym lits clause sorted) is) in
      (stopped.value, stopped.is, stopped.opposes);
}

-- exactly one literal is of the present level
pub one_present : (s : SolverForm) (clause : List Lit) (marks : List Bool) (lits : List Lit) (hints : List ℕ) → IsWalked s FirstPoint 0 marks lits hints → IsPermutation lits clause → HasOnePresent s clause
one_present s clause marks lits hints walked sorted = elim (walked.pointing refl) [
  | inl coming ↦ absurd (let below : coming.0.0 < 0 = coming.0.1 in omega (arith, below))
  | inr done ↦ record {
    lit = done.1.lit;
    within = Contains-permutation lits clause done.1.lit sorted done.1.within;
    present = done.1.present;
    others = λ other is apart. done.1.others other (Contains-permutation clause lits other (IsPermutation-sym lits clause sorted) is) apart;
  }
]

-- the highest level is the same in another order
pub highest_sorted : (s : SolverForm) (clause lits : List Lit) (level : ℕ) → IsPermutation lits clause → IsHighestBelow s lits level → IsHighestBelow s clause level
highest_sorted s clause lits level sorted old = record {
  highest = λ lit a is. old.highest lit a (Contains-permutation clause lits lit (IsPermutation-sym lits clause sorted) is);
  reached = elim old.reached [
    | inl none ↦ inl none
    | inr there ↦ inr (there.0, Contains-permutation lits clause there.0 sorted there.1, there.2, there.3)
  ];
}

-- each literal is a decision
pub decided : (s : SolverForm) (clause : List Lit) (marks : List Bool) (lits : List Lit) (hints : List ℕ) → IsWalked s Decisions 0 marks lits hints → IsPermutation lits clause → Each (IsDecided s) clause
decided s clause marks lits hints walked sorted = λ lit is.
    let stopped : IsStopped s Decisions 0 lit = walked.stopped lit (Contains-permutation clause lits lit (IsPermutation-sym lits clause sorted) is) in
    (stopped.value, stopped.is, stopped.decided refl)

-- at level 0 there is no decision
pub none_decided : (s : SolverForm) (clause : List Lit) → IsSound s → s.level ≡ 0 → Each (IsDecided s) clause → clause ≡ []
none_decided s [] sound bottom all = refl
none_decided s (lit ∷ clause) sound bottom all =
    let first : IsDecided s lit = all lit (here lit clause) in
    absurd (omega (arith, bottom, (sound.explained.first lit.variable first.0 first.1 first.2).0, (sound.ordered.present lit.variable first.0 first.1).0))

-- the first unique implication point is the same in another order
pub first_sorted : (s : SolverForm) (conflict clause : List Lit) (marks : List Bool) (lits : List Lit) → IsPermutation lits clause → IsSearched s conflict 0 marks lits → (variable : ℕ) (a : Assigned) → IsUniquePoint s conflict variable a → HasPresentFrom s clause a.place
first_sorted s conflict clause marks lits sorted searched variable a unique =
    let there : HasPresentFrom s lits a.place = searched.first variable a unique (omega arith) in
    (there.0, there.1, Contains-permutation lits clause there.0 sorted there.2, there.3, there.4, there.5)

-- no literal is of level 0
pub above_bottom : (s : SolverForm) (clause : List Lit) (marks : List Bool) (lits : List Lit) (hints : List ℕ) → IsWalked s FirstPoint 0 marks lits hints → IsPermutation lits clause → (lit : Lit) (a : Assigned) → Contains clause lit → assigned s lit.variable ≡ Some a → 0 < a.level
above_bottom s clause marks lits hints walked sorted lit a among is =
    let stopped : IsStopped s FirstPoint 0 lit = walked.stopped lit (Contains-permutation clause lits lit (IsPermutation-sym lits clause sorted) among) in
    let there : assigned s lit.variable ≡ Some stopped.value = stopped.is in
    let same : stopped.value ≡ a = cc in
    omega (arith, stopped.above refl, ap (λ (x : Assigned). x.level) same)

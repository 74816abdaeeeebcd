-- What is learned is new: below the level of the conflict the trail is closed, and its bounds have places.
use Rattle.std.proofs.Common.{◌≡◌, ◌≢◌, refl, sym, ◌∙◌, ap, subst, ℕ, ◌<◌, ◌≤◌, Bool, true, false, not, Option, Some, None, ℤ, List, ◌++◌, nat_lt, All, Contains, inl, inr, arith}
use Rattle.std.specs.Prelude.{if◌then◌else◌}
use Rattle.std.specs.List.{slice_get}
use Rattle.std.proofs.lemmas.Bool.{false≢true, ltb-true, ltb-false, le-ltb}
use Rattle.std.proofs.lemmas.Option.{none-some, same_Some}
use Rattle.std.proofs.lemmas.List.Elements.{All-append, All-contains, All-contains_itself, All-filter, All-weaker, filter_passes}
use Rattle.gp_clause.specs.declared.edge.Edge.{Edge}
use Rattle.gp_clause.specs.declared.kind.Kind.{Kind}
use Rattle.gp_clause.specs.declared.lit.Lit.{Lit}
use Rattle.gp_clause.specs.declared.problem.Problem.{Problem}
use Rattle.gp_clause.specs.declared.problem.Query.{Query}
use Rattle.gp_clause.specs.Closure.{ClosureIsLeast, LeavesNone, IsTrueIn, IsFalseIn}
use Rattle.gp_clause.specs.Edge.{Keeps}
use Rattle.gp_clause.specs.Kind.{bound_of}
use Rattle.gp_clause.specs.Lit.{opposite, lit_eq, negations}
use Rattle.gp_clause.specs.LitLaws.{lit_eq_decides, not_both}
use Rattle.gp_clause.specs.WalkLaws.{none_negative}
use Rattle.gp_derivation.specs.Spent.{IsNewBy, start_beside}
use Rattle.gp_certificate.specs.Step.{LeadsToConflict, IsDerivedBound}
use Rattle.gp_derivation.specs.Tight.{left_out}
use Rattle.gp_sat.specs.declared.assigned.Assigned.{Assigned}
use Rattle.gp_sat.specs.State.{SolverForm, assigned, clause_at, IsAttached}
use Rattle.gp_sat.specs.Standing.{IsClosed, IsFalseTo}
use Rattle.gp_search.specs.Inside.{IsTrueTo}
use Rattle.gp_base.specs.ListLaws.{all_from_contains, contains_from_map}

-- the sign of an assignment, if it is of a level or of one below
abbrev pub sign_to : ℕ → Option Assigned → Option Bool
sign_to level None = None
sign_to level (Some a) = if nat_lt level a.level then None else Some a.positive

-- the signs of variables by the assignments up to a level
abbrev pub values_to : SolverForm → ℕ → ℕ → Option Bool
values_to s level variable = sign_to level (assigned s variable)

sign_some : (level : ℕ) (o : Option Assigned) (a : Assigned) → o ≡ Some a → a.level ≤ level → sign_to level o ≡ Some a.positive
sign_some level o a is low = ap (sign_to level) is ∙ rw (le-ltb level a.level low) refl

sign_above : (level : ℕ) (o : Option Assigned) (a : Assigned) → o ≡ Some a → level < a.level → sign_to level o ≡ None
sign_above level o a is high = ap (sign_to level) is ∙ at (nat_lt level a.level) refl
  where
    at : (t : Bool) → nat_lt level a.level ≡ t → sign_to level (Some a) ≡ None
    at true is_high = rw is_high refl
    at false low = absurd (omega (arith, ltb-false level a.level low, high))

sign_was : (level : ℕ) (o : Option Assigned) (sign : Bool) → sign_to level o ≡ Some sign → (a : Assigned) × (o ≡ Some a) × (a.positive ≡ sign) × (a.level ≤ level)
sign_was level None sign is = absurd (none-some sign is)
sign_was level (Some a) sign is = at (nat_lt level a.level) refl is
  where
    at : (t : Bool) → nat_lt level a.level ≡ t → sign_to level (Some a) ≡ Some sign → (b : Assigned) × (Some a ≡ Some b) × (b.positive ≡ sign) × (b.level ≤ level)
    at true high told = absurd (let none : sign_to level (Some a) ≡ None = rw high refl in none-some sign (sym none ∙ told))
    at false low told = let some : sign_to level (Some a) ≡ Some a.positive = rw low refl in (a, refl, same_Some a.positive sign (sym some ∙ told), ltb-false level a.level low)

sign_none : (level : ℕ) (o : Option Assigned) (a : Assigned) → sign_to level o ≡ None → o ≡ Some a → level < a.level
sign_none level o a none is = at (nat_lt level a.level) refl
  where
    at : (t : Bool) → nat_lt level a.level ≡ t → level < a.level
    at true high = ltb-true level a.level high
    at false low = absurd (let some : sign_to level (Some a) ≡ Some a.positive = rw low refl in none-some a.positive (sym none ∙ (ap (sign_to level) is ∙ some)))

-- a literal that is true up to a level, one that is false up to it, and one that is assigned above it
pub true_in : (s : SolverForm) (level : ℕ) (lit : Lit) → IsTrueTo s level lit → IsTrueIn (values_to s level) lit
true_in s level lit one = sign_some level (assigned s lit.variable) one.0 one.1 one.3 ∙ ap (λ (b : Bool). Some b) one.2

pub false_in : (s : SolverForm) (level : ℕ) (lit : Lit) → IsFalseTo level (assigned s) lit → IsFalseIn (values_to s level) lit
false_in s level lit one = sign_some level (assigned s lit.variable) one.0 one.1 one.3 ∙ ap (λ (b : Bool). Some b) one.2

pub free_in : (s : SolverForm) (level variable : ℕ) (a : Assigned) → assigned s variable ≡ Some a → level < a.level → values_to s level variable ≡ None
free_in s level variable a is high = sign_above level (assigned s variable) a is high

pub true_from : (s : SolverForm) (level : ℕ) (lit : Lit) → IsTrueIn (values_to s level) lit → IsTrueTo s level lit
true_from s level lit is = sign_was level (assigned s lit.variable) lit.positive is

false_from : (s : SolverForm) (level : ℕ) (lit : Lit) → IsFalseIn (values_to s level) lit → IsFalseTo level (assigned s) lit
false_from s level lit is = sign_was level (assigned s lit.variable) (not lit.positive) is

-- each of some clauses is attached under some number
abbrev pub AreAttached : SolverForm → List (List Lit) → Type 0
AreAttached s clauses = (clause : List Lit) → Contains clauses clause → (number : ℕ) × IsAttached s.clauses number × (clause_at s.clauses number ≡ clause)

-- a level that is closed leaves no attached clause false or unit
pub closed_leaves : (s : SolverForm) (level : ℕ) (clauses : List (List Lit)) → IsClosed s level → AreAttached s clauses → LeavesNone (values_to s level) clauses
closed_leaves s level clauses closed attached = record {
  no_false = λ clause among all_false.
      let at = attached clause among in
      (closed at.0 at.1).not_false (λ lit is. false_from s level lit (all_false lit (subst (λ (c : List Lit). Contains c lit) at.2 is)));
  no_unit = λ clause lit among within others free.
      let at = attached clause among in
      (closed at.0 at.1).not_unit lit (subst (λ (c : List Lit). Contains c lit) (sym at.2) within) (λ a is. sign_none level (assigned s lit.variable) a free is)
      (λ other is apart. false_from s level other (others other (subst (λ (c : List Lit). Contains c other) at.2 is) apart));
}

-- a partial assignment leaves no clause false or unit, and places keep the fixed edges and the bounds of what is true in it
pub record IsCalm (edges : List Edge) (kinds : List Kind) (clauses : List (List Lit)) (values : ℕ → Option Bool) (place : ℕ → ℤ) : Type 0 where
  pub leaves : LeavesNone values clauses
  pub fixed : All (Keeps place) edges
  pub bounds : (lit : Lit) (kind : Kind) (edge : Edge) → IsTrueIn values lit → slice_get kinds lit.variable ≡ Some kind → bound_of kind lit.positive ≡ Some edge → Keeps place edge

-- then the clauses refute no start that is true in it
pub not_refuted : (law : ClosureIsLeast) (edges : List Edge) (kinds : List Kind) (clauses : List (List Lit)) (values : ℕ → Option Bool) (place : ℕ → ℤ) (start : List Lit) → IsCalm edges kinds clauses values place
    → All (IsTrueIn values) start → LeadsToConflict edges kinds clauses start → ⊥
not_refuted law edges kinds clauses values place start calm starts (inl conflicts) = law.no_conflict start clauses values starts calm.leaves conflicts
not_refuted law edges kinds clauses values place start calm starts (inr (bounds, derived, cycle)) =
    none_negative place (edges ++ bounds) (All-append (Keeps place) edges bounds calm.fixed (All-weaker (IsDerivedBound kinds clauses start) (Keeps place) kept bounds derived)) cycle
  where
    kept : (edge : Edge) → IsDerivedBound kinds clauses start edge → Keeps place edge
    kept edge (lit, kind, from, got, is) = calm.bounds lit kind edge (law.true_too start clauses values starts calm.leaves lit from) got is

-- the negations of literals that are false are true
pub negations_true : (values : ℕ → Option Bool) (clause : List Lit) → ((lit : Lit) → Contains clause lit → IsFalseIn values lit) → All (IsTrueIn values) (negations clause)
negations_true values clause all_false = all_from_contains (IsTrueIn values) (negations clause) (λ lit is.
    let one = contains_from_map opposite clause lit is in
    subst (λ (l : Lit). IsTrueIn values l) one.2 (all_false one.0 one.1))

-- what is left of a clause without a literal
pub left_cases : (lit : Lit) (clause : List Lit) (other : Lit) → Contains (left_out lit clause) other → Contains clause other × (other ≢ lit)
left_cases lit clause other is =
    let keep : Lit → Bool = λ (x : Lit). not (lit_eq x lit) in (
      All-contains (Contains clause) (left_out lit clause) other (All-filter keep (Contains clause) clause (All-contains_itself clause)) is,
      λ same.
          let passes : not (lit_eq other lit) ≡ true = All-contains (λ (x : Lit). keep x ≡ true) (left_out lit clause) other (filter_passes keep clause) is in
          false≢true (sym (ap not ((lit_eq_decides other lit).1 same)) ∙ passes),
    )

-- a clause all but one literal of which is false in a calm assignment, which does not assign that one, is new by it
pub new_by : (law : ClosureIsLeast) (problem : Problem) (query : Query) (clauses : List (List Lit)) (values : ℕ → Option Bool) (place : ℕ → ℤ) (clause : List Lit) (lit : Lit)
    → IsCalm problem.edges (problem.kinds ++ query.locals) clauses values place → All (IsTrueIn values) query.assumed → Contains clause lit → values lit.variable ≡ None
    → ((other : Lit) → Contains clause other → other ≢ lit → IsFalseIn values other) → IsNewBy problem query clauses clause lit
new_by law problem query clauses values place clause lit calm assumed within free others = record {
  within = within;
  agrees = λ one is also.
      let first : IsTrueIn values one = All-contains (IsTrueIn values) (start_beside query clause lit) one starts is in
      let second : IsTrueIn values (opposite one) = All-contains (IsTrueIn values) (start_beside query clause lit) (opposite one) starts also in
      not_both one.positive (same_Some one.positive (not one.positive) (sym first ∙ second));
  open_still = λ refuted. not_refuted law problem.edges (problem.kinds ++ query.locals) clauses values place (start_beside query clause lit) calm starts refuted;
  unassigned = λ sign derived.
      let one : values lit.variable ≡ Some sign = law.true_too (start_beside query clause lit) clauses values starts calm.leaves (record { variable = lit.variable; positive = sign }) derived in
      none-some sign (sym free ∙ one);
}
  where
    starts : All (IsTrueIn values) (start_beside query clause lit)
    starts = All-append (IsTrueIn values) query.assumed (negations (left_out lit clause)) assumed (negations_true values (left_out lit clause) (λ other is.
        let left = left_cases lit clause other is in others other left.0 left.1))

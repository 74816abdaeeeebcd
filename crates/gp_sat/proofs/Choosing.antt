-- The literal of the highest level, and what it says of a clause that is unit or has a true literal alone.
use Rattle.std.proofs.Common.{◌≡◌, ◌≢◌, sym, ◌∙◌, ap, subst, ℕ, ◌+◌, ◌<◌, ◌≤◌, Option, Some, None, List, [], ◌∷◌, ◌++◌, length, get_or, take, inl, inr, arith}
use Rattle.std.specs.Prelude.{Contains}
use Rattle.std.proofs.lemmas.List.{take_more}
use Rattle.std.proofs.lemmas.List.Elements.{Contains-push, Contains-push_cases, Contains-append_left, Contains-get_or}
use Rattle.std.proofs.lemmas.Bool.{cases_lt}
use Rattle.gp_clause.specs.declared.lit.Lit.{Lit}
use Rattle.gp_clause.specs.Clause.{IsRising}
use Rattle.gp_sat.specs.declared.assigned.Assigned.{Assigned}
use Rattle.gp_sat.specs.State.{SolverForm, assigned, clause_at, IsAttached}
use Rattle.gp_sat.specs.Sound.{IsSound}
use Rattle.gp_sat.specs.Standing.{IsFalse, IsFalseTo, IsQuiet, Each, EachOther}
use Rattle.gp_sat.specs.Looking.{IsTrueLit}
use Rattle.gp_sat.specs.Watching.{IsTrueTo, IsSafe, IsSettled}
use Rattle.gp_sat.specs.Choosing.{level_of, IsHighest, IsBest}

pub best_same : (f : ℕ → Option Assigned) (front : List Lit) (one lit : Lit) (best : Option Lit) → lit ≡ one → IsBest f front one best → IsBest f (front ++ lit ∷ []) one best
best_same f front one lit None same old = λ other among. elim (Contains-push_cases front lit other among) [
  | inl before ↦ old other before
  | inr here ↦ sym here ∙ same
]
best_same f front one lit (Some two) same old = record {
  within = Contains-append_left front (lit ∷ []) two old.within;
  apart = old.apart;
  highest = λ other among differ. elim (Contains-push_cases front lit other among) [
    | inl before ↦ old.highest other before differ
    | inr here ↦ absurd (differ (sym here ∙ same))
  ];
}

pub best_first : (f : ℕ → Option Assigned) (front : List Lit) (one lit : Lit) → lit ≢ one → IsBest f front one None → IsHighest f (front ++ lit ∷ []) one lit
best_first f front one lit apart old = record {
  within = Contains-push front lit;
  apart = apart;
  highest = λ other among differ. elim (Contains-push_cases front lit other among) [
    | inl before ↦ absurd (differ (old other before))
    | inr here ↦ let same : level_of (f lit.variable) ≡ level_of (f other.variable) = ap (λ (l : Lit). level_of (f l.variable)) here in omega (arith, same)
  ];
}

pub best_more : (f : ℕ → Option Assigned) (front : List Lit) (one two lit : Lit) → lit ≢ one → level_of (f two.variable) < level_of (f lit.variable) → IsHighest f front one two → IsHighest f (front ++ lit ∷ []) one lit
best_more f front one two lit apart more old = record {
  within = Contains-push front lit;
  apart = apart;
  highest = λ other among differ. elim (Contains-push_cases front lit other among) [
    | inl before ↦ omega (arith, old.highest other before differ, more)
    | inr here ↦ let same : level_of (f lit.variable) ≡ level_of (f other.variable) = ap (λ (l : Lit). level_of (f l.variable)) here in omega (arith, same)
  ];
}

pub best_step : (f : ℕ → Option Assigned) (lits : List Lit) (i : ℕ) (d one : Lit) (best : Option Lit) → i < length lits → IsBest f (take i lits ++ get_or lits i d ∷ []) one best → IsBest f (take (i + 1) lits) one best
best_step f lits i d one best within is = subst (λ (xs : List Lit). IsBest f xs one best) (sym (take_more lits i d within)) is

-- a clause whose literals are all one has no two
pub lone_short : (lits : List Lit) (one : Lit) → IsRising lits → Each (λ lit. lit ≡ one) lits → length lits < 2
lone_short lits one rising all = elim (cases_lt (length lits) 2) [
  | inl short ↦ short
  | inr long ↦
      let first : get_or lits 0 one ≡ one = all (get_or lits 0 one) (Contains-get_or lits 0 one (omega (arith, long))) in
      let second : get_or lits 1 one ≡ one = all (get_or lits 1 one) (Contains-get_or lits 1 one (omega (arith, long))) in
      let less : (get_or lits 0 one).variable < (get_or lits 1 one).variable = rising 0 one (omega (arith, long)) in
      absurd (omega (arith, less, ap (λ (l : Lit). l.variable) first, ap (λ (l : Lit). l.variable) second))
]

-- where all literals of an attached clause but a true one are false up to a level, that one is true up to it
pub low_true : (s : SolverForm) (number level : ℕ) (one : Lit) → IsSound s → IsAttached s.clauses number → Contains (clause_at s.clauses number) one → IsTrueLit (assigned s) one
    → EachOther (IsFalseTo level (assigned s)) (clause_at s.clauses number) one → IsTrueTo level (assigned s) one
low_true s number level one sound attached within (b, is, sign) others = elim (cases_lt level b.level) [
  | inl above ↦
      let quiet : IsQuiet level (assigned s) (clause_at s.clauses number) = sound.closed level (omega (arith, above, (sound.ordered.present one.variable b is).0)) number attached in
      absurd (quiet.not_unit one within (λ a there. let same : a ≡ b = cc in omega (arith, above, ap (λ (x : Assigned). x.level) same)) others)
  | inr low ↦ (b, is, sign, low)
]

-- a true literal and the highest of the others, which are false, are safe
pub unit_safe : (s : SolverForm) (number cursor : ℕ) (one two : Lit) → IsSound s → IsAttached s.clauses number → Contains (clause_at s.clauses number) one → IsTrueLit (assigned s) one
    → EachOther (IsFalse (assigned s)) (clause_at s.clauses number) one → IsHighest (assigned s) (clause_at s.clauses number) one two → IsSafe (assigned s) cursor two one
unit_safe s number cursor one two sound attached within holds others highest (a, is, sign, before) =
    low_true s number a.level one sound attached within holds (λ other among apart.
    let fell : IsFalse (assigned s) other = others other among apart in
    let least : level_of (assigned s other.variable) ≤ level_of (assigned s two.variable) = highest.highest other among apart in
    (fell.0, fell.1, fell.2, omega (arith, least, ap level_of fell.1, ap level_of is)))

-- a true literal that is alone is true at level 0
pub lone_settled : (s : SolverForm) (number : ℕ) (one : Lit) → IsSound s → IsAttached s.clauses number → Contains (clause_at s.clauses number) one → IsTrueLit (assigned s) one
    → Each (λ lit. lit ≡ one) (clause_at s.clauses number) → IsSettled (assigned s) (clause_at s.clauses number)
lone_settled s number one sound attached within holds all = (one, within, low_true s number 0 one sound attached within holds (λ other among apart. absurd (apart (all other among))))

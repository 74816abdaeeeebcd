-- What clauses force is what they derive.
use Rattle.std.proofs.Common.{ℕ, zero, suc, ◌≡◌, ◌≢◌, refl, ap, sym, ◌∙◌, subst, inl, inr, Bool, true, false, not, List, [], ◌∷◌, length}
use Rattle.std.specs.Prelude.{◌↔◌, if◌then◌else◌, Option, None, Some, Contains, find}
use Rattle.std.specs.List.{list_any}
use Rattle.std.proofs.lemmas.Bool.{and_parts, cases_Bool, false≢true, or_from}
use Rattle.std.proofs.lemmas.List.Elements.{Contains-append_cases, Contains-append_left}
use Rattle.std.proofs.lemmas.Option.{none-some, same_Some}
use Rattle.gp_base.specs.ListLaws.{contains_found, first_or_rest, here, nothing_in, there}
use Rattle.gp_clause.specs.declared.lit.Lit.{Lit}
use Rattle.gp_clause.specs.Closure.{Conflicts, Derived}
use Rattle.gp_clause.specs.Closure.Derived.{given, forced as by_clause}
use Rattle.gp_clause.specs.Lit.{lit_eq, opposite}
use Rattle.gp_clause.specs.LitLaws.{lit_eq_decides, lits_cases}
use Rattle.gp_cycle.specs.Forced.{forced, forced_by, forced_first, forced_from, is_false, is_known, is_open, is_open_beside, sweep, sweeps, with_forced}
use Rattle.gp_cycle.proofs.Counted.{forced_is, none_forced, opened, shut}
use Rattle.gp_cycle.proofs.Passing.{any_fails, any_passes, none_found, some_passes}
use Rattle.gp_cycle.proofs.Swept.{sweeps_grow}

-- whether a literal is known says whether it is among what is known
pub known_contains : (known : List Lit) (lit : Lit) → is_known known lit ≡ true → Contains known lit
known_contains known lit is =
    let some = some_passes (λ (other : Lit). lit_eq other lit) known is in
    subst (Contains known) ((lit_eq_decides some.0 lit).0 some.2) some.1

pub contains_known : (known : List Lit) (lit : Lit) → Contains known lit → is_known known lit ≡ true
contains_known known lit i = any_passes (λ (other : Lit). lit_eq other lit) known lit i ((lit_eq_decides lit lit).1 refl)

-- each literal that is known is derived
abbrev AreDerived : List Lit → List (List Lit) → List Lit → Type 0
AreDerived start clauses known = (lit : Lit) → Contains known lit → Derived start clauses lit

forced_derived : (start : List Lit) (clauses : List (List Lit)) (known clause : List Lit) (found : Option Lit) → forced_by known clause ≡ found → Contains clauses clause
    → AreDerived start clauses known → AreDerived start clauses (with_forced known found)
forced_derived start clauses known clause None is i derived = derived
forced_derived start clauses known clause (Some lit) is i derived = λ other j.
    elim (Contains-append_cases known (lit ∷ []) other j) [
      | inl before ↦ derived other before
      | inr last ↦ elim (first_or_rest lit [] other last) [
        | inl same ↦ subst (Derived start clauses) same own
        | inr none ↦ absurd (nothing_in other none)
      ]
    ]
  where
    own : Derived start clauses lit
    own =
        let by = forced_is known clause lit is in
        by_clause clause lit i by.within (λ other j apart. derived (opposite other) (known_contains known (opposite other) (by.others other j apart)))

sweep_derived : (start : List Lit) (all : List (List Lit)) (known : List Lit) (clauses : List (List Lit)) → ((clause : List Lit) → Contains clauses clause → Contains all clause)
    → AreDerived start all known → AreDerived start all (sweep known clauses)
sweep_derived start all known [] among derived = derived
sweep_derived start all known (clause ∷ clauses) among derived =
    sweep_derived start all (with_forced known (forced_by known clause)) clauses (λ other i. among other (there clause clauses other i))
    (forced_derived start all known clause (forced_by known clause) refl (among clause (here clause clauses)) derived)

sweeps_derived : (rounds : ℕ) (start : List Lit) (all : List (List Lit)) (known : List Lit) → AreDerived start all known → AreDerived start all (sweeps rounds known all)
sweeps_derived zero start all known derived = derived
sweeps_derived (suc rounds) start all known derived = sweeps_derived rounds start all (sweep known all) (sweep_derived start all known all (λ clause i. i) derived)

all_derived : (start : List Lit) (clauses : List (List Lit)) → AreDerived start clauses (forced_from start clauses)
all_derived start clauses = sweeps_derived (length clauses) start clauses start (λ lit i. given lit i)

-- where a clause is neither false nor forces anything, and each literal but one has a negation that is known, that one is known
one_at : (known clause : List Lit) (lit : Lit) (found : Option Lit) → find (is_open known) clause ≡ found → forced_first known clause found ≡ None
    → is_false known clause ≡ false → ((other : Lit) → Contains clause other → other ≢ lit → is_known known (opposite other) ≡ true) → is_known known lit ≡ true
one_at known clause lit None is none some others =
    let any = some_passes (is_open known) clause (open_any (list_any (is_open known) clause) some) in
    absurd (false≢true (sym (none_found (is_open known) clause any.0 is any.1) ∙ any.2))
  where
    open_any : (b : Bool) → not b ≡ false → b ≡ true
    open_any true e = refl
    open_any false e = absurd (false≢true (sym e))
one_at known clause lit (Some first) is none some others =
    elim (cases_Bool (is_known known first)) [
      | inl so ↦ subst (λ (l : Lit). is_known known l ≡ true) (only first found.0 found.1) so
      | inr fresh ↦ elim (cases_Bool (list_any (is_open_beside known first) clause)) [
        | inl any ↦
            let other = some_passes (is_open_beside known first) clause any in
            let both = and_parts (is_open known other.0) (not (lit_eq other.0 first)) other.2 in
            let same : other.0 ≡ first = only other.0 other.1 both.0 ∙ sym (only first found.0 found.1) in
            absurd (false≢true (sym (ap not ((lit_eq_decides other.0 first).1 same)) ∙ both.1))
        | inr alone ↦ absurd (none-some first (sym none ∙ ap (λ b. if b then None else Some first) (or_from (is_known known first) (list_any (is_open_beside known first) clause) fresh alone)))
      ]
    ]
  where
    found : Contains clause first × (is_open known first ≡ true)
    found = contains_found (is_open known) clause first is

    only : (one : Lit) → Contains clause one → is_open known one ≡ true → one ≡ lit
    only one i is_free = elim (lits_cases one lit) [
      | inl same ↦ same
      | inr apart ↦ absurd (false≢true (sym (opened known one is_free) ∙ others one i apart))
    ]

-- what is derived is known, where no clause is false or forces anything
closed : (start : List Lit) (clauses : List (List Lit)) (known : List Lit) → ((lit : Lit) → Contains start lit → Contains known lit)
    → ((clause : List Lit) → Contains clauses clause → forced_by known clause ≡ None) → ((clause : List Lit) → Contains clauses clause → is_false known clause ≡ false)
    → (lit : Lit) → Derived start clauses lit → is_known known lit ≡ true
closed start clauses known starts none some lit (given one i) = contains_known known one (starts one i)
closed start clauses known starts none some lit (by_clause clause one among within others) =
    one_at known clause one (find (is_open known) clause) refl (none clause among) (some clause among)
    (λ other i apart. closed start clauses known starts none some (opposite other) (others other i apart))

starts_known : (start : List Lit) (clauses : List (List Lit)) (lit : Lit) → Contains start lit → Contains (forced_from start clauses) lit
starts_known start clauses lit i =
    let grown = sweeps_grow (length clauses) start clauses in
    subst (λ (list : List Lit). Contains list lit) (sym grown.1) (Contains-append_left start grown.0 lit i)

-- what is told is all that is known, and no clause is false by it
told : (start : List Lit) (clauses : List (List Lit)) (lits : List Lit) (b : Bool) → list_any (is_false (forced_from start clauses)) clauses ≡ b
    → ◌≡◌ {A = Option (List Lit)} (if b then None else Some (forced_from start clauses)) (Some lits)
    → (forced_from start clauses ≡ lits) × ((clause : List Lit) → Contains clauses clause → is_false (forced_from start clauses) clause ≡ false)
told start clauses lits true is e = absurd (none-some lits e)
told start clauses lits false is e = (
  same_Some (forced_from start clauses) lits e,
  λ clause i. any_fails (is_false (forced_from start clauses)) clauses clause is i,
)

pub told_derived : (start : List Lit) (clauses : List (List Lit)) (lits : List Lit) → forced start clauses ≡ Some lits → (lit : Lit) → Contains lits lit ↔ Derived start clauses lit
told_derived start clauses lits e lit =
    let parts = told start clauses lits (list_any (is_false (forced_from start clauses)) clauses) refl e in
    subst (λ (list : List Lit). Contains list lit ↔ Derived start clauses lit) parts.0 (
      all_derived start clauses lit,
      λ derived. known_contains (forced_from start clauses) lit
          (closed start clauses (forced_from start clauses) (starts_known start clauses) (none_forced start clauses) parts.1 lit derived),
    )

-- nothing is told where a clause is false
none_told : (start : List Lit) (clauses : List (List Lit)) (b : Bool) → list_any (is_false (forced_from start clauses)) clauses ≡ b
    → ◌≡◌ {A = Option (List Lit)} (if b then None else Some (forced_from start clauses)) None → Conflicts start clauses
none_told start clauses true is e =
    let some = some_passes (is_false (forced_from start clauses)) clauses is in (
      some.0,
      some.1,
      λ lit i. all_derived start clauses (opposite lit) (known_contains (forced_from start clauses) (opposite lit)
          (shut (forced_from start clauses) lit (any_fails (is_open (forced_from start clauses)) some.0 lit (false_any (list_any (is_open (forced_from start clauses)) some.0) some.2) i))),
    )
  where
    false_any : (b : Bool) → not b ≡ true → b ≡ false
    false_any true e = absurd (false≢true e)
    false_any false e = refl
none_told start clauses false is e = absurd (none-some (forced_from start clauses) (sym e))

-- and told where none is
told_where : (start : List Lit) (clauses : List (List Lit)) (b : Bool) → list_any (is_false (forced_from start clauses)) clauses ≡ b → Conflicts start clauses
    → ◌≡◌ {A = Option (List Lit)} (if b then None else Some (forced_from start clauses)) None
told_where start clauses true is conflict = refl
told_where start clauses false is (clause, among, negated) = absurd (false≢true (sym (none_false clause among) ∙ all_shut))
  where
    known : List Lit
    known = forced_from start clauses

    none_false : (one : List Lit) → Contains clauses one → is_false known one ≡ false
    none_false one i = any_fails (is_false known) clauses one is i

    shut_too : (lit : Lit) → Contains clause lit → is_open known lit ≡ false
    shut_too lit i = ap not (closed start clauses known (starts_known start clauses) (none_forced start clauses) none_false (opposite lit) (negated lit i))

    none_open : list_any (is_open known) clause ≡ false
    none_open = elim (cases_Bool (list_any (is_open known) clause)) [
      | inl any ↦ let some = some_passes (is_open known) clause any in absurd (false≢true (sym (shut_too some.0 some.1) ∙ some.2))
      | inr none ↦ none
    ]

    all_shut : is_false known clause ≡ true
    all_shut = ap not none_open

pub told_conflicts : (start : List Lit) (clauses : List (List Lit)) → (forced start clauses ≡ None) ↔ Conflicts start clauses
told_conflicts start clauses = (
  none_told start clauses (list_any (is_false (forced_from start clauses)) clauses) refl,
  told_where start clauses (list_any (is_false (forced_from start clauses)) clauses) refl,
)

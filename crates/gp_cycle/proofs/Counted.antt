-- After as many sweeps as there are clauses none forces anything more: each clause that forces a literal is settled by it.
use Rattle.std.proofs.Common.{ℕ, zero, suc, ◌≡◌, ◌≢◌, ◌+◌, ◌≤◌, refl, ap, sym, ◌∙◌, subst, inl, inr, arith, Bool, true, false, not, List, [], ◌∷◌, ◌++◌, length}
use Rattle.std.specs.Prelude.{◌⊎◌, ◌&&◌, ◌||◌, if◌then◌else◌, Option, None, Some, Contains, count_by, find}
use Rattle.std.specs.List.{list_all, list_any}
use Rattle.std.proofs.Math.Bool.{not-not}
use Rattle.std.proofs.lemmas.Bool.{cases_Bool, false≢true, or_cases, or_left, or_parts, or_right}
use Rattle.std.proofs.lemmas.List.Folds.{list_any-append}
use Rattle.std.proofs.lemmas.Option.{none-some, same_Some}
use Rattle.gp_base.specs.ListLaws.{contains_found, first_or_rest, here, nothing_in, there}
use Rattle.gp_clause.specs.declared.lit.Lit.{Lit}
use Rattle.gp_clause.specs.Lit.{lit_eq, opposite}
use Rattle.gp_clause.specs.LitLaws.{lit_eq_decides, lits_cases}
use Rattle.gp_cycle.specs.Forced.{forced_by, forced_first, forced_from, is_known, is_open, is_open_beside, sweep, sweeps, with_forced}
use Rattle.gp_cycle.proofs.Passing.{all_at, all_count, all_each, any_fails, count_less, count_most}
use Rattle.gp_cycle.proofs.Swept.{stays, sweep_grows}

-- what is known stays known
pub known_more : (known more : List Lit) (lit : Lit) → is_known known lit ≡ true → is_known (known ++ more) lit ≡ true
known_more known more lit is =
    list_any-append (λ (other : Lit). lit_eq other lit) known more ∙ or_left (is_known known lit) (is_known more lit) is

pub last_known : (known : List Lit) (lit : Lit) → is_known (known ++ lit ∷ []) lit ≡ true
last_known known lit =
    list_any-append (λ (other : Lit). lit_eq other lit) known (lit ∷ [])
    ∙ or_right (is_known known lit) (lit_eq lit lit || false) (or_left (lit_eq lit lit) false ((lit_eq_decides lit lit).1 refl))

-- a literal that is not open has a negation that is known
pub shut : (known : List Lit) (lit : Lit) → is_open known lit ≡ false → is_known known (opposite lit) ≡ true
shut known lit fails = sym (not-not (is_known known (opposite lit))) ∙ ap not fails

pub opened : (known : List Lit) (lit : Lit) → is_open known lit ≡ true → is_known known (opposite lit) ≡ false
opened known lit is = sym (not-not (is_known known (opposite lit))) ∙ ap not is

-- what a clause forces is a literal of it that is not known, and the negation of each other one is known
pub record IsForced (known clause : List Lit) (lit : Lit) : Type 0 where
  pub within : Contains clause lit
  pub fresh : is_known known lit ≡ false
  pub others : (other : Lit) → Contains clause other → other ≢ lit → is_known known (opposite other) ≡ true

beside : (a b : Bool) → (a && not b) ≡ false → b ≡ false → a ≡ false
beside true b none apart = absurd (false≢true (sym none ∙ ap not apart))
beside false b none apart = refl

forced_where : (known clause : List Lit) (first lit : Lit) (b : Bool) → (is_known known first || list_any (is_open_beside known first) clause) ≡ b → Contains clause first
    → ◌≡◌ {A = Option Lit} (if b then None else Some first) (Some lit) → IsForced known clause lit
forced_where known clause first lit true is i e = absurd (none-some lit e)
forced_where known clause first lit false is i e =
    subst (IsForced known clause) (same_Some first lit e) (record {
      within = i;
      fresh = parts.0;
      others = λ other j apart.
          shut known other
          (beside (is_open known other) (lit_eq other first) (any_fails (is_open_beside known first) clause other parts.1 j)
          (elim (cases_Bool (lit_eq other first)) [
            | inl same ↦ absurd (apart ((lit_eq_decides other first).0 same))
            | inr differ ↦ differ
          ]));
    })
  where
    parts : (is_known known first ≡ false) × (list_any (is_open_beside known first) clause ≡ false)
    parts = or_parts (is_known known first) (list_any (is_open_beside known first) clause) is

forced_at : (known clause : List Lit) (lit : Lit) (found : Option Lit) → find (is_open known) clause ≡ found → forced_first known clause found ≡ Some lit → IsForced known clause lit
forced_at known clause lit None is e = absurd (none-some lit e)
forced_at known clause lit (Some first) is e =
    forced_where known clause first lit (is_known known first || list_any (is_open_beside known first) clause) refl (contains_found (is_open known) clause first is).0 e

pub forced_is : (known clause : List Lit) (lit : Lit) → forced_by known clause ≡ Some lit → IsForced known clause lit
forced_is known clause lit e = forced_at known clause lit (find (is_open known) clause) refl e

-- a literal is settled where it or its negation is known, and a clause where each of its literals is
abbrev is_settled : List Lit → Lit → Bool
is_settled known lit = is_known known (opposite lit) || is_known known lit

abbrev are_settled : List Lit → List Lit → Bool
are_settled known clause = list_all (is_settled known) clause

settled_more : (known more : List Lit) (lit : Lit) → is_settled known lit ≡ true → is_settled (known ++ more) lit ≡ true
settled_more known more lit settled =
    elim (or_cases (is_known known (opposite lit)) (is_known known lit) settled) [
      | inl against ↦ or_left (is_known (known ++ more) (opposite lit)) (is_known (known ++ more) lit) (known_more known more (opposite lit) against)
      | inr so ↦ or_right (is_known (known ++ more) (opposite lit)) (is_known (known ++ more) lit) (known_more known more lit so)
    ]

clause_more : (known more clause : List Lit) → are_settled known clause ≡ true → are_settled (known ++ more) clause ≡ true
clause_more known more clause settled = all_each (is_settled (known ++ more)) clause (λ lit i. settled_more known more lit (all_at (is_settled known) clause lit settled i))

-- a clause that is settled forces nothing
settled_at : (known clause : List Lit) (found : Option Lit) → find (is_open known) clause ≡ found → are_settled known clause ≡ true → forced_first known clause found ≡ None
settled_at known clause None is settled = refl
settled_at known clause (Some lit) is settled =
    ap (λ b. if b then None else Some lit) (or_left (is_known known lit) (list_any (is_open_beside known lit) clause) so)
  where
    so : is_known known lit ≡ true
    so =
        let found = contains_found (is_open known) clause lit is in
        elim (or_cases (is_known known (opposite lit)) (is_known known lit) (all_at (is_settled known) clause lit settled found.0)) [
          | inl against ↦ absurd (false≢true (sym (opened known lit found.1) ∙ against))
          | inr known_so ↦ known_so
        ]

settled_forces_none : (known clause : List Lit) → are_settled known clause ≡ true → forced_by known clause ≡ None
settled_forces_none known clause settled = settled_at known clause (find (is_open known) clause) refl settled

-- a clause that forces a literal was not settled, and is with it
unsettled : (known clause : List Lit) (lit : Lit) → forced_by known clause ≡ Some lit → are_settled known clause ≡ false
unsettled known clause lit e =
    elim (cases_Bool (are_settled known clause)) [
      | inl settled ↦ absurd (none-some lit (sym (settled_forces_none known clause settled) ∙ e))
      | inr not_so ↦ not_so
    ]

settles : (known clause : List Lit) (lit : Lit) → forced_by known clause ≡ Some lit → are_settled (known ++ lit ∷ []) clause ≡ true
settles known clause lit e = all_each (is_settled longer) clause (λ other i.
    elim (lits_cases other lit) [
      | inl same ↦ or_right (is_known longer (opposite other)) (is_known longer other) (subst (λ (l : Lit). is_known longer l ≡ true) (sym same) (last_known known lit))
      | inr apart ↦
          or_left (is_known longer (opposite other)) (is_known longer other)
          (known_more known (lit ∷ []) (opposite other) ((forced_is known clause lit e).others other i apart))
    ])
  where
    longer : List Lit
    longer = known ++ lit ∷ []

-- how many clauses are settled
abbrev settled_count : List (List Lit) → List Lit → ℕ
settled_count clauses known = count_by (are_settled known) clauses

count_more : (clauses : List (List Lit)) (known more : List Lit) → settled_count clauses known ≤ settled_count clauses (known ++ more)
count_more clauses known more = count_most (are_settled known) (are_settled (known ++ more)) clauses (λ clause settled. clause_more known more clause settled)

-- none of some clauses forces anything
abbrev ForceNone : List Lit → List (List Lit) → Type 0
ForceNone known clauses = (clause : List Lit) → Contains clauses clause → forced_by known clause ≡ None

-- a sweep adds nothing, or settles a clause more
sweep_at : (all : List (List Lit)) (known clause : List Lit) (rest : List (List Lit)) (found : Option Lit) → forced_by known clause ≡ found → Contains all clause
    → ((sweep known rest ≡ known) × ForceNone known rest) ⊎ (settled_count all known + 1 ≤ settled_count all (sweep known rest))
    → ((sweep (with_forced known found) rest ≡ known) × ForceNone known (clause ∷ rest)) ⊎ (settled_count all known + 1 ≤ settled_count all (sweep (with_forced known found) rest))
sweep_at all known clause rest None is i (inl (same, none)) = inl (
  same,
  λ other j.
      elim (first_or_rest clause rest other j) [
        | inl one ↦ ap (forced_by known) (sym one) ∙ is
        | inr more ↦ none other more
      ],
)
sweep_at all known clause rest None is i (inr more) = inr more
sweep_at all known clause rest (Some lit) is i other =
    inr (
    let one = count_less (are_settled known) (are_settled longer) all clause (λ c settled. clause_more known (lit ∷ []) c settled) i (unsettled known clause lit is) (settles known clause lit is) in
    let grown = sweep_grows longer rest in
    let more = count_more all longer grown.0 in
    let end : settled_count all (longer ++ grown.0) ≡ settled_count all (sweep longer rest) = ap (settled_count all) (sym grown.1) in
    omega (arith, one, more, end))
  where
    longer : List Lit
    longer = known ++ lit ∷ []

sweep_cases : (all : List (List Lit)) (known : List Lit) (clauses : List (List Lit)) → ((clause : List Lit) → Contains clauses clause → Contains all clause)
    → ((sweep known clauses ≡ known) × ForceNone known clauses) ⊎ (settled_count all known + 1 ≤ settled_count all (sweep known clauses))
sweep_cases all known [] among = inl (refl, λ clause i. absurd (nothing_in clause i))
sweep_cases all known (clause ∷ clauses) among =
    sweep_at all known clause clauses (forced_by known clause) refl (among clause (here clause clauses))
    (sweep_cases all known clauses (λ other i. among other (there clause clauses other i)))

-- as many sweeps leave nothing to force, or settle as many clauses
sweeps_cases : (rounds : ℕ) (all : List (List Lit)) (known : List Lit) → ForceNone (sweeps rounds known all) all ⊎ (settled_count all known + rounds ≤ settled_count all (sweeps rounds known all))
sweeps_cases zero all known = inr (omega arith)
sweeps_cases (suc rounds) all known =
    elim (sweep_cases all known all (λ clause i. i)) [
      | inl still ↦
          let same : sweeps rounds (sweep known all) all ≡ known = ap (λ (list : List Lit). sweeps rounds list all) still.0 ∙ stays rounds known all still.0 in
          inl (subst (λ (list : List Lit). ForceNone list all) (sym same) still.1)
      | inr one ↦ elim (sweeps_cases rounds all (sweep known all)) [
        | inl none ↦ inl none
        | inr more ↦ inr (omega (arith, one, more))
      ]
    ]

pub none_forced : (start : List Lit) (clauses : List (List Lit)) (clause : List Lit) → Contains clauses clause → forced_by (forced_from start clauses) clause ≡ None
none_forced start clauses clause i =
    elim (sweeps_cases (length clauses) clauses start) [
      | inl none ↦ none clause i
      | inr all ↦
          settled_forces_none known clause
          (all_count (are_settled known) clauses clause (omega (arith, all)) i)
    ]
  where
    known : List Lit
    known = forced_from start clauses

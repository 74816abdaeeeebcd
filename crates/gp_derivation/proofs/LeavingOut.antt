-- What is left of a clause without a literal, and in which order it stands.
use Rattle.std.proofs.Common.{◌≡◌, ℕ, ◌<◌, ◌≤◌, Bool, true, not, List, length, All, Contains, arith, IsPermutation}
use Rattle.std.proofs.lemmas.List.Elements.{All-contains, All-filter, All-contains_itself, filter_passes}
use Rattle.std.proofs.lemmas.List.Sorted.{All-permutation, Contains-permutation, IsPermutation-sym}
use Rattle.gp_clause.specs.declared.edge.Edge.{Edge}
use Rattle.gp_clause.specs.declared.kind.Kind.{Kind}
use Rattle.gp_clause.specs.declared.lit.Lit.{Lit}
use Rattle.gp_clause.specs.Clause.{NamesOnce, NamesTwice, occurrences}
use Rattle.gp_clause.specs.Lit.{lit_eq}
use Rattle.gp_certificate.specs.Step.{Passes}
use Rattle.gp_derivation.specs.Tight.{IsTight, left_out}
use Rattle.gp_base.specs.ListLaws.{all_from_contains}
use Rattle.gp_certificate.specs.PassingLaws.{more_pass}
use Rattle.gp_base.specs.FilterLaws.{contains_filter}

-- whether a literal is another one
abbrev apart : Lit → Lit → Bool
apart lit other = not (lit_eq other lit)

-- what is left out of a list is left out of a longer one, and all else stays
pub left_out_among : (lit : Lit) (longer lits : List Lit) → All (Contains longer) lits → All (Contains (left_out lit longer)) (left_out lit lits)
left_out_among lit longer lits among = all_from_contains (Contains (left_out lit longer)) (left_out lit lits) each
  where
    each : (x : Lit) → Contains (left_out lit lits) x → Contains (left_out lit longer) x
    each x is =
        contains_filter (apart lit) longer x (All-contains (Contains longer) (left_out lit lits) x (All-filter (apart lit) (Contains longer) lits among) is)
        (All-contains (λ y. apart lit y ≡ true) (left_out lit lits) x (filter_passes (apart lit) lits) is)

-- the order of the literals does not matter
pub passes_sorted : (edges : List Edge) (kinds : List Kind) (clauses : List (List Lit)) (lits sorted : List Lit) → IsPermutation lits sorted → Passes edges kinds clauses lits → Passes edges kinds clauses sorted
passes_sorted edges kinds clauses lits sorted moved passes =
    more_pass edges kinds clauses clauses lits sorted (All-contains_itself clauses) (all_from_contains (Contains sorted) lits (λ x is. Contains-permutation lits sorted x moved is))
    (All-permutation (λ (lit : Lit). lit.variable < length kinds) lits sorted moved passes.in_range) passes

pub tight_sorted : (edges : List Edge) (kinds : List Kind) (clauses : List (List Lit)) (lits sorted : List Lit) → IsPermutation lits sorted → Passes edges kinds clauses lits → IsTight edges kinds clauses lits
    → IsTight edges kinds clauses sorted
tight_sorted edges kinds clauses lits sorted moved passes tight lit is shorter =
    let back : IsPermutation sorted lits = IsPermutation-sym lits sorted moved in
    tight lit (Contains-permutation sorted lits lit back is)
    (more_pass edges kinds clauses clauses (left_out lit sorted) (left_out lit lits) (All-contains_itself clauses)
    (left_out_among lit lits sorted (all_from_contains (Contains lits) sorted (λ x has. Contains-permutation sorted lits x back has)))
    (All-filter (λ other. not (lit_eq other lit)) (λ lit. lit.variable < length kinds) lits passes.in_range) shorter)

-- what stands once does not stand twice
pub not_twice : (lits : List Lit) → NamesOnce lits → NamesTwice lits → ⊥
not_twice lits once (variable, twice) = two_in_one (occurrences variable lits) twice (once variable)
  where
    two_in_one : (n : ℕ) → 2 ≤ n → n ≤ 1 → ⊥
    two_in_one n more less = omega arith

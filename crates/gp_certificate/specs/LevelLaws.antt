-- Laws: levels of a bench that are made and taken back, and how many variables literals may have.
use Rattle.std.proofs.Common.{◌≡◌, ℕ, ◌+◌, ◌-◌, ◌<◌, ◌≤◌, true, false, ◌==◌, cond, List, [], ◌∷◌, ◌++◌, length, take, map, get_or, Any, ap, sym, ◌∙◌, arith}
use Rattle.std.specs.List.{list_any}
use Rattle.std.proofs.lemmas.Bool.{eqb-true}
use Rattle.std.proofs.lemmas.Bool.Decides.{nat_tests}
use Rattle.std.proofs.lemmas.List.{append-nil, length-map, length_push, take_at, get_or-map}
use Rattle.std.proofs.lemmas.List.Concat.{flat_map-append}
use Rattle.std.proofs.lemmas.List.Folds.{Any-from_list_any}
use Rattle.std.proofs.lemmas.List.Sums.{sum_by-append}
use Rattle.std.proofs.lemmas.Map.Keys.{IsDistinct-from_apart}
use Rattle.std.proofs.lemmas.Map.Steps.{length-le_from_distinct_below}
use Rattle.gp_base.specs.CountLaws.{twice_from_places}
use Rattle.gp_clause.specs.declared.lit.Lit.{Lit}
use Rattle.gp_clause.specs.Clause.{NamesBelow, NamesOnce, occurrences}
use Rattle.gp_certificate.specs.Bench.{BenchForm}
use Rattle.gp_certificate.specs.ClauseList.{joined}

-- no more literals of different variables than there are variables
pub few_names : (count : ℕ) (lits : List Lit) → NamesOnce lits → NamesBelow count lits → length lits ≤ count
few_names count lits once below =
    let names : List ℕ = map (λ (l : Lit). l.variable) lits in
    let few : length names ≤ count = length-le_from_distinct_below names count (IsDistinct-from_apart (λ m n. m == n) names apart) inside in
    omega (arith, few, length-map lits (λ (l : Lit). l.variable))
  where
    twice : (n : ℕ) → 2 ≤ n → n ≤ 1 → ⊥
    twice n more less = omega arith

    no_lit : Lit
    no_lit = record { variable = 0; positive = false }

    apart : (i j d : ℕ) → i < j → j < length (map (λ (l : Lit). l.variable) lits) → (get_or (map (λ (l : Lit). l.variable) lits) i d == get_or (map (λ (l : Lit). l.variable) lits) j d) ≡ false
    apart i j d before within =
        let short : j < length lits = omega (arith, within, length-map lits (λ (l : Lit). l.variable)) in
        let first : get_or (map (λ (l : Lit). l.variable) lits) i d ≡ (get_or lits i no_lit).variable = get_or-map (λ (l : Lit). l.variable) lits i no_lit d (omega (arith, before, short)) in
        let second : get_or (map (λ (l : Lit). l.variable) lits) j d ≡ (get_or lits j no_lit).variable = get_or-map (λ (l : Lit). l.variable) lits j no_lit d short in
        let differ : (get_or (map (λ (l : Lit). l.variable) lits) i d ≡ get_or (map (λ (l : Lit). l.variable) lits) j d) → ⊥ = λ same.
        twice (occurrences (get_or lits j no_lit).variable lits) (twice_from_places (λ (l : Lit). l.variable) lits i j no_lit before short (sym first ∙ same ∙ second)) (once (get_or lits j no_lit).variable) in
        unlike (get_or (map (λ (l : Lit). l.variable) lits) i d) (get_or (map (λ (l : Lit). l.variable) lits) j d) differ
      where
        unlike : (m n : ℕ) → (m ≡ n → ⊥) → (m == n) ≡ false
        unlike m n differ = grind (arith, nat_tests)

    inside : (q : ℕ) → list_any (λ n. q == n) (map (λ (l : Lit). l.variable) lits) ≡ true → q < count
    inside q has = at (Any-from_list_any (λ n. q == n) (map (λ (l : Lit). l.variable) lits) has)
      where
        at : Any (λ n. (q == n) ≡ true) (map (λ (l : Lit). l.variable) lits) → q < count
        at (k, n, within, is, same) =
            let short : k < length lits = omega (arith, within, length-map lits (λ (l : Lit). l.variable)) in
            let named : get_or (map (λ (l : Lit). l.variable) lits) k n ≡ (get_or lits k no_lit).variable = get_or-map (λ (l : Lit). l.variable) lits k no_lit n short in
            omega (arith, below k no_lit short, named, is, eqb-true q n same)

-- how often a variable stands in some literals and in some more
pub occurs_append : (variable : ℕ) (lits more : List Lit) → occurrences variable (lits ++ more) ≡ occurrences variable lits + occurrences variable more
occurs_append variable lits more = sum_by-append (λ (l : Lit). cond {A = ℕ} (l.variable == variable) 1 0) lits more

-- one more level
pub joined_more : (lists : List (List Lit)) (lits : List Lit) → joined (lists ++ lits ∷ []) ≡ joined lists ++ lits
joined_more lists lits = flat_map-append (λ (ls : List Lit). ls) lists (lits ∷ []) ∙ ap (λ ls. joined lists ++ ls) (append-nil lits)

-- a bench whose innermost level was made and taken back is as before
pub back_again : (old deeper back : BenchForm) (lits : List Lit) → deeper ≡ record old { assumed = old.assumed ++ lits ∷ [] }
    → back ≡ record deeper { assumed = take (length deeper.assumed - 1) deeper.assumed } → back ≡ old
back_again old deeper back lits made taken =
    let lists : deeper.assumed ≡ old.assumed ++ lits ∷ [] = ap (λ (b : BenchForm). b.assumed) made in
    let size : length old.assumed ≡ length deeper.assumed - 1 = omega (arith, ap (λ (ls : List (List Lit)). length ls) lists, length_push old.assumed lits) in
    let first : take (length deeper.assumed - 1) deeper.assumed ≡ old.assumed = ap (take (length deeper.assumed - 1)) lists ∙ take_at old.assumed (lits ∷ []) (length deeper.assumed - 1) size in
    taken ∙ ap (λ (b : BenchForm). record b { assumed = take (length deeper.assumed - 1) deeper.assumed }) made ∙ ap (λ (ls : List (List Lit)). record old { assumed = ls }) first

-- The variables of a numbered clause rise, where no symbol has both signs in it.
use Rattle.std.proofs.Common.{ℕ, zero, suc, ◌≡◌, ◌<◌, ◌+◌, ap, sym, ◌∙◌, refl, subst, inl, inr, List, [], ◌∷◌, arith, length, get_or, drop}
use Rattle.std.specs.Prelude.{nat_lt, Contains}
use Rattle.std.specs.List.{AllByRecursion}
use Rattle.std.proofs.lemmas.Bool.{cases_Bool, cases_order, false≢true, lt-ltb, ltb-true}
use Rattle.std.proofs.lemmas.List.Elements.{All-from_recursion}
use Rattle.gp_clause.specs.declared.lit.Lit.{Lit}
use Rattle.gp_clause.specs.Clause.{IsRising}
use Rattle.gp_clause.specs.Lit.{lit_eq}
use Rattle.gp_clause.specs.LitLaws.{lit_eq_decides}
use Rattle.gp_constraint.specs.declared.symbol.Symbol.{Symbol}
use Rattle.gp_constraint.specs.declared.symbol.SymbolicLit.{SymbolicLit}
use Rattle.gp_base.specs.ListLaws.{first_or_rest, here, nothing_in, Pairwise, recursion_at, recursion_from_each, there}
use Rattle.gp_constraint.specs.Numbering.{lits_onto, number_of, numbered_lit, with_lit, with_mention}
use Rattle.gp_constraint.specs.Signed.{Agree, AreSigned}
use Rattle.gp_constraint.specs.Symbols.{symbol_eq}
use Rattle.gp_constraint.proofs.Names.{after_first, has_kept, has_with, mention, number_stays, number_within, Stems, symbol_same}
use Rattle.gp_constraint.proofs.Once.{number_apart}

abbrev Less : Lit → Lit → Type 0
Less l m = l.variable < m.variable

lits_same : (l m : Lit) → l.variable ≡ m.variable → l.positive ≡ m.positive → l ≡ m
lits_same l m variables signs = λ i. record { variable = variables i; positive = signs i }

later_less : (l head : Lit) (rest : List Lit) → l.variable < head.variable → AllByRecursion (Less head) rest → AllByRecursion (Less l) rest
later_less l head [] less h = tt
later_less l head (next ∷ rest) less h = let above = h.0 in (omega (arith, less, above), later_less l head rest less h.1)

with_rises : (lit : Lit) (lits : List Lit) → Pairwise Less lits → ((l : Lit) → Contains lits l → l.variable ≡ lit.variable → l.positive ≡ lit.positive)
    → Pairwise Less (with_lit lits lit)
with_rises lit [] rises signs = (tt, tt)
with_rises lit (head ∷ rest) rises signs =
    elim (cases_Bool (nat_lt lit.variable head.variable)) [
      | inl less ↦
          let below : lit.variable < head.variable = ltb-true lit.variable head.variable less in
          let placed : Pairwise Less (lit ∷ head ∷ rest) = ((below, later_less lit head rest below rises.0), rises) in
          rw less placed
      | inr more ↦ elim (cases_Bool (lit_eq lit head)) [
        | inl same ↦ rw (more, same) rises
        | inr differ ↦
            let above : head.variable < lit.variable = elim (cases_order head.variable lit.variable) [
              | inl alike ↦
                  let is : lit ≡ head = sym (lits_same head lit alike (signs head (here _ _) alike)) in
                  absurd (false≢true (sym differ ∙ (lit_eq_decides lit head).1 is))
              | inr (inl low) ↦ low
              | inr (inr high) ↦ absurd (false≢true (sym more ∙ lt-ltb lit.variable head.variable high))
            ] in
            let placed : Pairwise Less (head ∷ with_lit rest lit) = (
              recursion_from_each (Less head) (with_lit rest lit) (λ m i. elim (has_with m lit rest i) [
                | inl is ↦ subst (Less head) is above
                | inr old ↦ recursion_at (Less head) rest m rises.0 old
              ]),
              with_rises lit rest rises.1 (λ l i. signs l (there _ _ _ i)),
            ) in
            rw (more, differ) placed
      ]
    ]

-- a symbol that has a number below the number of names is one of them
number_has : (s : Symbol) (names : List Symbol) → number_of names s < length names → Contains names s
number_has s [] below = absurd (omega (arith, below))
number_has s (name ∷ names) below =
    elim (cases_Bool (symbol_eq s name)) [
      | inl same ↦ (0, omega arith, sym (symbol_same s name same))
      | inr differ ↦
          let after = after_first s name names differ in
          there _ _ _ (number_has s names (omega (arith, below, after)))
    ]

onto_rises : (all : List (SymbolicLit)) (done : List Lit) (names : List Symbol) (lits : List (SymbolicLit))
    → ((l m : SymbolicLit) → Contains all l → Contains all m → Agree l m) → ((lit : SymbolicLit) → Contains lits lit → Contains all lit)
    → Pairwise Less done → ((l : Lit) → Contains done l → Stems names all l) → Pairwise Less (lits_onto done names lits)
onto_rises all done names [] agree inside rises stems = rises
onto_rises all done names (lit ∷ lits) agree inside rises stems =
    let m = mention names lit.symbol in
    let new : Lit = numbered_lit names lit in
    let next : List Symbol = with_mention names lit.symbol in
    let own = inside lit (here _ _) in
    onto_rises all (with_lit done new) next lits agree (λ l i. inside l (there _ _ _ i))
    (with_rises new done rises (λ l i same.
    let s = stems l i in
    let number : number_of names s.lit.symbol ≡ number_of names lit.symbol = ap (λ (k : Lit). k.variable) s.is ∙ same in
    let within = number_within s.lit.symbol names s.named in
    let named = number_has lit.symbol names (omega (arith, number, within)) in
    sym (ap (λ (k : Lit). k.positive) s.is) ∙ agree s.lit lit s.own own (number_apart names s.lit.symbol lit.symbol s.named named number)))
    (λ l i. elim (has_with l new done i) [
      | inl is ↦ record { lit = lit; own = own; named = m.there; is = lits_same (numbered_lit next lit) new m.number refl ∙ is }
      | inr old ↦
          let s = stems l old in
          let stays : number_of next s.lit.symbol ≡ number_of names s.lit.symbol = number_stays s.lit.symbol names next m.grows s.named in
          record {
            lit = s.lit;
            own = s.own;
            named = has_kept s.lit.symbol names next m.grows s.named;
            is = lits_same (numbered_lit next s.lit) (numbered_lit names s.lit) stays refl ∙ s.is;
          }
    ])

-- where each two literals agree, in order, all do
pub pairs_agree : (lits : List (SymbolicLit)) → Pairwise Agree lits → (l m : SymbolicLit) → Contains lits l → Contains lits m → Agree l m
pairs_agree [] h l m i j = absurd (nothing_in _ i)
pairs_agree (lit ∷ lits) h l m i j =
    elim (first_or_rest _ _ _ i) [
      | inl one ↦
          elim (first_or_rest _ _ _ j) [
            | inl other ↦ λ same. sym (ap (λ (k : SymbolicLit). k.positive) one) ∙ ap (λ (k : SymbolicLit). k.positive) other
            | inr j ↦ subst (λ k. Agree k m) one (recursion_at (Agree lit) lits m h.0 j)
          ]
      | inr i ↦
          elim (first_or_rest _ _ _ j) [
            | inl other ↦ λ same.
                let turned = recursion_at (Agree lit) lits l h.0 i in
                sym (turned (ap (λ (k : SymbolicLit). k.symbol) other ∙ sym same)) ∙ ap (λ (k : SymbolicLit). k.positive) other
            | inr j ↦ pairs_agree lits h.1 l m i j
          ]
    ]

pub clause_rises : (names : List Symbol) (lits : List (SymbolicLit)) → Pairwise Agree lits → Pairwise Less (lits_onto [] names lits)
clause_rises names lits h = onto_rises lits [] names lits (pairs_agree lits h) (λ lit i. i) tt (λ l i. absurd (nothing_in _ i))

-- by std's words
rising_at : (lits : List Lit) → Pairwise Less lits → (k n : ℕ) (d : Lit) → k < n → n < length lits → (get_or lits k d).variable < (get_or lits n d).variable
rising_at [] h k n d less below = absurd (omega (arith, below))
rising_at (l ∷ lits) h zero zero d less below = absurd (omega (arith, less))
rising_at (l ∷ lits) h zero (suc n) d less below = All-from_recursion (Less l) lits h.0 n d (omega (arith, below))
rising_at (l ∷ lits) h (suc k) zero d less below = absurd (omega (arith, less))
rising_at (l ∷ lits) h (suc k) (suc n) d less below = rising_at lits h.1 k n d (omega (arith, less)) (omega (arith, below))

pub rising_from : (lits : List Lit) → Pairwise Less lits → IsRising lits
rising_from lits h k d below = rising_at lits h k (k + 1) d (omega arith) below

-- the next of clauses in which no symbol has both signs
pub signed_head : (clauses : List (List SymbolicLit)) (i : ℕ) (d : List SymbolicLit) → i < length clauses → AreSigned (drop i clauses) → Pairwise Agree (get_or clauses i d)
signed_head [] i d below h = absurd (omega (arith, below))
signed_head (clause ∷ clauses) zero d below h = h.0
signed_head (clause ∷ clauses) (suc i) d below h = signed_head clauses i d (omega (arith, below)) h

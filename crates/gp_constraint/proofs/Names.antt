-- Numbers of symbols: a symbol keeps its number, and a literal of a numbered clause is one of the clause.
use Rattle.std.proofs.Common.{ℕ, zero, suc, ◌≡◌, ◌⊎◌, ◌<◌, ◌+◌, ap, sym, ◌∙◌, refl, subst, inl, inr, List, [], ◌∷◌, ◌++◌, Bool, true, false, arith, eq-eqb, eqb-true, length, length-append}
use Rattle.std.specs.Prelude.{Some, slice_get, ◌==◌, ◌&&◌, if◌then◌else◌, nat_lt, map, drop, Contains}
use Rattle.std.specs.List.{list_any}
use Rattle.std.proofs.lemmas.Bool.{and_from, and_parts, cases_Bool, cases_eq, false≢true, ne_eqb}
use Rattle.std.proofs.lemmas.List.Elements.{Contains-append_left, Contains-append_right, Contains-append_cases, Contains-push}
use Rattle.std.proofs.Math.Seq.{drop-append_seam}
use Rattle.std.proofs.lemmas.List.{map-append}
use Rattle.gp_base.specs.ListLaws.{first_or_rest, here, nothing_in, there}
use Rattle.gp_clause.specs.declared.lit.Lit.{Lit}
use Rattle.gp_clause.specs.Lit.{lit_eq}
use Rattle.gp_constraint.specs.declared.symbol.Symbol.{Symbol}
use Rattle.gp_constraint.specs.declared.symbol.Symbol.TheVariants.{Executed, Order, Choice, StartChoice, First, Last, Signal, Span}
use Rattle.gp_constraint.specs.declared.symbol.SymbolicLit.{SymbolicLit}
pub use Rattle.gp_constraint.specs.GrowthLaws.{after_grows, Grows, grows_none, grows_on, of_grows}
use Rattle.gp_constraint.specs.Numbering.{lits_onto, names_after, number_of, numbered_lit, point_names, with_lit, with_mention, with_mentions}
use Rattle.gp_constraint.specs.Symbols.{kind_of, symbol_eq}

-- symbols
pub symbol_same : (a b : Symbol) → symbol_eq a b ≡ true → a ≡ b
symbol_same (Executed a) (Executed b) e = ap Executed (eqb-true a b e)
symbol_same (Order a b) (Order c d) e = let p = and_parts (a == c) (b == d) e in ap (λ n. Order n b) (eqb-true a c p.0) ∙ ap (Order c) (eqb-true b d p.1)
symbol_same (Choice a b) (Choice c d) e = let p = and_parts (a == c) (b == d) e in ap (λ n. Choice n b) (eqb-true a c p.0) ∙ ap (Choice c) (eqb-true b d p.1)
symbol_same (StartChoice a) (StartChoice b) e = ap StartChoice (eqb-true a b e)
symbol_same (First a b) (First c d) e = let p = and_parts (a == c) (b == d) e in ap (λ n. First n b) (eqb-true a c p.0) ∙ ap (First c) (eqb-true b d p.1)
symbol_same (Last a) (Last b) e = ap Last (eqb-true a b e)
symbol_same (Signal a b) (Signal c d) e = let p = and_parts (a == c) (b == d) e in ap (λ n. Signal n b) (eqb-true a c p.0) ∙ ap (Signal c) (eqb-true b d p.1)
symbol_same (Span a b c) (Span d f g) e =
    let p = and_parts (a == d) (b == f && c == g) e in
    let q = and_parts (b == f) (c == g) p.1 in
    ap (λ n. Span n b c) (eqb-true a d p.0) ∙ ap (λ n. Span d n c) (eqb-true b f q.0) ∙ ap (Span d f) (eqb-true c g q.1)
symbol_same _ _ e = absurd cc

pub symbol_itself : (a : Symbol) → symbol_eq a a ≡ true
symbol_itself (Executed a) = eq-eqb a a refl
symbol_itself (Order a b) = and_from (a == a) (b == b) (eq-eqb a a refl) (eq-eqb b b refl)
symbol_itself (Choice a b) = and_from (a == a) (b == b) (eq-eqb a a refl) (eq-eqb b b refl)
symbol_itself (StartChoice a) = eq-eqb a a refl
symbol_itself (First a b) = and_from (a == a) (b == b) (eq-eqb a a refl) (eq-eqb b b refl)
symbol_itself (Last a) = eq-eqb a a refl
symbol_itself (Signal a b) = and_from (a == a) (b == b) (eq-eqb a a refl) (eq-eqb b b refl)
symbol_itself (Span a b c) = and_from (a == a) (b == b && c == c) (eq-eqb a a refl) (and_from (b == b) (c == c) (eq-eqb b b refl) (eq-eqb c c refl))

at_first : (s name : Symbol) (names : List Symbol) → symbol_eq s name ≡ true → number_of (name ∷ names) s ≡ 0
at_first s name names e = rw e refl

pub after_first : (s name : Symbol) (names : List Symbol) → symbol_eq s name ≡ false → number_of (name ∷ names) s ≡ suc (number_of names s)
after_first s name names e =
    let step : number_of (name ∷ names) s ≡ 1 + number_of names s = rw e refl in
    omega (arith, step)

pub later_has : (s name : Symbol) (names : List Symbol) → symbol_eq s name ≡ false → Contains (name ∷ names) s → Contains names s
later_has s name names e i =
    elim (first_or_rest _ _ _ i) [
      | inl same ↦ absurd (false≢true (sym e ∙ subst (λ n. symbol_eq s n ≡ true) (sym same) (symbol_itself s)))
      | inr i ↦ i
    ]

-- a symbol stands at its number
pub name_there : (s : Symbol) (names : List Symbol) → Contains names s → slice_get names (number_of names s) ≡ Some s
name_there s [] i = absurd (nothing_in _ i)
name_there s (name ∷ names) i =
    elim (cases_Bool (symbol_eq s name)) [
      | inl same ↦ rw (at_first s name names same) (ap Some (sym (symbol_same s name same)))
      | inr differ ↦ rw (after_first s name names differ) (name_there s names (later_has s name names differ i))
    ]

pub number_within : (s : Symbol) (names : List Symbol) → Contains names s → number_of names s < length names
number_within s [] i = absurd (nothing_in _ i)
number_within s (name ∷ names) i =
    elim (cases_Bool (symbol_eq s name)) [
      | inl same ↦ let here = at_first s name names same in omega (arith, here)
      | inr differ ↦
          let there = after_first s name names differ in
          let rest = number_within s names (later_has s name names differ i) in
          omega (arith, there, rest)
    ]

number_kept : (s : Symbol) (names more : List Symbol) → Contains names s → number_of (names ++ more) s ≡ number_of names s
number_kept s [] more i = absurd (nothing_in _ i)
number_kept s (name ∷ names) more i =
    elim (cases_Bool (symbol_eq s name)) [
      | inl same ↦ at_first s name (names ++ more) same ∙ sym (at_first s name names same)
      | inr differ ↦
          after_first s name (names ++ more) differ ∙ ap suc (number_kept s names more (later_has s name names differ i))
          ∙ sym (after_first s name names differ)
    ]

number_pushed : (s : Symbol) (names : List Symbol) → number_of (names ++ s ∷ []) s ≡ number_of names s
number_pushed s [] = at_first s s [] (symbol_itself s)
number_pushed s (name ∷ names) =
    elim (cases_Bool (symbol_eq s name)) [
      | inl same ↦ at_first s name (names ++ s ∷ []) same ∙ sym (at_first s name names same)
      | inr differ ↦ after_first s name (names ++ s ∷ []) differ ∙ ap suc (number_pushed s names) ∙ sym (after_first s name names differ)
    ]

pub any_has : (s : Symbol) (names : List Symbol) → list_any (symbol_eq s) names ≡ true → Contains names s
any_has s [] e = cc
any_has s (name ∷ names) e =
    elim (cases_Bool (symbol_eq s name)) [
      | inl same ↦ (0, omega arith, sym (symbol_same s name same))
      | inr differ ↦ there _ _ _ (any_has s names (rw differ at e))
    ]

-- what stands in names stands in those that they grow to, at the same number
pub has_kept : (s : Symbol) (names more : List Symbol) → Grows names more → Contains names s → Contains more s
has_kept s names more g i = subst (λ ns. Contains ns s) (sym g.is) (Contains-append_left names g.rest s i)

pub number_stays : (s : Symbol) (names more : List Symbol) → Grows names more → Contains names s → number_of more s ≡ number_of names s
number_stays s names more g i = ap (λ ns. number_of ns s) g.is ∙ number_kept s names g.rest i

-- what a mention does
pub record Mentioned (names : List Symbol) (s : Symbol) (after : List Symbol) : Type 0 where
  pub grows : Grows names after
  pub there : Contains after s
  pub number : number_of after s ≡ number_of names s

pub mention : (names : List Symbol) (s : Symbol) → Mentioned names s (with_mention names s)
mention names s =
    elim (cases_Bool (list_any (symbol_eq s) names)) [
      | inl old ↦
          let same : with_mention names s ≡ names = rw old refl in
          subst (λ ns. Mentioned names s ns) (sym same) (record { grows = grows_none names; there = any_has s names old; number = refl })
      | inr new ↦
          let same : with_mention names s ≡ names ++ s ∷ [] = rw new refl in
          subst (λ ns. Mentioned names s ns) (sym same)
          (record { grows = record { rest = s ∷ []; is = refl }; there = Contains-push names s; number = number_pushed s names })
    ]

pub mentions_grow : (names symbols : List Symbol) → Grows names (with_mentions names symbols)
mentions_grow names [] = grows_none names
mentions_grow names (s ∷ symbols) =
    grows_on names (with_mention names s) (with_mentions (with_mention names s) symbols) (mention names s).grows (mentions_grow (with_mention names s) symbols)

-- each symbol that is mentioned is a name
pub mentions_have : (s : Symbol) (names symbols : List Symbol) → Contains symbols s → Contains (with_mentions names symbols) s
mentions_have s names [] i = absurd (nothing_in _ i)
mentions_have s names (first ∷ symbols) i =
    elim (first_or_rest _ _ _ i) [
      | inl same ↦
          has_kept s (with_mention names first) (with_mentions (with_mention names first) symbols) (mentions_grow (with_mention names first) symbols)
          (subst (λ n. Contains (with_mention names first) n) same (mention names first).there)
      | inr i ↦ mentions_have s (with_mention names first) symbols i
    ]

-- a literal of a clause is one that was put there
pub has_with : (l lit : Lit) (lits : List Lit) → Contains (with_lit lits lit) l → (lit ≡ l) ⊎ Contains lits l
has_with l lit [] i =
    elim (first_or_rest _ [] _ i) [
      | inl same ↦ inl same
      | inr none ↦ absurd (nothing_in _ none)
    ]
has_with l lit (head ∷ rest) i =
    elim (cases_Bool (nat_lt lit.variable head.variable)) [
      | inl less ↦ (let told : Contains (lit ∷ head ∷ rest) l = rw less at i in first_or_rest _ (head ∷ rest) _ told)
      | inr more ↦
          let told : Contains (if lit_eq lit head then head ∷ rest else head ∷ with_lit rest lit) l = rw more at i in
          elim (cases_Bool (lit_eq lit head)) [
            | inl same ↦ (let kept : Contains (head ∷ rest) l = rw same at told in inr kept)
            | inr differ ↦
                let kept : Contains (head ∷ with_lit rest lit) l = rw differ at told in
                elim (first_or_rest _ _ _ kept) [
                  | inl same ↦ inr (0, omega arith, same)
                  | inr later ↦ elim (has_with l lit rest later) [
                    | inl is ↦ inl is
                    | inr old ↦ inr (there _ _ _ old)
                  ]
                ]
          ]
    ]

-- a literal of a numbered clause is one of the clause, with the number that its symbol has in the end
pub record Stems (final : List Symbol) (lits : List SymbolicLit) (l : Lit) : Type 0 where
  pub lit : SymbolicLit
  pub own : Contains lits lit
  pub named : Contains final lit.symbol
  pub is : numbered_lit final lit ≡ l

pub with_variable : (n m : ℕ) (positive : Bool) → n ≡ m → ◌≡◌ {A = Lit} (record { variable = n; positive = positive }) (record { variable = m; positive = positive })
with_variable n m positive same = λ i. record { variable = same i; positive = positive }

pub onto_stems : (final : List Symbol) (l : Lit) (done : List Lit) (names : List Symbol) (lits : List SymbolicLit) → Grows (names_after names lits) final
    → Contains (lits_onto done names lits) l → Contains done l ⊎ Stems final lits l
onto_stems final l done names [] g i = inl i
onto_stems final l done names (lit ∷ lits) g i =
    let next : List Symbol = with_mention names lit.symbol in
    elim (onto_stems final l (with_lit done (numbered_lit names lit)) next lits g i) [
      | inr s ↦ inr (record { lit = s.lit; own = there _ _ _ s.own; named = s.named; is = s.is })
      | inl before ↦ elim (has_with l (numbered_lit names lit) done before) [
        | inr old ↦ inl old
        | inl is ↦
            let m = mention names lit.symbol in
            let grown : Grows next final = grows_on next (names_after next lits) final (after_grows next lits) g in
            let same : number_of final lit.symbol ≡ number_of names lit.symbol = number_stays lit.symbol next final grown m.there ∙ m.number in
            inr (record {
              lit = lit;
              own = here _ _;
              named = has_kept lit.symbol next final grown m.there;
              is = with_variable (number_of final lit.symbol) (number_of names lit.symbol) lit.positive same ∙ is;
            })
      ]
    ]

-- the kinds of names
pub kind_there : (names : List Symbol) (k : ℕ) (s : Symbol) → slice_get names k ≡ Some s → slice_get (map kind_of names) k ≡ Some (kind_of s)
kind_there [] k s e = cc
kind_there (name ∷ names) zero s e = let same : name ≡ s = cc in ap (λ n. Some (kind_of n)) same
kind_there (name ∷ names) (suc k) s e = kind_there names k s e

-- the kinds of the first names and of those after them are those of all
pub all_kinds : (names more : List Symbol) → Grows names more → map kind_of names ++ map kind_of (drop (length names) more) ≡ map kind_of more
all_kinds names more g =
    let rest : drop (length names) more ≡ g.rest = ap (drop (length names)) g.is ∙ drop-append_seam names g.rest in
    ap (λ ns. map kind_of names ++ map kind_of ns) rest ∙ sym (map-append kind_of names g.rest) ∙ ap (map kind_of) (sym g.is)

-- each point has a name, at its own number
pub point_named : (k n : ℕ) → k < n → Contains (point_names n) (Executed k)
point_named k zero less = absurd (omega (arith, less))
point_named k (suc n) less =
    elim (cases_eq n k) [
      | inl same ↦ Contains-append_right (point_names n) (Executed n ∷ []) (Executed k) (0, omega arith, ap Executed same)
      | inr apart ↦ Contains-append_left (point_names n) (Executed n ∷ []) (Executed k) (point_named k n (omega arith))
    ]

pub size_names : (n : ℕ) → length (point_names n) ≡ n
size_names zero = refl
size_names (suc n) =
    let rest = size_names n in
    let joined = length-append (point_names n) (Executed n ∷ []) in
    omega (arith, rest, joined)

new_name : (s : Symbol) (names : List Symbol) → ((name : Symbol) → Contains names name → symbol_eq s name ≡ false) → number_of (names ++ s ∷ []) s ≡ length names
new_name s [] new = at_first s s [] (symbol_itself s)
new_name s (name ∷ names) new =
    let step = after_first s name (names ++ s ∷ []) (new name (here _ _)) in
    let rest = new_name s names (λ other i. new other (there _ _ _ i)) in
    omega (arith, step, rest)

points_below : (n : ℕ) (name : Symbol) → Contains (point_names n) name → (k : ℕ) × (k < n) × (name ≡ Executed k)
points_below zero name i = absurd (nothing_in _ i)
points_below (suc n) name i =
    elim (Contains-append_cases (point_names n) (Executed n ∷ []) name i) [
      | inl early ↦ let rest = points_below n name early in let less = rest.1 in (rest.0, omega (arith, less), rest.2)
      | inr last ↦ elim (first_or_rest _ [] _ last) [
        | inl same ↦ (n, omega arith, sym same)
        | inr none ↦ absurd (nothing_in _ none)
      ]
    ]

pub point_number : (k n : ℕ) → k < n → number_of (point_names n) (Executed k) ≡ k
point_number k zero less = absurd (omega (arith, less))
point_number k (suc n) less =
    elim (cases_eq n k) [
      | inl same ↦
          let new = new_name (Executed n) (point_names n) (λ name i.
          let p = points_below n name i in
          let below = p.1 in
          let apart : (n == p.0) ≡ false = ne_eqb n p.0 (λ e. absurd (omega (arith, e, below))) in
          subst (λ (s : Symbol). symbol_eq (Executed n) s ≡ false) (sym p.2) apart) in
          let size = size_names n in
          let here : number_of (point_names (suc n)) (Executed n) ≡ n = new ∙ size in
          subst (λ (m : ℕ). number_of (point_names (suc n)) (Executed m) ≡ m) same here
      | inr apart ↦
          let below : k < n = omega arith in
          number_kept (Executed k) (point_names n) (Executed n ∷ []) (point_named k n below) ∙ point_number k n below
    ]

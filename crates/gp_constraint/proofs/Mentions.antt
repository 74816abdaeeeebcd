-- Mentions one list after another, and names in two parts.
use Rattle.std.proofs.Common.{ℕ, ◌≡◌, ◌+◌, ◌<◌, ◌≤◌, sym, ◌∙◌, refl, inl, inr, List, [], ◌∷◌, ◌++◌, Bool, true, false, arith, length, append_assoc}
use Rattle.std.specs.Prelude.{Option, Some, None, nat_lt, position}
use Rattle.std.specs.List.{list_any}
use Rattle.std.proofs.lemmas.Bool.{cases_Bool, ltb-false, ltb-true}
use Rattle.gp_constraint.specs.declared.symbol.Symbol.{Symbol}
use Rattle.gp_constraint.specs.Numbering.{number_of, with_mention, with_mentions}
use Rattle.gp_constraint.specs.Symbols.{symbol_eq}
use Rattle.gp_constraint.proofs.Names.{after_first}

pub mentions_append : (names symbols more : List Symbol) → with_mentions names (symbols ++ more) ≡ with_mentions (with_mentions names symbols) more
mentions_append names [] more = refl
mentions_append names (symbol ∷ symbols) more = mentions_append (with_mention names symbol) symbols more

-- a symbol of the first part, or of none
number_first : (s name : Symbol) (names : List Symbol) → symbol_eq s name ≡ true → number_of (name ∷ names) s ≡ 0
number_first s name names e = rw e refl

-- a symbol of the first names keeps its number, and is among them
pub number_here : (names more : List Symbol) (s : Symbol) → number_of names s < length names → number_of (names ++ more) s ≡ number_of names s
number_here [] more s below = absurd (omega (arith, below))
number_here (name ∷ names) more s below =
    elim (cases_Bool (symbol_eq s name)) [
      | inl same ↦ number_first s name (names ++ more) same ∙ sym (number_first s name names same)
      | inr differ ↦
          (let here = after_first s name names differ in
          let whole = after_first s name (names ++ more) differ in
          let rest = number_here names more s (omega (arith, here, below)) in
          omega (arith, here, whole, rest))
    ]

-- any other symbol has the number that it has among those after them, and comes after all of the first
pub number_after : (names more : List Symbol) (s : Symbol) → length names ≤ number_of names s → number_of (names ++ more) s ≡ length names + number_of more s
number_after [] more s past = omega arith
number_after (name ∷ names) more s past =
    elim (cases_Bool (symbol_eq s name)) [
      | inl same ↦ (let here = number_first s name names same in absurd (omega (arith, here, past)))
      | inr differ ↦
          (let here = after_first s name names differ in
          let whole = after_first s name (names ++ more) differ in
          let rest = number_after names more s (omega (arith, here, past)) in
          omega (arith, whole, rest))
    ]

pub number_most : (names : List Symbol) (s : Symbol) → number_of names s ≤ length names
number_most [] s = omega arith
number_most (name ∷ names) s =
    elim (cases_Bool (symbol_eq s name)) [
      | inl same ↦ (let here = number_first s name names same in omega (arith, here))
      | inr differ ↦ (let here = after_first s name names differ in let rest = number_most names s in omega (arith, here, rest))
    ]

-- what a search by place found
pub found_number : (names : List Symbol) (s : Symbol) (k : ℕ) → position (symbol_eq s) names ≡ Some k → (k ≡ number_of names s) × (number_of names s < length names)
found_number names s k e = of (nat_lt (number_of names s) (length names)) refl
  where
    of : (b : Bool) → nat_lt (number_of names s) (length names) ≡ b → (k ≡ number_of names s) × (number_of names s < length names)
    of true t = (let found : ◌≡◌ {A = Option ℕ} (Some (number_of names s)) (Some k) = rw t at e in (cc, ltb-true (number_of names s) (length names) t))
    of false t = (let found : ◌≡◌ {A = Option ℕ} None (Some k) = rw t at e in absurd cc)

pub missed_number : (names : List Symbol) (s : Symbol) → position (symbol_eq s) names ≡ None → number_of names s ≡ length names
missed_number names s e = of (nat_lt (number_of names s) (length names)) refl
  where
    of : (b : Bool) → nat_lt (number_of names s) (length names) ≡ b → number_of names s ≡ length names
    of true t = (let found : ◌≡◌ {A = Option ℕ} (Some (number_of names s)) None = rw t at e in absurd cc)
    of false t =
        (let past = ltb-false (number_of names s) (length names) t in
        let most = number_most names s in
        omega (arith, past, most))

-- whether a symbol is there, by its number
pub any_here : (names : List Symbol) (s : Symbol) → number_of names s < length names → list_any (symbol_eq s) names ≡ true
any_here [] s below = absurd (omega (arith, below))
any_here (name ∷ names) s below =
    elim (cases_Bool (symbol_eq s name)) [
      | inl same ↦ rw same refl
      | inr differ ↦ (let here = after_first s name names differ in rw differ (any_here names s (omega (arith, here, below))))
    ]

pub any_past : (names : List Symbol) (s : Symbol) → length names ≤ number_of names s → list_any (symbol_eq s) names ≡ false
any_past [] s past = refl
any_past (name ∷ names) s past =
    elim (cases_Bool (symbol_eq s name)) [
      | inl same ↦ (let here = number_first s name names same in absurd (omega (arith, here, past)))
      | inr differ ↦ (let here = after_first s name names differ in rw differ (any_past names s (omega (arith, here, past))))
    ]

pub any_parts : (names more : List Symbol) (s : Symbol) → list_any (symbol_eq s) names ≡ false → list_any (symbol_eq s) (names ++ more) ≡ list_any (symbol_eq s) more
any_parts [] more s off = refl
any_parts (name ∷ names) more s off =
    elim (cases_Bool (symbol_eq s name)) [
      | inl same ↦ (let bad : true ≡ false = rw same at off in absurd cc)
      | inr differ ↦ (let rest : list_any (symbol_eq s) names ≡ false = rw differ at off in rw differ (any_parts names more s rest))
    ]

any_left : (names more : List Symbol) (s : Symbol) → list_any (symbol_eq s) names ≡ true → list_any (symbol_eq s) (names ++ more) ≡ true
any_left [] more s on = absurd cc
any_left (name ∷ names) more s on =
    elim (cases_Bool (symbol_eq s name)) [
      | inl same ↦ rw same refl
      | inr differ ↦ (let rest : list_any (symbol_eq s) names ≡ true = rw differ at on in rw differ (any_left names more s rest))
    ]

-- a mention of a symbol of the first names
pub mention_here : (names more : List Symbol) (s : Symbol) → number_of names s < length names → names ++ more ≡ with_mention (names ++ more) s
mention_here names more s below = (let on : list_any (symbol_eq s) (names ++ more) ≡ true = any_left names more s (any_here names s below) in rw on refl)

-- a mention of any other symbol is one after them
pub mention_after : (names more : List Symbol) (s : Symbol) → length names ≤ number_of names s → names ++ with_mention more s ≡ with_mention (names ++ more) s
mention_after names more s past =
    let parts : list_any (symbol_eq s) (names ++ more) ≡ list_any (symbol_eq s) more = any_parts names more s (any_past names s past) in
    elim (cases_Bool (list_any (symbol_eq s) more)) [
      | inl on ↦ (let whole : list_any (symbol_eq s) (names ++ more) ≡ true = parts ∙ on in rw (on, whole) refl)
      | inr off ↦ (let whole : list_any (symbol_eq s) (names ++ more) ≡ false = parts ∙ off in rw (off, whole) (sym (append_assoc names more (s ∷ []))))
    ]

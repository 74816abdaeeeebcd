-- Clauses that are true over symbols are true by their numbers.
use Rattle.std.proofs.Common.{ℕ, zero, suc, ◌≡◌, ◌<◌, ap, sym, ◌∙◌, refl, subst, inl, inr, List, [], ◌∷◌, ◌++◌, Bool, true, false, arith, length, map, All}
use Rattle.std.specs.Prelude.{Any, Some, Option, slice_get, slice_index_or, nat_lt, Contains}
use Rattle.std.specs.List.{AllByRecursion, list_any}
use Rattle.std.proofs.lemmas.Bool.{cases_Bool}
use Rattle.std.proofs.lemmas.List.Elements.{Contains-append_left, Contains-append_cases, All-from_recursion}
use Rattle.gp_clause.specs.declared.lit.Lit.{Lit}
use Rattle.gp_clause.specs.Clause.{HoldsAll, HoldsClause}
use Rattle.gp_clause.specs.Lit.{HoldsLit, lit_eq}
use Rattle.gp_clause.specs.LitLaws.{lit_eq_decides}
use Rattle.gp_property.specs.PropertyForm.{PropertyForm}
use Rattle.gp_window.specs.WindowForm.{WindowForm}
use Rattle.gp_window.specs.declared.schedule.EventId.{EventId}
use Rattle.gp_constraint.specs.declared.symbol.Symbol.{Symbol}
use Rattle.gp_constraint.specs.declared.symbol.Symbol.TheVariants.{Executed}
use Rattle.gp_constraint.specs.declared.symbol.SymbolicLit.{SymbolicLit}
use Rattle.gp_constraint.specs.Base.{clauses_of, first_names, names_in}
use Rattle.gp_base.specs.ListLaws.{contains_from_map, contains_map, first_or_rest, here, nothing_in, recursion_at, recursion_map, there}
use Rattle.gp_constraint.specs.Numbering.{lits_onto, names_after, names_of, number_of, numbered, numbered_lit, with_lit, with_mention}
use Rattle.gp_constraint.specs.PointLaws.{event_below, IsEventOf}
use Rattle.gp_constraint.specs.Points.{number_in, points_of}
use Rattle.gp_constraint.specs.Query.{executed_lits, holds, mentioned, pattern_lits, query_names}
use Rattle.gp_constraint.specs.Truths.{AreTrue, AreTrueLits, lit_true, signed, TruthsAreNumbered, variable_true}
use Rattle.gp_constraint.proofs.Names.{after_grows, all_kinds, Grows, grows_none, grows_on, has_kept, mention, mentions_grow, mentions_have, name_there, number_stays, of_grows, point_named, point_number, with_variable}

-- a literal is true where its symbol has its sign
pub signed_is : (positive value : Bool) → signed positive value ≡ true → value ≡ positive
signed_is true true e = refl
signed_is true false e = cc
signed_is false true e = cc
signed_is false false e = refl

-- the name at a place
pub name_read : (names : List Symbol) (k : ℕ) (s : Symbol) → slice_get names k ≡ Some s → slice_index_or names k (Executed 0) ≡ s
name_read [] k s e = cc
name_read (name ∷ names) zero s e = let same : ◌≡◌ {A = Option Symbol} (Some name) (Some s) = e in cc
name_read (name ∷ names) (suc k) s e = name_read names k s e

-- the variable of a name has the truth value of the symbol
named_true : (final : List Symbol) (truth : Symbol → Bool) (s : Symbol) → Contains final s → variable_true final truth (number_of final s) ≡ truth s
named_true final truth s has = ap truth (name_read final (number_of final s) s (name_there s final has))

lit_holds : (final : List Symbol) (truth : Symbol → Bool) (lit : SymbolicLit) → Contains final lit.symbol → lit_true truth lit ≡ true
    → HoldsLit (variable_true final truth) (numbered_lit final lit)
lit_holds final truth lit has is = named_true final truth lit.symbol has ∙ signed_is lit.positive (truth lit.symbol) is

-- a literal that is put into a clause stands in it, and all others stay
less_with : (head lit : Lit) (rest : List Lit) → nat_lt lit.variable head.variable ≡ true → with_lit (head ∷ rest) lit ≡ lit ∷ head ∷ rest
less_with head lit rest less = rw less refl

same_with : (head lit : Lit) (rest : List Lit) → nat_lt lit.variable head.variable ≡ false → lit_eq lit head ≡ true → with_lit (head ∷ rest) lit ≡ head ∷ rest
same_with head lit rest more same = rw (more, same) refl

more_with : (head lit : Lit) (rest : List Lit) → nat_lt lit.variable head.variable ≡ false → lit_eq lit head ≡ false → with_lit (head ∷ rest) lit ≡ head ∷ with_lit rest lit
more_with head lit rest more differ = rw (more, differ) refl

kept_with : (l lit : Lit) (lits : List Lit) → Contains lits l → Contains (with_lit lits lit) l
kept_with l lit [] i = absurd (nothing_in _ i)
kept_with l lit (head ∷ rest) i =
    elim (cases_Bool (nat_lt lit.variable head.variable)) [
      | inl less ↦ subst (λ ls. Contains ls l) (sym (less_with head lit rest less)) (there _ (head ∷ rest) _ i)
      | inr more ↦ elim (cases_Bool (lit_eq lit head)) [
        | inl same ↦ subst (λ ls. Contains ls l) (sym (same_with head lit rest more same)) i
        | inr differ ↦ subst (λ ls. Contains ls l) (sym (more_with head lit rest more differ)) (elim (first_or_rest _ _ _ i) [
          | inl same ↦ (0, omega arith, same)
          | inr later ↦ there _ _ _ (kept_with l lit rest later)
        ])
      ]
    ]

put_with : (lit : Lit) (lits : List Lit) → Contains (with_lit lits lit) lit
put_with lit [] = here _ []
put_with lit (head ∷ rest) =
    elim (cases_Bool (nat_lt lit.variable head.variable)) [
      | inl less ↦ subst (λ ls. Contains ls lit) (sym (less_with head lit rest less)) (here _ (head ∷ rest))
      | inr more ↦ elim (cases_Bool (lit_eq lit head)) [
        | inl same ↦ subst (λ ls. Contains ls lit) (sym (same_with head lit rest more same)) (0, omega arith, sym ((lit_eq_decides lit head).0 same))
        | inr differ ↦ subst (λ ls. Contains ls lit) (sym (more_with head lit rest more differ)) (there _ _ _ (put_with lit rest))
      ]
    ]

onto_kept : (l : Lit) (done : List Lit) (names : List Symbol) (lits : List SymbolicLit) → Contains done l → Contains (lits_onto done names lits) l
onto_kept l done names [] i = i
onto_kept l done names (lit ∷ lits) i =
    onto_kept l (with_lit done (numbered_lit names lit)) (with_mention names lit.symbol) lits (kept_with l (numbered_lit names lit) done i)

-- each literal of a clause stands in it, with the number that its symbol has in the end
pub onto_has : (final : List Symbol) (lit : SymbolicLit) (done : List Lit) (names : List Symbol) (lits : List SymbolicLit) → Grows (names_after names lits) final
    → Contains lits lit → Contains final lit.symbol × Contains (lits_onto done names lits) (numbered_lit final lit)
onto_has final lit done names [] g i = absurd (nothing_in _ i)
onto_has final lit done names (first ∷ lits) g i =
    elim (first_or_rest _ _ _ i) [
      | inl same ↦
          let next : List Symbol = with_mention names first.symbol in
          let m = mention names first.symbol in
          let grown : Grows next final = grows_on next (names_after next lits) final (after_grows next lits) g in
          let number : number_of final first.symbol ≡ number_of names first.symbol = number_stays first.symbol next final grown m.there ∙ m.number in
          let alike : numbered_lit names first ≡ numbered_lit final first = with_variable (number_of names first.symbol) (number_of final first.symbol) first.positive (sym number) in
          let there : Contains (lits_onto done names (first ∷ lits)) (numbered_lit final first) =
          onto_kept (numbered_lit final first) (with_lit done (numbered_lit names first)) next lits
          (subst (λ (l : Lit). Contains (with_lit done (numbered_lit names first)) l) alike (put_with (numbered_lit names first) done)) in
          subst (λ (l : SymbolicLit). Contains final l.symbol × Contains (lits_onto done names (first ∷ lits)) (numbered_lit final l)) same
          (has_kept first.symbol next final grown m.there, there)
      | inr i ↦
          onto_has final lit (with_lit done (numbered_lit names first)) (with_mention names first.symbol) lits g i
    ]

-- one of a list that passes, and one of a list that has a property
pub any_back : {X : Type 0} (test : X → Bool) (xs : List X) → list_any test xs ≡ true → (x : X) × Contains xs x × (test x ≡ true)
any_back test [] e = cc
any_back test (x ∷ xs) e =
    elim (cases_Bool (test x)) [
      | inl passes ↦ (x, here _ _, passes)
      | inr fails ↦ let rest = any_back test xs (rw fails at e) in (rest.0, there _ _ _ rest.1, rest.2)
    ]

pub any_to : {X : Type 0} (P : X → Type 0) (x : X) (xs : List X) → Contains xs x → P x → Any P xs
any_to P x [] i p = absurd (nothing_in _ i)
any_to P x (first ∷ xs) i p =
    elim (first_or_rest _ _ _ i) [
      | inl same ↦ (0, first, omega arith, refl, subst P (sym same) p)
      | inr i ↦
          let rest = any_to P x xs i p in
          let below = rest.2 in (suc rest.0, rest.1, omega (arith, below), rest.3, rest.4)
    ]

clause_holds : (final : List Symbol) (truth : Symbol → Bool) (names : List Symbol) (clause : List SymbolicLit) → Grows (names_after names clause) final
    → list_any (lit_true truth) clause ≡ true → HoldsClause (variable_true final truth) (lits_onto [] names clause)
clause_holds final truth names clause g is =
    let one = any_back (lit_true truth) clause is in
    let there = onto_has final one.0 [] names clause g one.1 in
    any_to (HoldsLit (variable_true final truth)) (numbered_lit final one.0) (lits_onto [] names clause) there.1 (lit_holds final truth one.0 there.0 one.2)

pub clauses_hold : (final : List Symbol) (truth : Symbol → Bool) (names : List Symbol) (clauses : List (List SymbolicLit)) → Grows (names_of names clauses) final
    → AreTrue truth clauses → AllByRecursion (HoldsClause (variable_true final truth)) (numbered names clauses)
clauses_hold final truth names [] g all = tt
clauses_hold final truth names (clause ∷ clauses) g all =
    let next : List Symbol = names_after names clause in (
      clause_holds final truth names clause (grows_on next (names_of next clauses) final (of_grows next clauses) g) all.0,
      clauses_hold final truth next clauses g all.1,
    )

all_hold : (window : WindowForm) (final : List Symbol) (truth : Symbol → Bool) → Grows (names_in window) final → AreTrue truth (clauses_of window)
    → HoldsAll (variable_true final truth) (numbered (first_names window) (clauses_of window))
all_hold window final truth g all =
    All-from_recursion (HoldsClause (variable_true final truth)) (numbered (first_names window) (clauses_of window)) (clauses_hold final truth (first_names window) (clauses_of window) g all)

-- the names of a query are those of its window, and more
query_grows : (window : WindowForm) (property : PropertyForm) (ids : List EventId) → Grows (names_in window) (query_names window property ids)
query_grows window property ids = mentions_grow (names_in window) (mentioned window property ids)

first_grows : (window : WindowForm) (final : List Symbol) → Grows (names_in window) final → Grows (first_names window) final
first_grows window final g = grows_on (first_names window) (names_in window) final (of_grows (first_names window) (clauses_of window)) g

point_there : (window : WindowForm) (final : List Symbol) (point : ℕ) → Grows (names_in window) final → point < length (points_of window) → Contains final (Executed point)
point_there window final point g below =
    has_kept (Executed point) (first_names window) final (first_grows window final g) (point_named point (length (points_of window)) below)

pub point_true : (window : WindowForm) (final : List Symbol) (truth : Symbol → Bool) (point : ℕ) → Grows (names_in window) final → point < length (points_of window)
    → variable_true final truth point ≡ truth (Executed point)
point_true window final truth point g below =
    let number : number_of final (Executed point) ≡ point =
    number_stays (Executed point) (first_names window) final (first_grows window final g) (point_named point (length (points_of window)) below)
    ∙ point_number point (length (points_of window)) below in
    ap (λ k. variable_true final truth k) (sym number) ∙ named_true final truth (Executed point) (point_there window final point g below)

-- each symbol that a query assumes is a name of it
assumed_named : (window : WindowForm) (property : PropertyForm) (ids : List EventId) (lit : SymbolicLit) → ((id : EventId) → Contains ids id → IsEventOf window id)
    → Contains (executed_lits window ids ++ pattern_lits window property ids) lit → Contains (query_names window property ids) lit.symbol
assumed_named window property ids lit events i =
    let final : List Symbol = query_names window property ids in
    elim (Contains-append_cases (executed_lits window ids) (pattern_lits window property ids) lit i) [
      | inl executed ↦
          let one = contains_from_map (λ (id : EventId). holds (Executed (number_in window id))) ids lit executed in
          subst (λ (l : SymbolicLit). Contains final l.symbol) one.2
          (point_there window final (number_in window one.0) (query_grows window property ids) (event_below window one.0 (events one.0 one.1)))
      | inr pattern ↦
          mentions_have lit.symbol (names_in window) (mentioned window property ids)
          (Contains-append_left (map (λ (l : SymbolicLit). l.symbol) (pattern_lits window property ids)) _ lit.symbol (contains_map (λ (l : SymbolicLit). l.symbol) (pattern_lits window property ids) lit pattern))
    ]

assumed_hold : (window : WindowForm) (property : PropertyForm) (ids : List EventId) (truth : Symbol → Bool) → ((id : EventId) → Contains ids id → IsEventOf window id)
    → AreTrueLits truth (executed_lits window ids ++ pattern_lits window property ids)
    → All (HoldsLit (variable_true (query_names window property ids) truth)) (map (numbered_lit (query_names window property ids)) (executed_lits window ids ++ pattern_lits window property ids))
assumed_hold window property ids truth events all =
    let final : List Symbol = query_names window property ids in
    let lits : List SymbolicLit = executed_lits window ids ++ pattern_lits window property ids in
    All-from_recursion (HoldsLit (variable_true final truth)) (map (numbered_lit final) lits)
    (recursion_map (HoldsLit (variable_true final truth)) (numbered_lit final) lits (λ lit i.
    lit_holds final truth lit (assumed_named window property ids lit events i) (recursion_at (λ (l : SymbolicLit). lit_true truth l ≡ true) lits lit all i)))

pub truths_numbered : TruthsAreNumbered
truths_numbered = record {
  base = λ window truth all. all_hold window (names_in window) truth (grows_none (names_in window)) all;
  clauses = λ window property ids truth all. all_hold window (query_names window property ids) truth (query_grows window property ids) all;
  assumed = assumed_hold;
  kinds = λ window property ids. all_kinds (names_in window) (query_names window property ids) (query_grows window property ids);
  points = λ window truth point below. point_true window (names_in window) truth point (grows_none (names_in window)) below;
  query_points = λ window property ids truth point below. point_true window (query_names window property ids) truth point (query_grows window property ids) below;
}

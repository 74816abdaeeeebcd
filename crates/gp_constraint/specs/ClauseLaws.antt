-- Laws: true clauses, taken apart into terms.
use Rattle.std.proofs.Common.{ℕ, zero, suc, ◌≡◌, ◌⊎◌, ◌<◌, sym, ◌∙◌, refl, subst, inl, inr, List, [], ◌∷◌, ◌++◌, Bool, true, false, arith, eqb-true}
use Rattle.std.specs.Prelude.{◌<ℤ◌, Some, None, Option, slice_get, if◌then◌else◌, ◌==◌, nat_lt, flat_map, Contains}
use Rattle.std.specs.List.{Any, list_any}
use Rattle.std.proofs.lemmas.Bool.{cases_Bool, cases_eq, false≢true, ltb-true}
use Rattle.std.proofs.lemmas.Int.{ints}
use Rattle.std.proofs.lemmas.List.Elements.{Contains-append_cases}
use Rattle.std.proofs.lemmas.List.Folds.{Any-from_list_any}
use Rattle.gp_trace.specs.declared.event.Event.{Event}
use Rattle.gp_window.specs.Events.{event_at, segment_of}
use Rattle.gp_window.specs.WindowForm.{WindowForm}
use Rattle.gp_constraint.specs.declared.point.Point.{Point}
use Rattle.gp_constraint.specs.declared.symbol.Symbol.{Symbol}
use Rattle.gp_constraint.specs.declared.symbol.Symbol.TheVariants.{Executed, Order}
use Rattle.gp_constraint.specs.declared.symbol.SymbolicLit.{SymbolicLit}
use Rattle.gp_constraint.specs.declared.term.Term.{Term}
use Rattle.gp_constraint.specs.declared.term.Term.TheVariants.{Always, Never, Literal}
use Rattle.gp_base.specs.ListLaws.{any_first_or_rest, any_nothing, contains_from_flat_map, first_or_rest, nothing_in}
use Rattle.gp_constraint.specs.PointLaws.{event_id, points_named}
use Rattle.gp_constraint.specs.Points.{number_in, points_of}
use Rattle.gp_constraint.specs.SymbolTruth.{HoldAll, HoldsSymbolic, IsTrueLit, KeepsEdges, SymbolTruth}
use Rattle.gp_constraint.specs.Terms.{before, constant, executed, is_always, lit_of, literal, preceded, simplified}

-- a term is true
abbrev pub Holds : SymbolTruth → Term → Type 0
Holds t Always = Unit {0}
Holds t Never = ⊥
Holds t (Literal lit) = IsTrueLit t lit

-- one of the terms is true
abbrev pub AnyTerm : SymbolTruth → List Term → Type 0
AnyTerm t terms = Any (Holds t) terms

-- a term is true whose literal is
lit_holds : (t : SymbolTruth) (term : Term) (lit : SymbolicLit) → Contains (lit_of term) lit → IsTrueLit t lit → Holds t term
lit_holds t Always lit i h = tt
lit_holds t Never lit i h = absurd (nothing_in _ i)
lit_holds t (Literal own) lit i h =
    elim (first_or_rest own [] lit i) [
      | inl same ↦ subst (IsTrueLit t) (sym same) h
      | inr none ↦ absurd (nothing_in _ none)
    ]

from_lits : (t : SymbolTruth) (terms : List Term) → HoldsSymbolic t (flat_map lit_of terms) → AnyTerm t terms
from_lits t terms (k, lit, within, is, h) =
    let from = contains_from_flat_map lit_of terms lit (k, within, is) in
    let place = from.1 in
    (place.0, from.0, place.1, place.2, lit_holds t from.0 lit from.2 h)

always_holds : (t : SymbolTruth) (term : Term) → is_always term ≡ true → Holds t term
always_holds t Always e = tt
always_holds t Never e = cc
always_holds t (Literal lit) e = cc

always_any : (t : SymbolTruth) (terms : List Term) → list_any is_always terms ≡ true → AnyTerm t terms
always_any t terms e =
    let some = Any-from_list_any is_always terms e in
    (some.0, some.1, some.2, some.3, always_holds t some.1 some.4)

-- the clauses under a test
pub unless : (t : SymbolTruth) (b : Bool) (clauses : List (List SymbolicLit)) → b ≡ false → HoldAll t (if b then [] else clauses) → HoldAll t clauses
unless t true clauses e h = cc
unless t false clauses e h = h

pub when : (t : SymbolTruth) (b : Bool) (clauses others : List (List SymbolicLit)) → b ≡ true → HoldAll t (if b then clauses else others) → HoldAll t clauses
when t true clauses others e h = h
when t false clauses others e h = cc

pub when_not : (t : SymbolTruth) (b : Bool) (clauses others : List (List SymbolicLit)) → b ≡ false → HoldAll t (if b then clauses else others) → HoldAll t others
when_not t true clauses others e h = cc
when_not t false clauses others e h = h

-- a clause that holds has a true term
pub clause_means : (t : SymbolTruth) (terms : List Term) → HoldAll t (simplified terms) → AnyTerm t terms
clause_means t terms h =
    elim (cases_Bool (list_any is_always terms)) [
      | inl always ↦ always_any t terms always
      | inr none ↦ from_lits t terms (unless t (list_any is_always terms) (flat_map lit_of terms ∷ []) none h).0
    ]

pub both : (t : SymbolTruth) (xs ys : List (List SymbolicLit)) → HoldAll t (xs ++ ys) → HoldAll t xs × HoldAll t ys
both t [] ys h = (tt, h)
both t (x ∷ xs) ys h = let rest = both t xs ys h.1 in ((h.0, rest.0), rest.1)

-- the clauses of each of a list
pub each_holds : {X : Type 0} (t : SymbolTruth) (f : X → List (List SymbolicLit)) (x : X) (xs : List X) → HoldAll t (flat_map f xs) → Contains xs x → HoldAll t (f x)
each_holds t f x [] h i = absurd (nothing_in _ i)
each_holds t f x (first ∷ xs) h i =
    elim (first_or_rest _ _ _ i) [
      | inl same ↦ subst (λ y. HoldAll t (f y)) same (both t (f first) (flat_map f xs) h).0
      | inr i ↦ each_holds t f x xs (both t (f first) (flat_map f xs) h).1 i
    ]

-- a false literal leaves the rest
pub skip : (t : SymbolTruth) (symbol : Symbol) (terms : List Term) → t.symbols symbol ≡ true → AnyTerm t (literal symbol false ∷ terms) → AnyTerm t terms
skip t symbol terms true_now h =
    elim (any_first_or_rest (Holds t) (literal symbol false) terms h) [
      | inl bad ↦ absurd (false≢true (sym bad.0 ∙ true_now))
      | inr rest ↦ rest
    ]

pub last_one : (t : SymbolTruth) (term : Term) → AnyTerm t (term ∷ []) → Holds t term
last_one t term h =
    elim (any_first_or_rest (Holds t) term [] h) [
      | inl here ↦ here
      | inr none ↦ absurd (any_nothing (Holds t) none)
    ]

pub split_terms : (t : SymbolTruth) (xs ys : List Term) → AnyTerm t (xs ++ ys) → AnyTerm t xs ⊎ AnyTerm t ys
split_terms t xs ys (k, term, within, is, h) =
    elim (Contains-append_cases xs ys term (k, within, is)) [
      | inl first ↦ inl (first.0, term, first.1, first.2, h)
      | inr second ↦ inr (second.0, term, second.1, second.2, h)
    ]

pub one_term : (t : SymbolTruth) (b : Bool) (term : Term) → AnyTerm t (if b then term ∷ [] else []) → (b ≡ true) × Holds t term
one_term t true term h = (refl, last_one t term h)
one_term t false term h = absurd (any_nothing (Holds t) h)

holds_constant : (t : SymbolTruth) (b : Bool) → Holds t (constant b) → b ≡ true
holds_constant t true h = refl
holds_constant t false h = absurd h

-- where no guard is true: what was found is executed, and told to be before
pub preceded_means : (t : SymbolTruth) (guards : List Term) (found : Option Point) (f : Point) → HoldAll t (preceded guards found f) → (AnyTerm t guards → ⊥)
    → (s : Point) × (found ≡ Some s) × (t.symbols (Executed s.number) ≡ true) × Holds t (before s f)
preceded_means t guards None f h none = absurd (none (clause_means t guards h))
preceded_means t guards (Some s) f h none =
    let parts = both t (simplified (guards ++ executed s true ∷ [])) (simplified (guards ++ before s f ∷ [])) h in
    let left : (term : Term) → HoldAll t (simplified (guards ++ term ∷ [])) → Holds t term = (λ term k.
    elim (split_terms t guards (term ∷ []) (clause_means t (guards ++ term ∷ []) k)) [
      | inl guard ↦ absurd (none guard)
      | inr rest ↦ last_one t term rest
    ]) in
    (s, refl, (left (executed s true) parts.0).0, left (before s f) parts.1)

-- an event that is there has one before it
pub got_before : (events : List Event) (index : ℕ) (event : Event) → slice_get events (suc index) ≡ Some event → (other : Event) × (slice_get events index ≡ Some other)
got_before [] index event e = cc
got_before (first ∷ events) zero event e = (first, refl)
got_before (first ∷ events) (suc index) event e = got_before events index event e

-- the places rise from each event of a thread to every later one
pub chain : (window : WindowForm) (t : SymbolTruth) (edges : KeepsEdges window (number_in window) t) (thread index later : ℕ) (event : Event)
    → index < later → event_at window (event_id thread later) ≡ Some event
    → t.places (number_in window (event_id thread index)) <ℤ t.places (number_in window (event_id thread later))
chain window t edges thread index zero event less there = absurd (omega arith)
chain window t edges thread index (suc later) event less there =
    let step = edges thread later event there in
    elim (cases_eq later index) [
      | inl same ↦ subst (λ n. t.places (number_in window (event_id thread n)) <ℤ t.places (number_in window (event_id thread (suc later)))) same step
      | inr apart ↦
          let earlier = got_before (segment_of window thread) later event there in
          let more = chain window t edges thread index later earlier.0 (omega arith) earlier.1 in
          omega (arith, ints, more, step)
    ]

-- a true order of two points is one of their places
pub before_means : (window : WindowForm) (t : SymbolTruth) (e f : Point) → KeepsEdges window (number_in window) t
    → Contains (points_of window) e → Contains (points_of window) f → Holds t (before e f) → t.places (number_in window e.id) <ℤ t.places (number_in window f.id)
before_means window t e f edges first second h =
    let one = (points_named window).own e first in
    let other = (points_named window).own f second in
    elim (cases_Bool (e.id.thread == f.id.thread)) [
      | inl same ↦
          let thread : e.id.thread ≡ f.id.thread = eqb-true e.id.thread f.id.thread same in
          let told : Holds t (constant (nat_lt e.id.index f.id.index)) = rw same at h in
          let less : e.id.index < f.id.index = ltb-true e.id.index f.id.index (holds_constant t (nat_lt e.id.index f.id.index) told) in
          subst (λ n. t.places (number_in window (event_id n e.id.index)) <ℤ t.places (number_in window f.id)) (sym thread)
          (chain window t edges f.id.thread e.id.index f.id.index other.0 less other.1)
      | inr apart ↦
          let told : Holds t (if nat_lt e.number f.number then literal (Order e.number f.number) true else literal (Order f.number e.number) false) = rw apart at h in
          let places : t.places e.number <ℤ t.places f.number = elim (cases_Bool (nat_lt e.number f.number)) [
            | inl less ↦ let up : Holds t (literal (Order e.number f.number) true) = rw less at told in up.1
            | inr more ↦ let down : Holds t (literal (Order f.number e.number) false) = rw more at told in down.1
          ] in
          subst (λ n. t.places n <ℤ t.places (number_in window f.id)) one.3 (subst (λ n. t.places e.number <ℤ t.places n) other.3 places)
    ]

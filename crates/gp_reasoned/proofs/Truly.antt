-- What is told of a certificate that checks is true by each model of the window.
use Rattle.std.proofs.Common.{ℕ, zero, suc, ◌≡◌, ◌+◌, ◌<◌, ◌≤◌, ◌-◌, refl, ap, sym, ◌∙◌, subst, inl, inr, arith, Bool, true, false, not, List, [], ◌∷◌, ◌++◌, All, Contains, length, map}
use Rattle.std.specs.Prelude.{◌≢◌, ◌==◌, ℤ, pos, negsuc, ◌-ℤ◌, ◌≤ℤ◌, ◌<ℤ◌, int_le, int_lt, Option, None, Some, get_or, nat_lt, slice_get}
use Rattle.std.specs.List.{Any, list_any}
use Rattle.std.proofs.lemmas.Bool.{cases_Bool, eqb-false, ltb-false, ltb-true, or_left, or_right, true≢false}
use Rattle.std.proofs.lemmas.Int.{ints}
use Rattle.std.proofs.lemmas.List.Elements.{All-contains, Contains-append_cases}
use Rattle.std.proofs.lemmas.Option.{none-some, same_Some, get_or_from_slice_get}
use Rattle.gp_base.specs.ListLaws.{all_from_contains, any_first_or_rest, any_nothing, contains_from_flat_map, contains_from_unless, contains_got, contains_map, first_or_rest, got_all, here, nothing_in, there}
use Rattle.gp_certificate.specs.declared.certificate.Certificate.{Certificate}
use Rattle.gp_certificate.specs.declared.step.Step.{Step}
use Rattle.gp_certificate.specs.Shared.{ChecksOver, SharedFollows}
use Rattle.gp_clause.specs.declared.edge.Edge.{Edge}
use Rattle.gp_clause.specs.declared.kind.Kind.{Kind}
use Rattle.gp_clause.specs.declared.lit.Lit.{Lit}
use Rattle.gp_clause.specs.declared.problem.Problem.{Problem}
use Rattle.gp_clause.specs.declared.problem.Query.{Query}
use Rattle.gp_clause.specs.Clause.{HoldsClause}
use Rattle.gp_clause.specs.Edge.{Keeps}
use Rattle.gp_clause.specs.Follows.{Follows, LocalsChangeNothing}
use Rattle.gp_clause.specs.Kind.{FitsKind}
use Rattle.gp_clause.specs.Lit.{HoldsLit}
use Rattle.gp_clause.specs.Problem.{IsValidKind}
use Rattle.gp_clause.specs.Valuation.{IsValuation}
use Rattle.gp_constraint.specs.declared.base_family.BaseFamily.{BaseFamily}
use Rattle.gp_constraint.specs.declared.point.Point.{Point}
use Rattle.gp_constraint.specs.declared.symbol.Symbol.{Symbol}
use Rattle.gp_constraint.specs.declared.symbol.Symbol.TheVariants.{Executed, Order, Choice, StartChoice, First, Last, Signal, Span}
use Rattle.gp_constraint.specs.declared.symbol.SymbolicLit.{SymbolicLit}
use Rattle.gp_constraint.specs.Base.{base_of, clauses_of, first_names}
use Rattle.gp_constraint.specs.EncodedLaws.{is_valid, numbered_size, query_valid}
use Rattle.gp_constraint.specs.Laws.{ProblemsAreValid}
use Rattle.gp_constraint.specs.PointIds.{id_at}
use Rattle.gp_constraint.specs.PointLaws.{event_id, points_named}
use Rattle.gp_constraint.specs.Points.{number_in, points_of}
use Rattle.gp_constraint.specs.ProgramOrder.{edge_to}
use Rattle.gp_constraint.specs.Query.{query_names, query_of}
use Rattle.gp_constraint.specs.SymbolTruth.{Bound, HoldAll, IsTrueLit, KeepsEdges, SymbolTruth}
use Rattle.gp_constraint.specs.Symbols.{kind_of}
use Rattle.gp_constraint.specs.Truths.{AreTrue, lit_true, signed, TruthsAreNumbered, variable_true}
use Rattle.gp_property.specs.PropertyForm.{PropertyForm}
use Rattle.gp_window.specs.declared.schedule.EventId.{EventId}
use Rattle.gp_window.specs.Events.{event_at}
use Rattle.gp_window.specs.WindowForm.{WindowForm}
use Rattle.gp_reason.specs.declared.fact.Fact.{Fact}
use Rattle.gp_reason.specs.declared.reasons.Ground.{Ground}
use Rattle.gp_reason.specs.declared.reasons.Ground.TheVariants.{Base, Earlier, Everything, ThreadOrder}
use Rattle.gp_reason.specs.declared.reasons.ReasonStep.{ReasonStep}
use Rattle.gp_reason.specs.Cycles.{numbered_clauses}
use Rattle.gp_reason.specs.Facts.{fact_named, fact_of, facts_of}
use Rattle.gp_reason.specs.Families.{family_at}
use Rattle.gp_reason.specs.Laws.{FamiliesAreTold, ReasonsTellWhatTheyRestOn}
use Rattle.gp_reasoned.specs.Models.{IsModel, SomeHolds}
use Rattle.gp_reason.specs.Reasons.{clause_at, ground_of, grounds_of, named_ground, place_of, reason_of, step_ground, step_of, steps_from}
use Rattle.gp_reason.specs.Told.{all_steps, numbered, numbered_from, NumberedStep, told_of}
use Rattle.gp_reason.specs.Truth.{FactsAreTrue, HoldsBy}
use Rattle.gp_reasoned.specs.Laws.{IsPosed}
use Rattle.gp_reasoned.proofs.Pointed.{names_points}

-- places keep the edges of threads
keeps_less : (one other : ℤ) → one <ℤ other → (one -ℤ other) ≤ℤ negsuc 0
keeps_less one other less = omega (arith, ints, less)

edge_kept : (window : WindowForm) (t : SymbolTruth) → KeepsEdges window (number_in window) t → (f : Point) → Contains (points_of window) f → (index : ℕ) → f.id.index ≡ index → (index ≡ 0 → ⊥)
    → (t.places (f.number - 1) -ℤ t.places f.number) ≤ℤ negsuc 0
edge_kept window t keeps f i zero is some = absurd (some refl)
edge_kept window t keeps f i (suc index) is some =
    let own = (points_named window).own f i in
    let there_is = subst (λ (n : ℕ). event_at window (event_id f.id.thread n) ≡ Some own.0) is own.1 in
    let numbered : f.number ≡ number_in window (event_id f.id.thread (suc index)) = own.3 ∙ ap (λ (n : ℕ). number_in window (event_id f.id.thread n)) is in
    let next = (points_named window).next f.id.thread index in
    let before : f.number - 1 ≡ number_in window (event_id f.id.thread index) = omega (arith, numbered, next) in
    subst (λ (n : ℕ). (t.places (f.number - 1) -ℤ t.places n) ≤ℤ negsuc 0) (sym numbered)
    (subst (λ (n : ℕ). (t.places n -ℤ t.places (number_in window (event_id f.id.thread (suc index)))) ≤ℤ negsuc 0) (sym before)
    (keeps_less (t.places (number_in window (event_id f.id.thread index))) (t.places (number_in window (event_id f.id.thread (suc index)))) (keeps f.id.thread index own.0 there_is)))

edges_kept : (window : WindowForm) (t : SymbolTruth) → KeepsEdges window (number_in window) t → All (Keeps t.places) (base_of window).edges
edges_kept window t keeps = all_from_contains (Keeps t.places) (base_of window).edges kept
  where
    kept : (edge : Edge) → Contains (base_of window).edges edge → Keeps t.places edge
    kept edge i =
        let f = contains_from_flat_map edge_to (points_of window) edge i in
        let own = contains_from_unless (f.0.id.index == 0) (record { a = f.0.number - 1; b = f.0.number; c = negsuc 0 }) edge f.2 in
        subst (Keeps t.places) own.1 (edge_kept window t keeps f.0 f.1 f.0.id.index refl (eqb-false f.0.id.index 0 own.0))

-- each variable says what its kind does
kind_fits : (window : WindowForm) (t : SymbolTruth) → IsModel window t → (symbol : Symbol) → FitsKind t.places (kind_of symbol) (t.symbols symbol)
kind_fits window t model (Executed p) = tt
kind_fits window t model (Order a b) = model.orders a b
kind_fits window t model (Choice r w) = tt
kind_fits window t model (StartChoice r) = tt
kind_fits window t model (First a c) = tt
kind_fits window t model (Last w) = tt
kind_fits window t model (Signal w g) = tt
kind_fits window t model (Span a b width) = model.distances a b width

kinds_fit : (window : WindowForm) (t : SymbolTruth) → IsModel window t → (names : List Symbol) (variable : ℕ) (kind : Kind) → slice_get (map kind_of names) variable ≡ Some kind
    → FitsKind t.places kind (variable_true names t.symbols variable)
kinds_fit window t model [] variable kind got = absurd (none-some kind got)
kinds_fit window t model (symbol ∷ names) zero kind got =
    subst (λ (k : Kind). FitsKind t.places k (t.symbols symbol)) (same_Some (kind_of symbol) kind got) (kind_fits window t model symbol)
kinds_fit window t model (symbol ∷ names) (suc variable) kind got = kinds_fit window t model names variable kind got

valued : (window : WindowForm) (t : SymbolTruth) → IsModel window t → (names : List Symbol)
    → IsValuation (base_of window).points (base_of window).edges (map kind_of names) (variable_true names t.symbols) t.places
valued window t model names = record {
  apart = model.apart;
  keeps = edges_kept window t model.base.edges;
  fits = kinds_fit window t model names;
}

-- clauses over symbols are true by their literals
signed_true : (positive value : Bool) → value ≡ positive → signed positive value ≡ true
signed_true true value is = is
signed_true false value is = ap not is

clause_true : (t : SymbolTruth) (lits : List SymbolicLit) → Any (IsTrueLit t) lits → list_any (lit_true t.symbols) lits ≡ true
clause_true t [] some = absurd (any_nothing (IsTrueLit t) some)
clause_true t (lit ∷ lits) some =
    elim (any_first_or_rest (IsTrueLit t) lit lits some) [
      | inl own ↦ or_left (lit_true t.symbols lit) (list_any (lit_true t.symbols) lits) (signed_true lit.positive (t.symbols lit.symbol) own.0)
      | inr rest ↦ or_right (lit_true t.symbols lit) (list_any (lit_true t.symbols) lits) (clause_true t lits rest)
    ]

are_true : (t : SymbolTruth) (clauses : List (List SymbolicLit)) → HoldAll t clauses → AreTrue t.symbols clauses
are_true t [] hold = tt
are_true t (clause ∷ clauses) hold = (clause_true t clause hold.0, are_true t clauses hold.1)

-- what a true literal says of the places
pub lt_back : (one other : ℤ) → int_lt one other ≡ true → one <ℤ other
lt_back one other is = omega (arith, ints, is)

pub le_back : (one other : ℤ) → int_le one other ≡ true → one ≤ℤ other
le_back one other is = omega (arith, ints, is)

neither_less : (one other : ℤ) → int_lt one other ≡ false → int_lt other one ≡ false → one ≡ other
neither_less one other first second = omega (arith, ints, first, second)

other_less : (one other : ℤ) → one ≢ other → (one <ℤ other → ⊥) → other <ℤ one
other_less one other differ fails =
    elim (cases_Bool (int_lt other one)) [
      | inl is ↦ lt_back other one is
      | inr not_so ↦ elim (cases_Bool (int_lt one other)) [
        | inl is ↦ absurd (fails (lt_back one other is))
        | inr nor ↦ absurd (differ (neither_less one other nor not_so))
      ]
    ]

further : (one other : ℤ) (width : ℕ) → int_le (one -ℤ other) (pos width) ≡ false → (other -ℤ one) ≤ℤ negsuc width
further one other width fails = omega (arith, ints, fails)

beyond : (one other : ℤ) (width : ℕ) → ((one -ℤ other) ≤ℤ pos width → ⊥) → (other -ℤ one) ≤ℤ negsuc width
beyond one other width fails =
    elim (cases_Bool (int_le (one -ℤ other) (pos width))) [
      | inl is ↦ absurd (fails (le_back (one -ℤ other) (pos width) is))
      | inr far ↦ further one other width far
    ]

bound : (window : WindowForm) (t : SymbolTruth) → IsModel window t → (symbol : Symbol) (positive : Bool) → IsValidKind (length (points_of window)) (kind_of symbol) → t.symbols symbol ≡ positive
    → Bound t symbol positive
bound window t model (Executed p) positive valid is = tt
bound window t model (Order a b) true valid is = (model.orders a b).0 is
bound window t model (Order a b) false valid is =
    other_less (t.places a) (t.places b) (model.apart a b valid.0 valid.1 valid.2) (λ less. true≢false (sym ((model.orders a b).1 less) ∙ is))
bound window t model (Choice r w) positive valid is = tt
bound window t model (StartChoice r) positive valid is = tt
bound window t model (First a c) positive valid is = tt
bound window t model (Last w) positive valid is = tt
bound window t model (Signal w g) positive valid is = tt
bound window t model (Span a b width) true valid is = (model.distances a b width).0 is
bound window t model (Span a b width) false valid is = beyond (t.places a) (t.places b) width (λ near. true≢false (sym ((model.distances a b width).1 near) ∙ is))

any_found : {X : Type 0} (P : X → Type 0) (xs : List X) → Any P xs → (x : X) × Contains xs x × P x
any_found P [] some = absurd (any_nothing P some)
any_found P (x ∷ xs) some =
    elim (any_first_or_rest P x xs some) [
      | inl own ↦ (x, here x xs, own)
      | inr rest ↦ let found = any_found P xs rest in (found.0, there x xs found.0 found.1, found.2)
    ]

-- the kinds of the problem and the query of an instance are valid, by the names
kinds_valid : ProblemsAreValid → TruthsAreNumbered → (window : WindowForm) (property : PropertyForm) (ids : List EventId) → IsPosed window property ids
    → All (IsValidKind (length (points_of window))) (map kind_of (query_names window property ids))
kinds_valid valid numbered_so window property ids posed =
    subst (All (IsValidKind (length (points_of window)))) (numbered_so.kinds window property ids)
    (all_from_contains (IsValidKind (length (points_of window))) ((base_of window).kinds ++ (query_of window property ids).locals) each)
  where
    each : (kind : Kind) → Contains ((base_of window).kinds ++ (query_of window property ids).locals) kind → IsValidKind (length (points_of window)) kind
    each kind i =
        elim (Contains-append_cases (base_of window).kinds (query_of window property ids).locals kind i) [
          | inl own ↦ All-contains (IsValidKind (length (points_of window))) (base_of window).kinds kind (is_valid valid window posed.encodable).kinds own
          | inr local ↦
              All-contains (IsValidKind (length (points_of window))) (query_of window property ids).locals kind
              (query_valid valid window posed.encodable property ids posed.few posed.instance).locals local
        ]

-- the fact of a literal that is true holds
named_holds : FactsAreTrue → (window : WindowForm) (property : PropertyForm) (ids : List EventId) (t : SymbolTruth) → IsModel window t
    → All (IsValidKind (length (points_of window))) (map kind_of (query_names window property ids)) → (lit : Lit)
    → HoldsLit (variable_true (query_names window property ids) t.symbols) lit → (found : Option Symbol) → slice_get (query_names window property ids) lit.variable ≡ found
    → HoldsBy (number_in window) t (fact_named (id_at (points_of window)) lit found)
named_holds facts window property ids t model kinds lit is None got = tt
named_holds facts window property ids t model kinds lit is (Some symbol) got =
    let among = contains_got (query_names window property ids) lit.variable symbol got in
    let so : t.symbols symbol ≡ lit.positive = sym (ap t.symbols (get_or_from_slice_get (query_names window property ids) lit.variable symbol (Executed 0) got)) ∙ is in
    let valid = All-contains (IsValidKind (length (points_of window))) (map kind_of (query_names window property ids)) (kind_of symbol) kinds
    (contains_map kind_of (query_names window property ids) symbol among) in
    facts window t (record { symbol = symbol; positive = lit.positive }) (names_points window property ids kinds symbol among) (so, bound window t model symbol lit.positive valid so)

-- so where a clause is true, one of its facts holds
clause_holds : FactsAreTrue → (window : WindowForm) (property : PropertyForm) (ids : List EventId) (t : SymbolTruth) → IsModel window t
    → All (IsValidKind (length (points_of window))) (map kind_of (query_names window property ids)) → (clause : List Lit)
    → HoldsClause (variable_true (query_names window property ids) t.symbols) clause → SomeHolds window t (facts_of window (query_names window property ids) clause)
clause_holds facts window property ids t model kinds clause holds =
    let found = any_found (HoldsLit (variable_true (query_names window property ids) t.symbols)) clause holds in
    let names = query_names window property ids in (
      fact_of names (id_at (points_of window)) found.0,
      contains_map (fact_of names (id_at (points_of window))) clause found.0 found.1,
      named_holds facts window property ids t model kinds found.0 found.2 (slice_get names found.0.variable) refl,
    )

-- a step that is told, behind those told before
step_told : (window : WindowForm) (names : List Symbol) (clauses : List (List Lit)) (before told : List NumberedStep) (step : ReasonStep) → Contains (steps_from window names clauses before told) step
    → (earlier : List NumberedStep) × (one : NumberedStep) × Contains told one × (step_of window names clauses (place_of earlier) one.number one.step ≡ step)
step_told window names clauses before [] step i = absurd (nothing_in step i)
step_told window names clauses before (one ∷ told) step i =
    elim (first_or_rest (step_of window names clauses (place_of before) one.number one.step) (steps_from window names clauses (before ++ one ∷ []) told) step i) [
      | inl same ↦ (before, one, here one told, same)
      | inr later ↦ let rest = step_told window names clauses (before ++ one ∷ []) told step later in (rest.0, rest.1, there one told rest.1 rest.2, rest.3)
    ]

in_list : (first start : ℕ) (steps : List Step) (one : NumberedStep) → Contains (numbered_from first start steps) one → Contains steps one.step
in_list first start [] one i = absurd (nothing_in one i)
in_list first start (step ∷ steps) one i =
    elim (first_or_rest (record { first = first; number = start; step = step }) (numbered_from first (suc start) steps) one i) [
      | inl same ↦ subst (Contains (step ∷ steps)) (ap (λ (s : NumberedStep). s.step) same) (here step steps)
      | inr later ↦ there step steps one.step (in_list first (suc start) steps one later)
    ]

-- some steps end with a last one
ends_with : (step : Step) (steps : List Step) → (front : List Step) × (last : Step) × (step ∷ steps ≡ front ++ last ∷ [])
ends_with step [] = ([], step, refl)
ends_with step (next ∷ steps) = let rest = ends_with next steps in (step ∷ rest.0, rest.1, ap (λ (list : List Step). step ∷ list) rest.2)

-- a step that is told is one of the shared ones or of the certificate
pub told_within : ReasonsTellWhatTheyRestOn → (base : ℕ) (shared own : List Step) (one : NumberedStep) → Contains (told_of base shared own) one → Contains (all_steps base shared own) one
told_within law base shared [] one i = absurd (nothing_in one i)
told_within law base shared (step ∷ own) one i =
    let end = ends_with step own in
    subst (λ (list : List Step). Contains (told_of base shared list) one → Contains (all_steps base shared list) one) (sym end.2) (λ told. (law.only base shared end.0 end.1 one told).0) i

-- the clause of each step that is told follows
told_follows : ReasonsTellWhatTheyRestOn → SharedFollows → LocalsChangeNothing → ProblemsAreValid → (window : WindowForm) (property : PropertyForm) (ids : List EventId) (shared : List Step) (certificate : Certificate)
    → IsPosed window property ids → ChecksOver (base_of window) shared (query_of window property ids) certificate
    → (one : NumberedStep) → Contains (told_of (length (base_of window).clauses) shared certificate.steps) one
    → Follows (base_of window).points (base_of window).edges ((base_of window).kinds ++ (query_of window property ids).locals) (base_of window).clauses one.step.clause
told_follows tell shared_follow change valid window property ids shared certificate posed checks one i =
    elim (Contains-append_cases (numbered base shared) (numbered (base + length shared) certificate.steps) one (told_within tell base shared certificate.steps one i)) [
      | inl early ↦
          change.added problem.points problem.edges problem.kinds query.locals problem.clauses one.step.clause
          (All-contains (λ (step : Step). Follows problem.points problem.edges problem.kinds problem.clauses step.clause) shared one.step
          (shared_follow.shared problem shared (is_valid valid window posed.encodable) checks.shares) (in_list base base shared one early))
      | inr late ↦
          All-contains (λ (step : Step). Follows problem.points problem.edges (problem.kinds ++ query.locals) problem.clauses step.clause) certificate.steps one.step
          (shared_follow.own problem shared query certificate (is_valid valid window posed.encodable)
          (query_valid valid window posed.encodable property ids posed.few posed.instance) checks)
          (in_list (base + length shared) (base + length shared) certificate.steps one late)
    ]
  where
    problem : Problem
    problem = base_of window

    query : Query
    query = query_of window property ids

    base : ℕ
    base = length (base_of window).clauses

-- each step that is told says some fact that holds
pub says_truly : ReasonsTellWhatTheyRestOn → FactsAreTrue → SharedFollows → LocalsChangeNothing → ProblemsAreValid → TruthsAreNumbered
    → (window : WindowForm) (property : PropertyForm) (ids : List EventId) (shared : List Step) (certificate : Certificate) → IsPosed window property ids
    → ChecksOver (base_of window) shared (query_of window property ids) certificate → (t : SymbolTruth) → IsModel window t
    → (step : ReasonStep) → Contains (reason_of window property ids shared certificate).steps step → SomeHolds window t step.says
says_truly tell facts shared_follow change valid numbered_so window property ids shared certificate posed checks t model step i =
    let names = query_names window property ids in
    let told = step_told window names (numbered_clauses window shared certificate.steps) [] (told_of (length (base_of window).clauses) shared certificate.steps) step i in
    let follows = told_follows tell shared_follow change valid window property ids shared certificate posed checks told.1 told.2 in
    let is = subst (λ (kinds : List Kind). IsValuation (base_of window).points (base_of window).edges kinds (variable_true names t.symbols) t.places)
    (sym (numbered_so.kinds window property ids)) (valued window t model names) in
    let holds = follows (variable_true names t.symbols) t.places is (numbered_so.clauses window property ids t.symbols (are_true t (clauses_of window) model.base.clauses)) in
    subst (λ (s : ReasonStep). SomeHolds window t s.says) told.3
    (clause_holds facts window property ids t model (kinds_valid valid numbered_so window property ids posed) told.1.step.clause holds)

-- what hint a clause of the window is told by
base_named : (window : WindowForm) (names : List Symbol) (place : ℕ → Option ℕ) (hint : ℕ) (found : Option BaseFamily) (family : BaseFamily) (facts : List Fact)
    → Contains (named_ground window names place hint found) (Base family facts) → (found ≡ Some family) × (facts_of window names (clause_at window hint) ≡ facts)
base_named window names place hint (Some own) family facts i =
    elim (first_or_rest (Base own (facts_of window names (clause_at window hint))) [] (Base family facts) i) [
      | inl same ↦ (ap Some (ap family_in same), ap facts_in same)
      | inr none ↦ absurd (nothing_in (Base family facts) none)
    ]
  where
    family_in : Ground → BaseFamily
    family_in (Base one other) = one
    family_in _ = own

    facts_in : Ground → List Fact
    facts_in (Base one other) = other
    facts_in _ = []
base_named window names place hint None family facts i = absurd (not_step (place hint) i)
  where
    not_step : (told : Option ℕ) → Contains (step_ground told) (Base family facts) → ⊥
    not_step None j = nothing_in (Base family facts) j
    not_step (Some at) j =
        elim (first_or_rest (Earlier at) [] (Base family facts) j) [
          | inl same ↦ cc
          | inr none ↦ nothing_in (Base family facts) none
        ]

base_hint : (window : WindowForm) (names : List Symbol) (place : ℕ → Option ℕ) (nothing : Bool) (hints : List ℕ) (family : BaseFamily) (facts : List Fact)
    → Contains (grounds_of window names place nothing hints) (Base family facts) → (hint : ℕ) × (family_at window hint ≡ Some family) × (facts_of window names (clause_at window hint) ≡ facts)
base_hint window names place nothing [] family facts i =
    elim (first_or_rest Everything [] (Base family facts) i) [
      | inl same ↦ cc
      | inr none ↦ absurd (nothing_in (Base family facts) none)
    ]
base_hint window names place true (hint ∷ hints) family facts i =
    elim (first_or_rest ThreadOrder [] (Base family facts) i) [
      | inl same ↦ cc
      | inr none ↦ absurd (nothing_in (Base family facts) none)
    ]
base_hint window names place false (hint ∷ hints) family facts i =
    let from = contains_from_flat_map (ground_of window names place) (hint ∷ hints) (Base family facts) i in
    let is = base_named window names place from.0 (family_at window from.0) family facts from.2 in
    (from.0, is.0, is.1)

some_clause : (clauses : List (List Lit)) (number : ℕ) → number < length clauses → slice_get clauses number ≡ Some (get_or clauses number [])
some_clause [] number below = absurd (omega (arith, below))
some_clause (clause ∷ clauses) zero below = refl
some_clause (clause ∷ clauses) (suc number) below = some_clause clauses number (omega (arith, below))

below_count : FamiliesAreTold → (window : WindowForm) (number : ℕ) (family : BaseFamily) → family_at window number ≡ Some family → number < length (base_of window).clauses
below_count law window number family is =
    elim (cases_Bool (nat_lt number (length (base_of window).clauses))) [
      | inl less ↦ ltb-true number (length (base_of window).clauses) less
      | inr more ↦
          let many : length (base_of window).clauses ≤ number = ltb-false number (length (base_of window).clauses) more in
          let size = numbered_size (first_names window) (clauses_of window) in
          absurd (none-some family (sym (law.none window number (omega (arith, many, size))) ∙ is))
    ]

-- and each clause of the window that is told as its ground does
pub grounds_truly : FamiliesAreTold → FactsAreTrue → ProblemsAreValid → TruthsAreNumbered
    → (window : WindowForm) (property : PropertyForm) (ids : List EventId) (shared : List Step) (certificate : Certificate) → IsPosed window property ids → (t : SymbolTruth) → IsModel window t
    → (step : ReasonStep) → Contains (reason_of window property ids shared certificate).steps step → (family : BaseFamily) (facts : List Fact) → Contains step.grounds (Base family facts)
    → SomeHolds window t facts
grounds_truly families facts valid numbered_so window property ids shared certificate posed t model step i family said j =
    let names = query_names window property ids in
    let told = step_told window names (numbered_clauses window shared certificate.steps) [] (told_of (length (base_of window).clauses) shared certificate.steps) step i in
    let among = subst (λ (s : ReasonStep). Contains s.grounds (Base family said)) (sym told.3) j in
    let hint = base_hint window names (place_of told.0) _ told.1.step.hints family said among in
    let got = some_clause (base_of window).clauses hint.0 (below_count families window hint.0 family hint.1) in
    let truth = variable_true names t.symbols in
    let holds = got_all (HoldsClause truth) (base_of window).clauses hint.0 (clause_at window hint.0)
    (numbered_so.clauses window property ids t.symbols (are_true t (clauses_of window) model.base.clauses)) got in
    subst (SomeHolds window t) hint.2 (clause_holds facts window property ids t model (kinds_valid valid numbered_so window property ids posed) (clause_at window hint.0) holds)

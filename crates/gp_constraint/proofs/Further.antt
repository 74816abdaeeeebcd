-- The problem of a window with further clauses.
use Rattle.std.proofs.Common.{ℕ, zero, suc, ◌≡◌, ◌<◌, ◌≤◌, ◌+◌, ap, sym, ◌∙◌, refl, subst, inl, inr, List, [], ◌∷◌, ◌++◌, Bool, true, false, arith, append-nil, length, length-append, map, All}
use Rattle.std.specs.Prelude.{ℤ, negsuc, ◌-◌, ◌==◌, ◌<ℤ◌, Option, Some, flat_map, nat_lt, slice_get, slice_index_or, Contains}
use Rattle.std.specs.List.{AllByRecursion}
use Rattle.std.proofs.lemmas.Bool.{cases_Bool, ltb-false, ltb-true, ne_eqb}
use Rattle.std.proofs.lemmas.Bool.Decides.{nat_tests}
use Rattle.std.proofs.lemmas.List.{length-map, map-append}
use Rattle.std.proofs.lemmas.List.Elements.{recursion_from_All, All-from_recursion}
use Rattle.gp_clause.specs.declared.kind.Kind.{Kind}
use Rattle.gp_clause.specs.declared.lit.Lit.{Lit}
use Rattle.gp_clause.specs.declared.problem.Query.{Query}
use Rattle.gp_clause.specs.declared.valuation.Valuation.{Valuation}
use Rattle.gp_clause.specs.Clause.{HoldsAll, HoldsClause, NamesBelow}
use Rattle.gp_clause.specs.Edge.{Keeps}
use Rattle.gp_clause.specs.Kind.{FitsKind}
use Rattle.gp_clause.specs.Lit.{HoldsLit}
use Rattle.gp_clause.specs.Valuation.{IsValuation, Meets, place_of, truth_of}
use Rattle.gp_trace.specs.declared.event.Event.{Event}
use Rattle.gp_window.specs.Events.{event_at}
use Rattle.gp_window.specs.WindowForm.{WindowForm}
use Rattle.gp_window.specs.declared.schedule.EventId.{EventId}
use Rattle.gp_constraint.specs.declared.point.Point.{Point}
use Rattle.gp_constraint.specs.Action.{action_of}
use Rattle.gp_constraint.specs.PointLaws.{event_id, points_named}
use Rattle.gp_constraint.specs.ProgramOrder.{edge_to}
use Rattle.gp_constraint.specs.declared.symbol.Symbol.{Symbol}
use Rattle.gp_constraint.specs.declared.symbol.Symbol.TheVariants.{Executed, Last, Signal}
use Rattle.gp_constraint.specs.declared.symbol.SymbolicLit.{SymbolicLit}
use Rattle.gp_constraint.specs.Base.{base_of, clauses_of, first_names, names_in}
use Rattle.gp_constraint.specs.Extended.{base_with, extended_truth, ExtendedMeans, ExtensionsMean, IsExtendedModel, IsFurther, IsMeaning, ModelsExtend, names_with, nothing_asked, symbol_value}
use Rattle.gp_base.specs.ListLaws.{recursion_append, recursion_at, recursion_flat_map_at, recursion_parts, got_front}
use Rattle.gp_constraint.specs.Numbering.{lits_onto, names_after, names_of, number_of, numbered, numbered_lit}
use Rattle.gp_constraint.specs.Points.{number_in, points_of}
use Rattle.gp_constraint.specs.Symbols.{kind_of}
use Rattle.gp_constraint.specs.Truths.{AreTrue, lit_true, variable_true}
use Rattle.gp_constraint.proofs.ExtendedValid.{extended_valid}
use Rattle.gp_constraint.proofs.Good.{IsValidSymbol}
use Rattle.gp_constraint.proofs.Mentions.{any_here, number_after, number_here}
use Rattle.gp_constraint.proofs.Names.{any_has, Grows, grows_none, grows_on, has_kept, kind_there, name_there, number_within, of_grows, point_named}
use Rattle.gp_constraint.proofs.PointsFirst.{points_first}
use Rattle.gp_constraint.proofs.Truths.{any_back, any_to, clauses_hold, name_read, onto_has, point_true, signed_is}
use Rattle.gp_constraint.proofs.Valid.{clauses_below, names_valid}
use Rattle.gp_constraint.proofs.Valued.{answer_base, answer_points, clauses_from, Kept, less_from, one_edge}

-- the kind of the name at a place
kind_at : (ns : List Symbol) (k : ℕ) (kind : Kind) → slice_get (map kind_of ns) k ≡ Some kind → kind_of (slice_index_or ns k (Executed 0)) ≡ kind
kind_at [] k kind e = cc
kind_at (n ∷ ns) zero kind e = let same : ◌≡◌ {A = Option Kind} (Some (kind_of n)) (Some kind) = e in cc
kind_at (n ∷ ns) (suc k) kind e = kind_at ns k kind e

-- two lists of clauses, numbered one after the other
names_both : (names : List Symbol) (clauses more : List (List SymbolicLit)) → names_of (names_of names clauses) more ≡ names_of names (clauses ++ more)
names_both names [] more = refl
names_both names (clause ∷ clauses) more = names_both (names_after names clause) clauses more

numbered_both : (names : List Symbol) (clauses more : List (List SymbolicLit)) → numbered names clauses ++ numbered (names_of names clauses) more ≡ numbered names (clauses ++ more)
numbered_both names [] more = refl
numbered_both names (clause ∷ clauses) more =
    ap (λ rest. lits_onto [] names clause ∷ rest) (numbered_both (names_after names clause) clauses more)

module _ (window : WindowForm) (more : List (List SymbolicLit)) where
  abbrev names : List Symbol
  names = names_in window

  abbrev final : List Symbol
  final = names_with window more

  grows : Grows names final
  grows = of_grows names more

  -- answers
  module _ (query : Query) (v : Valuation) (m : Meets (base_with window more) query v) where
    kept : Kept final (truth_of v) (place_of v)
    kept = record {
      bounds = λ s i.
          m.bounds (number_of final s) (kind_of s)
          (got_front (map kind_of final) query.locals (number_of final s) (kind_of s) (kind_there final (number_of final s) s (name_there s final i)));
    }

    parts : AllByRecursion (HoldsClause (truth_of v)) (base_of window).clauses × AllByRecursion (HoldsClause (truth_of v)) (numbered names more)
    parts =
        recursion_parts (HoldsClause (truth_of v)) (base_of window).clauses (numbered names more)
        (recursion_from_All (HoldsClause (truth_of v)) ((base_of window).clauses ++ numbered names more) m.clauses)

    first_kinds : (k : ℕ) (kind : Kind) → slice_get (map kind_of names ++ []) k ≡ Some kind → slice_get (map kind_of final ++ query.locals) k ≡ Some kind
    first_kinds k kind e =
        let here : slice_get (map kind_of names) k ≡ Some kind = subst (λ (ks : List Kind). slice_get ks k ≡ Some kind) (append-nil (map kind_of names)) e in
        let longer : map kind_of names ++ map kind_of grows.rest ≡ map kind_of final = sym (map-append kind_of names grows.rest) ∙ ap (map kind_of) (sym grows.is) in
        got_front (map kind_of final) query.locals k kind
        (subst (λ (ks : List Kind). slice_get ks k ≡ Some kind) longer (got_front (map kind_of names) (map kind_of grows.rest) k kind here))

    meets : Meets (base_of window) nothing_asked v
    meets =
        let size : length final ≡ length names + length grows.rest = ap length grows.is ∙ length-append names grows.rest in
        let first = length-map names kind_of in
        let whole = length-map final kind_of in
        let long = m.truth in
        record {
          truth = omega (arith, size, first, whole, long);
          places = m.places;
          edges = m.edges;
          clauses = All-from_recursion (HoldsClause (truth_of v)) (base_of window).clauses parts.0;
          assumed = All-from_recursion (HoldsLit (truth_of v)) [] tt;
          bounds = λ variable kind e. m.bounds variable kind (first_kinds variable kind e);
        }

    pub means : ExtendedMeans window more v
    means = record {
      meets = meets;
      base = record {
        edges = (answer_base window nothing_asked v meets).edges;
        clauses = clauses_from final (truth_of v) (place_of v) (first_names window) (clauses_of window) kept grows parts.0;
      };
      further = clauses_from final (truth_of v) (place_of v) names more kept (grows_none final) parts.1;
      points = λ point below. answer_points window final v point grows below;
    }

  -- meanings
  pub by_meaning : (truth : Symbol → Bool) (place : ℕ → ℤ) → IsMeaning window more truth place → IsExtendedModel window more (variable_true final truth) place
  by_meaning truth place m = record {
    valuation = record {
      apart = m.apart;
      keeps = m.keeps;
      fits = λ variable kind e.
          subst (λ (kd : Kind). FitsKind place kd (variable_true final truth variable)) (kind_at final variable kind e) (m.fits (slice_index_or final variable (Executed 0)));
    };
    clauses =
        let holds = HoldsClause (variable_true final truth) in
        All-from_recursion holds ((base_of window).clauses ++ numbered names more)
        (recursion_append holds (base_of window).clauses (numbered names more)
        (clauses_hold final truth (first_names window) (clauses_of window) grows m.base)
        (clauses_hold final truth names more (grows_none final) m.further));
  }

  pub by_point : (truth : Symbol → Bool) (point : ℕ) → point < length (points_of window) → variable_true final truth point ≡ truth (Executed point)
  by_point truth point below = point_true window final truth point grows below

  -- models
  module _ (truth : ℕ → Bool) (place : ℕ → ℤ) (fresh : Symbol → Bool) where
    abbrev longer : ℕ → Bool
    longer variable = extended_truth (names_in window) (names_with window more) truth fresh variable

    longer_here : (variable : ℕ) → variable < length names → longer variable ≡ truth variable
    longer_here variable below =
        let test : nat_lt variable (length names) ≡ true = grind (arith, nat_tests) in
        rw test refl

    longer_past : (variable : ℕ) → length names ≤ variable → longer variable ≡ fresh (slice_index_or final variable (Executed 0))
    longer_past variable past =
        let test : nat_lt variable (length names) ≡ false = grind (arith, nat_tests) in
        rw test refl

    -- a name has the value of its symbol
    name_value : (s : Symbol) → Contains final s → longer (number_of final s) ≡ symbol_value names truth fresh s
    name_value s named =
        elim (cases_Bool (nat_lt (number_of names s) (length names))) [
          | inl here ↦
              let below : number_of names s < length names = ltb-true (number_of names s) (length names) here in
              let same : number_of final s ≡ number_of names s = ap (λ ns. number_of ns s) grows.is ∙ number_here names grows.rest s below in
              let value : symbol_value names truth fresh s ≡ truth (number_of names s) = rw here refl in
              ap longer same ∙ longer_here (number_of names s) below ∙ sym value
          | inr past ↦
              let above : length names ≤ number_of names s = ltb-false (number_of names s) (length names) past in
              let number : number_of final s ≡ length names + number_of grows.rest s = ap (λ ns. number_of ns s) grows.is ∙ number_after names grows.rest s above in
              let value : symbol_value names truth fresh s ≡ fresh s = rw past refl in
              longer_past (number_of final s) (omega (arith, number)) ∙ ap fresh (name_read final (number_of final s) s (name_there s final named)) ∙ sym value
        ]

    -- the window's own clauses name the window's variables
    own_clause : (clause : List Lit) → NamesBelow (length names) clause → HoldsClause truth clause → HoldsClause longer clause
    own_clause clause below (k, l, inside, is, holds) =
        let bound : l.variable < length names = subst (λ (x : Lit). x.variable < length names) is (below k l inside) in
        (k, l, inside, is, longer_here l.variable bound ∙ holds)

    own_clauses : (clauses : List (List Lit)) → AllByRecursion (NamesBelow (length names)) clauses → AllByRecursion (HoldsClause truth) clauses
        → AllByRecursion (HoldsClause longer) clauses
    own_clauses [] below holds = tt
    own_clauses (clause ∷ clauses) below holds = (own_clause clause below.0 holds.0, own_clauses clauses below.1 holds.1)

    further_clauses : (start : List Symbol) (clauses : List (List SymbolicLit)) → Grows (names_of start clauses) final
        → AreTrue (symbol_value names truth fresh) clauses → AllByRecursion (HoldsClause longer) (numbered start clauses)
    further_clauses start [] g all = tt
    further_clauses start (clause ∷ clauses) g all =
        let next : List Symbol = names_after start clause in
        let one = any_back (lit_true (symbol_value names truth fresh)) clause all.0 in
        let there = onto_has final one.0 [] start clause (grows_on next (names_of next clauses) final (of_grows next clauses) g) one.1 in
        let holds : HoldsLit longer (numbered_lit final one.0) =
        name_value one.0.symbol there.0 ∙ signed_is one.0.positive (symbol_value names truth fresh one.0.symbol) one.2 in (
          any_to (HoldsLit longer) (numbered_lit final one.0) (lits_onto [] start clause) there.1 holds,
          further_clauses next clauses g all.1,
        )

    front_kind : (ns : List Symbol) (rest : List Symbol) (k : ℕ) (kind : Kind) → k < length ns → slice_get (map kind_of (ns ++ rest)) k ≡ Some kind
        → slice_get (map kind_of ns) k ≡ Some kind
    front_kind [] rest k kind below e = absurd (omega (arith, below))
    front_kind (n ∷ ns) rest zero kind below e = e
    front_kind (n ∷ ns) rest (suc k) kind below e = front_kind ns rest k kind (omega (arith, below)) e

    pub model : IsValuation (base_of window).points (base_of window).edges (base_of window).kinds truth place → HoldsAll truth (base_of window).clauses
        → ((s : Symbol) → FitsKind place (kind_of s) (fresh s)) → AreTrue (symbol_value names truth fresh) more
        → IsExtendedModel window more longer place
    model v clauses fits holds = record {
      valuation = record {
        apart = v.apart;
        keeps = v.keeps;
        fits = λ variable kind e. elim (cases_Bool (nat_lt variable (length names))) [
          | inl here ↦
              let below : variable < length names = ltb-true variable (length names) here in
              let own = front_kind names grows.rest variable kind below (subst (λ ns. slice_get (map kind_of ns) variable ≡ Some kind) grows.is e) in
              subst (FitsKind place kind) (sym (longer_here variable below)) (v.fits variable kind own)
          | inr past ↦
              let above : length names ≤ variable = ltb-false variable (length names) past in
              subst (FitsKind place kind) (sym (longer_past variable above))
              (subst (λ (kd : Kind). FitsKind place kd (fresh (slice_index_or final variable (Executed 0)))) (kind_at final variable kind e)
              (fits (slice_index_or final variable (Executed 0))))
        ];
      };
      clauses =
          let start : List Symbol = first_names window in
          All-from_recursion (HoldsClause longer) ((base_of window).clauses ++ numbered names more)
          (recursion_append (HoldsClause longer) (base_of window).clauses (numbered names more)
          (own_clauses (base_of window).clauses (clauses_below names start (clauses_of window) (grows_none names)) (recursion_from_All (HoldsClause truth) (base_of window).clauses clauses))
          (further_clauses names more (grows_none final) holds));
    }

-- no clause of a window names a symbol of which only further clauses speak
not_valid : (n : ℕ) (symbol : Symbol) → IsFurther symbol → IsValidSymbol n symbol → ⊥
not_valid n (Last w) further valid = valid
not_valid n (Signal w g) further valid = valid
not_valid n symbol further valid = further

unnamed : (window : WindowForm) (symbol : Symbol) → length (points_of window) ≤ 2048 → IsFurther symbol → length (names_in window) ≤ number_of (names_in window) symbol
unnamed window symbol few further =
    elim (cases_Bool (nat_lt (number_of (names_in window) symbol) (length (names_in window)))) [
      | inl here ↦
          let below = ltb-true (number_of (names_in window) symbol) (length (names_in window)) here in
          let has : Contains (names_in window) symbol = any_has symbol (names_in window) (any_here (names_in window) symbol below) in
          let n : ℕ = length (points_of window) in
          absurd (not_valid n symbol further (recursion_at (IsValidSymbol n) (names_in window) symbol (names_valid window few) has))
      | inr past ↦ ltb-false (number_of (names_in window) symbol) (length (names_in window)) past
    ]

further_fresh : (window : WindowForm) (truth : ℕ → Bool) (fresh : Symbol → Bool) (symbol : Symbol) → length (points_of window) ≤ 2048 → IsFurther symbol
    → symbol_value (names_in window) truth fresh symbol ≡ fresh symbol
further_fresh window truth fresh symbol few further =
    let past = unnamed window symbol few further in
    let test : nat_lt (number_of (names_in window) symbol) (length (names_in window)) ≡ false = grind (arith, nat_tests) in
    rw test refl

-- the value of a point's symbol is that of its variable
executed_value : (window : WindowForm) (truth : ℕ → Bool) (fresh : Symbol → Bool) (point : ℕ) → point < length (points_of window)
    → symbol_value (names_in window) truth fresh (Executed point) ≡ truth point
executed_value window truth fresh point below =
    let start : List Symbol = first_names window in
    let grown : Grows start (names_in window) = of_grows start (clauses_of window) in
    let has : Contains (names_in window) (Executed point) = has_kept (Executed point) start (names_in window) grown (point_named point (length (points_of window)) below) in
    let within = number_within (Executed point) (names_in window) has in
    let test : nat_lt (number_of (names_in window) (Executed point)) (length (names_in window)) ≡ true = grind (arith, nat_tests) in
    let value : symbol_value (names_in window) truth fresh (Executed point) ≡ truth (number_of (names_in window) (Executed point)) = rw test refl in
    value ∙ ap truth (points_first window point below)

-- each value fits
value_fits : (window : WindowForm) (truth : ℕ → Bool) (place : ℕ → ℤ) (fresh : Symbol → Bool)
    → IsValuation (base_of window).points (base_of window).edges (base_of window).kinds truth place
    → ((symbol : Symbol) → FitsKind place (kind_of symbol) (fresh symbol))
    → (symbol : Symbol) → FitsKind place (kind_of symbol) (symbol_value (names_in window) truth fresh symbol)
value_fits window truth place fresh v fits s =
    elim (cases_Bool (nat_lt (number_of (names_in window) s) (length (names_in window)))) [
      | inl here ↦
          let below = ltb-true (number_of (names_in window) s) (length (names_in window)) here in
          let has : Contains (names_in window) s = any_has s (names_in window) (any_here (names_in window) s below) in
          let value : symbol_value (names_in window) truth fresh s ≡ truth (number_of (names_in window) s) = rw here refl in
          subst (FitsKind place (kind_of s)) (sym value)
          (v.fits (number_of (names_in window) s) (kind_of s) (kind_there (names_in window) (number_of (names_in window) s) s (name_there s (names_in window) has)))
      | inr past ↦
          let value : symbol_value (names_in window) truth fresh s ≡ fresh s = rw past refl in
          subst (FitsKind place (kind_of s)) (sym value) (fits s)
    ]

-- places that keep the edges rise along each thread
places_rise : (window : WindowForm) (place : ℕ → ℤ) (thread index : ℕ) (event : Event) → All (Keeps place) (base_of window).edges
    → event_at window (event_id thread (suc index)) ≡ Some event
    → place (number_in window (event_id thread index)) <ℤ place (number_in window (event_id thread (suc index)))
places_rise window place thread index event keeps there =
    let id : EventId = event_id thread (suc index) in
    let named = points_named window in
    let f : Point = record { number = number_in window id; id = id; action = action_of event } in
    let has = named.all id event there in
    let later : (suc index == 0) ≡ false = ne_eqb (suc index) 0 (λ e. absurd (omega (arith, e))) in
    let own = recursion_flat_map_at (Keeps place) edge_to (points_of window) f (recursion_from_All (Keeps place) (flat_map edge_to (points_of window)) keeps) has in
    let kept = one_edge place (suc index == 0) (record { a = f.number - 1; b = f.number; c = negsuc 0 }) later own in
    let less = less_from (place (f.number - 1)) (place f.number) kept in
    let next = named.next thread index in
    let same : number_in window id - 1 ≡ number_in window (event_id thread index) = omega (arith, next) in
    subst (λ (n : ℕ). place n <ℤ place f.number) same less

pub extensions_mean : ExtensionsMean
extensions_mean = record {
  names = λ window more. names_both (first_names window) (clauses_of window) more;
  clauses = λ window more. numbered_both (first_names window) (clauses_of window) more;
  valid = extended_valid;
  answers = means;
  meanings = by_meaning;
  points = by_point;
}

pub models_extend : ModelsExtend
models_extend = record {
  models = model;
  fits = value_fits;
  executed = executed_value;
  further = further_fresh;
  rise = λ window place keeps thread index event there. places_rise window place thread index event keeps there;
}

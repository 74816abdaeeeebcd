-- What an answer to the problem of a window and to a query says of symbols.
use Rattle.std.proofs.Common.{ℕ, suc, ◌≡◌, ◌<◌, ap, sym, ◌∙◌, subst, inl, inr, List, [], ◌∷◌, ◌++◌, Bool, true, false, arith, length}
use Rattle.std.specs.Prelude.{ℤ, negsuc, ◌-ℤ◌, ◌≤ℤ◌, ◌<ℤ◌, ◌-◌, ◌==◌, Some, slice_get, map, flat_map, if◌then◌else◌, Contains}
use Rattle.std.specs.List.{AllByRecursion}
use Rattle.std.proofs.lemmas.Bool.{ne_eqb}
use Rattle.std.proofs.lemmas.Int.{ints}
use Rattle.std.proofs.lemmas.List.Elements.{recursion_from_All, Contains-append_left, Contains-append_right}
use Rattle.gp_clause.specs.declared.edge.Edge.{Edge}
use Rattle.gp_clause.specs.declared.kind.Kind.{Kind}
use Rattle.gp_clause.specs.declared.lit.Lit.{Lit}
use Rattle.gp_clause.specs.declared.problem.Query.{Query}
use Rattle.gp_clause.specs.declared.valuation.Valuation.{Valuation}
use Rattle.gp_clause.specs.Clause.{HoldsClause as IsTrueClause}
use Rattle.gp_clause.specs.Edge.{Keeps}
use Rattle.gp_clause.specs.Kind.{bound_of, KeepsBound}
use Rattle.gp_clause.specs.Lit.{HoldsLit}
use Rattle.gp_clause.specs.Valuation.{Meets, place_of, truth_of}
use Rattle.gp_instance.specs.Matches.{groups_of}
use Rattle.gp_property.specs.PropertyForm.{PropertyForm}
use Rattle.gp_trace.specs.declared.event.Event.{Event}
use Rattle.gp_window.specs.Events.{event_at}
use Rattle.gp_window.specs.WindowForm.{WindowForm}
use Rattle.gp_window.specs.declared.schedule.EventId.{EventId}
use Rattle.gp_constraint.specs.declared.point.Point.{Point}
use Rattle.gp_constraint.specs.declared.symbol.Symbol.{Symbol}
use Rattle.gp_constraint.specs.declared.symbol.Symbol.TheVariants.{Executed, Order, Choice, StartChoice, First, Last, Signal, Span}
use Rattle.gp_constraint.specs.declared.symbol.SymbolicLit.{SymbolicLit}
use Rattle.gp_constraint.specs.Action.{action_of}
use Rattle.gp_constraint.specs.Base.{base_of, clauses_of, first_names, names_in}
use Rattle.gp_base.specs.ListLaws.{contains_map, nothing_in, recursion_at, recursion_flat_map_at, got_front}
use Rattle.gp_constraint.specs.Laws.{BaseMeans, QueryMeans}
use Rattle.gp_constraint.specs.Numbering.{lits_onto, names_after, names_of, number_of, numbered, numbered_lit}
use Rattle.gp_constraint.specs.PointLaws.{event_id, points_named}
use Rattle.gp_constraint.specs.Points.{number_in, points_of}
use Rattle.gp_constraint.specs.ProgramOrder.{edge_to}
use Rattle.gp_constraint.specs.Query.{executed_lits, holds, mentioned, pattern_lits, query_names, query_of, sides_of}
use Rattle.gp_constraint.specs.SymbolTruth.{Bound, HoldAll, HoldsSymbolic, IsTrueLit, read_by, SymbolTruth}
use Rattle.gp_constraint.specs.Symbols.{kind_of}
use Rattle.gp_constraint.proofs.Names.{all_kinds, Grows, grows_none, grows_on, kind_there, mentions_grow, mentions_have, name_there, number_stays, of_grows, onto_stems, point_named, point_number}

-- a truth of variables and places keeps the bounds of these names
pub record Kept (final : List Symbol) (truth : ℕ → Bool) (place : ℕ → ℤ) : Type 0 where
  pub bounds : (s : Symbol) → Contains final s → KeepsBound place (bound_of (kind_of s) (truth (number_of final s)))

abbrev pub truth_from : List Symbol → (ℕ → Bool) → (ℕ → ℤ) → SymbolTruth
truth_from final truth place = record { symbols = λ s. truth (number_of final s); places = place }

pub less_from : (a b : ℤ) → (a -ℤ b) ≤ℤ negsuc 0 → a <ℤ b
less_from a b h = omega (arith, ints, h)

-- the bound of a variable's kind is that of its symbol
pub bound_from : (t : SymbolTruth) (s : Symbol) (positive : Bool) → KeepsBound t.places (bound_of (kind_of s) positive) → Bound t s positive
bound_from t (Executed a) positive h = tt
bound_from t (Order a b) true h = less_from (t.places a) (t.places b) h
bound_from t (Order a b) false h = less_from (t.places b) (t.places a) h
bound_from t (Choice a b) positive h = tt
bound_from t (StartChoice a) positive h = tt
bound_from t (First a b) positive h = tt
bound_from t (Last a) positive h = tt
bound_from t (Signal a b) positive h = tt
bound_from t (Span a b c) true h = h
bound_from t (Span a b c) false h = h

-- a literal that is true as a variable is true as a symbol
pub lit_from : (final : List Symbol) (truth : ℕ → Bool) (place : ℕ → ℤ) (lit : SymbolicLit) → Kept final truth place → Contains final lit.symbol
    → HoldsLit truth (numbered_lit final lit) → IsTrueLit (truth_from final truth place) lit
lit_from final truth place lit kept named true_now = (
  true_now,
  bound_from (truth_from final truth place) lit.symbol lit.positive (subst (λ b. KeepsBound place (bound_of (kind_of lit.symbol) b)) true_now (kept.bounds lit.symbol named)),
)

clause_from : (final : List Symbol) (truth : ℕ → Bool) (place : ℕ → ℤ) (names : List Symbol) (lits : List SymbolicLit) → Kept final truth place
    → Grows (names_after names lits) final → IsTrueClause truth (lits_onto [] names lits) → HoldsSymbolic (truth_from final truth place) lits
clause_from final truth place names lits kept g (k, l, below, is, true_now) =
    elim (onto_stems final l [] names lits g (k, below, is)) [
      | inl none ↦ absurd (nothing_in _ none)
      | inr s ↦
          let own = s.own in
          (own.0, s.lit, own.1, own.2, lit_from final truth place s.lit kept s.named (subst (λ (m : Lit). HoldsLit truth m) (sym s.is) true_now))
    ]

-- numbered clauses that are true hold over symbols
pub clauses_from : (final : List Symbol) (truth : ℕ → Bool) (place : ℕ → ℤ) (names : List Symbol) (clauses : List (List SymbolicLit)) → Kept final truth place
    → Grows (names_of names clauses) final → AllByRecursion (IsTrueClause truth) (numbered names clauses) → HoldAll (truth_from final truth place) clauses
clauses_from final truth place names [] kept g h = tt
clauses_from final truth place names (clause ∷ clauses) kept g h =
    let next : List Symbol = names_after names clause in (
      clause_from final truth place names clause kept (grows_on next (names_of next clauses) final (of_grows next clauses) g) h.0,
      clauses_from final truth place next clauses kept g h.1,
    )

-- an answer keeps the bounds of the names of a window
base_kept : (window : WindowForm) (query : Query) (v : Valuation) → Meets (base_of window) query v → Kept (names_in window) (truth_of v) (place_of v)
base_kept window query v m =
    let names : List Symbol = names_in window in
    record {
      bounds = λ s i.
          m.bounds (number_of names s) (kind_of s)
          (got_front (map kind_of names) query.locals (number_of names s) (kind_of s) (kind_there names (number_of names s) s (name_there s names i)));
    }

-- and those of the names of a query
query_kept : (window : WindowForm) (property : PropertyForm) (ids : List EventId) (v : Valuation)
    → Meets (base_of window) (query_of window property ids) v → Kept (query_names window property ids) (truth_of v) (place_of v)
query_kept window property ids v m =
    let names : List Symbol = names_in window in
    let final : List Symbol = query_names window property ids in
    let kinds = all_kinds names final (mentions_grow names (mentioned window property ids)) in
    record {
      bounds = λ s i.
          m.bounds (number_of final s) (kind_of s)
          (subst (λ (ks : List Kind). slice_get ks (number_of final s) ≡ Some (kind_of s)) (sym kinds)
          (kind_there final (number_of final s) s (name_there s final i)));
    }

pub one_edge : (place : ℕ → ℤ) (b : Bool) (edge : Edge) → b ≡ false → AllByRecursion (Keeps place) (if b then [] else edge ∷ []) → Keeps place edge
one_edge place true edge e h = cc
one_edge place false edge e h = h.0

-- an answer keeps the window's edges
answer_edges : (window : WindowForm) (query : Query) (v : Valuation) (thread index : ℕ) (event : Event) → Meets (base_of window) query v
    → event_at window (event_id thread (suc index)) ≡ Some event
    → place_of v (number_in window (event_id thread index)) <ℤ place_of v (number_in window (event_id thread (suc index)))
answer_edges window query v thread index event m there =
    let id : EventId = event_id thread (suc index) in
    let named = points_named window in
    let f : Point = record { number = number_in window id; id = id; action = action_of event } in
    let has = named.all id event there in
    let later : (suc index == 0) ≡ false = ne_eqb (suc index) 0 (λ e. absurd (omega (arith, e))) in
    let own = recursion_flat_map_at (Keeps (place_of v)) edge_to (points_of window) f (recursion_from_All (Keeps (place_of v)) (flat_map edge_to (points_of window)) m.edges) has in
    let kept = one_edge (place_of v) (suc index == 0) (record { a = f.number - 1; b = f.number; c = negsuc 0 }) later own in
    let less = less_from (place_of v (f.number - 1)) (place_of v f.number) kept in
    let next = named.next thread index in
    let same : number_in window id - 1 ≡ number_in window (event_id thread index) = omega (arith, next) in
    subst (λ (n : ℕ). place_of v n <ℤ place_of v f.number) same less

-- an answer holds all clauses of the window
answer_holds : (window : WindowForm) (query : Query) (v : Valuation) (final : List Symbol) → Meets (base_of window) query v → Kept final (truth_of v) (place_of v)
    → Grows (names_in window) final → HoldAll (truth_from final (truth_of v) (place_of v)) (clauses_of window)
answer_holds window query v final m kept grows =
    let start : List Symbol = first_names window in
    clauses_from final (truth_of v) (place_of v) start (clauses_of window) kept grows
    (recursion_from_All (IsTrueClause (truth_of v)) (numbered start (clauses_of window)) m.clauses)

pub answer_base : (window : WindowForm) (query : Query) (v : Valuation) → Meets (base_of window) query v → BaseMeans window (read_by (names_in window) v)
answer_base window query v m = record {
  edges = λ thread index event there. answer_edges window query v thread index event m there;
  clauses = answer_holds window query v (names_in window) m (base_kept window query v m) (grows_none (names_in window));
}

pub answer_clauses : (window : WindowForm) (property : PropertyForm) (ids : List EventId) (v : Valuation)
    → Meets (base_of window) (query_of window property ids) v → BaseMeans window (read_by (query_names window property ids) v)
answer_clauses window property ids v m = record {
  edges = λ thread index event there. answer_edges window (query_of window property ids) v thread index event m there;
  clauses = answer_holds window (query_of window property ids) v (query_names window property ids) m (query_kept window property ids v m)
      (mentions_grow (names_in window) (mentioned window property ids));
}

pub answer_query : (window : WindowForm) (property : PropertyForm) (ids : List EventId) (v : Valuation)
    → Meets (base_of window) (query_of window property ids) v → QueryMeans window property ids (read_by (query_names window property ids) v)
answer_query window property ids v m =
    let names : List Symbol = names_in window in
    let final : List Symbol = query_names window property ids in
    let kept = query_kept window property ids v m in
    let locals : List SymbolicLit = pattern_lits window property ids in
    let lits : List SymbolicLit = executed_lits window ids ++ locals in
    let sides : List Symbol = flat_map (sides_of window) (groups_of property.pattern ids) in
    let symbols : List Symbol = map (λ (l : SymbolicLit). l.symbol) locals in
    let assumed = recursion_from_All (HoldsLit (truth_of v)) (map (numbered_lit final) lits) m.assumed in
    let true_now : (lit : SymbolicLit) → Contains lits lit → HoldsLit (truth_of v) (numbered_lit final lit) =
    λ lit i. recursion_at (HoldsLit (truth_of v)) (map (numbered_lit final) lits) (numbered_lit final lit) assumed (contains_map (numbered_lit final) lits lit i) in
    record {
      executed = λ id i.
          true_now (holds (Executed (number_in window id))) (Contains-append_left (executed_lits window ids) locals (holds (Executed (number_in window id)))
          (contains_map (λ (e : EventId). holds (Executed (number_in window e))) ids id i));
      pattern = λ lit i.
          lit_from final (truth_of v) (place_of v) lit kept
          (mentions_have lit.symbol names (mentioned window property ids) (Contains-append_left symbols sides lit.symbol (contains_map (λ (l : SymbolicLit). l.symbol) locals lit i)))
          (true_now lit (Contains-append_right (executed_lits window ids) locals lit i));
      mentioned = λ symbol i.
          bound_from (read_by final v) symbol ((read_by final v).symbols symbol) (kept.bounds symbol (mentions_have symbol names (mentioned window property ids) i));
    }

-- point p is executed is variable p
pub answer_points : (window : WindowForm) (final : List Symbol) (v : Valuation) (point : ℕ) → Grows (names_in window) final → point < length (points_of window)
    → (read_by final v).symbols (Executed point) ≡ truth_of v point
answer_points window final v point grows below =
    let start : List Symbol = first_names window in
    let grown : Grows start final = grows_on start (names_in window) final (of_grows start (clauses_of window)) grows in
    ap (truth_of v) (number_stays (Executed point) start final grown (point_named point (length (points_of window)) below) ∙ point_number point (length (points_of window)) below)

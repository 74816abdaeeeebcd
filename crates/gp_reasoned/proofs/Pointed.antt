-- The symbols of a window and of a query name points of the window.
use Rattle.std.proofs.Common.{ℕ, zero, suc, ◌≡◌, ◌<◌, refl, List, [], ◌∷◌, ◌++◌, Bool, true, false, arith, length, map}
use Rattle.std.specs.Prelude.{◌==◌, ◌&&◌, not, Option, Some, None, nat_lt, flat_map, find, if◌then◌else◌, ◌-◌, All, Contains}
use Rattle.std.specs.List.{AllByRecursion, list_any}
use Rattle.std.specs.Str.{bytes_eq}
use Rattle.std.proofs.lemmas.List.Elements.{All-contains}
use Rattle.gp_base.specs.ListLaws.{contains_found, contains_map, recursion_append, recursion_at, recursion_flat_map, recursion_map}
use Rattle.gp_clause.specs.Problem.{IsValidKind}
use Rattle.gp_constraint.specs.declared.action.Action.{Action}
use Rattle.gp_constraint.specs.declared.action.Action.TheVariants as action
use Rattle.gp_constraint.specs.declared.point.Point.{Point}
use Rattle.gp_constraint.specs.declared.symbol.Symbol.{Symbol}
use Rattle.gp_constraint.specs.declared.symbol.Symbol.TheVariants.{Executed, Order, Choice, StartChoice, First, Last, Signal, Span}
use Rattle.gp_constraint.specs.declared.symbol.SymbolicLit.{SymbolicLit}
use Rattle.gp_constraint.specs.declared.term.Term.{Term}
use Rattle.gp_constraint.specs.Base.{clauses_of, names_in}
use Rattle.gp_constraint.specs.FitLaws.{each_either, each_lit, each_unless, each_when, OfLit}
use Rattle.gp_constraint.specs.HeldLocks.{held_apart}
use Rattle.gp_constraint.specs.Joins.{ended, is_last_of, join_of, joined_by, joins}
use Rattle.gp_constraint.specs.Numbering.{names_after, names_of, point_names, with_mention, with_mentions}
use Rattle.gp_constraint.specs.PointLaws.{point_within}
use Rattle.gp_constraint.specs.Points.{number_in, points_of}
use Rattle.gp_constraint.specs.ProgramOrder.{linked, program_order}
use Rattle.gp_constraint.specs.Query.{holds, mentioned, order_lit, ordered, orders_from, pattern_lits, query_names, side, sides_of, span_lit, spans_in}
use Rattle.gp_constraint.specs.Reads.{choice, choices, choices_of, finds_at_start, is_choice, is_read, is_rival, kept_apart, kept_later, reads, seen_from, start_choice, start_choices}
use Rattle.gp_constraint.specs.Sections.{apart, ends_hold, exclude, in_either_order, sections, sections_apart, takes_against}
use Rattle.gp_constraint.specs.Starts.{is_start_of, start_of, starts}
use Rattle.gp_constraint.specs.Symbols.{kind_of, symbol_eq}
use Rattle.gp_constraint.specs.Terms.{before, chosen, constant, executed, first, is_always, lit_of, literal, needs, preceded, simplified, start_chosen}
use Rattle.gp_instance.specs.Matches.{groups_of}
use Rattle.gp_property.specs.PropertyForm.{PropertyForm}
use Rattle.gp_trace.specs.declared.lock_use.LockMode.{LockMode}
use Rattle.gp_trace.specs.declared.lock_use.LockUse.TheVariants.{Take, GiveBack}
use Rattle.gp_window.specs.declared.schedule.EventId.{EventId}
use Rattle.gp_window.specs.Events.{size_of}
use Rattle.gp_window.specs.Holders.{Holding}
use Rattle.gp_window.specs.Ids.{is_same}
use Rattle.gp_window.specs.Starts.{is_among}
use Rattle.gp_window.specs.WindowForm.{WindowForm, held_at_start}
use Rattle.gp_reason.specs.Truth.{NamesPoints}

-- a symbol names points, unless its kind tells that it does; none says which write is the last or which signal is taken
abbrev IsPointed : ℕ → Symbol → Type 0
IsPointed n (Executed p) = p < n
IsPointed n (Choice r w) = (r < n) × (w < n)
IsPointed n (StartChoice r) = r < n
IsPointed n (First a c) = (a < n) × (c < n)
IsPointed n (Order a b) = Unit {0}
IsPointed n (Span a b width) = Unit {0}
IsPointed n (Last w) = ⊥
IsPointed n (Signal w g) = ⊥

abbrev ArePointed : ℕ → List SymbolicLit → Type 0
ArePointed n lits = AllByRecursion (λ (lit : SymbolicLit). IsPointed n lit.symbol) lits

abbrev ClausesArePointed : ℕ → List (List SymbolicLit) → Type 0
ClausesArePointed n clauses = AllByRecursion (ArePointed n) clauses

abbrev IsPointedTerm : ℕ → Term → Type 0
IsPointedTerm n term = OfLit (λ (lit : SymbolicLit). IsPointed n lit.symbol) term

abbrev ArePointedTerms : ℕ → List Term → Type 0
ArePointedTerms n terms = AllByRecursion (IsPointedTerm n) terms

of_terms : (n : ℕ) (terms : List Term) → ArePointedTerms n terms → ClausesArePointed n (simplified terms)
of_terms n terms h =
    each_unless (ArePointed n) (list_any is_always terms) (flat_map lit_of terms ∷ []) (each_lit (λ (lit : SymbolicLit). IsPointed n lit.symbol) terms h, tt)

of_constant : (n : ℕ) (b : Bool) → IsPointedTerm n (constant b)
of_constant n true = tt
of_constant n false = tt

of_either : (n : ℕ) (b : Bool) (x y : Term) → IsPointedTerm n x → IsPointedTerm n y → IsPointedTerm n (if b then x else y)
of_either n true x y h k = h
of_either n false x y h k = k

of_before : (n : ℕ) (e f : Point) → IsPointedTerm n (before e f)
of_before n e f =
    of_either n (e.id.thread == f.id.thread) (constant (nat_lt e.id.index f.id.index))
    (if nat_lt e.number f.number then literal (Order e.number f.number) true else literal (Order f.number e.number) false)
    (of_constant n (nat_lt e.id.index f.id.index))
    (of_either n (nat_lt e.number f.number) (literal (Order e.number f.number) true) (literal (Order f.number e.number) false) tt tt)

of_preceded : (window : WindowForm) (guards : List Term) (test : Point → Bool) (f : Point) → ArePointedTerms (length (points_of window)) guards
    → ClausesArePointed (length (points_of window)) (preceded guards (find test (points_of window)) f)
of_preceded window guards test f pointed = of (find test (points_of window)) refl
  where
    n : ℕ
    n = length (points_of window)

    of : (found : Option Point) → find test (points_of window) ≡ found → ClausesArePointed n (preceded guards found f)
    of None e = of_terms n guards pointed
    of (Some s) e =
        let has = (contains_found test (points_of window) s e).0 in
        recursion_append (ArePointed n) (simplified (guards ++ executed s true ∷ [])) (simplified (guards ++ before s f ∷ []))
        (of_terms n (guards ++ executed s true ∷ []) (recursion_append (IsPointedTerm n) guards (executed s true ∷ []) pointed (point_within window s has, tt)))
        (of_terms n (guards ++ before s f ∷ []) (recursion_append (IsPointedTerm n) guards (before s f ∷ []) pointed (of_before n s f, tt)))

of_needs : (window : WindowForm) (test : Point → Bool) (f : Point) → Contains (points_of window) f
    → ClausesArePointed (length (points_of window)) (needs f (find test (points_of window)))
of_needs window test f i = of_preceded window (executed f false ∷ []) test f (point_within window f i, tt)

of_one : (n : ℕ) (b : Bool) (term : Term) → IsPointedTerm n term → ArePointedTerms n (if b then term ∷ [] else [])
of_one n true term h = (h, tt)
of_one n false term h = tt

of_choices : (window : WindowForm) (r : Point) → Contains (points_of window) r → ClausesArePointed (length (points_of window)) (choices_of window (points_of window) r)
of_choices window r i =
    let points : List Point = points_of window in
    let n : ℕ = length points in
    let terms : List Term = flat_map (choice r) points in
    let last : List Term = start_choice window r in
    let own = point_within window r i in
    each_when (ArePointed n) (is_read r.action) (simplified (executed r false ∷ terms ++ last))
    (of_terms n (executed r false ∷ terms ++ last) (
      own,
      recursion_append (IsPointedTerm n) terms last (recursion_flat_map (IsPointedTerm n) (choice r) points (λ w j. of_one n (is_choice r w) (chosen r w true) (own, point_within window w j)))
          (of_one n (finds_at_start window r.action) (start_chosen r true) own),
    ))

of_seen : (window : WindowForm) (r w : Point) → Contains (points_of window) r → Contains (points_of window) w
    → ClausesArePointed (length (points_of window)) (seen_from (points_of window) r w)
of_seen window r w i j =
    let points : List Point = points_of window in
    let n : ℕ = length points in
    let not_chosen : Term = chosen r w false in
    let both : IsPointedTerm n (chosen r w false) = (point_within window r i, point_within window w j) in
    let one : List (List SymbolicLit) = simplified (not_chosen ∷ executed w true ∷ []) in
    let two : List (List SymbolicLit) = simplified (not_chosen ∷ before w r ∷ []) in
    let three : List (List SymbolicLit) = flat_map (kept_apart r w) points in
    each_when (ArePointed n) (is_choice r w) ((one ++ two) ++ three)
    (recursion_append (ArePointed n) (one ++ two) three
    (recursion_append (ArePointed n) one two (of_terms n (not_chosen ∷ executed w true ∷ []) (both, (point_within window w j, tt)))
    (of_terms n (not_chosen ∷ before w r ∷ []) (both, (of_before n w r, tt))))
    (recursion_flat_map (ArePointed n) (kept_apart r w) points (λ other k.
    each_when (ArePointed n) (is_rival r.action other.action) (simplified (not_chosen ∷ executed other false ∷ before other w ∷ before r other ∷ []))
    (of_terms n (not_chosen ∷ executed other false ∷ before other w ∷ before r other ∷ [])
    (both, (point_within window other k, (of_before n other w, (of_before n r other, tt))))))))

of_start : (window : WindowForm) (r other : Point) → Contains (points_of window) r → Contains (points_of window) other
    → ClausesArePointed (length (points_of window)) (kept_later window r other)
of_start window r other i k =
    let n : ℕ = length (points_of window) in
    each_when (ArePointed n) (finds_at_start window r.action && is_rival r.action other.action) (simplified (start_chosen r false ∷ executed other false ∷ before r other ∷ []))
    (of_terms n (start_chosen r false ∷ executed other false ∷ before r other ∷ []) (point_within window r i, (point_within window other k, (of_before n r other, tt))))

of_either_order : (window : WindowForm) (a : Point) (mode : LockMode) (c : Point) (other : LockMode) (lock : List ℕ) → Contains (points_of window) a → Contains (points_of window) c
    → ClausesArePointed (length (points_of window)) (in_either_order (points_of window) a mode c other lock)
of_either_order window a mode c other lock i j =
    let points : List Point = points_of window in
    let n : ℕ = length points in
    let left = point_within window a i in
    let right = point_within window c j in
    let one : List Term = executed a false ∷ executed c false ∷ first a c false ∷ [] in
    let two : List Term = executed a false ∷ executed c false ∷ first a c true ∷ [] in
    recursion_append (ArePointed n) (preceded one (find (ends_hold mode lock a.id.thread (suc a.id.index)) points) c) (preceded two (find (ends_hold other lock c.id.thread (suc c.id.index)) points) a)
    (of_preceded window one (ends_hold mode lock a.id.thread (suc a.id.index)) c (left, (right, ((left, right), tt))))
    (of_preceded window two (ends_hold other lock c.id.thread (suc c.id.index)) a (left, (right, ((left, right), tt))))

of_apart : (window : WindowForm) (a c : Point) (one two : Action) → Contains (points_of window) a → Contains (points_of window) c
    → ClausesArePointed (length (points_of window)) (apart (points_of window) a c one two)
of_apart window a c (action.Lock (Take mode lock)) (action.Lock (Take other again)) i j =
    each_when (ArePointed (length (points_of window))) (bytes_eq lock again && (exclude mode other && nat_lt a.id.thread c.id.thread))
    (in_either_order (points_of window) a mode c other lock) (of_either_order window a mode c other lock i j)
of_apart window a c (action.Lock (Take mode lock)) (action.Lock (GiveBack other again)) i j = tt
of_apart window a c (action.Lock (Take mode lock)) (action.Read name value) i j = tt
of_apart window a c (action.Lock (Take mode lock)) (action.Write name value) i j = tt
of_apart window a c (action.Lock (Take mode lock)) (action.Start thread) i j = tt
of_apart window a c (action.Lock (Take mode lock)) (action.Join thread) i j = tt
of_apart window a c (action.Lock (Take mode lock)) action.Other i j = tt
of_apart window a c (action.Lock (GiveBack mode lock)) two i j = tt
of_apart window a c (action.Read name value) two i j = tt
of_apart window a c (action.Write name value) two i j = tt
of_apart window a c (action.Start thread) two i j = tt
of_apart window a c (action.Join thread) two i j = tt
of_apart window a c action.Other two i j = tt

of_ended : (window : WindowForm) (j : Point) (thread : ℕ) → Contains (points_of window) j
    → ClausesArePointed (length (points_of window)) (ended window (points_of window) j thread)
of_ended window j thread i =
    let points : List Point = points_of window in
    let n : ℕ = length points in
    let start : List (List SymbolicLit) = needs j (find (is_start_of thread) points) in
    each_either (ArePointed n) (size_of window thread == 0) (if is_among window.started thread then [] else start) (needs j (find (is_last_of window thread) points))
    (each_unless (ArePointed n) (is_among window.started thread) start (of_needs window (is_start_of thread) j i)) (of_needs window (is_last_of window thread) j i)

of_join : (window : WindowForm) (j : Point) (does : Action) → Contains (points_of window) j → ClausesArePointed (length (points_of window)) (joined_by window (points_of window) j does)
of_join window j (action.Join thread) i =
    let n : ℕ = length (points_of window) in
    each_either (ArePointed n) (is_among window.exited thread) (ended window (points_of window) j thread) (simplified (executed j false ∷ []))
    (of_ended window j thread i) (of_terms n (executed j false ∷ []) (point_within window j i, tt))
of_join window j (action.Read name value) i = tt
of_join window j (action.Write name value) i = tt
of_join window j (action.Lock lock_use) i = tt
of_join window j (action.Start other) i = tt
of_join window j action.Other i = tt

of_held : (window : WindowForm) (hold : Holding) (c : Point) → Contains (points_of window) c → ClausesArePointed (length (points_of window)) (held_apart (points_of window) hold c)
of_held window hold c i =
    let points : List Point = points_of window in
    each_when (ArePointed (length points)) (takes_against hold.1 hold.0.0 c.action && not (c.id.thread == hold.0.1))
    (needs c (find (ends_hold hold.1 hold.0.0 hold.0.1 0) points)) (of_needs window (ends_hold hold.1 hold.0.0 hold.0.1 0) c i)

of_linked : (window : WindowForm) (f : Point) → Contains (points_of window) f → ClausesArePointed (length (points_of window)) (linked f)
of_linked window f i =
    let own = point_within window f i in
    each_unless (ArePointed (length (points_of window))) (f.id.index == 0) (simplified (executed f false ∷ literal (Executed (f.number - 1)) true ∷ []))
    (of_terms (length (points_of window)) (executed f false ∷ literal (Executed (f.number - 1)) true ∷ []) (own, (omega (arith, own), tt)))

of_families : (window : WindowForm) → ClausesArePointed (length (points_of window)) (clauses_of window)
of_families window =
    let points : List Point = points_of window in
    let n : ℕ = length points in
    let c1 = recursion_flat_map (ArePointed n) linked points (of_linked window) in
    let c2 = recursion_flat_map (ArePointed n) (start_of window points) points (λ f i.
    each_when (ArePointed n) (f.id.index == 0 && not (is_among window.started f.id.thread)) (needs f (find (is_start_of f.id.thread) points))
    (of_needs window (is_start_of f.id.thread) f i)) in
    let c3 = recursion_flat_map (ArePointed n) (join_of window points) points (λ j i. of_join window j j.action i) in
    let c4 = recursion_flat_map (ArePointed n) (choices_of window points) points (λ r i. of_choices window r i) in
    let c5 = recursion_flat_map (ArePointed n) (λ r. flat_map (seen_from points r) points) points (λ r i.
    recursion_flat_map (ArePointed n) (seen_from points r) points (λ w j. of_seen window r w i j)) in
    let c6 = recursion_flat_map (ArePointed n) (λ r. flat_map (kept_later window r) points) points (λ r i.
    recursion_flat_map (ArePointed n) (kept_later window r) points (λ other j. of_start window r other i j)) in
    let c7 = recursion_flat_map (ArePointed n) (λ a. flat_map (sections_apart points a) points) points (λ a i.
    recursion_flat_map (ArePointed n) (sections_apart points a) points (λ c j. of_apart window a c a.action c.action i j)) in
    let c8 = recursion_flat_map (ArePointed n) (λ hold. flat_map (held_apart points hold) points) (held_at_start window) (λ hold k.
    recursion_flat_map (ArePointed n) (held_apart points hold) points (λ c i. of_held window hold c i)) in
    recursion_append (ArePointed n) (program_order points) _ c1
    (recursion_append (ArePointed n) (starts window points) _ c2
    (recursion_append (ArePointed n) (joins window points) _ c3
    (recursion_append (ArePointed n) (reads window points) _ c4
    (recursion_append (ArePointed n) (choices points) _ c5
    (recursion_append (ArePointed n) (start_choices window points) _ c6
    (recursion_append (ArePointed n) (sections points) _ c7 c8))))))

-- so are the names of the window
abbrev NamesArePointed : ℕ → List Symbol → Type 0
NamesArePointed n names = AllByRecursion (IsPointed n) names

pointed_if : (n : ℕ) (b : Bool) (names more : List Symbol) → NamesArePointed n names → NamesArePointed n more → NamesArePointed n (if b then names else more)
pointed_if n true names more h k = h
pointed_if n false names more h k = k

pointed_mention : (n : ℕ) (names : List Symbol) (s : Symbol) → NamesArePointed n names → IsPointed n s → NamesArePointed n (with_mention names s)
pointed_mention n names s h k = pointed_if n (list_any (symbol_eq s) names) names (names ++ s ∷ []) h (recursion_append (IsPointed n) names (s ∷ []) h (k, tt))

pointed_after : (n : ℕ) (names : List Symbol) (lits : List SymbolicLit) → NamesArePointed n names → ArePointed n lits → NamesArePointed n (names_after names lits)
pointed_after n names [] h k = h
pointed_after n names (lit ∷ lits) h k = pointed_after n (with_mention names lit.symbol) lits (pointed_mention n names lit.symbol h k.0) k.1

pointed_of : (n : ℕ) (names : List Symbol) (clauses : List (List SymbolicLit)) → NamesArePointed n names → ClausesArePointed n clauses → NamesArePointed n (names_of names clauses)
pointed_of n names [] h k = h
pointed_of n names (clause ∷ clauses) h k = pointed_of n (names_after names clause) clauses (pointed_after n names clause h k.0) k.1

pointed_mentions : (n : ℕ) (names symbols : List Symbol) → NamesArePointed n names → NamesArePointed n symbols → NamesArePointed n (with_mentions names symbols)
pointed_mentions n names [] h k = h
pointed_mentions n names (s ∷ symbols) h k = pointed_mentions n (with_mention names s) symbols (pointed_mention n names s h k.0) k.1

pointed_points : (n count : ℕ) → count < suc n → NamesArePointed n (point_names count)
pointed_points n zero few = tt
pointed_points n (suc count) few = recursion_append (IsPointed n) (point_names count) (Executed count ∷ []) (pointed_points n count (omega (arith, few))) (omega (arith, few), tt)

-- what a query mentions is orders and distances
abbrev IsPlaced : SymbolicLit → Type 0
IsPlaced lit = (n : ℕ) → IsPointed n lit.symbol

placed_either : (b : Bool) (x y : SymbolicLit) → IsPlaced x → IsPlaced y → IsPlaced (if b then x else y)
placed_either true x y h k = h
placed_either false x y h k = k

placed_unless : (b : Bool) (lit : SymbolicLit) → IsPlaced lit → AllByRecursion IsPlaced (if b then [] else lit ∷ [])
placed_unless true lit h = tt
placed_unless false lit h = (h, tt)

placed_ordered : (window : WindowForm) (one other : EventId) → IsPlaced (ordered window one other)
placed_ordered window one other =
    placed_either (nat_lt (number_in window one) (number_in window other)) (holds (Order (number_in window one) (number_in window other)))
    (record { symbol = Order (number_in window other) (number_in window one); positive = false }) (λ n. tt) (λ n. tt)

placed_orders : (window : WindowForm) (before : List EventId) (groups : List (List EventId)) → AllByRecursion IsPlaced (orders_from window before groups)
placed_orders window before [] = tt
placed_orders window before (group ∷ groups) =
    recursion_append IsPlaced (flat_map (λ one. flat_map (order_lit window one) group) before) (orders_from window group groups)
    (recursion_flat_map IsPlaced (λ one. flat_map (order_lit window one) group) before (λ one i.
    recursion_flat_map IsPlaced (order_lit window one) group (λ other j. placed_unless (one.thread == other.thread) (ordered window one other) (placed_ordered window one other))))
    (placed_orders window group groups)

placed_spans : (window : WindowForm) (group : List EventId) → AllByRecursion IsPlaced (spans_in window group)
placed_spans window group =
    recursion_flat_map IsPlaced (λ one. flat_map (span_lit window (length group - 1) one) group) group (λ one i.
    recursion_flat_map IsPlaced (span_lit window (length group - 1) one) group (λ other j.
    placed_unless (is_same one other) (holds (Span (number_in window one) (number_in window other) (length group - 1))) (λ n. tt)))

placed_pattern : (window : WindowForm) (property : PropertyForm) (ids : List EventId) → AllByRecursion IsPlaced (pattern_lits window property ids)
placed_pattern window property ids =
    recursion_append IsPlaced (orders_from window [] (groups_of property.pattern ids)) (flat_map (spans_in window) (groups_of property.pattern ids))
    (placed_orders window [] (groups_of property.pattern ids)) (recursion_flat_map IsPlaced (spans_in window) (groups_of property.pattern ids) (λ group i. placed_spans window group))

pointed_side : (n : ℕ) (b : Bool) (s : Symbol) → IsPointed n s → NamesArePointed n (if b then [] else s ∷ [])
pointed_side n true s h = tt
pointed_side n false s h = (h, tt)

pointed_sides : (n : ℕ) (window : WindowForm) (group : List EventId) → NamesArePointed n (sides_of window group)
pointed_sides n window [] = tt
pointed_sides n window (single ∷ []) = tt
pointed_sides n window (one ∷ other ∷ rest) =
    recursion_flat_map (IsPointed n) (λ id. flat_map (side window id) (points_of window)) (one ∷ other ∷ rest) (λ id i.
    recursion_flat_map (IsPointed n) (side window id) (points_of window) (λ p j.
    pointed_side n (id.thread == p.id.thread) (ordered window id p.id).symbol (placed_ordered window id p.id n)))

pointed_mentioned : (n : ℕ) (window : WindowForm) (property : PropertyForm) (ids : List EventId) → NamesArePointed n (mentioned window property ids)
pointed_mentioned n window property ids =
    recursion_append (IsPointed n) (map (λ (lit : SymbolicLit). lit.symbol) (pattern_lits window property ids)) (flat_map (sides_of window) (groups_of property.pattern ids))
    (recursion_map (IsPointed n) (λ (lit : SymbolicLit). lit.symbol) (pattern_lits window property ids) (λ lit i. recursion_at IsPlaced (pattern_lits window property ids) lit (placed_pattern window property ids) i n))
    (recursion_flat_map (IsPointed n) (sides_of window) (groups_of property.pattern ids) (λ group i. pointed_sides n window group))

pointed_names : (window : WindowForm) (property : PropertyForm) (ids : List EventId) → NamesArePointed (length (points_of window)) (query_names window property ids)
pointed_names window property ids =
    pointed_mentions (length (points_of window)) (names_in window) (mentioned window property ids)
    (pointed_of (length (points_of window)) (point_names (length (points_of window))) (clauses_of window) (pointed_points (length (points_of window)) (length (points_of window)) (omega arith))
    (of_families window))
    (pointed_mentioned (length (points_of window)) window property ids)

by_kind : (n : ℕ) (symbol : Symbol) → IsPointed n symbol → IsValidKind n (kind_of symbol) → NamesPoints n symbol
by_kind n (Executed p) pointed valid = pointed
by_kind n (Order a b) pointed valid = (valid.0, valid.1)
by_kind n (Choice r w) pointed valid = pointed
by_kind n (StartChoice r) pointed valid = pointed
by_kind n (First a c) pointed valid = pointed
by_kind n (Last w) pointed valid = absurd pointed
by_kind n (Signal w g) pointed valid = absurd pointed
by_kind n (Span a b width) pointed valid = (valid.0, valid.1)

-- where the kinds of all names are valid, each names points
pub names_points : (window : WindowForm) (property : PropertyForm) (ids : List EventId) → All (IsValidKind (length (points_of window))) (map kind_of (query_names window property ids))
    → (symbol : Symbol) → Contains (query_names window property ids) symbol → NamesPoints (length (points_of window)) symbol
names_points window property ids kinds symbol i =
    by_kind (length (points_of window)) symbol (recursion_at (IsPointed (length (points_of window))) (query_names window property ids) symbol (pointed_names window property ids) i)
    (All-contains (IsValidKind (length (points_of window))) (map kind_of (query_names window property ids)) (kind_of symbol) kinds (contains_map kind_of (query_names window property ids) symbol i))

-- A schedule is a valuation.
use Rattle.std.proofs.Common.{ℕ, zero, suc, ℤ, pos, negsuc, ◌≡◌, ◌+◌, ◌-◌, ◌<◌, ◌-ℤ◌, ◌≤ℤ◌, ◌<ℤ◌, ap, sym, ◌∙◌, refl, subst, List, [], ◌∷◌, ◌++◌, Bool, true, false, length, map, arith}
use Rattle.std.specs.Prelude.{Option, Some, ◌==◌, flat_map, if◌then◌else◌, int_le, int_lt, slice_get, Contains}
use Rattle.std.specs.List.{AllByRecursion}
use Rattle.std.proofs.lemmas.Int.{ints}
use Rattle.std.proofs.lemmas.List.Elements.{All-from_recursion}
use Rattle.gp_clause.specs.declared.kind.Kind.{Kind}
use Rattle.gp_clause.specs.Edge.{Keeps}
use Rattle.gp_clause.specs.Kind.{FitsKind}
use Rattle.gp_clause.specs.Valuation.{IsValuation}
use Rattle.gp_window.specs.declared.schedule.EventId.{EventId}
use Rattle.gp_window.specs.WindowForm.{WindowForm}
use Rattle.gp_window.specs.IdLaws.{in_middle}
use Rattle.gp_window.specs.Ids.{contains_event}
use Rattle.gp_replay.specs.Feasible.{IsFeasible}
use Rattle.gp_constraint.specs.declared.point.Point.{Point}
use Rattle.gp_constraint.specs.declared.symbol.Symbol.{Symbol}
use Rattle.gp_constraint.specs.declared.symbol.Symbol.TheVariants.{Executed, Order, Choice, StartChoice, First, Last, Signal, Span}
use Rattle.gp_base.specs.ListLaws.{here, recursion_flat_map, there}
use Rattle.gp_constraint.specs.PointLaws.{IsEventOf}
use Rattle.gp_constraint.specs.Points.{number_in, points_of}
use Rattle.gp_constraint.specs.ProgramOrder.{edge_to}
use Rattle.gp_constraint.specs.Symbols.{kind_of}
use Rattle.gp_constraint.specs.Truths.{variable_true}
use Rattle.gp_witness.specs.Complete.{SaysSchedule}
use Rattle.gp_witness.specs.Meaning.{PlacesRise, Truth}
use Rattle.gp_witness.specs.ScheduleTruth.{before_of, schedule_place, schedule_truth}
use Rattle.gp_witness.specs.TruthOfSymbols.{id_at, id_in}
use Rattle.gp_witness.proofs.Assumed.{at_event, int_le_to}
use Rattle.gp_witness.proofs.Done.{stands_at}
use Rattle.gp_witness.proofs.Listed.{Counted, from_counted}
use Rattle.gp_witness.proofs.Matched.{executed_event}
use Rattle.gp_witness.proofs.Located.{before_link, int_lt_to, number_is, point_is, says}
use Rattle.gp_witness.proofs.Placed.{place_absent, place_executed, places_differ, places_rise}
use Rattle.gp_witness.proofs.PointActions.{point_event}

-- the place of the point of a number
abbrev pub place_at : WindowForm → Truth → ℕ → ℤ
place_at window t number = t.place (id_at (points_of window) number)

-- the point at a place
there_is : (points : List Point) (a : ℕ) → a < length points → (p : Point) × (slice_get points a ≡ Some p) × Contains points p
there_is [] a less = absurd (omega (arith, less))
there_is (p ∷ points) zero less = (p, refl, here _ _)
there_is (p ∷ points) (suc a) less = let rest = there_is points a (omega (arith, less)) in (rest.0, rest.1, there _ _ _ rest.2)

counted_at : (number : ℕ) (points : List Point) (k : ℕ) (p : Point) → Counted number points → slice_get points k ≡ Some p → p.number ≡ number + k
counted_at number [] k p counted is = cc
counted_at number (q ∷ points) zero p counted is =
    let found : ◌≡◌ {A = Option Point} (Some q) (Some p) = is in
    let same : q ≡ p = cc in
    let own : q.number ≡ p.number = ap (λ (x : Point). x.number) same in
    let first = counted.0 in omega (arith, own, first)
counted_at number (q ∷ points) (suc k) p counted is = let rest = counted_at (suc number) points k p counted.1 is in omega (arith, rest)

-- edges
keeps_less : (a b : ℤ) → a <ℤ b → (a -ℤ b) ≤ℤ negsuc 0
keeps_less a b less = omega (arith, ints, less)

edge_kept : (window : WindowForm) (t : Truth) → PlacesRise window t → (f : Point) → Contains (points_of window) f → (b : Bool) → (f.id.index == 0) ≡ b
    → AllByRecursion (Keeps (place_at window t)) (if b then [] else record { a = f.number - 1; b = f.number; c = negsuc 0 } ∷ [])
edge_kept window t rise f in_f true first = tt
edge_kept window t rise f in_f false later =
    let link = before_link window f in_f later in
    let less = rise link.before f.id link.there (point_event window f (point_is window f in_f)) link.own link.lower in
    let place_f : place_at window t f.number ≡ t.place f.id = ap t.place (ap (λ n. id_at (points_of window) n) (number_is window f in_f) ∙ at_event window f.id (point_event window f (point_is window f in_f))) in
    let place_e : place_at window t (f.number - 1) ≡ t.place link.before = ap t.place link.at in (
      subst (λ x. (x -ℤ place_at window t f.number) ≤ℤ negsuc 0) (sym place_e)
          (subst (λ x. (t.place link.before -ℤ x) ≤ℤ negsuc 0) (sym place_f) (keeps_less (t.place link.before) (t.place f.id) less)),
      tt,
    )

edges_kept : (window : WindowForm) (t : Truth) → PlacesRise window t → AllByRecursion (Keeps (place_at window t)) (flat_map edge_to (points_of window))
edges_kept window t rise = recursion_flat_map (Keeps (place_at window t)) edge_to (points_of window) (λ f in_f. edge_kept window t rise f in_f (f.id.index == 0) refl)

-- each variable says what its kind says
lt_back : (a b : ℤ) → int_lt a b ≡ true → a <ℤ b
lt_back a b is = omega (arith, ints, is)

le_back : (a b : ℤ) → int_le a b ≡ true → a ≤ℤ b
le_back a b is = omega (arith, ints, is)

kind_fits : (window : WindowForm) (t : Truth) (symbol : Symbol) → FitsKind (place_at window t) (kind_of symbol) (says window t symbol)
kind_fits window t (Executed e) = tt
kind_fits window t (Choice r w) = tt
kind_fits window t (StartChoice r) = tt
kind_fits window t (First a c) = tt
kind_fits window t (Last w) = tt
kind_fits window t (Signal w g) = tt
kind_fits window t (Order e f) = (lt_back (place_at window t e) (place_at window t f), int_lt_to (place_at window t e) (place_at window t f))
kind_fits window t (Span a b c) =
    (le_back (place_at window t a -ℤ place_at window t b) (pos c), int_le_to (place_at window t a -ℤ place_at window t b) (pos c))

kinds_fit : (window : WindowForm) (t : Truth) (names : List Symbol) (k : ℕ) (kind : Kind) → slice_get (map kind_of names) k ≡ Some kind
    → FitsKind (place_at window t) kind (variable_true names (says window t) k)
kinds_fit window t [] k kind is = cc
kinds_fit window t (symbol ∷ names) zero kind is =
    let same : ◌≡◌ {A = Option Kind} (Some (kind_of symbol)) (Some kind) = is in
    let one : kind_of symbol ≡ kind = cc in
    subst (λ z. FitsKind (place_at window t) z (says window t symbol)) one (kind_fits window t symbol)
kinds_fit window t (symbol ∷ names) (suc k) kind is = kinds_fit window t names k kind is

pub valued : (window : WindowForm) (ids : List EventId) (names : List Symbol) → IsFeasible window ids
    → IsValuation (length (points_of window)) (flat_map edge_to (points_of window)) (map kind_of names)
    (variable_true names (says window (schedule_truth window ids))) (place_at window (schedule_truth window ids))
valued window ids names feasible =
    let t : Truth = schedule_truth window ids in
    let points : List Point = points_of window in
    record {
      apart = λ a b below_a below_b differ same.
          let p = there_is points a below_a in
          let q = there_is points b below_b in
          let at_a : id_at points a ≡ p.0.id = ap id_in p.1 in
          let at_b : id_at points b ≡ q.0.id = ap id_in q.1 in
          let tied : t.place p.0.id ≡ t.place q.0.id = sym (ap t.place at_a) ∙ same ∙ ap t.place at_b in
          let one : p.0.id ≡ q.0.id = places_differ window ids p.0.id q.0.id (point_event window p.0 (point_is window p.0 p.2)) (point_event window q.0 (point_is window q.0 q.2)) tied in
          let number_a = counted_at 0 points a p.0 (from_counted 1 0 window.segments) p.1 in
          let number_b = counted_at 0 points b q.0 (from_counted 1 0 window.segments) q.1 in
          let numbers : p.0.number ≡ q.0.number = number_is window p.0 p.2 ∙ ap (λ e. number_in window e) one ∙ sym (number_is window q.0 q.2) in
          differ (let is : a ≡ b = omega (arith, number_a, number_b, numbers) in is);
      keeps = All-from_recursion (Keeps (place_at window t)) (flat_map edge_to points) (edges_kept window t (places_rise window ids feasible));
      fits = kinds_fit window t names;
    }

-- what stands at a place has so many before it
split_at : (ids : List EventId) (i : ℕ) (e : EventId) → slice_get ids i ≡ Some e → (front : List EventId) × (back : List EventId) × (ids ≡ front ++ e ∷ back) × (length front ≡ i)
split_at [] i e is = cc
split_at (id ∷ ids) zero e is =
    let found : ◌≡◌ {A = Option EventId} (Some id) (Some e) = is in
    let same : id ≡ e = cc in ([], ids, ap (λ x. x ∷ ids) same, refl)
split_at (id ∷ ids) (suc i) e is =
    let rest = split_at ids i e is in (id ∷ rest.0, rest.1, ap (λ xs. id ∷ xs) rest.2, ap suc rest.3)

later_place : (n more place : ℕ) → place ≡ n + more → pos n ≤ℤ pos place
later_place n more place is = omega (arith, ints, is)

-- a truth that is that of the executed points says what the schedule does
pub says_schedule : (window : WindowForm) (ids : List EventId) (truth : ℕ → Bool) → IsFeasible window ids
    → ((e : EventId) → IsEventOf window e → truth (number_in window e) ≡ says window (schedule_truth window ids) (Executed (number_in window e)))
    → SaysSchedule window ids truth (place_at window (schedule_truth window ids))
says_schedule window ids truth feasible same =
    let t : Truth = schedule_truth window ids in
    record {
      executed = λ e is_event. same e is_event ∙ ap t.executed (at_event window e is_event);
      placed = λ i e is.
          let split = split_at ids i e is in
          let there : contains_event ids e ≡ true = subst (λ list. contains_event list e ≡ true) (sym split.2) (in_middle split.0 split.1 e) in
          let stands : before_of ids e ≡ split.0 = stands_at window ids split.0 e split.1 feasible split.2 in
          ap t.place (at_event window e (executed_event window ids e feasible there)) ∙ ap pos (place_executed window ids e there ∙ ap length stands ∙ split.3);
      later = λ e is_event absent.
          subst (λ z. pos (length ids) ≤ℤ z) (sym (ap t.place (at_event window e is_event)))
          (later_place (length ids) (number_in window e) (schedule_place window ids e) (place_absent window ids e absent));
    }

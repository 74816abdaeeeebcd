-- What true clauses of signals say: an executed wake takes a signal, after its sleep and before it.
use Rattle.std.proofs.Common.{◌≡◌, ◌<◌, refl, sym, subst, List, [], ◌∷◌, ◌++◌, true, false}
use Rattle.std.specs.Prelude.{◌<ℤ◌, Contains, Option, Some, None, flat_map, map, nat_lt}
use Rattle.std.proofs.lemmas.Bool.{lt-ltb}
use Rattle.gp_base.specs.FilterLaws.{contains_filter, contains_from_filter}
use Rattle.gp_base.specs.ListLaws.{any_nothing, contains_from_map}
use Rattle.gp_window.specs.WindowForm.{WindowForm}
use Rattle.gp_constraint.specs.declared.point.Point.{Point}
use Rattle.gp_constraint.specs.declared.symbol.Symbol.TheVariants.{Executed, Signal}
use Rattle.gp_constraint.specs.declared.symbol.SymbolicLit.{SymbolicLit}
use Rattle.gp_constraint.specs.declared.term.Term.{Term}
use Rattle.gp_constraint.specs.ClauseLaws.{AnyTerm, before_means, both, clause_means, each_holds, Holds, last_one, skip, when}
use Rattle.gp_constraint.specs.Points.{number_in, points_of}
use Rattle.gp_constraint.specs.SymbolTruth.{HoldAll, KeepsEdges, SymbolTruth}
use Rattle.gp_constraint.specs.Terms.{before, executed, simplified}
use Rattle.gp_notify.specs.Calls.{call_at, is_notify}
use Rattle.gp_notify.specs.Signals.{between, may_take, not_both, notified, notifies_of, signals_of, signals_to, sleep_of, takers_of, takes, takes_one, wakes_of, woken, woken_by}

-- one of the terms of a list is true
mapped_term : (t : SymbolTruth) (f : Point → Term) (points : List Point) → AnyTerm t (map f points) → (p : Point) × Contains points p × Holds t (f p)
mapped_term t f points (k, term, within, is, h) =
    let from = contains_from_map f points term (k, within, is) in
    (from.0, from.1, subst (Holds t) (sym from.2) h)

-- the clauses of a wake, with its sleep
record HasSlept (window : WindowForm) (t : SymbolTruth) (w : Point) (found : Option Point) : Type 0 where
  sleep : Point
  is : found ≡ Some sleep
  one : HoldAll t (takes_one (signals_to window w) w)
  all : HoldAll t (flat_map (between w sleep) (signals_to window w))

has_slept : (window : WindowForm) (t : SymbolTruth) (w : Point) (found : Option Point) → HoldAll t (woken_by (signals_to window w) w found)
    → t.symbols (Executed w.number) ≡ true → HasSlept window t w found
has_slept window t w None h runs = absurd (any_nothing (Holds t) (skip t (Executed w.number) [] runs (clause_means t (executed w false ∷ []) h)))
has_slept window t w (Some s) h runs =
    let parts = both t (takes_one (signals_to window w) w) (flat_map (between w s) (signals_to window w)) h in
    record { sleep = s; is = refl; one = parts.0; all = parts.1 }

-- an executed wake has a sleep and takes a signal
pub record TakesOne (window : WindowForm) (t : SymbolTruth) (w : Point) : Type 0 where
  pub sleep : Point
  pub slept : sleep_of window w ≡ Some sleep
  pub clauses : HoldAll t (flat_map (between w sleep) (signals_to window w))
  pub signal : Point
  pub may : Contains (signals_to window w) signal
  pub taken : t.symbols (Signal w.number signal.number) ≡ true

pub takes_told : (window : WindowForm) (t : SymbolTruth) (w : Point) → HoldAll t (signals_of window) → Contains (wakes_of window) w
    → t.symbols (Executed w.number) ≡ true → TakesOne window t w
takes_told window t w all in_w runs =
    let families = both t (flat_map (woken window) (wakes_of window)) (flat_map (notified window) (notifies_of window)) all in
    let h = has_slept window t w (sleep_of window w) (each_holds t (woken window) w (wakes_of window) families.0 in_w) runs in
    let terms : List Term = map (λ g. takes w g true) (signals_to window w) in
    let g = mapped_term t (λ g. takes w g true) (signals_to window w) (skip t (Executed w.number) terms runs (clause_means t (executed w false ∷ terms) h.one)) in
    record { sleep = h.sleep; slept = h.is; clauses = h.all; signal = g.0; may = g.1; taken = g.2.0 }

-- the signal that it takes is executed, between the sleep and the wake
pub record IsBetween (window : WindowForm) (t : SymbolTruth) (w s g : Point) : Type 0 where
  pub runs : t.symbols (Executed g.number) ≡ true
  pub after : t.places (number_in window s.id) <ℤ t.places (number_in window g.id)
  pub before : t.places (number_in window g.id) <ℤ t.places (number_in window w.id)

pub between_told : (window : WindowForm) (t : SymbolTruth) (w s g : Point) → KeepsEdges window (number_in window) t
    → Contains (points_of window) w → Contains (points_of window) s → Contains (signals_to window w) g
    → HoldAll t (flat_map (between w s) (signals_to window w)) → t.symbols (Signal w.number g.number) ≡ true
    → IsBetween window t w s g
between_told window t w s g edges in_w in_s may all taken =
    let in_g = (contains_from_filter (may_take window w) (points_of window) g may).0 in
    let own = each_holds t (between w s) g (signals_to window w) all may in
    let first : List (List SymbolicLit) = simplified (takes w g false ∷ executed g true ∷ []) in
    let second : List (List SymbolicLit) = simplified (takes w g false ∷ before s g ∷ []) in
    let third : List (List SymbolicLit) = simplified (takes w g false ∷ before g w ∷ []) in
    let one = both t first (second ++ third) own in
    let two = both t second third one.1 in
    let left : (term : Term) → HoldAll t (simplified (takes w g false ∷ term ∷ [])) → Holds t term =
    (λ term h. last_one t term (skip t (Signal w.number g.number) (term ∷ []) taken (clause_means t (takes w g false ∷ term ∷ []) h))) in
    record {
      runs = (left (executed g true) one.0).0;
      after = before_means window t s g edges in_s in_g (left (before s g) two.0);
      before = before_means window t g w edges in_g in_w (left (before g w) two.1);
    }

-- a signal to one is not taken by two wakes
pub alone_told : (window : WindowForm) (t : SymbolTruth) (g w v : Point) → HoldAll t (signals_of window)
    → Contains (points_of window) g → is_notify (call_at window g.id) ≡ true
    → Contains (wakes_of window) w → Contains (wakes_of window) v → may_take window w g ≡ true → may_take window v g ≡ true → w.number < v.number
    → t.symbols (Signal w.number g.number) ≡ true → t.symbols (Signal v.number g.number) ≡ true → ⊥
alone_told window t g w v all in_g notifies in_w in_v may too less taken both_take =
    let families = both t (flat_map (woken window) (wakes_of window)) (flat_map (notified window) (notifies_of window)) all in
    let own = each_holds t (notified window) g (notifies_of window) families.1 (contains_filter (λ (p : Point). is_notify (call_at window p.id)) (points_of window) g in_g notifies) in
    let takers : List Point = takers_of window g in
    let rows = each_holds t (λ x. flat_map (not_both g x) takers) w takers own (contains_filter (λ x. may_take window x g) (wakes_of window) w in_w may) in
    let clause = when t (nat_lt w.number v.number) (simplified (takes w g false ∷ takes v g false ∷ [])) [] (lt-ltb w.number v.number less)
    (each_holds t (not_both g w) v takers rows (contains_filter (λ x. may_take window x g) (wakes_of window) v in_v too)) in
    any_nothing (Holds t) (skip t (Signal v.number g.number) [] both_take
    (skip t (Signal w.number g.number) (takes v g false ∷ []) taken (clause_means t (takes w g false ∷ takes v g false ∷ []) clause)))

-- True clauses, taken apart: terms, guards, and what is found among the points.
use Rattle.std.proofs.Common.{◌≡◌, refl, subst, List, [], ◌∷◌, Bool, true, false}
use Rattle.std.specs.Prelude.{Some, None, Option, is_some, find, Contains}
use Rattle.std.proofs.lemmas.Bool.{and_from, and_parts}
use Rattle.gp_trace.specs.declared.event.Event.{Event}
use Rattle.gp_window.specs.Events.{event_at}
use Rattle.gp_window.specs.WindowForm.{WindowForm}
use Rattle.gp_window.specs.declared.schedule.EventId.{EventId}
use Rattle.gp_constraint.specs.ClauseLaws.{Holds, AnyTerm, skip, preceded_means, before_means}
use Rattle.gp_constraint.specs.declared.point.Point.{Point}
use Rattle.gp_constraint.specs.declared.symbol.Symbol.TheVariants.{Executed}
use Rattle.gp_constraint.specs.declared.term.Term.{Term}
use Rattle.gp_base.specs.ListLaws.{any_nothing, contains_found}
use Rattle.gp_constraint.specs.PointLaws.{IsEventOf, points_named}
use Rattle.gp_constraint.specs.Points.{number_in, points_of}
use Rattle.gp_constraint.specs.SymbolTruth.{HoldAll, KeepsEdges, SymbolTruth}
use Rattle.gp_constraint.specs.Terms.{executed, preceded}
use Rattle.gp_witness.specs.AnswerTruth.{truth_in}
use Rattle.gp_witness.specs.Meaning.{Precedes}

-- an executed event is one of the window, and its symbol is true
has_some : (o : Option Event) → is_some o ≡ true → (event : Event) × (o ≡ Some event)
has_some None e = cc
has_some (Some event) e = (event, refl)

pub does_parts : (window : WindowForm) (t : SymbolTruth) (id : EventId) → (truth_in window t).executed id ≡ true
    → (event : Event) × (event_at window id ≡ Some event) × (t.symbols (Executed (number_in window id)) ≡ true)
does_parts window t id does =
    let parts = and_parts (is_some (event_at window id)) (t.symbols (Executed (number_in window id))) does in
    let found = has_some (event_at window id) parts.0 in
    (found.0, found.1, parts.1)

pub does_from : (window : WindowForm) (t : SymbolTruth) (id : EventId) → IsEventOf window id → t.symbols (Executed (number_in window id)) ≡ true
    → (truth_in window t).executed id ≡ true
does_from window t id (event, there) true_now =
    let some : is_some (event_at window id) ≡ true = rw there refl in
    and_from (is_some (event_at window id)) (t.symbols (Executed (number_in window id))) some true_now

does_point : (window : WindowForm) (t : SymbolTruth) (p : Point) → Contains (points_of window) p → t.symbols (Executed p.number) ≡ true
    → (truth_in window t).executed p.id ≡ true
does_point window t p has true_now =
    let own = (points_named window).own p has in
    does_from window t p.id (own.0, own.1) (subst (λ n. t.symbols (Executed n) ≡ true) own.3 true_now)

-- what was found precedes
pub record IsFound (window : WindowForm) (t : SymbolTruth) (test : Point → Bool) (id : EventId) : Type 0 where
  pub point : Point
  pub has : Contains (points_of window) point
  pub passes : test point ≡ true
  pub found : find test (points_of window) ≡ Some point
  pub precedes : Precedes (truth_in window t) point.id id

pub found_before : (window : WindowForm) (t : SymbolTruth) (guards : List Term) (test : Point → Bool) (f : Point) → KeepsEdges window (number_in window) t
    → Contains (points_of window) f → HoldAll t (preceded guards (find test (points_of window)) f) → (AnyTerm t guards → ⊥) → IsFound window t test f.id
found_before window t guards test f edges has h none =
    let s = preceded_means t guards (find test (points_of window)) f h none in
    let there = contains_found test (points_of window) s.0 s.1 in
    record {
      point = s.0;
      has = there.0;
      passes = there.1;
      found = s.1;
      precedes = (does_point window t s.0 there.0 s.2, before_means window t s.0 f edges there.0 has s.3);
    }

-- what an executed event needs precedes it
pub needed_before : (window : WindowForm) (t : SymbolTruth) (test : Point → Bool) (f : Point) → KeepsEdges window (number_in window) t
    → Contains (points_of window) f → HoldAll t (preceded (executed f false ∷ []) (find test (points_of window)) f) → t.symbols (Executed f.number) ≡ true
    → IsFound window t test f.id
needed_before window t test f edges has h true_now =
    found_before window t (executed f false ∷ []) test f edges has h (λ guard. any_nothing (Holds t) (skip t (Executed f.number) [] true_now guard))

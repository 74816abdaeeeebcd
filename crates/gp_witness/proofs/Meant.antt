-- Each clause of program order, starts and joins is true where the events meet the families.
use Rattle.std.proofs.Common.{ℕ, zero, suc, ◌≡◌, ◌-◌, ◌<◌, ap, sym, ◌∙◌, refl, inl, inr, List, [], ◌∷◌, true, false, not, arith, eqb-true, length}
use Rattle.std.specs.Prelude.{Some, ◌||◌, ◌&&◌, ◌==◌, if◌then◌else◌, find, slice_get, Contains}
use Rattle.std.proofs.lemmas.Bool.{and_parts, eq-eqb}
use Rattle.gp_trace.specs.declared.event.Event.{Event}
use Rattle.gp_trace.specs.declared.event.Event.TheVariants as event
use Rattle.gp_window.specs.declared.schedule.EventId.{EventId}
use Rattle.gp_window.specs.Events.{event_at, segment_of, size_of}
use Rattle.gp_window.specs.Starts.{is_among}
use Rattle.gp_window.specs.WindowForm.{WindowForm}
use Rattle.gp_replay.specs.Order.{Starts}
use Rattle.gp_constraint.specs.declared.action.Action.{Action}
use Rattle.gp_constraint.specs.declared.action.Action.TheVariants.{Join}
use Rattle.gp_constraint.specs.declared.point.Point.{Point}
use Rattle.gp_constraint.specs.declared.symbol.Symbol.TheVariants.{Executed}
use Rattle.gp_constraint.specs.Joins.{ended, is_last_of, join_of, joined, joined_by}
use Rattle.gp_constraint.specs.Points.{points_of}
use Rattle.gp_constraint.specs.ProgramOrder.{linked}
use Rattle.gp_constraint.specs.Starts.{does_start, is_start_of, start_of}
use Rattle.gp_constraint.specs.Terms.{executed, first, literal, needs, simplified}
use Rattle.gp_constraint.specs.Truths.{AreTrue}
use Rattle.gp_constraint.specs.TrueLaws.{all_either, all_if, clause_true, neg_or, or_here}
use Rattle.gp_witness.specs.Meaning.{Precedes, Truth}
use Rattle.gp_witness.specs.TruthOfSymbols.{id_at}
use Rattle.gp_witness.proofs.PointActions.{event_action, point_event, point_joins, point_starts}
use Rattle.gp_witness.proofs.Located.{before_link, by_number, IsFound, located, needs_true, not_fails, not_zero, point_is, says, Setting}
use Rattle.gp_witness.proofs.Actions.{start_is}

pub linked_true : (window : WindowForm) (t : Truth) → Setting window t → (f : Point) → Contains (points_of window) f → AreTrue (says window t) (linked f)
linked_true window t s f in_f =
    let at : ℕ → EventId = id_at (points_of window) in
    all_either (says window t) (f.id.index == 0) [] (simplified (executed f false ∷ literal (Executed (f.number - 1)) true ∷ [])) (λ none. tt) (λ later.
    let link = before_link window f in_f later in
    clause_true (says window t) (executed f false ∷ literal (Executed (f.number - 1)) true ∷ [])
    (neg_or (t.executed (at f.number)) (t.executed (at (f.number - 1)) || false) (λ runs.
    or_here (t.executed (at (f.number - 1))) false
    (ap t.executed link.at
    ∙ s.meets.run link.before f.id link.there (point_event window f (point_is window f in_f)) link.own link.lower (sym (by_number window t f in_f) ∙ runs)))))

-- starts
start_found : (window : WindowForm) (t : Truth) → Setting window t → (thread : ℕ) (e f : EventId) → Starts window e thread → Precedes t e f
    → IsFound window t (find (is_start_of thread) (points_of window)) f
start_found window t s thread e f starts comes =
    located window t (is_start_of thread) e f (event.Start thread, starts) comes
    (λ q in_q same. ap (does_start thread) (event_action window q (event.Start thread) (point_is window q in_q) (ap (λ x. event_at window x) same ∙ starts)) ∙ eq-eqb thread thread refl)
    (λ p found in_p passes. s.formed.once p.id e thread (point_starts window p thread (point_is window p in_p) (start_is thread p.action passes)) starts)

pub start_true : (window : WindowForm) (t : Truth) → Setting window t → (f : Point) → Contains (points_of window) f
    → AreTrue (says window t) (start_of window (points_of window) f)
start_true window t s f in_f =
    all_if (says window t) (f.id.index == 0 && not (is_among window.started f.id.thread)) (needs f (find (is_start_of f.id.thread) (points_of window))) (λ late.
    needs_true window t s (find (is_start_of f.id.thread) (points_of window)) f in_f (λ runs.
    elim (s.meets.starts f.id (point_event window f (point_is window f in_f)) runs) [
      | inl started ↦
          let absent : is_among window.started f.id.thread ≡ false =
          not_fails (is_among window.started f.id.thread) (and_parts (f.id.index == 0) (not (is_among window.started f.id.thread)) late).1 in
          let bad : true ≡ false = sym started ∙ absent in cc
      | inr by ↦ start_found window t s f.id.thread by.0 f.id by.1 by.2
    ]))

-- joins
there_at : (events : List Event) (n : ℕ) → n < length events → (event : Event) × (slice_get events n ≡ Some event)
there_at [] n less = absurd (omega (arith, less))
there_at (first ∷ events) zero less = (first, refl)
there_at (first ∷ events) (suc n) less = there_at events n (omega (arith, less))

pub join_true : (window : WindowForm) (t : Truth) → Setting window t → (j : Point) → Contains (points_of window) j
    → AreTrue (says window t) (join_of window (points_of window) j)
join_true window t s j in_j = kind j.action refl
  where
    empty : (thread : ℕ) → j.action ≡ Join thread
        → AreTrue (says window t) (if is_among window.started thread then [] else needs j (find (is_start_of thread) (points_of window)))
    empty thread is =
        all_either (says window t) (is_among window.started thread) [] (needs j (find (is_start_of thread) (points_of window))) (λ started. tt) (λ absent.
        needs_true window t s (find (is_start_of thread) (points_of window)) j in_j (λ runs.
        let holds = s.meets.joins j.id thread (point_joins window j thread (point_is window j in_j) is) runs in
        elim holds.started [
          | inl started ↦ (let bad : true ≡ false = sym started ∙ absent in cc)
          | inr by ↦ start_found window t s thread by.0 j.id by.1 by.2
        ]))

    last : (thread : ℕ) → j.action ≡ Join thread → (size_of window thread == 0) ≡ false → AreTrue (says window t) (needs j (find (is_last_of window thread) (points_of window)))
    last thread is more =
        needs_true window t s (find (is_last_of window thread) (points_of window)) j in_j (λ runs.
        let holds = s.meets.joins j.id thread (point_joins window j thread (point_is window j in_j) is) runs in
        let size : size_of window thread ≡ suc (size_of window thread - 1) = not_zero (size_of window thread) more in
        let e : EventId = record { thread = thread; index = size_of window thread - 1 } in
        let there = there_at (segment_of window thread) (size_of window thread - 1) (omega (arith, size)) in
        located window t (is_last_of window thread) e j.id there (holds.whole e there refl)
        (λ q in_q same.
        let own : (q.id.thread == thread) ≡ true = eq-eqb q.id.thread thread (ap (λ (x : EventId). x.thread) same) in
        let index : q.id.index ≡ size_of window thread - 1 = ap (λ (x : EventId). x.index) same in
        let end : (suc q.id.index == size_of window thread) ≡ true = eq-eqb (suc q.id.index) (size_of window thread) (omega (arith, index, size)) in
        rw (own, end) refl)
        (λ p found in_p passes.
        let parts = and_parts (p.id.thread == thread) (suc p.id.index == size_of window thread) passes in
        let own : p.id.thread ≡ thread = eqb-true p.id.thread thread parts.0 in
        let end : suc p.id.index ≡ size_of window thread = eqb-true (suc p.id.index) (size_of window thread) parts.1 in
        let index : p.id.index ≡ size_of window thread - 1 = omega (arith, end) in
        λ i. record { thread = own i; index = index i }))

    exiting : (thread : ℕ) → j.action ≡ Join thread → AreTrue (says window t) (joined window (points_of window) j thread)
    exiting thread is =
        all_either (says window t) (is_among window.exited thread) (ended window (points_of window) j thread) (simplified (executed j false ∷ []))
        (λ exits. all_either (says window t) (size_of window thread == 0)
        (if is_among window.started thread then [] else needs j (find (is_start_of thread) (points_of window))) (needs j (find (is_last_of window thread) (points_of window)))
        (λ none. empty thread is) (λ more. last thread is more))
        (λ stays. clause_true (says window t) (executed j false ∷ []) (neg_or (t.executed (id_at (points_of window) j.number)) false (λ runs.
        let holds = s.meets.joins j.id thread (point_joins window j thread (point_is window j in_j) is) (sym (by_number window t j in_j) ∙ runs) in
        let bad : true ≡ false = sym holds.exits ∙ stays in cc)))

    kind : (action : Action) → j.action ≡ action → AreTrue (says window t) (joined_by window (points_of window) j action)
    kind (Join thread) is = exiting thread is
    kind _ is = tt

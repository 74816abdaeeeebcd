-- Each clause of sections and of locks held at the start is true where the events meet the families.
use Rattle.std.proofs.Common.{ℕ, zero, suc, ◌≡◌, ◌<◌, ◌≤◌, ap, sym, ◌∙◌, refl, subst, inl, inr, List, [], ◌∷◌, Bool, true, false, not, arith, eqb-true}
use Rattle.std.specs.Prelude.{Some, ◌||◌, ◌&&◌, ◌==◌, find, nat_lt, nat_le, Contains}
use Rattle.std.specs.Str.{bytes_eq}
use Rattle.std.proofs.lemmas.Bool.{and_parts, cases_eq, cases_lt, eq-eqb, le-leb, leb-true, ltb-true}
use Rattle.std.proofs.lemmas.Slice.Eq.{bytes_eq-Decides}
use Rattle.gp_trace.specs.declared.lock_use.LockMode.{LockMode}
use Rattle.gp_trace.specs.declared.lock_use.LockUse.TheVariants.{Take, GiveBack}
use Rattle.gp_window.specs.declared.schedule.EventId.{EventId}
use Rattle.gp_window.specs.Formed.{mode_at_start}
use Rattle.gp_window.specs.Holders.{Holding}
use Rattle.gp_window.specs.WindowForm.{WindowForm}
use Rattle.gp_replay.specs.LockUses.{GivesBack}
use Rattle.gp_constraint.specs.declared.action.Action.{Action}
use Rattle.gp_constraint.specs.declared.action.Action.TheVariants.{Lock}
use Rattle.gp_constraint.specs.declared.point.Point.{Point}
use Rattle.gp_base.specs.ListLaws.{contains_found}
use Rattle.gp_constraint.specs.HeldLocks.{held_apart}
use Rattle.gp_constraint.specs.PointLaws.{point_for}
use Rattle.gp_constraint.specs.Points.{number_at, points_of, sizes_of}
use Rattle.gp_constraint.specs.Sections.{apart, ends_hold, exclude, gives_back, in_either_order, sections_apart, takes_against}
use Rattle.gp_constraint.specs.Terms.{executed, first, needs, preceded}
use Rattle.gp_constraint.specs.Truths.{AreTrue}
use Rattle.gp_constraint.specs.TrueLaws.{all_append, all_if}
use Rattle.gp_witness.specs.Meaning.{EndsHold, IsFreedFor, Truth}
use Rattle.gp_witness.specs.TruthOfSymbols.{id_at}
use Rattle.gp_witness.proofs.PointActions.{gives_action, gives_event, point_gives, point_takes}
use Rattle.gp_witness.proofs.Listed.{find_first, from_counted}
use Rattle.gp_witness.proofs.Located.{at_point, by_number, IsFound, located, needs_true, neg_fails, not_fails, number_is, point_is, pos_fails, preceded_true, says, Setting}
use Rattle.gp_witness.proofs.Actions.{does_give, gives_is}

-- of two points of one thread the one with the lesser number has the lesser index
lower_index : (sizes : List ℕ) (thread i j : ℕ) → number_at sizes thread i ≤ number_at sizes thread j → i ≤ j
lower_index sizes zero i j less = less
lower_index sizes (suc place) i j less = omega (arith, less)

-- ends of holds
pub takes_from : (mode : LockMode) (lock : List ℕ) (action : Action) → takes_against mode lock action ≡ true
    → (other : LockMode) × (action ≡ Lock (Take other lock)) × (exclude mode other ≡ true)
takes_from mode lock (Lock (Take other again)) e =
    let parts = and_parts (bytes_eq again lock) (exclude mode other) e in
    let name : again ≡ lock = (bytes_eq-Decides again lock).0 parts.0 in
    (other, ap (λ l. Lock (Take other l)) name, parts.1)
takes_from mode lock (Lock (GiveBack other again)) e = cc
takes_from mode lock _ e = cc

-- a hold of a lock is ended by one event at the most
holds_end_once : (window : WindowForm) (mode : LockMode) (lock : List ℕ) (thread from : ℕ) (one other : EventId)
    → EndsHold window mode lock thread from one → EndsHold window mode lock thread from other → one ≡ other
holds_end_once window mode lock thread from one other first second =
    let own : one.thread ≡ other.thread = first.own ∙ sym second.own in
    elim (cases_eq one.index other.index) [
      | inl same ↦ λ i. record { thread = own i; index = same i }
      | inr differ ↦ elim (cases_lt one.index other.index) [
        | inl less ↦ absurd (second.none one.index first.inside less (subst (λ t. GivesBack window mode (record { thread = t; index = one.index }) lock) first.own first.gives))
        | inr more ↦ absurd (first.none other.index second.inside (omega (arith, more, differ))
            (subst (λ t. GivesBack window mode (record { thread = t; index = other.index }) lock) second.own second.gives))
      ]
    ]

passing : (mode : LockMode) (lock : List ℕ) (thread from : ℕ) (q : Point) → q.id.thread ≡ thread → from ≤ q.id.index → gives_back mode lock q.action ≡ true
    → ends_hold mode lock thread from q ≡ true
passing mode lock thread from q own inside gives =
    let first_test : (q.id.thread == thread) ≡ true = eq-eqb q.id.thread thread own in
    let second : nat_le from q.id.index ≡ true = le-leb from q.id.index inside in
    rw (first_test, second) gives

passed : (mode : LockMode) (lock : List ℕ) (thread from : ℕ) (p : Point) → ends_hold mode lock thread from p ≡ true
    → (p.id.thread ≡ thread) × (from ≤ p.id.index) × (gives_back mode lock p.action ≡ true)
passed mode lock thread from p passes =
    let parts = and_parts (p.id.thread == thread) (nat_le from p.id.index && gives_back mode lock p.action) passes in
    let more = and_parts (nat_le from p.id.index) (gives_back mode lock p.action) parts.1 in
    (eqb-true p.id.thread thread parts.0, leb-true from p.id.index more.0, more.1)

-- what is found ends the hold
pub found_ends : (window : WindowForm) (mode : LockMode) (lock : List ℕ) (thread from : ℕ) (p : Point) → find (ends_hold mode lock thread from) (points_of window) ≡ Some p
    → EndsHold window mode lock thread from p.id
found_ends window mode lock thread from p found =
    let test : Point → Bool = ends_hold mode lock thread from in
    let is = contains_found test (points_of window) p found in
    let parts = passed mode lock thread from p is.1 in
    record {
      own = parts.0;
      inside = parts.1;
      gives = point_gives window p mode lock (point_is window p is.0) (gives_is mode lock p.action parts.2);
      none = λ k low high gives.
          let other = point_for window (record { thread = thread; index = k }) (gives_event window mode (record { thread = thread; index = k }) lock gives) in
          let q : Point = other.0 in
          let in_q : Contains (points_of window) q = other.1 in
          let thread_is : q.id.thread ≡ thread = ap (λ (x : EventId). x.thread) other.3 in
          let index_is : q.id.index ≡ k = ap (λ (x : EventId). x.index) other.3 in
          let action : q.action ≡ Lock (GiveBack mode lock) =
          gives_action window q mode lock (point_is window q in_q) (subst (λ x. GivesBack window mode x lock) (sym other.3) gives) in
          let first = find_first test 0 (points_of window) p q (from_counted 1 0 window.segments) found in_q
          (passing mode lock thread from q thread_is (omega (arith, low, index_is)) (ap (gives_back mode lock) action ∙ does_give mode lock)) in
          let at_p : p.number ≡ number_at (sizes_of window) p.id.thread p.id.index = number_is window p is.0 in
          let at_q : q.number ≡ number_at (sizes_of window) p.id.thread q.id.index =
          number_is window q in_q ∙ ap (λ n. number_at (sizes_of window) n q.id.index) (thread_is ∙ sym parts.0) in
          let above = lower_index (sizes_of window) p.id.thread p.id.index q.id.index (omega (arith, first, at_p, at_q)) in
          absurd (omega (arith, above, index_is, high));
    }

end_found : (window : WindowForm) (t : Truth) (mode : LockMode) (lock : List ℕ) (thread from : ℕ) (f : EventId) → IsFreedFor window t mode lock thread from f
    → IsFound window t (find (ends_hold mode lock thread from) (points_of window)) f
end_found window t mode lock thread from f freed =
    let b : EventId = freed.0 in
    let ends : EndsHold window mode lock thread from b = freed.1 in
    located window t (ends_hold mode lock thread from) b f (gives_event window mode b lock ends.gives) freed.2
    (λ q in_q same.
    let thread_is : q.id.thread ≡ thread = ap (λ (x : EventId). x.thread) same ∙ ends.own in
    let index_is : q.id.index ≡ b.index = ap (λ (x : EventId). x.index) same in
    let inside = ends.inside in
    let action : q.action ≡ Lock (GiveBack mode lock) =
    gives_action window q mode lock (point_is window q in_q) (subst (λ x. GivesBack window mode x lock) (sym same) ends.gives) in
    passing mode lock thread from q thread_is (omega (arith, inside, index_is)) (ap (gives_back mode lock) action ∙ does_give mode lock))
    (λ p found in_p passes. holds_end_once window mode lock thread from p.id b (found_ends window mode lock thread from p found) ends)

-- locks that are held at the start
pub held_true : (window : WindowForm) (t : Truth) → Setting window t → (hold : Holding) → mode_at_start window hold.0.1 hold.0.0 ≡ Some hold.1
    → (c : Point) → Contains (points_of window) c → AreTrue (says window t) (held_apart (points_of window) hold c)
held_true window t s hold holds c in_c =
    let lock : List ℕ = hold.0.0 in
    let thread : ℕ = hold.0.1 in
    let mode : LockMode = hold.1 in
    all_if (says window t) (takes_against mode lock c.action && not (c.id.thread == thread)) (needs c (find (ends_hold mode lock thread 0) (points_of window))) (λ takes.
    let parts = and_parts (takes_against mode lock c.action) (not (c.id.thread == thread)) takes in
    let against = takes_from mode lock c.action parts.0 in
    needs_true window t s (find (ends_hold mode lock thread 0) (points_of window)) c in_c (λ runs.
    end_found window t mode lock thread 0 c.id
    (s.meets.start_holds lock mode against.0 thread c.id holds (point_takes window c against.0 lock (point_is window c in_c) against.1) against.2
    (λ own. let tied : (c.id.thread == thread) ≡ true = eq-eqb c.id.thread thread own in let bad : true ≡ false = sym tied ∙ not_fails (c.id.thread == thread) parts.1 in cc) runs)))

-- sections of one lock
pub apart_true : (window : WindowForm) (t : Truth) → Setting window t → (a c : Point) → Contains (points_of window) a → Contains (points_of window) c
    → AreTrue (says window t) (sections_apart (points_of window) a c)
apart_true window t s a c in_a in_c = kinds a.action c.action refl refl
  where
    at : ℕ → EventId
    at number = id_at (points_of window) number

    first_is : t.first (id_at (points_of window) a.number) (id_at (points_of window) c.number) ≡ t.first a.id c.id
    first_is = ap (λ x. t.first x (id_at (points_of window) c.number)) (at_point window a in_a) ∙ ap (λ x. t.first a.id x) (at_point window c in_c)

    sections : (mode other : LockMode) (lock again : List ℕ) → a.action ≡ Lock (Take mode lock) → c.action ≡ Lock (Take other again)
        → AreTrue (says window t) (apart (points_of window) a c (Lock (Take mode lock)) (Lock (Take other again)))
    sections mode other lock again is_a is_c =
        all_if (says window t) (bytes_eq lock again && (exclude mode other && nat_lt a.id.thread c.id.thread)) (in_either_order (points_of window) a mode c other lock) (λ test.
        let parts = and_parts (bytes_eq lock again) (exclude mode other && nat_lt a.id.thread c.id.thread) test in
        let more = and_parts (exclude mode other) (nat_lt a.id.thread c.id.thread) parts.1 in
        let same : lock ≡ again = (bytes_eq-Decides lock again).0 parts.0 in
        let lower : a.id.thread < c.id.thread = ltb-true a.id.thread c.id.thread more.1 in
        let takes_a = point_takes window a mode lock (point_is window a in_a) is_a in
        let takes_c = point_takes window c other lock (point_is window c in_c) (is_c ∙ ap (λ l. Lock (Take other l)) (sym same)) in
        all_append (says window t) (preceded (executed a false ∷ executed c false ∷ first a c false ∷ []) (find (ends_hold mode lock a.id.thread (suc a.id.index)) (points_of window)) c)
        (preceded (executed a false ∷ executed c false ∷ first a c true ∷ []) (find (ends_hold other lock c.id.thread (suc c.id.index)) (points_of window)) a)
        (preceded_true window t s (executed a false ∷ executed c false ∷ first a c false ∷ []) (find (ends_hold mode lock a.id.thread (suc a.id.index)) (points_of window)) c in_c (λ open_.
        let one = neg_fails (t.executed (id_at (points_of window) a.number)) (not (t.executed (id_at (points_of window) c.number)) || (not (t.first (id_at (points_of window) a.number) (id_at (points_of window) c.number)) || false)) open_ in
        let two = neg_fails (t.executed (id_at (points_of window) c.number)) (not (t.first (id_at (points_of window) a.number) (id_at (points_of window) c.number)) || false) one.1 in
        let three = neg_fails (t.first (id_at (points_of window) a.number) (id_at (points_of window) c.number)) false two.1 in
        let holds = s.meets.sections lock mode other a.id c.id takes_a takes_c more.0 lower (sym (by_number window t a in_a) ∙ one.0) (sym (by_number window t c in_c) ∙ two.0) in
        end_found window t mode lock a.id.thread (suc a.id.index) c.id (holds.0 (sym first_is ∙ three.0))))
        (preceded_true window t s (executed a false ∷ executed c false ∷ first a c true ∷ []) (find (ends_hold other lock c.id.thread (suc c.id.index)) (points_of window)) a in_a (λ open_.
        let one = neg_fails (t.executed (id_at (points_of window) a.number)) (not (t.executed (id_at (points_of window) c.number)) || (t.first (id_at (points_of window) a.number) (id_at (points_of window) c.number) || false)) open_ in
        let two = neg_fails (t.executed (id_at (points_of window) c.number)) (t.first (id_at (points_of window) a.number) (id_at (points_of window) c.number) || false) one.1 in
        let three = pos_fails (t.first (id_at (points_of window) a.number) (id_at (points_of window) c.number)) false two.1 in
        let holds = s.meets.sections lock mode other a.id c.id takes_a takes_c more.0 lower (sym (by_number window t a in_a) ∙ one.0) (sym (by_number window t c in_c) ∙ two.0) in
        end_found window t other lock c.id.thread (suc c.id.index) a.id (holds.1 (sym first_is ∙ three.0)))))

    second : (mode : LockMode) (lock : List ℕ) (action : Action) → a.action ≡ Lock (Take mode lock) → c.action ≡ action
        → AreTrue (says window t) (apart (points_of window) a c (Lock (Take mode lock)) action)
    second mode lock (Lock (Take other again)) is_a is_c = sections mode other lock again is_a is_c
    second mode lock (Lock (GiveBack other again)) is_a is_c = tt
    second mode lock _ is_a is_c = tt

    kinds : (one next : Action) → a.action ≡ one → c.action ≡ next → AreTrue (says window t) (apart (points_of window) a c one next)
    kinds (Lock (Take mode lock)) next is_a is_c = second mode lock next is_a is_c
    kinds (Lock (GiveBack mode lock)) next is_a is_c = tt
    kinds _ next is_a is_c = tt

-- Each clause of reads is true where the events meet the families, and all clauses together.
use Rattle.std.proofs.Common.{ℕ, ℤ, ◌≡◌, ◌≢◌, ◌<◌, ap, sym, ◌∙◌, refl, inl, inr, List, [], ◌∷◌, ◌++◌, Bool, true, false, not, arith, eqb-true}
use Rattle.std.specs.Prelude.{Some, ◌&&◌, ◌==◌, flat_map, nat_lt, Contains}
use Rattle.std.specs.List.{list_any}
use Rattle.std.specs.Ordering.{int_eq}
use Rattle.std.specs.Str.{bytes_eq}
use Rattle.std.proofs.lemmas.Bool.{and_parts, cases_eq, eq-eqb, le-ltb, ltb-false}
use Rattle.std.proofs.lemmas.Bool.Decides.{Decides-int_eq}
use Rattle.std.proofs.lemmas.Slice.Eq.{bytes_eq-Decides}
use Rattle.gp_trace.specs.declared.event.Event.TheVariants as event
use Rattle.gp_window.specs.declared.schedule.EventId.{EventId}
use Rattle.gp_window.specs.Events.{event_at}
use Rattle.gp_window.specs.WindowForm.{start_value, WindowForm, held_at_start}
use Rattle.gp_replay.specs.Value.{Reads, Writes}
use Rattle.gp_constraint.specs.declared.action.Action.{Action}
use Rattle.gp_constraint.specs.declared.action.Action.TheVariants.{Read, Write}
use Rattle.gp_constraint.specs.declared.point.Point.{Point}
use Rattle.gp_constraint.specs.declared.symbol.Symbol.{Symbol}
use Rattle.gp_constraint.specs.declared.symbol.SymbolicLit.{SymbolicLit}
use Rattle.gp_constraint.specs.Base.{clauses_of}
use Rattle.gp_constraint.specs.HeldLocks.{held_apart}
use Rattle.gp_constraint.specs.Joins.{join_of}
use Rattle.gp_constraint.specs.PointLaws.{point_for}
use Rattle.gp_constraint.specs.Points.{points_of}
use Rattle.gp_constraint.specs.ProgramOrder.{linked}
use Rattle.gp_constraint.specs.Reads.{choice, choices_of, finds_at_start, is_choice, is_read, is_rival, kept_apart, kept_later, seen_from, sees, start_choice}
use Rattle.gp_constraint.specs.Sections.{sections_apart}
use Rattle.gp_constraint.specs.Starts.{start_of}
use Rattle.gp_constraint.specs.Terms.{before, chosen, executed, preceded, simplified, start_chosen}
use Rattle.gp_constraint.specs.Truths.{AreTrue}
use Rattle.gp_constraint.specs.TrueLaws.{all_append, all_flat, all_if, any_flat, any_left, any_right, clause_true, term_true, neg_or, or_here}
use Rattle.gp_witness.specs.Meaning.{IsChoice, Truth}
use Rattle.gp_witness.specs.TruthOfSymbols.{id_at}
use Rattle.gp_witness.proofs.HeldFrom.{holds_from}
use Rattle.gp_witness.proofs.Located.{at_point, before_true, by_number, neg_fails, not_fails, or_rest, point_is, preceded_true, says, Setting}
use Rattle.gp_witness.proofs.Meant.{join_true, linked_true, start_true}
use Rattle.gp_witness.proofs.Sectioned.{apart_true, held_true}
use Rattle.gp_witness.proofs.PointActions.{event_action, point_reads, point_writes}

-- the tests on a read and a write
read_from : (action : Action) → is_read action ≡ true → (name : List ℕ) × (value : ℤ) × (action ≡ Read name value)
read_from (Read name value) e = (name, value, refl)
read_from _ e = cc

pub sees_from : (r w : Action) → sees r w ≡ true → (name : List ℕ) × (value : ℤ) × (r ≡ Read name value) × (w ≡ Write name value)
sees_from (Read name value) (Write again written) e =
    let parts = and_parts (bytes_eq name again) (int_eq value written) e in
    let variable : name ≡ again = (bytes_eq-Decides name again).0 parts.0 in
    let same : value ≡ written = (Decides-int_eq value written).0 parts.1 in
    (name, value, refl, λ i. Write (sym variable i) (sym same i))
sees_from _ _ e = cc

pub rival_from : (r w : Action) → is_rival r w ≡ true
    → (name : List ℕ) × (value : ℤ) × (written : ℤ) × (r ≡ Read name value) × (w ≡ Write name written) × (value ≡ written → ⊥)
rival_from (Read name value) (Write again written) e =
    let parts = and_parts (bytes_eq name again) (not (int_eq value written)) e in
    let variable : name ≡ again = (bytes_eq-Decides name again).0 parts.0 in (
      name,
      value,
      written,
      refl,
      (λ i. Write (sym variable i) written),
      λ same.
          let tied : int_eq value written ≡ true = (Decides-int_eq value written).1 same in
          let bad : true ≡ false = sym tied ∙ not_fails (int_eq value written) parts.1 in cc,
    )
rival_from _ _ e = cc

pub choice_to : (r q : Point) (name : List ℕ) (value : ℤ) → r.action ≡ Read name value → q.action ≡ Write name value
    → (q.id.thread ≡ r.id.thread → q.id.index < r.id.index) → is_choice r q ≡ true
choice_to r q name value reads writes early =
    let seen : sees r.action q.action ≡ true =
    ap (λ e. sees e q.action) reads ∙ ap (λ e. sees (Read name value) e) writes ∙ agree name value in
    rw seen (last (q.id.thread == r.id.thread) refl)
  where
    agree : (n : List ℕ) (v : ℤ) → (bytes_eq n n && int_eq v v) ≡ true
    agree n v = let one = (bytes_eq-Decides n n).1 refl in let two = (Decides-int_eq v v).1 refl in rw (one, two) refl

    last : (b : Bool) → (q.id.thread == r.id.thread) ≡ b → not (b && nat_lt r.id.index q.id.index) ≡ true
    last false is = refl
    last true is =
        let below = early (eqb-true q.id.thread r.id.thread is) in
        let test : nat_lt r.id.index q.id.index ≡ false = le-ltb r.id.index q.id.index (omega (arith, below)) in
        ap (λ b. not b) test

-- two equations of one action
pub one_read : {action : Action} {name again : List ℕ} {value found : ℤ} → action ≡ Read name value → action ≡ Read again found → value ≡ found
one_read {action} {name} {again} {value} {found} first second = let same : Read name value ≡ Read again found = sym first ∙ second in cc

pub one_name : {action : Action} {name again : List ℕ} {value found : ℤ} → action ≡ Read name value → action ≡ Read again found → name ≡ again
one_name {action} {name} {again} {value} {found} first second = let same : Read name value ≡ Read again found = sym first ∙ second in cc

-- a choice is not after its read
pub choice_early : (r w : Point) → not (w.id.thread == r.id.thread && nat_lt r.id.index w.id.index) ≡ true → (w.id ≡ r.id → ⊥)
    → w.id.thread ≡ r.id.thread → w.id.index < r.id.index
choice_early r w test apart own =
    let tied : (w.id.thread == r.id.thread) ≡ true = eq-eqb w.id.thread r.id.thread own in
    let high = rw tied at test in
    let most = ltb-false r.id.index w.id.index (not_fails (nat_lt r.id.index w.id.index) high) in
    elim (cases_eq w.id.index r.id.index) [
      | inl same ↦ absurd (apart (λ i. record { thread = own i; index = same i }))
      | inr differ ↦ omega (arith, most, differ)
    ]

choices_true : (window : WindowForm) (t : Truth) → Setting window t → (r : Point) → Contains (points_of window) r → AreTrue (says window t) (choices_of window (points_of window) r)
choices_true window t s r in_r =
    let points : List Point = points_of window in
    let truth : Symbol → Bool = says window t in
    let at : ℕ → EventId = id_at points in
    all_if truth (is_read r.action) (simplified (executed r false ∷ (flat_map (choice r) points ++ start_choice window r))) (λ is.
    let read = read_from r.action is in
    let name : List ℕ = read.0 in
    let value : ℤ = read.1 in
    let reads : Reads window r.id name value = point_reads window r name value (point_is window r in_r) read.2 in
    clause_true truth (executed r false ∷ (flat_map (choice r) points ++ start_choice window r))
    (neg_or (t.executed (at r.number)) (list_any (term_true truth) (flat_map (choice r) points ++ start_choice window r)) (λ runs.
    elim (s.meets.reads r.id name value reads (sym (by_number window t r in_r) ∙ runs)) [
      | inl by ↦
          let q = point_for window by.0 (event.Write name value, by.1.0) in
          let p : Point = q.0 in
          let in_p : Contains points p = q.1 in
          let same : p.id ≡ by.0 = q.3 in
          let writes : p.action ≡ Write name value = event_action window p (event.Write name value) (point_is window p in_p) (ap (λ x. event_at window x) same ∙ by.1.0) in
          let test : is_choice r p ≡ true = choice_to r p name value read.2 writes (λ own.
          let thread : by.0.thread ≡ r.id.thread = sym (ap (λ (x : EventId). x.thread) same) ∙ own in
          let early : by.0.index < r.id.index = by.1.1 thread in
          let index : p.id.index ≡ by.0.index = ap (λ (x : EventId). x.index) same in
          omega (arith, early, index)) in
          let named : t.reads (at r.number) (at p.number) ≡ true =
          ap (λ x. t.reads x (at p.number)) (at_point window r in_r) ∙ ap (λ x. t.reads r.id x) (at_point window p in_p ∙ same) ∙ by.2 in
          let here : list_any (term_true truth) (choice r p) ≡ true = rw test (or_here (t.reads (at r.number) (at p.number)) false named) in
          any_left (term_true truth) (flat_map (choice r) points) (start_choice window r) (any_flat (term_true truth) (choice r) points p in_p here)
      | inr start ↦
          let test : finds_at_start window r.action ≡ true = ap (λ e. finds_at_start window e) read.2 ∙ (Decides-int_eq (start_value window name) value).1 start.0 in
          let named : t.reads_start (at r.number) ≡ true = ap t.reads_start (at_point window r in_r) ∙ start.1 in
          let here : list_any (term_true truth) (start_choice window r) ≡ true = rw test (or_here (t.reads_start (at r.number)) false named) in
          any_right (term_true truth) (flat_map (choice r) points) (start_choice window r) here
    ])))

seen_true : (window : WindowForm) (t : Truth) → Setting window t → (r w : Point) → Contains (points_of window) r → Contains (points_of window) w
    → AreTrue (says window t) (seen_from (points_of window) r w)
seen_true window t s r w in_r in_w =
    let points : List Point = points_of window in
    let truth : Symbol → Bool = says window t in
    let at : ℕ → EventId = id_at points in
    all_if truth (is_choice r w) (preceded (chosen r w false ∷ []) (Some w) r ++ flat_map (kept_apart r w) points) (λ is.
    let tests = and_parts (sees r.action w.action) (not (w.id.thread == r.id.thread && nat_lt r.id.index w.id.index)) is in
    let seen = sees_from r.action w.action tests.0 in
    let name : List ℕ = seen.0 in
    let value : ℤ = seen.1 in
    let reads : Reads window r.id name value = point_reads window r name value (point_is window r in_r) seen.2 in
    let kinds : w.id ≡ r.id → ⊥ = (λ one.
    let action : w.action ≡ Read name value = event_action window w (event.Read name value) (point_is window w in_w) (ap (λ x. event_at window x) one ∙ reads) in
    let bad : Read name value ≡ Write name value = sym action ∙ seen.3 in cc) in
    let choice : IsChoice window r.id name value w.id = (point_writes window w name value (point_is window w in_w) seen.3, choice_early r w tests.1 kinds) in
    let named : t.reads (at r.number) (at w.number) ≡ t.reads r.id w.id =
    ap (λ x. t.reads x (at w.number)) (at_point window r in_r) ∙ ap (λ x. t.reads r.id x) (at_point window w in_w) in
    all_append truth (preceded (chosen r w false ∷ []) (Some w) r) (flat_map (kept_apart r w) points)
    (preceded_true window t s (chosen r w false ∷ []) (Some w) r in_r (λ open_.
    let picked = sym named ∙ (neg_fails (t.reads (at r.number) (at w.number)) false open_).0 in
    (w, refl, in_w, (s.meets.choices r.id w.id name value reads choice picked).0)))
    (all_flat truth (kept_apart r w) points (λ other in_other.
    all_if truth (is_rival r.action other.action) (simplified (chosen r w false ∷ executed other false ∷ before other w ∷ before r other ∷ [])) (λ rival.
    let against = rival_from r.action other.action rival in
    let writes : Writes window other.id name against.2 =
    point_writes window other name against.2 (point_is window other in_other) (against.4 ∙ ap (λ n. Write n against.2) (one_name against.3 seen.2)) in
    let unlike : against.2 ≢ value = (λ same. against.5 (one_read against.3 seen.2 ∙ sym same)) in
    clause_true truth (chosen r w false ∷ executed other false ∷ before other w ∷ before r other ∷ [])
    (neg_or (t.reads (at r.number) (at w.number)) (list_any (term_true truth) (executed other false ∷ before other w ∷ before r other ∷ [])) (λ picked.
    neg_or (t.executed (at other.number)) (list_any (term_true truth) (before other w ∷ before r other ∷ [])) (λ runs.
    elim ((s.meets.choices r.id w.id name value reads choice (sym named ∙ picked)).1 other.id against.2 writes unlike (sym (by_number window t other in_other) ∙ runs)) [
      | inl early ↦ or_here (term_true truth (before other w)) (list_any (term_true truth) (before r other ∷ [])) (before_true window t s other w in_other in_w early)
      | inr late ↦ or_rest (term_true truth (before other w)) (list_any (term_true truth) (before r other ∷ [])) (or_here (term_true truth (before r other)) false (before_true window t s r other in_r in_other late))
    ])))))))

start_apart_true : (window : WindowForm) (t : Truth) → Setting window t → (r other : Point) → Contains (points_of window) r → Contains (points_of window) other
    → AreTrue (says window t) (kept_later window r other)
start_apart_true window t s r other in_r in_other =
    let truth : Symbol → Bool = says window t in
    let at : ℕ → EventId = id_at (points_of window) in
    all_if truth (finds_at_start window r.action && is_rival r.action other.action) (simplified (start_chosen r false ∷ executed other false ∷ before r other ∷ [])) (λ is.
    let tests = and_parts (finds_at_start window r.action) (is_rival r.action other.action) is in
    let against = rival_from r.action other.action tests.1 in
    let begins : start_value window against.0 ≡ against.1 =
    (Decides-int_eq (start_value window against.0) against.1).0 (sym (ap (λ e. finds_at_start window e) against.3) ∙ tests.0) in
    let reads : Reads window r.id against.0 against.1 = point_reads window r against.0 against.1 (point_is window r in_r) against.3 in
    let writes : Writes window other.id against.0 against.2 = point_writes window other against.0 against.2 (point_is window other in_other) against.4 in
    clause_true truth (start_chosen r false ∷ executed other false ∷ before r other ∷ [])
    (neg_or (t.reads_start (at r.number)) (list_any (term_true truth) (executed other false ∷ before r other ∷ [])) (λ picked.
    neg_or (t.executed (at other.number)) (list_any (term_true truth) (before r other ∷ [])) (λ runs.
    or_here (term_true truth (before r other)) false (before_true window t s r other in_r in_other
    (s.meets.start_choices r.id against.0 against.1 reads begins (sym (ap t.reads_start (at_point window r in_r)) ∙ picked) other.id against.2 writes (λ same. against.5 (sym same))
    (sym (by_number window t other in_other) ∙ runs)))))))

-- a piece for each two points
pairs_true : (truth : Symbol → Bool) (points : List Point) (f : Point → Point → List (List SymbolicLit))
    → ((p q : Point) → Contains points p → Contains points q → AreTrue truth (f p q)) → AreTrue truth (flat_map (λ p. flat_map (f p) points) points)
pairs_true truth points f holds = all_flat truth (λ p. flat_map (f p) points) points (λ p in_p. all_flat truth (f p) points (λ q in_q. holds p q in_p in_q))

-- all clauses are true
pub all_true : (window : WindowForm) (t : Truth) → Setting window t → AreTrue (says window t) (clauses_of window)
all_true window t s =
    let points : List Point = points_of window in
    let truth : Symbol → Bool = says window t in
    let links = all_flat truth linked points (linked_true window t s) in
    let starts = all_flat truth (start_of window points) points (start_true window t s) in
    let joins = all_flat truth (join_of window points) points (join_true window t s) in
    let reads = all_flat truth (choices_of window points) points (choices_true window t s) in
    let seen = pairs_true truth points (seen_from points) (seen_true window t s) in
    let start_choices = pairs_true truth points (kept_later window) (start_apart_true window t s) in
    let sections = pairs_true truth points (sections_apart points) (apart_true window t s) in
    let held = all_flat truth (λ hold. flat_map (held_apart points hold) points) (held_at_start window) (λ hold in_holds.
    all_flat truth (held_apart points hold) points (held_true window t s hold (holds_from window s.formed hold in_holds))) in
    all_append truth _ _ links (all_append truth _ _ starts (all_append truth _ _ joins (all_append truth _ _ reads (all_append truth _ _ seen (all_append truth _ _ start_choices (all_append truth _ _ sections held))))))

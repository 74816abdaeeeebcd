-- What true clauses say of the events: the families, each by its meaning.
use Rattle.std.proofs.Common.{ℕ, zero, suc, ◌≡◌, ◌<◌, ◌≤◌, ap, sym, ◌∙◌, refl, subst, inl, inr, List, [], ◌∷◌, ◌++◌, Bool, true, false, arith, eqb-true, length}
use Rattle.std.specs.Prelude.{ℤ, ◌<ℤ◌, ◌-◌, Some, Option, slice_get, if◌then◌else◌, ◌==◌, ◌&&◌, not, nat_lt, nat_le, flat_map, find, Contains}
use Rattle.std.specs.Str.{bytes_eq}
use Rattle.std.proofs.lemmas.Bool.{and_from, and_parts, cases_Bool, cases_eq, cases_order, eq-eqb, false≢true, false_from_ne_true, le-leb, leb-true, lt-ltb, ltb-true, ne_eqb}
use Rattle.std.proofs.lemmas.Bool.Decides.{Decides-int_eq}
use Rattle.std.proofs.lemmas.Int.{ints}
use Rattle.std.proofs.lemmas.Slice.Eq.{bytes_eq-Decides}
use Rattle.gp_trace.specs.declared.event.Event.{Event}
use Rattle.gp_trace.specs.declared.event.Event.TheVariants.{Read, Write, Join}
use Rattle.gp_trace.specs.declared.lock_use.LockMode.{LockMode}
use Rattle.gp_trace.specs.declared.lock_use.LockUse.TheVariants.{Take, GiveBack}
use Rattle.gp_window.specs.Events.{event_at, segment_of, size_of}
use Rattle.gp_window.specs.Formed.{IsFormed}
use Rattle.gp_window.specs.Holders.{Holding}
use Rattle.gp_window.specs.Starts.{is_among}
use Rattle.gp_window.specs.WindowForm.{start_value, WindowForm, held_at_start}
use Rattle.gp_window.specs.declared.schedule.EventId.{EventId}
use Rattle.gp_replay.specs.LockUses.{use_of}
use Rattle.gp_replay.specs.Value.{Reads}
use Rattle.gp_constraint.specs.ClauseLaws.{AnyTerm, before_means, both, chain, clause_means, each_holds, got_before, Holds, last_one, one_term, skip, split_terms, unless, when, when_not}
use Rattle.gp_constraint.specs.declared.action.Action.TheVariants as action
use Rattle.gp_constraint.specs.declared.point.Point.{Point}
use Rattle.gp_constraint.specs.declared.symbol.Symbol.TheVariants.{Executed, Choice, StartChoice}
use Rattle.gp_constraint.specs.declared.symbol.SymbolicLit.{SymbolicLit}
use Rattle.gp_constraint.specs.declared.term.Term.{Term}
use Rattle.gp_constraint.specs.Action.{action_of}
use Rattle.gp_constraint.specs.Base.{clauses_of}
use Rattle.gp_base.specs.ListLaws.{any_first_or_rest, any_nothing, contains_from_flat_map, found_first}
use Rattle.gp_constraint.specs.HeldLocks.{held_apart, held_locks}
use Rattle.gp_constraint.specs.Joins.{ended, is_last_of, join_of, joined, joins}
use Rattle.gp_constraint.specs.PointLaws.{event_id, HasLesserNumber, IsEventOf, points_named, points_rise}
use Rattle.gp_constraint.specs.Points.{number_at, number_in, points_of, sizes_of}
use Rattle.gp_constraint.specs.ProgramOrder.{linked, program_order}
use Rattle.gp_constraint.specs.Reads.{choice, choices, choices_of, finds_at_start, is_choice, is_rival, kept_apart, kept_later, reads, seen_from, sees, start_choice, start_choices}
use Rattle.gp_constraint.specs.Sections.{apart, ends_hold, exclude, gives_back, in_either_order, sections, sections_apart, takes_against}
use Rattle.gp_constraint.specs.Starts.{is_start_of, start_of, starts}
use Rattle.gp_constraint.specs.SymbolTruth.{HoldAll, KeepsEdges, SymbolTruth}
use Rattle.gp_constraint.specs.Terms.{before, chosen, executed, first, literal, needs, preceded, simplified, start_chosen}
use Rattle.gp_witness.specs.AnswerTruth.{truth_in}
use Rattle.gp_witness.specs.Meaning.{ChoicesHold, EndsHold, IsChoice, IsFreedFor, IsStartedFor, JoinHolds, JoinsHold, MeetsAll, PlacesRise, Precedes, ReadsHold, SectionsHold, StartChoicesHold, StartHoldsHold, StartsHold, ThreadsRun}
use Rattle.gp_witness.proofs.Actions.{are_rivals, are_seen, does_give, does_take, event_lock, gives_is, lock_event, sees_is, start_event, start_is, use_event, write_event}
use Rattle.gp_witness.proofs.Clauses.{does_from, does_parts, found_before, IsFound, needed_before}
use Rattle.gp_witness.proofs.Holds.{mode_held_at}

-- the point of an event
abbrev at : WindowForm → EventId → Event → Point
at window id event = record { number = number_in window id; id = id; action = action_of event }

has_point : (window : WindowForm) (id : EventId) (event : Event) → event_at window id ≡ Some event → Contains (points_of window) (at window id event)
has_point window id event there = (points_named window).all id event there

-- program order
rise_told : (window : WindowForm) (t : SymbolTruth) → KeepsEdges window (number_in window) t → PlacesRise window (truth_in window t)
rise_told window t edges e f there_e there_f same less =
    subst (λ n. t.places (number_in window (event_id n e.index)) <ℤ t.places (number_in window f)) (sym same)
    (chain window t edges f.thread e.index f.index there_f.0 less there_f.1)

order_told : (window : WindowForm) (t : SymbolTruth) → HoldAll t (program_order (points_of window)) → (thread index : ℕ)
    → (truth_in window t).executed (event_id thread (suc index)) ≡ true → (truth_in window t).executed (event_id thread index) ≡ true
order_told window t all thread index does =
    let id : EventId = event_id thread (suc index) in
    let d = does_parts window t id does in
    let f : Point = at window id d.0 in
    let later : (suc index == 0) ≡ false = ne_eqb (suc index) 0 (λ e. absurd (omega (arith, e))) in
    let h = unless t (suc index == 0) (simplified (executed f false ∷ literal (Executed (f.number - 1)) true ∷ [])) later
    (each_holds t linked f (points_of window) all (has_point window id d.0 d.1)) in
    let rest = skip t (Executed f.number) (literal (Executed (f.number - 1)) true ∷ []) d.2
    (clause_means t (executed f false ∷ literal (Executed (f.number - 1)) true ∷ []) h) in
    let true_now = (last_one t (literal (Executed (f.number - 1)) true) rest).0 in
    let next = (points_named window).next thread index in
    let same : number_in window id - 1 ≡ number_in window (event_id thread index) = omega (arith, next) in
    let earlier = got_before (segment_of window thread) index d.0 d.1 in
    does_from window t (event_id thread index) (earlier.0, earlier.1) (subst (λ n. t.symbols (Executed n) ≡ true) same true_now)

run_at : (window : WindowForm) (t : SymbolTruth) → HoldAll t (program_order (points_of window)) → (thread index later : ℕ) → index < later
    → (truth_in window t).executed (event_id thread later) ≡ true → (truth_in window t).executed (event_id thread index) ≡ true
run_at window t all thread index zero less does = absurd (omega (arith, less))
run_at window t all thread index (suc later) less does =
    let step = order_told window t all thread later does in
    elim (cases_eq later index) [
      | inl same ↦ subst (λ n. (truth_in window t).executed (event_id thread n) ≡ true) same step
      | inr apart ↦ run_at window t all thread index later (omega arith) step
    ]

run_told : (window : WindowForm) (t : SymbolTruth) → HoldAll t (program_order (points_of window)) → ThreadsRun window (truth_in window t)
run_told window t all e f there_e there_f same less does =
    subst (λ n. (truth_in window t).executed (event_id n e.index) ≡ true) (sym same) (run_at window t all f.thread e.index f.index less does)

-- starts
found_start : (window : WindowForm) (t : SymbolTruth) (thread : ℕ) (id : EventId) → IsFound window t (is_start_of thread) id → IsStartedFor window (truth_in window t) thread id
found_start window t thread id f =
    let own = (points_named window).own f.point f.has in
    let does : action_of own.0 ≡ action.Start thread = sym own.2 ∙ start_is thread f.point.action f.passes in
    inr (f.point.id, own.1 ∙ ap Some (start_event own.0 thread does), f.precedes)

first_started : (window : WindowForm) (t : SymbolTruth) → KeepsEdges window (number_in window) t → HoldAll t (starts window (points_of window)) → (thread : ℕ)
    → (truth_in window t).executed (event_id thread 0) ≡ true → IsStartedFor window (truth_in window t) thread (event_id thread 0)
first_started window t edges all thread does =
    elim (cases_Bool (is_among window.started thread)) [
      | inl already ↦ inl already
      | inr late ↦
          let id : EventId = event_id thread 0 in
          let d = does_parts window t id does in
          let f : Point = at window id d.0 in
          let has = has_point window id d.0 d.1 in
          let test : (0 == 0 && not (is_among window.started thread)) ≡ true = rw late refl in
          let h = when t (0 == 0 && not (is_among window.started thread)) (needs f (find (is_start_of thread) (points_of window))) [] test
          (each_holds t (start_of window (points_of window)) f (points_of window) all has) in
          found_start window t thread id (needed_before window t (is_start_of thread) f edges has h d.2)
    ]

-- what starts a thread for an event starts it for one that stands after
moved : (window : WindowForm) (t : SymbolTruth) (thread : ℕ) (one id : EventId) → IsStartedFor window (truth_in window t) thread one
    → t.places (number_in window one) <ℤ t.places (number_in window id) → IsStartedFor window (truth_in window t) thread id
moved window t thread one id (inl already) later = inl already
moved window t thread one id (inr by) later = let early = by.2.1 in inr (by.0, by.1, (by.2.0, omega (arith, ints, early, later)))

started_at : (window : WindowForm) (t : SymbolTruth) → KeepsEdges window (number_in window) t → HoldAll t (program_order (points_of window))
    → HoldAll t (starts window (points_of window)) → (thread index : ℕ) (event : Event) → event_at window (event_id thread index) ≡ Some event
    → (truth_in window t).executed (event_id thread index) ≡ true → IsStartedFor window (truth_in window t) thread (event_id thread index)
started_at window t edges order all thread zero event there does = first_started window t edges all thread does
started_at window t edges order all thread (suc index) event there does =
    let begun = run_at window t order thread 0 (suc index) (omega arith) does in
    moved window t thread (event_id thread 0) (event_id thread (suc index)) (first_started window t edges all thread begun)
    (chain window t edges thread 0 (suc index) event (omega arith) there)

starts_told : (window : WindowForm) (t : SymbolTruth) → KeepsEdges window (number_in window) t → HoldAll t (program_order (points_of window))
    → HoldAll t (starts window (points_of window)) → StartsHold window (truth_in window t)
starts_told window t edges order all f there does = started_at window t edges order all f.thread f.index there.0 there.1 does

-- joins
got_within : (events : List Event) (index : ℕ) (event : Event) → slice_get events index ≡ Some event → index < length events
got_within [] index event e = cc
got_within (first ∷ events) zero event e = omega arith
got_within (first ∷ events) (suc index) event e = let rest = got_within events index event e in omega (arith, rest)

own_within : (window : WindowForm) (e : EventId) (thread : ℕ) → IsEventOf window e → e.thread ≡ thread → e.index < size_of window thread
own_within window e thread there same = subst (λ n. e.index < size_of window n) same (got_within (segment_of window e.thread) e.index there.0 there.1)

last_told : (window : WindowForm) (t : SymbolTruth) → KeepsEdges window (number_in window) t → HoldAll t (program_order (points_of window))
    → HoldAll t (starts window (points_of window)) → (thread : ℕ) (j : EventId) → is_among window.exited thread ≡ true
    → IsFound window t (is_last_of window thread) j → JoinHolds window (truth_in window t) thread j
last_told window t edges order begins thread j exits f =
    let g : EventId = f.point.id in
    let parts = and_parts (g.thread == thread) (suc g.index == size_of window thread) f.passes in
    let own : g.thread ≡ thread = eqb-true g.thread thread parts.0 in
    let last : suc g.index ≡ size_of window thread = eqb-true (suc g.index) (size_of window thread) parts.1 in
    let there = (points_named window).own f.point f.has in
    let event : IsEventOf window g = (there.0, there.1) in
    let begun = starts_told window t edges order begins g event f.precedes.0 in
    record {
      exits = exits;
      whole = λ e is_event same.
          let below = own_within window e thread is_event same in
          elim (cases_eq g.index e.index) [
            | inl alike ↦
                let one : g ≡ e = ap (λ n. event_id n g.index) (own ∙ sym same) ∙ ap (event_id e.thread) alike in
                subst (λ x. Precedes (truth_in window t) x j) one f.precedes
            | inr apart ↦
                let less : e.index < g.index = omega (arith, apart, last, below) in
                let before = rise_told window t edges e g is_event event (same ∙ sym own) less in
                let after = f.precedes.1 in
                (run_told window t order e g is_event event (same ∙ sym own) less f.precedes.0, omega (arith, ints, before, after))
          ];
      started = moved window t thread g j (subst (λ n. IsStartedFor window (truth_in window t) n g) own begun) f.precedes.1;
    }

joins_told : (window : WindowForm) (t : SymbolTruth) → KeepsEdges window (number_in window) t → HoldAll t (program_order (points_of window))
    → HoldAll t (starts window (points_of window)) → HoldAll t (joins window (points_of window)) → JoinsHold window (truth_in window t)
joins_told window t edges order begins all id thread is does =
    let points : List Point = points_of window in
    let d = does_parts window t id does in
    let j : Point = at window id (Join thread) in
    let has = has_point window id (Join thread) is in
    let h : HoldAll t (joined window points j thread) = each_holds t (join_of window points) j points all has in
    elim (cases_Bool (is_among window.exited thread)) [
      | inr stays ↦
          let none = when_not t (is_among window.exited thread) (ended window points j thread) (simplified (executed j false ∷ [])) stays h in
          absurd (any_nothing (Holds t) (skip t (Executed (number_in window id)) [] d.2 (clause_means t (executed j false ∷ []) none)))
      | inl exits ↦
          let k = when t (is_among window.exited thread) (ended window points j thread) (simplified (executed j false ∷ [])) exits h in
          let start : List (List SymbolicLit) = needs j (find (is_start_of thread) points) in
          let last : List (List SymbolicLit) = needs j (find (is_last_of window thread) points) in
          let early : List (List SymbolicLit) = if is_among window.started thread then [] else start in
          elim (cases_Bool (size_of window thread == 0)) [
            | inr some ↦ last_told window t edges order begins thread id exits
                (needed_before window t (is_last_of window thread) j edges has (when_not t (size_of window thread == 0) early last some k) d.2)
            | inl empty ↦
                let none : size_of window thread ≡ 0 = eqb-true (size_of window thread) 0 empty in
                let m = when t (size_of window thread == 0) early last empty k in
                record {
                  exits = exits;
                  whole = λ e is_event same. let below = own_within window e thread is_event same in absurd (omega (arith, below, none));
                  started = elim (cases_Bool (is_among window.started thread)) [
                    | inl already ↦ inl already
                    | inr late ↦ found_start window t thread id (needed_before window t (is_start_of thread) j edges has (unless t (is_among window.started thread) start late m) d.2)
                  ];
                }
          ]
    ]

-- reads
chosen_in : (t : SymbolTruth) (r : Point) (points : List Point) → AnyTerm t (flat_map (choice r) points)
    → (w : Point) × Contains points w × (is_choice r w ≡ true) × (t.symbols (Choice r.number w.number) ≡ true)
chosen_in t r points (k, term, within, is, holds) =
    let from = contains_from_flat_map (choice r) points term (k, within, is) in
    let place = from.2 in
    let one = one_term t (is_choice r from.0) (chosen r from.0 true) (place.0, term, place.1, place.2, holds) in
    (from.0, from.1, one.0, one.1.0)

not_true : (b : Bool) → not b ≡ true → b ≡ false
not_true true e = cc
not_true false e = refl

-- a choice is a write of the value that is not after the read in its own thread
choice_from : (window : WindowForm) (id : EventId) (variable : List ℕ) (value : ℤ) (w : Point) → Reads window id variable value → Contains (points_of window) w
    → is_choice (at window id (Read variable value)) w ≡ true → IsChoice window id variable value w.id
choice_from window id variable value w is has passes =
    let parts = and_parts (sees (action.Read variable value) w.action) (not (w.id.thread == id.thread && nat_lt id.index w.id.index)) passes in
    let own = (points_named window).own w has in
    let writes : event_at window w.id ≡ Some (Write variable value) =
    own.1 ∙ ap Some (write_event own.0 variable value (sym own.2 ∙ sees_is variable value w.action parts.0)) in (
      writes,
      λ same.
          let threads : (w.id.thread == id.thread) ≡ true = eq-eqb w.id.thread id.thread same in
          let late : nat_lt id.index w.id.index ≡ false = rw threads at (not_true (w.id.thread == id.thread && nat_lt id.index w.id.index) parts.1) in
          elim (cases_order w.id.index id.index) [
            | inr (inl less) ↦ less
            | inr (inr more) ↦ absurd (false≢true (sym late ∙ lt-ltb id.index w.id.index more))
            | inl alike ↦
                let one : w.id ≡ id = ap (λ n. event_id n w.id.index) same ∙ ap (event_id id.thread) alike in
                let both_at : ◌≡◌ {A = Option Event} (Some (Write variable value)) (Some (Read variable value)) =
                sym (subst (λ x. event_at window x ≡ Some (Write variable value)) one writes) ∙ is in
                cc
          ],
    )

choice_to : (window : WindowForm) (r w : EventId) (variable : List ℕ) (value : ℤ) → IsChoice window r variable value w
    → is_choice (at window r (Read variable value)) (at window w (Write variable value)) ≡ true
choice_to window r w variable value is =
    and_from (sees (action.Read variable value) (action.Write variable value)) (not (w.thread == r.thread && nat_lt r.index w.index)) (are_seen variable value)
    (elim (cases_eq w.thread r.thread) [
      | inr apart ↦ (let threads : (w.thread == r.thread) ≡ false = ne_eqb w.thread r.thread apart in rw threads refl)
      | inl same ↦
          let less = is.1 same in
          let late : nat_lt r.index w.index ≡ false = false_from_ne_true _ (λ e. let more = ltb-true r.index w.index e in absurd (omega (arith, less, more))) in
          let threads : (w.thread == r.thread) ≡ true = eq-eqb w.thread r.thread same in
          rw (threads, late) refl
    ])

reads_told : (window : WindowForm) (t : SymbolTruth) → HoldAll t (reads window (points_of window)) → ReadsHold window (truth_in window t)
reads_told window t all id variable value is does =
    let points : List Point = points_of window in
    let d = does_parts window t id does in
    let r : Point = at window id (Read variable value) in
    let has = has_point window id (Read variable value) is in
    let terms : List Term = flat_map (choice r) points ++ start_choice window r in
    let h : HoldAll t (simplified (executed r false ∷ terms)) = each_holds t (choices_of window points) r points all has in
    elim (split_terms t (flat_map (choice r) points) (start_choice window r) (skip t (Executed (number_in window id)) terms d.2 (clause_means t (executed r false ∷ terms) h))) [
      | inl some ↦
          let w = chosen_in t r points some in
          let own = (points_named window).own w.0 w.1 in
          inl (w.0.id, choice_from window id variable value w.0 is w.1 w.2, subst (λ n. t.symbols (Choice (number_in window id) n) ≡ true) own.3 w.3)
      | inr start ↦
          let s = one_term t (finds_at_start window (action.Read variable value)) (start_chosen r true) start in
          inr ((Decides-int_eq (start_value window variable) value).0 s.0, s.1.0)
    ]

choices_told : (window : WindowForm) (t : SymbolTruth) → KeepsEdges window (number_in window) t → HoldAll t (choices (points_of window))
    → ChoicesHold window (truth_in window t)
choices_told window t edges all rid wid variable value is is_ch picked =
    let points : List Point = points_of window in
    let r : Point = at window rid (Read variable value) in
    let w : Point = at window wid (Write variable value) in
    let has_r = has_point window rid (Read variable value) is in
    let has_w = has_point window wid (Write variable value) is_ch.0 in
    let not_chosen : Term = chosen r w false in
    let one : List (List SymbolicLit) = preceded (not_chosen ∷ []) (Some w) r in
    let two : List (List SymbolicLit) = flat_map (kept_apart r w) points in
    let h = when t (is_choice r w) (one ++ two) [] (choice_to window rid wid variable value is_ch)
    (each_holds t (seen_from points r) w points (each_holds t (λ q. flat_map (seen_from points q) points) r points all has_r) has_w) in
    let halves = both t one two h in
    let parts = both t (simplified (not_chosen ∷ executed w true ∷ [])) (simplified (not_chosen ∷ before w r ∷ [])) halves.0 in
    let true_now = (last_one t (executed w true) (skip t (Choice r.number w.number) (executed w true ∷ []) picked
    (clause_means t (not_chosen ∷ executed w true ∷ []) parts.0))).0 in
    let early = last_one t (before w r) (skip t (Choice r.number w.number) (before w r ∷ []) picked (clause_means t (not_chosen ∷ before w r ∷ []) parts.1)) in (
      (does_from window t wid (Write variable value, is_ch.0) true_now, before_means window t w r edges has_w has_r early),
      λ other found writes differ does.
          let d = does_parts window t other does in
          let o : Point = at window other (Write variable found) in
          let has_o = has_point window other (Write variable found) writes in
          let terms : List Term = before o w ∷ before r o ∷ [] in
          let k = when t (is_rival (action.Read variable value) (action.Write variable found)) (simplified (not_chosen ∷ executed o false ∷ terms)) []
          (are_rivals variable value found differ) (each_holds t (kept_apart r w) o points halves.1 has_o) in
          let rest = skip t (Executed (number_in window other)) terms d.2 (skip t (Choice r.number w.number) (executed o false ∷ terms) picked
          (clause_means t (not_chosen ∷ executed o false ∷ terms) k)) in
          elim (any_first_or_rest (Holds t) (before o w) (before r o ∷ []) rest) [
            | inl before_w ↦ inl (before_means window t o w edges has_o has_w before_w)
            | inr after ↦ inr (before_means window t r o edges has_r has_o (last_one t (before r o) after))
          ],
    )

start_choices_told : (window : WindowForm) (t : SymbolTruth) → KeepsEdges window (number_in window) t → HoldAll t (start_choices window (points_of window))
    → StartChoicesHold window (truth_in window t)
start_choices_told window t edges all rid variable value is begins picked other found writes differ does =
    let points : List Point = points_of window in
    let r : Point = at window rid (Read variable value) in
    let has_r = has_point window rid (Read variable value) is in
    let d = does_parts window t other does in
    let o : Point = at window other (Write variable found) in
    let has_o = has_point window other (Write variable found) writes in
    let terms : List Term = before r o ∷ [] in
    let test = and_from (finds_at_start window (action.Read variable value)) (is_rival (action.Read variable value) (action.Write variable found))
    ((Decides-int_eq (start_value window variable) value).1 begins) (are_rivals variable value found differ) in
    let k = when t (finds_at_start window (action.Read variable value) && is_rival (action.Read variable value) (action.Write variable found))
    (simplified (start_chosen r false ∷ executed o false ∷ terms)) [] test
    (each_holds t (kept_later window r) o points (each_holds t (λ q. flat_map (kept_later window q) points) r points all has_r) has_o) in
    let rest = skip t (Executed (number_in window other)) terms d.2 (skip t (StartChoice r.number) (executed o false ∷ terms) picked
    (clause_means t (start_chosen r false ∷ executed o false ∷ terms) k)) in
    before_means window t r o edges has_r has_o (last_one t (before r o) rest)

-- locks
lesser_index : (sizes : List ℕ) (thread one other : ℕ) → number_at sizes thread one < number_at sizes thread other → one < other
lesser_index sizes zero one other less = less
lesser_index sizes (suc place) one other less = omega (arith, less)

ends_test : (mode : LockMode) (lock : List ℕ) (thread from : ℕ) (p : Point) → p.id.thread ≡ thread → from ≤ p.id.index → gives_back mode lock p.action ≡ true
    → ends_hold mode lock thread from p ≡ true
ends_test mode lock thread from p own inside gives =
    and_from (p.id.thread == thread) (nat_le from p.id.index && gives_back mode lock p.action) (eq-eqb p.id.thread thread own)
    (and_from (nat_le from p.id.index) (gives_back mode lock p.action) (le-leb from p.id.index inside) gives)

ends_told : (window : WindowForm) (mode : LockMode) (lock : List ℕ) (thread from : ℕ) (b : Point) → Contains (points_of window) b
    → find (ends_hold mode lock thread from) (points_of window) ≡ Some b → ends_hold mode lock thread from b ≡ true → EndsHold window mode lock thread from b.id
ends_told window mode lock thread from b has found passes =
    let parts = and_parts (b.id.thread == thread) (nat_le from b.id.index && gives_back mode lock b.action) passes in
    let more = and_parts (nat_le from b.id.index) (gives_back mode lock b.action) parts.1 in
    let own = (points_named window).own b has in
    let thread_is : b.id.thread ≡ thread = eqb-true b.id.thread thread parts.0 in
    let uses = lock_event own.0 (GiveBack mode lock) (sym own.2 ∙ gives_is mode lock b.action more.1) in
    record {
      own = thread_is;
      inside = leb-true from b.id.index more.0;
      gives = ap use_of own.1 ∙ uses;
      none = λ k low high gives.
          let id : EventId = event_id thread k in
          let event = use_event (event_at window id) (GiveBack mode lock) gives in
          let q : Point = at window id event.0 in
          let does : gives_back mode lock q.action ≡ true = subst (λ a. gives_back mode lock a ≡ true) (sym (event_lock event.0 (GiveBack mode lock) event.2)) (does_give mode lock) in
          let test = ends_test mode lock thread from q refl low does in
          elim (found_first HasLesserNumber (ends_hold mode lock thread from) (points_of window) b q (points_rise window) found (has_point window id event.0 event.1) test) [
            | inl same ↦ let index = ap (λ (p : Point). p.id.index) same in absurd (omega (arith, index, high))
            | inr less ↦
                let number : number_in window b.id < number_in window id = subst (λ n. n < number_in window id) own.3 less in
                let moved_to : number_at (sizes_of window) thread b.id.index < number_at (sizes_of window) thread k =
                subst (λ n. number_at (sizes_of window) n b.id.index < number_at (sizes_of window) thread k) thread_is number in
                let index = lesser_index (sizes_of window) thread b.id.index k moved_to in
                absurd (omega (arith, index, high))
          ];
    }

freed_told : (window : WindowForm) (t : SymbolTruth) (mode : LockMode) (lock : List ℕ) (thread from : ℕ) (id : EventId)
    → IsFound window t (ends_hold mode lock thread from) id → IsFreedFor window (truth_in window t) mode lock thread from id
freed_told window t mode lock thread from id f = (f.point.id, ends_told window mode lock thread from f.point f.has f.found f.passes, f.precedes)

sections_told : (window : WindowForm) (t : SymbolTruth) → KeepsEdges window (number_in window) t → HoldAll t (sections (points_of window))
    → SectionsHold window (truth_in window t)
sections_told window t edges all lock mode other aid cid takes_a takes_c against lesser does_a does_c =
    let points : List Point = points_of window in
    let ea = use_event (event_at window aid) (Take mode lock) takes_a in
    let ec = use_event (event_at window cid) (Take other lock) takes_c in
    let a : Point = at window aid ea.0 in
    let c : Point = at window cid ec.0 in
    let has_a = has_point window aid ea.0 ea.1 in
    let has_c = has_point window cid ec.0 ec.1 in
    let da = does_parts window t aid does_a in
    let dc = does_parts window t cid does_c in
    let action_a : a.action ≡ action.Lock (Take mode lock) = event_lock ea.0 (Take mode lock) ea.2 in
    let action_c : c.action ≡ action.Lock (Take other lock) = event_lock ec.0 (Take other lock) ec.2 in
    let raw = each_holds t (sections_apart points a) c points (each_holds t (λ q. flat_map (sections_apart points q) points) a points all has_a) has_c in
    let told : HoldAll t (apart points a c (action.Lock (Take mode lock)) (action.Lock (Take other lock))) =
    subst (λ y. HoldAll t (apart points a c (action.Lock (Take mode lock)) y)) action_c (subst (λ x. HoldAll t (apart points a c x c.action)) action_a raw) in
    let test = and_from (bytes_eq lock lock) (exclude mode other && nat_lt aid.thread cid.thread) ((bytes_eq-Decides lock lock).1 refl)
    (and_from (exclude mode other) (nat_lt aid.thread cid.thread) against (lt-ltb aid.thread cid.thread lesser)) in
    let h = when t (bytes_eq lock lock && (exclude mode other && nat_lt aid.thread cid.thread)) (in_either_order points a mode c other lock) [] test told in
    let one : List Term = executed a false ∷ executed c false ∷ first a c false ∷ [] in
    let two : List Term = executed a false ∷ executed c false ∷ first a c true ∷ [] in
    let end_a : Point → Bool = ends_hold mode lock aid.thread (suc aid.index) in
    let end_c : Point → Bool = ends_hold other lock cid.thread (suc cid.index) in
    let sides = both t (preceded one (find end_a points) c) (preceded two (find end_c points) a) h in
    let left : (term : Term) → (Holds t term → ⊥) → AnyTerm t (executed a false ∷ executed c false ∷ term ∷ []) → ⊥ = (λ term none any.
    none (last_one t term (skip t (Executed (number_in window cid)) (term ∷ []) dc.2 (skip t (Executed (number_in window aid)) (executed c false ∷ term ∷ []) da.2 any)))) in (
      (λ is. freed_told window t mode lock aid.thread (suc aid.index) cid
          (found_before window t one end_a c edges has_c sides.0 (left (first a c false) (λ bad. false≢true (sym bad.0 ∙ is))))),
      (λ is. freed_told window t other lock cid.thread (suc cid.index) aid
          (found_before window t two end_c a edges has_a sides.1 (left (first a c true) (λ bad. false≢true (sym is ∙ bad.0))))),
    )

start_holds_told : (window : WindowForm) (t : SymbolTruth) → IsFormed window → KeepsEdges window (number_in window) t
    → HoldAll t (held_locks window (points_of window)) → StartHoldsHold window (truth_in window t)
start_holds_told window t formed edges all lock mode other thread cid held takes against apart_c does =
    let points : List Point = points_of window in
    let hold : Holding = ((lock, thread), mode) in
    let ec = use_event (event_at window cid) (Take other lock) takes in
    let c : Point = at window cid ec.0 in
    let has_c = has_point window cid ec.0 ec.1 in
    let d = does_parts window t cid does in
    let k = each_holds t (held_apart points hold) c points
    (each_holds t (λ x. flat_map (held_apart points x) points) hold (held_at_start window) all (mode_held_at window lock thread mode formed held)) has_c in
    let takes_test : takes_against mode lock c.action ≡ true =
    subst (λ a. takes_against mode lock a ≡ true) (sym (event_lock ec.0 (Take other lock) ec.2)) (does_take mode other lock against) in
    let threads : not (cid.thread == thread) ≡ true = ap not (ne_eqb cid.thread thread apart_c) in
    let test = and_from (takes_against mode lock c.action) (not (cid.thread == thread)) takes_test threads in
    let h = when t (takes_against mode lock c.action && not (cid.thread == thread)) (needs c (find (ends_hold mode lock thread 0) points)) [] test k in
    freed_told window t mode lock thread 0 cid (needed_before window t (ends_hold mode lock thread 0) c edges has_c h d.2)

-- true clauses make all families true
pub clauses_told : (window : WindowForm) (t : SymbolTruth) → IsFormed window → KeepsEdges window (number_in window) t → HoldAll t (clauses_of window)
    → MeetsAll window (truth_in window t)
clauses_told window t formed edges all =
    let points : List Point = points_of window in
    let c1 = both t (program_order points) _ all in
    let c2 = both t (starts window points) _ c1.1 in
    let c3 = both t (joins window points) _ c2.1 in
    let c4 = both t (reads window points) _ c3.1 in
    let c5 = both t (choices points) _ c4.1 in
    let c6 = both t (start_choices window points) _ c5.1 in
    let c7 = both t (sections points) _ c6.1 in
    record {
      rise = rise_told window t edges;
      run = run_told window t c1.0;
      starts = starts_told window t edges c1.0 c2.0;
      joins = joins_told window t edges c1.0 c2.0 c3.0;
      reads = reads_told window t c4.0;
      choices = choices_told window t edges c5.0;
      start_choices = start_choices_told window t edges c6.0;
      sections = sections_told window t edges c7.0;
      start_holds = start_holds_told window t formed edges c7.1;
    }

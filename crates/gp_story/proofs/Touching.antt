-- The tables of who touches what tell whether another thread has to do with a variable or a lock.
use Rattle.std.proofs.Common.{ℕ, ◌≡◌, ◌+◌, ◌-◌, ◌<◌, ◌≤◌, refl, ap, sym, ◌∙◌, subst, add-one, arith, Bool, true, false, List, [], ◌∷◌, cond, eqb-true}
use Rattle.std.specs.Prelude.{◌==◌, ◌&&◌, ◌||◌, if◌then◌else◌, length, not, Option, Some, None}
use Rattle.std.specs.Cmp.Lexicographic.{slice_cmp}
use Rattle.std.specs.List.{list_any}
use Rattle.std.specs.Option.{option_eq}
use Rattle.std.specs.Ordering.{nat_cmp}
use Rattle.std.specs.Str.{bytes_eq}
use Rattle.std.proofs.Math.Bool.{and_comm, or_assoc, or_self}
use Rattle.std.proofs.lemmas.Cmp.{nat_list_cmp_total}
use Rattle.std.proofs.lemmas.Slice.Eq.{bytes_eq-Decides}
use Rattle.gp_base.specs.Table.{value_at}
use Rattle.gp_base.specs.TableLaws.{value_after_put}
use Rattle.gp_trace.specs.declared.event.Event.{Event}
use Rattle.gp_window.specs.Contested.{is_held_beside}
use Rattle.gp_window.specs.Events.{segment_of}
use Rattle.gp_window.specs.Holders.{Holdings}
use Rattle.gp_window.specs.WindowForm.{held_at_start, numbers_from, WindowForm}
use Rattle.gp_story.specs.declared.sharing.Touched.{Touched}
use Rattle.gp_story.specs.declared.sharing.Touched.TheVariants.{ByOne, BySeveral}
use Rattle.gp_story.specs.Deeds.{variable_of}
use Rattle.gp_story.specs.Shared.{is_done_beside, uses}
use Rattle.gp_story.specs.Touched.{also_by, is_beside, lock_used, TellsSharing, Touches, with_events, with_holdings, with_threads, with_touch, with_touched}
use Rattle.gp_story.proofs.Recalled.{names_tied}

or_false : (b : Bool) → (b || false) ≡ b
or_false true = refl
or_false false = refl

-- one who touches it, or another one, and who is not this thread
either : (b x y n : Bool) → ((b || (x && n)) || (y && n)) ≡ (b || ((x || y) && n))
either true x y n = refl
either false true true true = refl
either false true true false = refl
either false true false true = refl
either false true false false = refl
either false false y n = refl

or_true : (b : Bool) → (b || true) ≡ true
or_true true = refl
or_true false = refl

-- of two different threads, at least one is not this one
one_apart : (one thread other : ℕ) → (one == thread) ≡ false → (b : Bool) → (thread == other) ≡ b → true ≡ (not (one == other) || not b)
one_apart one thread other apart true is =
    let same : thread ≡ other = eqb-true thread other is in
    let others : (one == other) ≡ false = subst (λ (t : ℕ). (one == t) ≡ false) same apart in
    sym (ap (λ b. not b || false) others)
one_apart one thread other apart false is = sym (or_true (not (one == other)))

-- whether a thread other than this one touches it, now that one more does
also_case : (one thread other : ℕ) (b : Bool) → (one == thread) ≡ b
    → is_beside other (Some (if b then ByOne one else BySeveral)) ≡ (not (one == other) || not (thread == other))
also_case one thread other true is =
    sym (or_self (not (one == other))) ∙ ap (λ (t : ℕ). not (one == other) || not (t == other)) (eqb-true one thread is)
also_case one thread other false apart = one_apart one thread other apart (thread == other) refl

also_told : (thread other : ℕ) (touched : Option Touched) → is_beside other (Some (also_by thread touched)) ≡ (is_beside other touched || not (thread == other))
also_told thread other None = refl
also_told thread other (Some (ByOne one)) = also_case one thread other (one == thread) refl
also_told thread other (Some BySeveral) = refl

touch_case : (touches : Touches) (name place : List ℕ) (thread other : ℕ) (b : Bool) → bytes_eq name place ≡ b
    → is_beside other (cond b (Some (also_by thread (value_at (slice_cmp nat_cmp) touches name))) (value_at (slice_cmp nat_cmp) touches place))
    ≡ (is_beside other (value_at (slice_cmp nat_cmp) touches place) || (b && not (thread == other)))
touch_case touches name place thread other true is =
    ap (λ (n : List ℕ). is_beside other (Some (also_by thread (value_at (slice_cmp nat_cmp) touches n)))) ((bytes_eq-Decides name place).0 is)
    ∙ also_told thread other (value_at (slice_cmp nat_cmp) touches place)
touch_case touches name place thread other false apart = sym (or_false (is_beside other (value_at (slice_cmp nat_cmp) touches place)))

touch_told : (touches : Touches) (name place : List ℕ) (thread other : ℕ) → is_beside other (value_at (slice_cmp nat_cmp) (with_touch touches name thread) place)
    ≡ (is_beside other (value_at (slice_cmp nat_cmp) touches place) || (bytes_eq name place && not (thread == other)))
touch_told touches name place thread other =
    let by : Touched = also_by thread (value_at (slice_cmp nat_cmp) touches name) in
    let old : Option Touched = value_at (slice_cmp nat_cmp) touches place in
    ap (is_beside other) (value_after_put nat_list_cmp_total touches name place by)
    ∙ ap (λ b. is_beside other (cond b (Some by) old)) (names_tied name place)
    ∙ touch_case touches name place thread other (bytes_eq name place) refl

touched_told : (touches : Touches) (found : Option (List ℕ)) (place : List ℕ) (thread other : ℕ)
    → is_beside other (value_at (slice_cmp nat_cmp) (with_touched thread touches found) place)
    ≡ (is_beside other (value_at (slice_cmp nat_cmp) touches place) || (option_eq bytes_eq found (Some place) && not (thread == other)))
touched_told touches None place thread other = sym (or_false (is_beside other (value_at (slice_cmp nat_cmp) touches place)))
touched_told touches (Some name) place thread other = touch_told touches name place thread other

-- whether an event of these touches the name
abbrev touches_name : (Event → Option (List ℕ)) → List ℕ → Event → Bool
touches_name name_of place event = option_eq bytes_eq (name_of event) (Some place)

events_told : (name_of : Event → Option (List ℕ)) (touches : Touches) (events : List Event) (place : List ℕ) (thread other : ℕ)
    → is_beside other (value_at (slice_cmp nat_cmp) (with_events name_of thread touches events) place)
    ≡ (is_beside other (value_at (slice_cmp nat_cmp) touches place) || (list_any (touches_name name_of place) events && not (thread == other)))
events_told name_of touches [] place thread other = sym (or_false (is_beside other (value_at (slice_cmp nat_cmp) touches place)))
events_told name_of touches (event ∷ events) place thread other =
    let first : Bool = touches_name name_of place event in
    let rest : Bool = list_any (touches_name name_of place) events in
    let old : Bool = is_beside other (value_at (slice_cmp nat_cmp) touches place) in
    events_told name_of (with_touched thread touches (name_of event)) events place thread other
    ∙ ap (λ b. b || (rest && not (thread == other))) (touched_told touches (name_of event) place thread other)
    ∙ either old first rest (not (thread == other))

threads_told : (name_of : Event → Option (List ℕ)) (window : WindowForm) (touches : Touches) (threads : List ℕ) (place : List ℕ) (other : ℕ)
    → is_beside other (value_at (slice_cmp nat_cmp) (with_threads name_of window touches threads) place)
    ≡ (is_beside other (value_at (slice_cmp nat_cmp) touches place)
    || list_any (λ thread. not (thread == other) && list_any (touches_name name_of place) (segment_of window thread)) threads)
threads_told name_of window touches [] place other = sym (or_false (is_beside other (value_at (slice_cmp nat_cmp) touches place)))
threads_told name_of window touches (thread ∷ threads) place other =
    let own : Bool = list_any (touches_name name_of place) (segment_of window thread) in
    let old : Bool = is_beside other (value_at (slice_cmp nat_cmp) touches place) in
    let rest : Bool = list_any (λ one. not (one == other) && list_any (touches_name name_of place) (segment_of window one)) threads in
    threads_told name_of window (with_events name_of thread touches (segment_of window thread)) threads place other
    ∙ ap (λ b. b || rest) (events_told name_of touches (segment_of window thread) place thread other)
    ∙ ap (λ b. (old || b) || rest) (and_comm own (not (thread == other)))
    ∙ or_assoc old (not (thread == other) && own) rest

holdings_told : (touches : Touches) (held : Holdings) (place : List ℕ) (other : ℕ)
    → is_beside other (value_at (slice_cmp nat_cmp) (with_holdings touches held) place)
    ≡ (is_beside other (value_at (slice_cmp nat_cmp) touches place) || is_held_beside held place other)
holdings_told touches [] place other = sym (or_false (is_beside other (value_at (slice_cmp nat_cmp) touches place)))
holdings_told touches (holding ∷ held) place other =
    let old : Bool = is_beside other (value_at (slice_cmp nat_cmp) touches place) in
    holdings_told (with_touch touches holding.0.0 holding.0.1) held place other
    ∙ ap (λ b. b || is_held_beside held place other) (touch_told touches holding.0.0 place holding.0.1 other)
    ∙ or_assoc old (bytes_eq holding.0.0 place && not (holding.0.1 == other)) (is_held_beside held place other)

pub tells_sharing : (window : WindowForm) → TellsSharing window
    (with_threads variable_of window [] (numbers_from 1 (length window.segments)))
    (with_threads lock_used window (with_holdings [] (held_at_start window)) (numbers_from 1 (length window.segments)))
tells_sharing window = record {
  accessed = λ variable thread. threads_told variable_of window [] (numbers_from 1 (length window.segments)) variable thread;
  used = λ lock thread.
      threads_told lock_used window (with_holdings [] (held_at_start window)) (numbers_from 1 (length window.segments)) lock thread
      ∙ ap (λ b. b || is_done_beside window (uses lock) thread) (holdings_told [] (held_at_start window) lock thread);
}

unfolds : (thread more rest : ℕ) → more ≡ rest + 1 → numbers_from thread more ≡ thread ∷ numbers_from (thread + 1) rest
unfolds thread more rest is = rw (is, add-one) refl

-- one thread more goes from those that are left to those so far
pub one_thread : (name_of : Event → Option (List ℕ)) (window : WindowForm) (touches next all : Touches) (thread threads : ℕ) → thread < threads + 1
    → next ≡ with_events name_of thread touches (segment_of window thread)
    → with_threads name_of window touches (numbers_from thread (threads + 1 - thread)) ≡ all
    → with_threads name_of window next (numbers_from (thread + 1) (threads + 1 - (thread + 1))) ≡ all
one_thread name_of window touches next all thread threads below is told =
    let left : threads + 1 - thread ≡ (threads + 1 - (thread + 1)) + 1 = omega arith in
    ap (λ (t : Touches). with_threads name_of window t (numbers_from (thread + 1) (threads + 1 - (thread + 1)))) is
    ∙ ap (with_threads name_of window touches) (sym (unfolds thread (threads + 1 - thread) (threads + 1 - (thread + 1)) left))
    ∙ told

-- no thread is left
pub all_threads : (name_of : Event → Option (List ℕ)) (window : WindowForm) (touches all : Touches) (thread threads : ℕ) → threads + 1 ≤ thread
    → with_threads name_of window touches (numbers_from thread (threads + 1 - thread)) ≡ all → touches ≡ all
all_threads name_of window touches all thread threads past told =
    let none : threads + 1 - thread ≡ 0 = omega arith in
    ap (λ n. with_threads name_of window touches (numbers_from thread n)) (sym none) ∙ told

-- tables that were made so tell it
pub told_by : (window : WindowForm) (variables locks held : Touches) → held ≡ with_holdings [] (held_at_start window)
    → variables ≡ with_threads variable_of window [] (numbers_from 1 (length window.segments))
    → locks ≡ with_threads lock_used window held (numbers_from 1 (length window.segments)) → TellsSharing window variables locks
told_by window variables locks held is accessed used =
    subst (λ (t : Touches). TellsSharing window t locks) (sym accessed)
    (subst (TellsSharing window (with_threads variable_of window [] (numbers_from 1 (length window.segments))))
    (sym (used ∙ ap (λ (t : Touches). with_threads lock_used window t (numbers_from 1 (length window.segments))) is)) (tells_sharing window))

-- Laws: states that tell the same take the same steps.
use Rattle.std.proofs.Common.{ℕ, zero, suc, ◌≡◌, ap, sym, ◌∙◌, refl, subst, inl, inr, Bool, true, false, List, [], ◌∷◌}
use Rattle.std.specs.Prelude.{ℤ, pos, ◌==◌, ◌&&◌, ◌||◌, Option, Some, None, Result, Ok, Err, if◌then◌else◌, is_some, unwrap_or, slice_index}
use Rattle.std.specs.Cmp.Lexicographic.{slice_cmp}
use Rattle.std.specs.Ordering.{int_eq, nat_cmp}
use Rattle.std.proofs.lemmas.Bool.{cases_Bool, true≢false}
use Rattle.std.proofs.lemmas.List.Folds.{list_any-append}
use Rattle.gp_base.specs.Table.{value_at}
use Rattle.gp_base.specs.TableLaws.{dropped_apart, dropped_here, put_apart, put_here, same_or_apart}
use Rattle.gp_trace.specs.declared.event.Event.{Event}
use Rattle.gp_trace.specs.declared.event.Event.TheVariants.{Read, Write, Start, Join}
use Rattle.gp_trace.specs.declared.lock_use.LockMode.{LockMode}
use Rattle.gp_trace.specs.declared.lock_use.LockMode.TheVariants.{Exclusive, Shared}
use Rattle.gp_trace.specs.declared.lock_use.LockUse.{LockUse}
use Rattle.gp_trace.specs.declared.lock_use.LockUse.TheVariants.{Take, GiveBack}
use Rattle.gp_trace.specs.LockUse.{lock_use_of}
use Rattle.gp_window.specs.declared.schedule.EventId.{EventId}
use Rattle.gp_window.specs.Events.{size_of}
use Rattle.gp_window.specs.Starts.{is_among}
use Rattle.gp_window.specs.WindowForm.{WindowForm}
use Rattle.gp_replay.specs.declared.rule.Rule.{Rule}
use Rattle.gp_replay.specs.declared.rule.Rule.TheVariants.{LockHeld, WrongValue, NotExited}
use Rattle.gp_replay.specs.declared.state.State.{State}
use Rattle.gp_replay.specs.Alike.{Alike}
use Rattle.gp_replay.specs.Feasible.{Runs}
use Rattle.gp_replay.specs.ReaderLaws.{added_apart, added_here, dropped_apart as reader_apart, dropped_here as reader_dropped, no_reader, some_reader}
use Rattle.gp_replay.specs.Readers.{has_reader, is_reader, with_reader, without_reader}
use Rattle.gp_replay.specs.SharingLaws.{same_reader}
use Rattle.gp_replay.specs.Step.{after, allowed_in, allowed_use, count_of, counts_after, has_ended, holders_after, is_held_against, next, readers_after, started_after, values_after}
use Rattle.gp_replay.specs.StepLaws.{happens, stepped}

-- the value that a variable has among these
abbrev value_in : List (List ℕ × ℤ) → List ℕ → ℤ
value_in values variable = unwrap_or (value_at (slice_cmp nat_cmp) values variable) (pos 0)

values_alike : (event : Event) (one other : List (List ℕ × ℤ)) → ((variable : List ℕ) → value_in one variable ≡ value_in other variable)
    → (variable : List ℕ) → value_in (values_after event one) variable ≡ value_in (values_after event other) variable
values_alike (Write name value) one other same variable =
    elim (same_or_apart variable name) [
      | inl is ↦ subst (λ n. value_in (values_after (Write name value) one) n ≡ value_in (values_after (Write name value) other) n) (sym is)
          (ap (λ found. unwrap_or found (pos 0)) (put_here one name value) ∙ sym (ap (λ found. unwrap_or found (pos 0)) (put_here other name value)))
      | inr apart ↦
          ap (λ found. unwrap_or found (pos 0)) (put_apart one name variable value apart) ∙ same variable
          ∙ sym (ap (λ found. unwrap_or found (pos 0)) (put_apart other name variable value apart))
    ]
values_alike event one other same variable = same variable

-- the holder of a lock among these
abbrev holder_in : List (List ℕ × ℕ) → List ℕ → Option ℕ
holder_in holders lock = value_at (slice_cmp nat_cmp) holders lock

holders_alike : (thread : ℕ) (how : Option LockUse) (one other : List (List ℕ × ℕ)) → ((lock : List ℕ) → holder_in one lock ≡ holder_in other lock)
    → (lock : List ℕ) → holder_in (holders_after thread how one) lock ≡ holder_in (holders_after thread how other) lock
holders_alike thread (Some (Take Exclusive name)) one other same lock =
    elim (same_or_apart lock name) [
      | inl is ↦ subst (λ n. holder_in (holders_after thread (Some (Take Exclusive name)) one) n ≡ holder_in (holders_after thread (Some (Take Exclusive name)) other) n) (sym is)
          (put_here one name thread ∙ sym (put_here other name thread))
      | inr apart ↦ put_apart one name lock thread apart ∙ same lock ∙ sym (put_apart other name lock thread apart)
    ]
holders_alike thread (Some (GiveBack Exclusive name)) one other same lock =
    elim (same_or_apart lock name) [
      | inl is ↦ subst (λ n. holder_in (holders_after thread (Some (GiveBack Exclusive name)) one) n ≡ holder_in (holders_after thread (Some (GiveBack Exclusive name)) other) n) (sym is)
          (dropped_here one name ∙ sym (dropped_here other name))
      | inr apart ↦ dropped_apart one name lock apart ∙ same lock ∙ sym (dropped_apart other name lock apart)
    ]
holders_alike thread (Some (Take Shared name)) one other same lock = same lock
holders_alike thread (Some (GiveBack Shared name)) one other same lock = same lock
holders_alike thread None one other same lock = same lock

readers_alike : (doer : ℕ) (how : Option LockUse) (one other : List (List ℕ × ℕ))
    → ((lock : List ℕ) (thread : ℕ) → is_reader one lock thread ≡ is_reader other lock thread)
    → (lock : List ℕ) (thread : ℕ) → is_reader (readers_after doer how one) lock thread ≡ is_reader (readers_after doer how other) lock thread
readers_alike doer (Some (Take Shared name)) one other same lock thread =
    elim (same_reader lock name thread doer) [
      | inl is ↦ subst (λ n. is_reader (with_reader one (name, doer)) n thread ≡ is_reader (with_reader other (name, doer)) n thread) (sym is.0)
          (subst (λ t. is_reader (with_reader one (name, doer)) name t ≡ is_reader (with_reader other (name, doer)) name t) (sym is.1)
          (added_here one name doer ∙ sym (added_here other name doer)))
      | inr apart ↦ added_apart one name lock doer thread apart ∙ same lock thread ∙ sym (added_apart other name lock doer thread apart)
    ]
readers_alike doer (Some (GiveBack Shared name)) one other same lock thread =
    elim (same_reader lock name thread doer) [
      | inl is ↦ subst (λ n. is_reader (without_reader one (name, doer)) n thread ≡ is_reader (without_reader other (name, doer)) n thread) (sym is.0)
          (subst (λ t. is_reader (without_reader one (name, doer)) name t ≡ is_reader (without_reader other (name, doer)) name t) (sym is.1)
          (reader_dropped one name doer ∙ sym (reader_dropped other name doer)))
      | inr apart ↦ reader_apart one name lock doer thread apart ∙ same lock thread ∙ sym (reader_apart other name lock doer thread apart)
    ]
readers_alike doer (Some (Take Exclusive name)) one other same lock thread = same lock thread
readers_alike doer (Some (GiveBack Exclusive name)) one other same lock thread = same lock thread
readers_alike doer None one other same lock thread = same lock thread

started_alike : (event : Event) (one other : List ℕ) → ((thread : ℕ) → is_among one thread ≡ is_among other thread)
    → (thread : ℕ) → is_among (started_after event one) thread ≡ is_among (started_after event other) thread
started_alike (Start more) one other same thread =
    list_any-append (λ t. t == thread) one (more ∷ [])
    ∙ ap (λ b. b || is_among (more ∷ []) thread) (same thread)
    ∙ sym (list_any-append (λ t. t == thread) other (more ∷ []))
started_alike event one other same thread = same thread

-- an event changes states that tell the same alike
pub alike_after : (thread : ℕ) (event : Event) (one other : State) → Alike one other → Alike (after thread event one) (after thread event other)
alike_after thread event one other a = record {
  counts = ap (counts_after thread) a.counts;
  values = values_alike event one.values other.values a.values;
  holders = holders_alike thread (lock_use_of event) one.holders other.holders a.holders;
  readers = readers_alike thread (lock_use_of event) one.readers other.readers a.readers;
  started = started_alike event one.started other.started a.started;
}

count_alike : (one other : State) (thread : ℕ) → one.counts ≡ other.counts → count_of one thread ≡ count_of other thread
count_alike one other zero same = refl
count_alike one other (suc place) same = ap (λ counts. slice_index counts place) same

-- tests that hold together are one
same_bool : (a b : Bool) → (a ≡ true → b ≡ true) → (b ≡ true → a ≡ true) → a ≡ b
same_bool true true f g = refl
same_bool true false f g = sym (f refl)
same_bool false true f g = g refl
same_bool false false f g = refl

has_by : (one other : List (List ℕ × ℕ)) (lock : List ℕ) → ((thread : ℕ) → is_reader one lock thread ≡ is_reader other lock thread)
    → has_reader one lock ≡ true → has_reader other lock ≡ true
has_by one other lock same e =
    let found = some_reader one lock e in
    elim (cases_Bool (has_reader other lock)) [
      | inl has ↦ has
      | inr none ↦ absurd (true≢false (sym found.1 ∙ same found.0 ∙ no_reader other lock found.0 none))
    ]

has_alike : (one other : List (List ℕ × ℕ)) (lock : List ℕ) → ((thread : ℕ) → is_reader one lock thread ≡ is_reader other lock thread)
    → has_reader one lock ≡ has_reader other lock
has_alike one other lock same =
    same_bool (has_reader one lock) (has_reader other lock) (has_by one other lock same) (has_by other one lock (λ thread. sym (same thread)))

held_alike : (one other : State) (mode : LockMode) (lock : List ℕ) → Alike one other → is_held_against one mode lock ≡ is_held_against other mode lock
held_alike one other Exclusive lock a =
    ap (λ (h : Option ℕ). is_some h || has_reader one.readers lock) (a.holders lock)
    ∙ ap (λ b. is_some (holder_in other.holders lock) || b) (has_alike one.readers other.readers lock (a.readers lock))
held_alike one other Shared lock a = ap (λ (h : Option ℕ). is_some h) (a.holders lock)

-- the answer of a test that must hold, and that of one that must fail
abbrev must : Rule → Bool → Result (Unit {0}) Rule
must rule b = if b then Ok tt else Err rule

abbrev must_not : Rule → Bool → Result (Unit {0}) Rule
must_not rule b = if b then Err rule else Ok tt

use_alike : (one other : State) (how : Option LockUse) → Alike one other → allowed_use one how ≡ allowed_use other how
use_alike one other (Some (Take mode lock)) a = ap (λ (b : Bool). must_not LockHeld b) (held_alike one other mode lock a)
use_alike one other (Some (GiveBack mode lock)) a = refl
use_alike one other None a = refl

ended_alike : (window : WindowForm) (one other : State) (thread : ℕ) → Alike one other → has_ended window one thread ≡ has_ended window other thread
ended_alike window one other thread a =
    ap (λ b. b && (is_among window.exited thread && size_of window thread == count_of one thread)) (a.started thread)
    ∙ ap (λ n. is_among other.started thread && (is_among window.exited thread && size_of window thread == n)) (count_alike one other thread a.counts)

-- what is allowed in a state is allowed in one that tells the same
allowed_alike : (window : WindowForm) (one other : State) (event : Event) → Alike one other → allowed_in window one event ≡ allowed_in window other event
allowed_alike window one other (Read variable value) a = ap (λ (n : ℤ). must WrongValue (int_eq n value)) (a.values variable)
allowed_alike window one other (Join thread) a = ap (λ (b : Bool). must NotExited b) (ended_alike window one other thread a)
allowed_alike window one other event a = use_alike one other (lock_use_of event) a

-- an event that happens in a state happens in one that tells the same, and the states after it tell the same
pub alike_step : (window : WindowForm) (one other middle : State) (id : EventId) → Alike one other → next window one id ≡ Ok middle
    → (last : State) × (next window other id ≡ Ok last) × Alike middle last
alike_step window one other middle id a e =
    let step = stepped window one middle id e in
    let event : Event = step.event in
    let turn : count_of other id.thread ≡ id.index = sym (count_alike one other id.thread a.counts) ∙ step.turn in (
      after id.thread event other,
      happens window other id event step.there turn (sym (a.started id.thread) ∙ step.started) (sym (allowed_alike window one other event a) ∙ step.allowed),
      subst (λ (m : State). Alike m (after id.thread event other)) (sym step.gives) (alike_after id.thread event one other a),
    )

-- and so do events one after another
pub alike_runs : (window : WindowForm) (one other last : State) (ids : List EventId) → Alike one other → Runs window one ids last
    → (after : State) × Runs window other ids after × Alike last after
alike_runs window one other last [] a r = (other, refl, subst (λ (m : State). Alike m other) (sym r) a)
alike_runs window one other last (id ∷ ids) a r =
    let step = alike_step window one other r.0 id a r.1 in
    let rest = alike_runs window r.0 step.0 last ids step.2 r.2 in
    (rest.0, (step.0, step.1, rest.1), rest.2)

-- telling the same goes both ways, and on
pub alike_turned : (one other : State) → Alike one other → Alike other one
alike_turned one other a = record {
  counts = sym a.counts;
  values = λ variable. sym (a.values variable);
  holders = λ lock. sym (a.holders lock);
  readers = λ lock thread. sym (a.readers lock thread);
  started = λ thread. sym (a.started thread);
}

pub alike_on : (one other third : State) → Alike one other → Alike other third → Alike one third
alike_on one other third a b = record {
  counts = a.counts ∙ b.counts;
  values = λ variable. a.values variable ∙ b.values variable;
  holders = λ lock. a.holders lock ∙ b.holders lock;
  readers = λ lock thread. a.readers lock thread ∙ b.readers lock thread;
  started = λ thread. a.started thread ∙ b.started thread;
}

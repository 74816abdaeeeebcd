-- The executed events of a truth that meets all families happen one after another.
use Rattle.std.proofs.Common.{ℕ, zero, suc, ◌≡◌, ◌⊎◌, ◌<◌, ◌≤◌, ap, sym, ◌∙◌, refl, subst, inl, inr, List, [], ◌∷◌, true, false, arith, length}
use Rattle.std.specs.Prelude.{ℤ, pos, Some, None, Option, Ok, ◌&&◌, ◌==◌, is_some, slice_get, unwrap_or, Contains}
use Rattle.std.specs.Cmp.Lexicographic.{slice_cmp}
use Rattle.std.specs.Ordering.{int_eq, nat_cmp}
use Rattle.std.proofs.lemmas.Bool.{and_from, cases_Bool, cases_eq, cases_order, eq-eqb, false≢true}
use Rattle.std.proofs.lemmas.Bool.Decides.{Decides-int_eq}
use Rattle.std.proofs.lemmas.Int.{ints}
use Rattle.gp_base.specs.Table.{value_at}
use Rattle.gp_trace.specs.declared.event.Event.{Event}
use Rattle.gp_trace.specs.declared.event.Event.TheVariants.{Read, Write, Acquire, Release, RAcquire, RRelease, Start, Join, Op, Begin, End}
use Rattle.gp_trace.specs.declared.lock_use.LockMode.{LockMode}
use Rattle.gp_trace.specs.declared.lock_use.LockMode.TheVariants.{Exclusive, Shared}
use Rattle.gp_window.specs.Events.{event_at, segment_of, size_of}
use Rattle.gp_window.specs.Formed.{IsFormed, mode_at_start}
use Rattle.gp_window.specs.Starts.{is_among}
use Rattle.gp_window.specs.declared.schedule.EventId.{EventId}
use Rattle.gp_window.specs.WindowForm.{start_value, WindowForm}
use Rattle.gp_replay.specs.declared.state.State.{State}
use Rattle.gp_replay.specs.Feasible.{IsFeasible, Runs}
use Rattle.gp_replay.specs.CountedLaws.{counted_from_in, in_from_counted}
use Rattle.gp_replay.specs.Holder.{HoldersAcquired}
use Rattle.gp_replay.specs.LockUses.{GivesBack, Takes}
use Rattle.gp_replay.specs.Order.{Joins}
use Rattle.gp_replay.specs.OrderLaws.{started_after}
use Rattle.gp_replay.specs.PartLaws.{prefix_from_start}
use Rattle.gp_replay.specs.ReaderLaws.{some_reader}
use Rattle.gp_replay.specs.Readers.{has_reader, is_reader}
use Rattle.gp_replay.specs.Sharing.{ReadersAcquired}
use Rattle.gp_replay.specs.Step.{after, allowed_in, count_of, has_ended, holder_of, start_state, value_of}
use Rattle.gp_replay.specs.StartLaws.{held_as_told, read_as_told}
use Rattle.gp_replay.specs.StepLaws.{happens}
use Rattle.gp_replay.specs.Value.{Reads, ValuesAreLastWrites, Writes}
use Rattle.gp_base.specs.ListLaws.{contains_middle, recursion_at}
use Rattle.gp_constraint.specs.PointLaws.{event_id, IsEventOf}
use Rattle.gp_constraint.specs.Sections.{exclude}
use Rattle.gp_witness.specs.Meaning.{EachRival, IsFreedFor, IsStartedFor, MeetsAll, Precedes, Truth}
use Rattle.gp_witness.proofs.Holds.{given_before, given_between}
use Rattle.gp_witness.proofs.Sorted.{Before, Does, IsScheduleOf, Stands, stands}
use Rattle.gp_witness.proofs.Steps.{EachMayHappen, feasible_by_steps}

-- what is known of a window and of a truth: how the window is formed and begins, what runs of it say, and all families
pub record Ground (window : WindowForm) (t : Truth) : Type 0 where
  pub formed : IsFormed window
  pub values : (start_state window).values ≡ window.start_values
  pub written : ValuesAreLastWrites
  pub acquired : HoldersAcquired
  pub shared : ReadersAcquired
  pub meets : MeetsAll window t
  pub there : (id : EventId) → Does t id → IsEventOf window id

-- there is each event before one that is there
got_earlier : (events : List Event) (index later : ℕ) (event : Event) → index < later → slice_get events later ≡ Some event
    → (other : Event) × (slice_get events index ≡ Some other)
got_earlier [] index later event less e = cc
got_earlier (first ∷ events) zero later event less e = (first, refl)
got_earlier (first ∷ events) (suc index) zero event less e = absurd (omega (arith, less))
got_earlier (first ∷ events) (suc index) (suc later) event less e = got_earlier events index later event (omega (arith, less)) e

got_at : (events : List Event) (index : ℕ) → index < length events → (event : Event) × (slice_get events index ≡ Some event)
got_at [] index less = absurd (omega (arith, less))
got_at (first ∷ events) zero less = (first, refl)
got_at (first ∷ events) (suc index) less = got_at events index (omega (arith, less))

-- two events of one thread and one index are the same
pub same_parts : (one other : EventId) → one.thread ≡ other.thread → one.index ≡ other.index → one ≡ other
same_parts one other thread index = ap (λ t. event_id t one.index) thread ∙ ap (λ i. event_id other.thread i) index

there_before : (window : WindowForm) (one other : EventId) → one.thread ≡ other.thread → one.index < other.index → IsEventOf window other → IsEventOf window one
there_before window one other same less there =
    let own : event_at window (event_id one.thread other.index) ≡ Some there.0 = subst (λ n. event_at window (event_id n other.index) ≡ Some there.0) (sym same) there.1 in
    got_earlier (segment_of window one.thread) one.index other.index there.0 less own

-- of two events of a thread, the one of the lesser index is executed where the other is, and stands before it
pub ordered : (window : WindowForm) (t : Truth) → Ground window t → (one other : EventId) → one.thread ≡ other.thread → one.index < other.index
    → Does t other → Does t one × Before t one other
ordered window t g one other same less does =
    let second = g.there other does in
    let first = there_before window one other same less second in
    (g.meets.run one other first second same less does, g.meets.rise one other first second same less)

-- an event whose turn comes, and the state after the events before it
record Here (window : WindowForm) (t : Truth) (done : List EventId) (id : EventId) (state : State) : Type 0 where
  ground : Ground window t
  at : Stands t done id
  runs : Runs window (start_state window) done state

-- it is the event's turn
turn : (window : WindowForm) (t : Truth) (done : List EventId) (id : EventId) (state : State)
    → Here window t done id state → count_of state id.thread ≡ id.index
turn window t done id state h =
    elim (cases_order (count_of state id.thread) id.index) [
      | inl same ↦ same
      | inr (inl low) ↦
          let missing : EventId = event_id id.thread (count_of state id.thread) in
          let missed = ordered window t h.ground missing id refl low h.at.does in
          let bad : count_of state id.thread < count_of state id.thread =
          counted_from_in window state done missing h.runs (h.at.comes missing missed.0 missed.1) in
          absurd (omega (arith, bad))
      | inr (inr high) ↦ absurd (h.at.fresh (in_from_counted window state done id h.runs high))
    ]

-- a thread that is started for the event is started
is_started : (window : WindowForm) (t : Truth) (done : List EventId) (id : EventId) (state : State) (thread : ℕ)
    → Here window t done id state → IsStartedFor window t thread id → is_among state.started thread ≡ true
is_started window t done id state thread h (inl already) = started_after window (start_state window) state done thread h.runs (inl already)
is_started window t done id state thread h (inr by) =
    started_after window (start_state window) state done thread h.runs (inr (by.0, h.at.comes by.0 by.2.0 by.2.1, by.1))

-- numbers that are not apart are the same
not_apart : (x y : ℤ) → ((x ≡ y → ⊥) → ⊥) → x ≡ y
not_apart x y h =
    elim (cases_Bool (int_eq x y)) [
      | inl same ↦ (Decides-int_eq x y).0 same
      | inr differ ↦ absurd (h (λ e. false≢true (sym differ ∙ (Decides-int_eq x y).1 e)))
    ]

-- a read finds its value, which a write gave
finds_write : (window : WindowForm) (t : Truth) (done : List EventId) (id : EventId) (state : State) (variable : List ℕ) (value : ℤ) (write : EventId)
    → Here window t done id state → Writes window write variable value → Precedes t write id
    → EachRival window t variable value (λ other. Before t other write ⊎ Before t id other) → value_of state variable ≡ value
finds_write window t done id state variable value write h writes precedes rivals =
    let come : Contains done write = h.at.comes write precedes.0 precedes.1 in
    not_apart (value_of state variable) value (λ differ.
    elim (h.ground.written window done state h.runs variable) [
      | inl kept ↦ recursion_at (λ e. (v : ℤ) → Writes window e variable v → ⊥) done write kept.1 come value writes
      | inr last ↦
          let is_in : Contains done last.1 = subst (λ xs. Contains xs last.1) (sym last.3) (contains_middle last.1 last.0 last.2) in
          elim (rivals last.1 (value_of state variable) last.4 differ (h.at.came last.1 is_in)) [
            | inl early ↦
                recursion_at (λ e. (v : ℤ) → Writes window e variable v → ⊥) last.2 write last.5
                (h.at.later last.0 last.1 last.2 write last.3 come early) value writes
            | inr after ↦ h.at.kept last.1 is_in after
          ]
    ])

-- a read finds its value, with which the window begins
finds_start : (window : WindowForm) (t : Truth) (done : List EventId) (id : EventId) (state : State) (variable : List ℕ) (value : ℤ)
    → Here window t done id state → start_value window variable ≡ value → EachRival window t variable value (λ other. Before t id other)
    → value_of state variable ≡ value
finds_start window t done id state variable value h begins rivals =
    let told : value_of (start_state window) variable ≡ value =
    ap (λ values. unwrap_or (value_at (slice_cmp nat_cmp) values variable) (pos 0)) h.ground.values ∙ begins in
    not_apart (value_of state variable) value (λ differ.
    elim (h.ground.written window done state h.runs variable) [
      | inl kept ↦ differ (sym kept.0 ∙ told)
      | inr last ↦
          let is_in : Contains done last.1 = subst (λ xs. Contains xs last.1) (sym last.3) (contains_middle last.1 last.0 last.2) in
          h.at.kept last.1 is_in (rivals last.1 (value_of state variable) last.4 differ (h.at.came last.1 is_in))
    ])

reads_find : (window : WindowForm) (t : Truth) (done : List EventId) (id : EventId) (state : State) (variable : List ℕ) (value : ℤ)
    → Here window t done id state → Reads window id variable value → value_of state variable ≡ value
reads_find window t done id state variable value h reads =
    elim (h.ground.meets.reads id variable value reads h.at.does) [
      | inl found ↦
          let seen = h.ground.meets.choices id found.0 variable value reads found.1 found.2 in
          finds_write window t done id state variable value found.0 h found.1.0 seen.0 seen.1
      | inr found ↦ finds_start window t done id state variable value h found.0 (h.ground.meets.start_choices id variable value reads found.0 found.1)
    ]

-- an event that gives back a lock which is held in this way, by the thread of the hold
record IsGiven (window : WindowForm) (t : Truth) (mode : LockMode) (lock : List ℕ) (thread : ℕ) (id : EventId) : Type 0 where
  end : EventId
  gives : GivesBack window mode end lock
  own : end.thread ≡ thread
  does : Does t end
  early : Before t end id

abbrev from_freed : (window : WindowForm) (t : Truth) (mode : LockMode) (lock : List ℕ) (thread from : ℕ) (id : EventId) → IsFreedFor window t mode lock thread from id
    → IsGiven window t mode lock thread id
from_freed window t mode lock thread from id freed =
    record { end = freed.0; gives = freed.1.gives; own = freed.1.own; does = freed.2.0; early = freed.2.1 }

-- a lock that a thread held when the window began is given back before the event that takes it against that
start_given : (window : WindowForm) (t : Truth) (done : List EventId) (id : EventId) (state : State) (lock : List ℕ) (thread : ℕ) (held mode : LockMode)
    → Here window t done id state → mode_at_start window thread lock ≡ Some held → Takes window mode id lock → exclude held mode ≡ true
    → IsGiven window t held lock thread id
start_given window t done id state lock thread held mode h is takes against =
    elim (cases_eq id.thread thread) [
      | inl same ↦
          let uses = h.ground.formed.locks id.thread in
          let own : mode_at_start window id.thread lock ≡ Some held = subst (λ n. mode_at_start window n lock ≡ Some held) (sym same) is in
          let given = given_before uses.held (segment_of window id.thread) id.index lock held mode uses.well (uses.told lock ∙ own) takes in
          let end : EventId = event_id id.thread given.0 in
          let goes = ordered window t h.ground end id refl given.1 h.at.does in
          record { end = end; gives = given.2; own = same; does = goes.0; early = goes.1 }
      | inr apart ↦ from_freed window t held lock thread 0 id (h.ground.meets.start_holds lock held mode thread id is takes against apart h.at.does)
    ]

exclude_turned : (one other : LockMode) → exclude one other ≡ exclude other one
exclude_turned Exclusive Exclusive = refl
exclude_turned Exclusive Shared = refl
exclude_turned Shared Exclusive = refl
exclude_turned Shared Shared = refl

-- of two sections of a lock in different threads, not both of readers, one ends before the other begins
sections : (window : WindowForm) (t : Truth) (lock : List ℕ) (held mode : LockMode) (one other : EventId) → MeetsAll window t → Does t one → Does t other
    → Takes window held one lock → Takes window mode other lock → exclude held mode ≡ true → (one.thread ≡ other.thread → ⊥)
    → IsFreedFor window t held lock one.thread (suc one.index) other ⊎ IsFreedFor window t mode lock other.thread (suc other.index) one
sections window t lock held mode one other meets first second took takes against apart =
    elim (cases_order one.thread other.thread) [
      | inl same ↦ absurd (apart same)
      | inr (inl less) ↦
          let both = meets.sections lock held mode one other took takes against less first second in
          elim (cases_Bool (t.first one other)) [
            | inl is ↦ inl (both.0 is)
            | inr not ↦ inr (both.1 not)
          ]
      | inr (inr more) ↦
          let both = meets.sections lock mode held other one takes took (sym (exclude_turned held mode) ∙ against) more second first in
          elim (cases_Bool (t.first other one)) [
            | inl is ↦ inr (both.0 is)
            | inr not ↦ inl (both.1 not)
          ]
    ]

-- a lock that an event took is given back between it and the event that takes it against that
section_given : (window : WindowForm) (t : Truth) (done : List EventId) (id : EventId) (state : State) (lock : List ℕ) (held mode : LockMode) (one : EventId)
    → Here window t done id state → Takes window mode id lock → Takes window held one lock → exclude held mode ≡ true → Contains done one
    → (given : IsGiven window t held lock one.thread id) × Before t one given.end
section_given window t done id state lock held mode one h takes took against i =
    let kept : Before t id one → ⊥ = h.at.kept one i in
    let came = h.at.came one i in
    elim (cases_eq one.thread id.thread) [
      | inl same ↦ elim (cases_order one.index id.index) [
        | inl alike ↦ absurd (h.at.fresh (subst (λ e. Contains done e) (same_parts one id same alike) i))
        | inr (inl less) ↦
            let uses = h.ground.formed.locks one.thread in
            let own : Takes window mode (event_id one.thread id.index) lock = subst (λ n. Takes window mode (event_id n id.index) lock) (sym same) takes in
            let given = given_between uses.held (segment_of window one.thread) one.index id.index lock held mode uses.well less took own in
            let end : EventId = event_id one.thread given.0 in
            let goes = ordered window t h.ground end id same given.2 h.at.does in
            let comes = ordered window t h.ground one end refl given.1 goes.0 in
            (record { end = end; gives = given.3; own = refl; does = goes.0; early = goes.1 }, comes.1)
        | inr (inr more) ↦ absurd (kept (ordered window t h.ground id one (sym same) more came).1)
      ]
      | inr apart ↦ elim (sections window t lock held mode one id h.ground.meets came h.at.does took takes against apart) [
        | inl freed ↦
            (from_freed window t held lock one.thread (suc one.index) id freed, (ordered window t h.ground one freed.0 (sym freed.1.own) freed.1.inside freed.2.0).1)
        | inr freed ↦
            let first = (ordered window t h.ground id freed.0 (sym freed.1.own) freed.1.inside freed.2.0).1 in
            let second = freed.2.1 in
            absurd (kept (omega (arith, ints, first, second)))
      ]
    ]

-- no event that takes a lock finds a holder
no_holder : (window : WindowForm) (t : Truth) (done : List EventId) (id : EventId) (state : State) (lock : List ℕ) (mode : LockMode)
    → Here window t done id state → Takes window mode id lock → exclude Exclusive mode ≡ true → (thread : ℕ) → holder_of state lock ≡ Some thread → ⊥
no_holder window t done id state lock mode h takes against thread holds =
    elim ((h.ground.acquired window done state h.runs lock thread).0 holds) [
      | inl held ↦
          let given = start_given window t done id state lock thread Exclusive mode h ((held_as_told window h.ground.formed lock thread).0 held.0) takes against in
          recursion_at (λ e. GivesBack window Exclusive e lock → ⊥) done given.end held.1 (h.at.comes given.end given.does given.early) given.gives
      | inr a ↦
          let is_in : Contains done a.1 = subst (λ xs. Contains xs a.1) (sym a.3) (contains_middle a.1 a.0 a.2) in
          let given = section_given window t done id state lock Exclusive mode a.1 h takes a.5 against is_in in
          recursion_at (λ e. GivesBack window Exclusive e lock → ⊥) a.2 given.0.end a.6
          (h.at.later a.0 a.1 a.2 given.0.end a.3 (h.at.comes given.0.end given.0.does given.0.early) given.1) given.0.gives
    ]

-- and none that takes it alone finds a reader
no_reader : (window : WindowForm) (t : Truth) (done : List EventId) (id : EventId) (state : State) (lock : List ℕ)
    → Here window t done id state → Takes window Exclusive id lock → (thread : ℕ) → is_reader state.readers lock thread ≡ true → ⊥
no_reader window t done id state lock h takes thread reads =
    elim ((h.ground.shared window done state h.runs lock thread).0 reads) [
      | inl held ↦
          let given = start_given window t done id state lock thread Shared Exclusive h ((read_as_told window h.ground.formed lock thread).0 held.0) takes refl in
          recursion_at (λ e. e.thread ≡ thread → GivesBack window Shared e lock → ⊥) done given.end held.1 (h.at.comes given.end given.does given.early) given.own given.gives
      | inr a ↦
          let is_in : Contains done a.1 = subst (λ xs. Contains xs a.1) (sym a.3) (contains_middle a.1 a.0 a.2) in
          let given = section_given window t done id state lock Shared Exclusive a.1 h takes a.5 refl is_in in
          recursion_at (λ e. e.thread ≡ thread → GivesBack window Shared e lock → ⊥) a.2 given.0.end a.6
          (h.at.later a.0 a.1 a.2 given.0.end a.3 (h.at.comes given.0.end given.0.does given.0.early) given.1) (given.0.own ∙ a.4) given.0.gives
    ]

is_none : (holder : Option ℕ) → ((thread : ℕ) → holder ≡ Some thread → ⊥) → is_some holder ≡ false
is_none None h = refl
is_none (Some thread) h = absurd (h thread refl)

none_reads : (readers : List (List ℕ × ℕ)) (lock : List ℕ) → ((thread : ℕ) → is_reader readers lock thread ≡ true → ⊥) → has_reader readers lock ≡ false
none_reads readers lock h =
    elim (cases_Bool (has_reader readers lock)) [
      | inl some ↦ let found = some_reader readers lock some in absurd (h found.0 found.1)
      | inr none ↦ none
    ]

-- a join finds its thread at the end
join_finds : (window : WindowForm) (t : Truth) (done : List EventId) (id : EventId) (state : State) (thread : ℕ)
    → Here window t done id state → Joins window id thread → has_ended window state thread ≡ true
join_finds window t done id state thread h joins =
    let j = h.ground.meets.joins id thread joins h.at.does in
    let begun = is_started window t done id state thread h j.started in
    let most : count_of state thread ≤ size_of window thread = (prefix_from_start window state done thread h.runs).1 in
    let least : size_of window thread ≤ count_of state thread = at_least (size_of window thread) refl in
    let whole : (size_of window thread == count_of state thread) ≡ true = eq-eqb (size_of window thread) (count_of state thread) (omega (arith, least, most)) in
    and_from (is_among state.started thread) (is_among window.exited thread && size_of window thread == count_of state thread) begun
    (and_from (is_among window.exited thread) (size_of window thread == count_of state thread) j.exits whole)
  where
    at_least : (n : ℕ) → size_of window thread ≡ n → n ≤ count_of state thread
    at_least zero size = omega arith
    at_least (suc n) size =
        let last : EventId = event_id thread n in
        let found = got_at (segment_of window thread) n (omega (arith, size)) in
        let before = (h.ground.meets.joins id thread joins h.at.does).whole last (found.0, found.1) refl in
        let less = counted_from_in window state done last h.runs (h.at.comes last before.0 before.1) in
        omega (arith, less)

-- the event is allowed
is_allowed : (window : WindowForm) (t : Truth) (done : List EventId) (id : EventId) (state : State) (event : Event)
    → Here window t done id state → event_at window id ≡ Some event → allowed_in window state event ≡ Ok tt
is_allowed window t done id state (Acquire lock) h there =
    let takes : Takes window Exclusive id lock = rw there refl in
    let holder : is_some (holder_of state lock) ≡ false = is_none (holder_of state lock) (no_holder window t done id state lock Exclusive h takes refl) in
    let reader : has_reader state.readers lock ≡ false = none_reads state.readers lock (no_reader window t done id state lock h takes) in
    rw (holder, reader) refl
is_allowed window t done id state (RAcquire lock) h there =
    let takes : Takes window Shared id lock = rw there refl in
    let holder : is_some (holder_of state lock) ≡ false = is_none (holder_of state lock) (no_holder window t done id state lock Shared h takes refl) in
    rw holder refl
is_allowed window t done id state (Read variable value) h there =
    let found = reads_find window t done id state variable value h there in
    let test : int_eq (value_of state variable) value ≡ true = (Decides-int_eq (value_of state variable) value).1 found in
    rw test refl
is_allowed window t done id state (Join thread) h there =
    let ended = join_finds window t done id state thread h there in rw ended refl
is_allowed window t done id state (Write variable value) h there = refl
is_allowed window t done id state (Release lock) h there = refl
is_allowed window t done id state (RRelease lock) h there = refl
is_allowed window t done id state (Start thread) h there = refl
is_allowed window t done id state (Op operation) h there = refl
is_allowed window t done id state (Begin region) h there = refl
is_allowed window t done id state (End region) h there = refl

each_may_happen : (window : WindowForm) (t : Truth) (ids : List EventId) → Ground window t → IsScheduleOf t ids → EachMayHappen window ids
each_may_happen window t ids g s done id todo state is r =
    let at : Stands t done id = stands t ids done id todo s is in
    let h : Here window t done id state = record { ground = g; at = at; runs = r } in
    let e = g.there id at.does in
    let started = is_started window t done id state id.thread h (g.meets.starts id e at.does) in (
      after id.thread e.0 state,
      happens window state id e.0 e.1 (turn window t done id state h) started (is_allowed window t done id state e.0 h e.1),
    )

pub schedule_is_feasible : (window : WindowForm) (t : Truth) (ids : List EventId) → Ground window t → IsScheduleOf t ids → IsFeasible window ids
schedule_is_feasible window t ids g s = feasible_by_steps window ids (each_may_happen window t ids g s)

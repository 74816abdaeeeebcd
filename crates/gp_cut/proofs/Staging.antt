-- What sets the stage for a thread: events that bring it where it stands, keep the rules, and are events of its own.
use Rattle.std.proofs.Common.{◌≡◌, ◌∙◌, refl, ap, sym, subst, ℕ, ◌+◌, ◌-◌, ◌≤◌, List, [], ◌∷◌, ◌++◌, map, length, take, drop, arith, append-nil, append_assoc, length-append, length-take, take-append-drop}
use Rattle.std.specs.Prelude.{not, Option, Some, None}
use Rattle.std.specs.declared.cmp.Ordering.TheVariants.{Less}
use Rattle.std.specs.BTreeMap.{is_at}
use Rattle.std.specs.Cmp.Lexicographic.{slice_cmp}
use Rattle.std.specs.List.{AllByRecursion}
use Rattle.std.specs.List.Sorted.{IsStrictlySortedBy}
use Rattle.std.specs.Map.{keys_of}
use Rattle.std.specs.Ordering.{nat_cmp}
use Rattle.std.proofs.lemmas.Cmp.{nat_list_cmp_total}
use Rattle.std.proofs.lemmas.List.{length-map}
use Rattle.std.proofs.lemmas.Map.Lookups.{exact_bytes}
use Rattle.gp_base.specs.FilterLaws.{recursion_filter}
use Rattle.gp_base.specs.ListLaws.{recursion_append, recursion_at, recursion_from_each, recursion_map, recursion_parts}
use Rattle.gp_base.specs.OrderLaws.{filter_rises, put_all_in_order, put_rises}
use Rattle.gp_base.specs.Table.{with_entries, with_entry, without_entry}
use Rattle.gp_trace.specs.declared.event.Event.{Event}
use Rattle.gp_trace.specs.declared.event.Event.TheVariants.{Acquire, Release, RAcquire, RRelease, Begin, End}
use Rattle.gp_trace.specs.declared.lock_use.LockMode.{LockMode}
use Rattle.gp_trace.specs.declared.lock_use.LockMode.TheVariants.{Exclusive, Shared}
use Rattle.gp_trace.specs.declared.lock_use.LockUse.{LockUse}
use Rattle.gp_trace.specs.declared.lock_use.LockUse.TheVariants.{Take, GiveBack}
use Rattle.gp_trace.specs.declared.rules.Standing.{Standing}
use Rattle.gp_trace.specs.LockUse.{held_after_use, HeldLocks, mode_held}
use Rattle.gp_trace.specs.Rules.{after, after_all, AreWellFormed, at_first}
use Rattle.gp_cut.specs.Cut.{staged, taking}
use Rattle.gp_cut.proofs.Tables.{kept_few, not_below_itself, put_beside, put_each, put_more}

-- the locks that a thread holds stand in the order of their names, each once
abbrev pub AreInOrder : HeldLocks → Type 0
AreInOrder held = IsStrictlySortedBy (slice_cmp nat_cmp) (keys_of held)

use_in_order : (held : HeldLocks) (how : Option LockUse) → AreInOrder held → AreInOrder (held_after_use held how)
use_in_order held None rise = rise
use_in_order held (Some (Take mode lock)) rise = put_rises nat_list_cmp_total held lock mode rise
use_in_order held (Some (GiveBack mode lock)) rise = filter_rises (slice_cmp nat_cmp) (λ entry. not (is_at (slice_cmp nat_cmp lock) entry.0)) held rise

event_in_order : (s : Standing) (event : Event) → AreInOrder s.held → AreInOrder (after s event).held
event_in_order s (Acquire lock) rise = use_in_order s.held (Some (Take Exclusive lock)) rise
event_in_order s (Release lock) rise = use_in_order s.held (Some (GiveBack Exclusive lock)) rise
event_in_order s (RAcquire lock) rise = use_in_order s.held (Some (Take Shared lock)) rise
event_in_order s (RRelease lock) rise = use_in_order s.held (Some (GiveBack Shared lock)) rise
event_in_order s (Begin region) rise = rise
event_in_order s (End region) rise = rise
event_in_order s event rise = rise

-- they do so after events
pub stays_in_order : (s : Standing) (events : List Event) → AreInOrder s.held → AreInOrder (after_all s events).held
stays_in_order s [] rise = rise
stays_in_order s (event ∷ events) rise = stays_in_order (after s event) events (event_in_order s event rise)

pub first_in_order : AreInOrder []
unfolding IsStrictlySortedBy
first_in_order = tt

-- what holds of the events that would bring a thread where it stands
record AreStaged (P : Event → Type 0) (s : Standing) : Type 0 where
  locks : AllByRecursion (λ one. P (taking one)) s.held
  regions : AllByRecursion (λ region. P (Begin region)) s.begun

module _ (P : Event → Type 0) where
  taken : (s : Standing) (lock : List ℕ) (mode : LockMode) → P (taking (lock, mode)) → AreStaged P s
      → AreStaged P (record s { held = with_entry (slice_cmp nat_cmp) s.held lock mode })
  taken s lock mode is stands = record {
    locks = put_each nat_list_cmp_total exact_bytes (λ one. P (taking one)) s.held lock mode is stands.locks;
    regions = stands.regions;
  }

  given : (s : Standing) (lock : List ℕ) → AreStaged P s → AreStaged P (record s { held = without_entry (slice_cmp nat_cmp) s.held lock })
  given s lock stands = record {
    locks = recursion_filter (λ one. P (taking one)) (λ entry. not (is_at (slice_cmp nat_cmp lock) entry.0)) s.held stands.locks;
    regions = stands.regions;
  }

  left : (n : ℕ) (begun : List (List ℕ)) → AllByRecursion (λ region. P (Begin region)) begun → AllByRecursion (λ region. P (Begin region)) (take n begun)
  left n begun all =
      (recursion_parts (λ region. P (Begin region)) (take n begun) (drop n begun)
      (subst (AllByRecursion (λ region. P (Begin region))) (sym (take-append-drop n begun)) all)).0

  staged_event : (s : Standing) (event : Event) → P event → AreStaged P s → AreStaged P (after s event)
  staged_event s (Acquire lock) is stands = taken s lock Exclusive is stands
  staged_event s (Release lock) is stands = given s lock stands
  staged_event s (RAcquire lock) is stands = taken s lock Shared is stands
  staged_event s (RRelease lock) is stands = given s lock stands
  staged_event s (Begin region) is stands = record {
    locks = stands.locks;
    regions = recursion_append (λ region. P (Begin region)) s.begun (region ∷ []) stands.regions (is, tt);
  }
  staged_event s (End region) is stands = record { locks = stands.locks; regions = left (length s.begun - 1) s.begun stands.regions }
  staged_event s event is stands = stands

  staged_events : (s : Standing) (events : List Event) → AllByRecursion P events → AreStaged P s → AreStaged P (after_all s events)
  staged_events s [] all stands = stands
  staged_events s (event ∷ events) all stands = staged_events (after s event) events all.1 (staged_event s event all.0 stands)

  -- what holds of each event of a thread holds of those that bring it where it stands after them
  pub staged_each : (events : List Event) → AllByRecursion P events → AllByRecursion P (staged (after_all at_first events))
  staged_each events all =
      let s : Standing = after_all at_first events in
      let each : AreStaged P s = staged_events at_first events all (record { locks = tt; regions = tt }) in
      recursion_append P (map taking s.held) (map Begin s.begun)
      (recursion_map P taking s.held (λ one i. recursion_at (λ o. P (taking o)) s.held one each.locks i))
      (recursion_map P Begin s.begun (λ region i. recursion_at (λ r. P (Begin r)) s.begun region each.regions i))

-- how many locks a thread holds and how many regions it is in
abbrev size : Standing → ℕ
size s = length s.held + length s.begun

use_size : (held : HeldLocks) (how : Option LockUse) → length (held_after_use held how) ≤ length held + 1
use_size held None = omega arith
use_size held (Some (Take mode lock)) = put_more (slice_cmp nat_cmp) held lock mode
use_size held (Some (GiveBack mode lock)) =
    let few = kept_few (λ entry. not (is_at (slice_cmp nat_cmp lock) entry.0)) held in omega (arith, few)

event_size : (s : Standing) (event : Event) → size (after s event) ≤ size s + 1
event_size s (Acquire lock) = let more = use_size s.held (Some (Take Exclusive lock)) in omega (arith, more)
event_size s (Release lock) = let more = use_size s.held (Some (GiveBack Exclusive lock)) in omega (arith, more)
event_size s (RAcquire lock) = let more = use_size s.held (Some (Take Shared lock)) in omega (arith, more)
event_size s (RRelease lock) = let more = use_size s.held (Some (GiveBack Shared lock)) in omega (arith, more)
event_size s (Begin region) = omega (arith, length-append s.begun (region ∷ []))
event_size s (End region) = omega (arith, length-take (length s.begun - 1) s.begun)
event_size s event = omega arith

events_size : (s : Standing) (events : List Event) → size (after_all s events) ≤ size s + length events
events_size s [] = omega arith
events_size s (event ∷ events) =
    let first = event_size s event in
    let rest = events_size (after s event) events in
    omega (arith, first, rest)

-- a thread is brought where it stands by no more events than it did
pub staged_few : (events : List Event) → length (staged (after_all at_first events)) ≤ length events
staged_few events =
    let s : Standing = after_all at_first events in
    let few : size s ≤ 0 + length events = events_size at_first events in
    omega (arith, few, length-append (map taking s.held) (map Begin s.begun), length-map s.held taking, length-map s.begun Begin)

-- events of a thread, and then further ones
pub after_both : (s : Standing) (first second : List Event) → after_all s (first ++ second) ≡ after_all (after_all s first) second
after_both s [] second = refl
after_both s (event ∷ first) second = after_both (after s event) first second

pub formed_join : (thread : ℕ) (s : Standing) (first second : List Event) → AreWellFormed thread s first → AreWellFormed thread (after_all s first) second
    → AreWellFormed thread s (first ++ second)
formed_join thread s [] second formed more = more
formed_join thread s (event ∷ first) second formed more = (formed.0, formed_join thread (after s event) first second formed.1 more)

abbrev standing : HeldLocks → List (List ℕ) → Standing
standing held begun = record { held = held; begun = begun }

takes_all : (held more : HeldLocks) (begun : List (List ℕ)) → after_all (standing held begun) (map taking more) ≡ standing (with_entries (slice_cmp nat_cmp) held more) begun
takes_all held [] begun = refl
takes_all held ((lock, Exclusive) ∷ more) begun = takes_all (with_entry (slice_cmp nat_cmp) held lock Exclusive) more begun
takes_all held ((lock, Shared) ∷ more) begun = takes_all (with_entry (slice_cmp nat_cmp) held lock Shared) more begun

begins_all : (held : HeldLocks) (begun more : List (List ℕ)) → after_all (standing held begun) (map Begin more) ≡ standing held (begun ++ more)
begins_all held begun [] = ap (standing held) (sym (append-nil begun))
begins_all held begun (region ∷ more) = begins_all held (begun ++ region ∷ []) more ∙ ap (standing held) (append_assoc begun (region ∷ []) more)

-- the stage brings a thread where it stands
pub staged_leads : (s : Standing) → AreInOrder s.held → after_all at_first (staged s) ≡ s
staged_leads s rise =
    after_both at_first (map taking s.held) (map Begin s.begun)
    ∙ ap (λ now. after_all now (map Begin s.begun)) (takes_all [] s.held [] ∙ ap (λ held. standing held []) (put_all_in_order nat_list_cmp_total s.held rise))
    ∙ begins_all s.held [] s.begun

-- none of these locks is held
abbrev AreFree : HeldLocks → HeldLocks → Type 0
AreFree held more = AllByRecursion (λ lock. mode_held held lock ≡ None) (keys_of more)

still_free : (held more : HeldLocks) (lock : List ℕ) (mode : LockMode) → AllByRecursion (λ other. slice_cmp nat_cmp lock other ≡ Less) (keys_of more)
    → AreFree held more → AreFree (with_entry (slice_cmp nat_cmp) held lock mode) more
still_free held more lock mode above free =
    recursion_from_each (λ other. mode_held (with_entry (slice_cmp nat_cmp) held lock mode) other ≡ None) (keys_of more) (λ other i.
    let less = recursion_at (λ other. slice_cmp nat_cmp lock other ≡ Less) (keys_of more) other above i in
    put_beside nat_list_cmp_total exact_bytes held lock other mode
    (λ same. not_below_itself nat_list_cmp_total lock (subst (λ name. slice_cmp nat_cmp lock name ≡ Less) same less))
    ∙ recursion_at (λ other. mode_held held other ≡ None) (keys_of more) other free i)

takes_free : (thread : ℕ) (held more : HeldLocks) (begun : List (List ℕ)) → AreInOrder more → AreFree held more → AreWellFormed thread (standing held begun) (map taking more)
unfolding IsStrictlySortedBy
takes_free thread held [] begun rise free = tt
takes_free thread held ((lock, Exclusive) ∷ more) begun rise free = (
  rw free.0 refl,
  takes_free thread (with_entry (slice_cmp nat_cmp) held lock Exclusive) more begun rise.1 (still_free held more lock Exclusive rise.0 free.1),
)
takes_free thread held ((lock, Shared) ∷ more) begun rise free = (
  rw free.0 refl,
  takes_free thread (with_entry (slice_cmp nat_cmp) held lock Shared) more begun rise.1 (still_free held more lock Shared rise.0 free.1),
)

begins_formed : (thread : ℕ) (s : Standing) (more : List (List ℕ)) → AreWellFormed thread s (map Begin more)
begins_formed thread s [] = tt
begins_formed thread s (region ∷ more) = (refl, begins_formed thread (after s (Begin region)) more)

-- the stage breaks no rule
pub staged_formed : (thread : ℕ) (s : Standing) → AreInOrder s.held → AreWellFormed thread at_first (staged s)
staged_formed thread s rise =
    formed_join thread at_first (map taking s.held) (map Begin s.begun)
    (takes_free thread [] s.held [] rise (recursion_from_each (λ lock. mode_held [] lock ≡ None) (keys_of s.held) (λ lock i. refl)))
    (begins_formed thread (after_all at_first (map taking s.held)) s.begun)

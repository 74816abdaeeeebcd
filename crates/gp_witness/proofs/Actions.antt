-- What the tests on actions say of the events.
use Rattle.std.proofs.Common.{ℕ, ◌≡◌, ap, sym, ◌∙◌, refl, List, true, false, eqb-true}
use Rattle.std.specs.Prelude.{ℤ, ◌≢◌, not, Some, None, Option}
use Rattle.std.specs.Ordering.{int_eq}
use Rattle.std.specs.Str.{bytes_eq}
use Rattle.std.proofs.lemmas.Bool.{and_from, and_parts, false_from_ne_true}
use Rattle.std.proofs.lemmas.Bool.Decides.{Decides-int_eq}
use Rattle.std.proofs.lemmas.Slice.Eq.{bytes_eq-Decides}
use Rattle.gp_trace.specs.declared.event.Event.{Event}
use Rattle.gp_trace.specs.declared.event.Event.TheVariants.{Read, Write, Start, Join}
use Rattle.gp_trace.specs.declared.lock_use.LockMode.{LockMode}
use Rattle.gp_trace.specs.declared.lock_use.LockMode.TheVariants.{Exclusive, Shared}
use Rattle.gp_trace.specs.declared.lock_use.LockUse.{LockUse}
use Rattle.gp_trace.specs.declared.lock_use.LockUse.TheVariants.{Take, GiveBack}
use Rattle.gp_trace.specs.LockUse.{lock_use_of}
use Rattle.gp_replay.specs.LockUses.{use_of}
use Rattle.gp_constraint.specs.declared.action.Action.{Action}
use Rattle.gp_constraint.specs.declared.action.Action.TheVariants as action
use Rattle.gp_constraint.specs.Action.{action_of, used}
use Rattle.gp_constraint.specs.Reads.{is_rival, sees}
use Rattle.gp_constraint.specs.Sections.{exclude, gives_back, same_mode, takes_against}
use Rattle.gp_constraint.specs.Starts.{does_start}

-- the action of an event tells the event
pub read_event : (event : Event) (variable : List ℕ) (value : ℤ) → action_of event ≡ action.Read variable value → event ≡ Read variable value
read_event (Read name found) variable value e =
    let names : name ≡ variable = cc in
    let values : found ≡ value = cc in
    λ i. Read (names i) (values i)
read_event _ variable value e = cc

pub write_event : (event : Event) (variable : List ℕ) (value : ℤ) → action_of event ≡ action.Write variable value → event ≡ Write variable value
write_event (Write name found) variable value e =
    let names : name ≡ variable = cc in
    let values : found ≡ value = cc in
    λ i. Write (names i) (values i)
write_event _ variable value e = cc

pub start_event : (event : Event) (thread : ℕ) → action_of event ≡ action.Start thread → event ≡ Start thread
start_event (Start other) thread e = let same : other ≡ thread = cc in ap Start same
start_event _ thread e = cc

pub join_event : (event : Event) (thread : ℕ) → action_of event ≡ action.Join thread → event ≡ Join thread
join_event (Join other) thread e = let same : other ≡ thread = cc in ap Join same
join_event _ thread e = cc

used_lock : (how : Option LockUse) (u : LockUse) → used how ≡ action.Lock u → how ≡ Some u
used_lock (Some other) u e = let same : other ≡ u = cc in ap Some same
used_lock None u e = cc

pub lock_event : (event : Event) (u : LockUse) → action_of event ≡ action.Lock u → lock_use_of event ≡ Some u
lock_event (Read name found) u e = cc
lock_event (Write name found) u e = cc
lock_event (Start other) u e = cc
lock_event (Join other) u e = cc
lock_event event u e = used_lock (lock_use_of event) u e

pub event_lock : (event : Event) (u : LockUse) → lock_use_of event ≡ Some u → action_of event ≡ action.Lock u
event_lock (Read name found) u e = cc
event_lock (Write name found) u e = cc
event_lock (Start other) u e = cc
event_lock (Join other) u e = cc
event_lock event u e = ap used e

-- an event that uses a lock is there
pub use_event : (o : Option Event) (u : LockUse) → use_of o ≡ Some u → (event : Event) × (o ≡ Some event) × (lock_use_of event ≡ Some u)
use_event None u e = cc
use_event (Some event) u e = (event, refl, e)

-- tests on actions
pub start_is : (thread : ℕ) (does : Action) → does_start thread does ≡ true → does ≡ action.Start thread
start_is thread (action.Start other) e = ap action.Start (eqb-true other thread e)
start_is thread _ e = cc

pub sees_is : (variable : List ℕ) (value : ℤ) (does : Action) → sees (action.Read variable value) does ≡ true → does ≡ action.Write variable value
sees_is variable value (action.Write name found) e =
    let parts = and_parts (bytes_eq variable name) (int_eq value found) e in
    let names : variable ≡ name = (bytes_eq-Decides variable name).0 parts.0 in
    let values : value ≡ found = (Decides-int_eq value found).0 parts.1 in
    ap (λ n. action.Write n found) (sym names) ∙ ap (action.Write variable) (sym values)
sees_is variable value _ e = cc

pub are_seen : (variable : List ℕ) (value : ℤ) → sees (action.Read variable value) (action.Write variable value) ≡ true
are_seen variable value =
    and_from (bytes_eq variable variable) (int_eq value value) ((bytes_eq-Decides variable variable).1 refl) ((Decides-int_eq value value).1 refl)

pub are_rivals : (variable : List ℕ) (value found : ℤ) → found ≢ value → is_rival (action.Read variable value) (action.Write variable found) ≡ true
are_rivals variable value found differ =
    let apart : int_eq value found ≡ false = false_from_ne_true _ (λ e. differ (sym ((Decides-int_eq value found).0 e))) in
    let names : bytes_eq variable variable ≡ true = (bytes_eq-Decides variable variable).1 refl in
    and_from (bytes_eq variable variable) (not (int_eq value found)) names (ap not apart)

mode_is : (one other : LockMode) → same_mode one other ≡ true → one ≡ other
mode_is Exclusive Exclusive e = refl
mode_is Shared Shared e = refl
mode_is Exclusive Shared e = cc
mode_is Shared Exclusive e = cc

mode_itself : (mode : LockMode) → same_mode mode mode ≡ true
mode_itself Exclusive = refl
mode_itself Shared = refl

pub gives_is : (mode : LockMode) (lock : List ℕ) (does : Action) → gives_back mode lock does ≡ true → does ≡ action.Lock (GiveBack mode lock)
gives_is mode lock (action.Lock (GiveBack other again)) e =
    let parts = and_parts (bytes_eq again lock) (same_mode other mode) e in
    let names : again ≡ lock = (bytes_eq-Decides again lock).0 parts.0 in
    let modes : other ≡ mode = mode_is other mode parts.1 in
    ap (λ n. action.Lock (GiveBack other n)) names ∙ ap (λ m. action.Lock (GiveBack m lock)) modes
gives_is mode lock (action.Lock (Take other again)) e = cc
gives_is mode lock _ e = cc

pub does_give : (mode : LockMode) (lock : List ℕ) → gives_back mode lock (action.Lock (GiveBack mode lock)) ≡ true
does_give mode lock = and_from (bytes_eq lock lock) (same_mode mode mode) ((bytes_eq-Decides lock lock).1 refl) (mode_itself mode)

pub does_take : (mode other : LockMode) (lock : List ℕ) → exclude mode other ≡ true → takes_against mode lock (action.Lock (Take other lock)) ≡ true
does_take mode other lock against = and_from (bytes_eq lock lock) (exclude mode other) ((bytes_eq-Decides lock lock).1 refl) against

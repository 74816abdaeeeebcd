-- What is true of a walk that has come so far, and of the trace at its end.
use Rattle.std.proofs.Common.{◌≡◌, ◌≢◌, refl, sym, ap, ◌∙◌, subst, ℕ, zero, suc, ◌+◌, ◌<◌, ◌≤◌, ◌^◌, Bool, true, false, ◌||◌, ◌==◌, if◌then◌else◌, List, [], ◌∷◌, ◌++◌, length, drop, Option, Some, None, Result, Ok, Err, is_some, arith, append_assoc, length-append}
use Rattle.std.specs.List.{AllByRecursion}
use Rattle.gp_text.specs.declared.line.Line.{Line}
use Rattle.gp_trace.specs.declared.event.Event.{Event}
use Rattle.gp_trace.specs.declared.fault.TraceFault.{TraceFault}
use Rattle.gp_trace.specs.declared.fault.TraceFault.TheVariants.{Memory}
use Rattle.gp_trace.specs.declared.line.Entry.{Entry}
use Rattle.gp_trace.specs.declared.line.Entry.TheVariants.{Did, Mark, Exit}
use Rattle.gp_trace.specs.declared.rules.Standing.{Standing}
use Rattle.gp_trace.specs.declared.walk.Walk.{Walk}
use Rattle.gp_trace.specs.Event.{entry_of}
use Rattle.gp_trace.specs.Rules.{after, after_all, AreWellFormed, at_first, check, fault_of, in_line}
use Rattle.gp_trace.specs.LockUse.{AreOfFormat, has_shared_event, lock_use_of, uses_shared}
use Rattle.gp_trace.specs.Trace.{in_order, IsEvent, IsExit, IsLocalTrace}
use Rattle.gp_base.specs.Results.{and_then}
use Rattle.gp_trace.specs.Walk.{after_exit, after_lines, at_exit, at_start, before_exit, next, with_event}
use Rattle.gp_trace.proofs.Spelled.{an_entry, InSome, IsEntry, IsEventOf}

allowed : (n : ℕ) (fault : Option (ℕ → TraceFault)) → in_line n fault ≡ Ok tt → fault ≡ None
allowed n None ok = refl
allowed n (Some fault) ok = (cc)

after_push : (s : Standing) (events : List Event) (event : Event) → after_all s (events ++ event ∷ []) ≡ after (after_all s events) event
after_push s [] event = refl
after_push s (first ∷ events) event = after_push (after s first) events event

formed_push : (thread : ℕ) (s : Standing) (events : List Event) (event : Event) → AreWellFormed thread s events → fault_of thread (after_all s events) event ≡ None → AreWellFormed thread s (events ++ event ∷ [])
formed_push thread s [] event formed allows = (allows, tt)
formed_push thread s (first ∷ events) event formed allows = (formed.0, formed_push thread (after s first) events event formed.1 allows)

abbrev AreEventsOf : ℕ → List Event → Type 0
AreEventsOf format events = AllByRecursion (IsEventOf format) events

all_push : (format : ℕ) (events : List Event) (event : Event) → AreEventsOf format events → IsEventOf format event → AreEventsOf format (events ++ event ∷ [])
all_push format [] event all is = (is, tt)
all_push format (first ∷ events) event all is = (all.0, all_push format events event all.1 is)

append_nil : (events : List Event) → events ++ [] ≡ events
append_nil [] = refl
append_nil (event ∷ events) = ap (λ rest. event ∷ rest) (append_nil events)

-- an event joins the last segment
in_order_push : (ended : List (List Event)) (segment : List Event) (event : Event)
    → in_order (ended ++ (segment ++ event ∷ []) ∷ []) ≡ in_order (ended ++ segment ∷ []) ++ event ∷ []
in_order_push [] segment event = append_nil (segment ++ event ∷ []) ∙ ap (λ events. events ++ event ∷ []) (sym (append_nil segment))
in_order_push (first ∷ ended) segment event =
    ap (λ rest. first ++ rest) (in_order_push ended segment event) ∙ sym (append_assoc first (in_order (ended ++ segment ∷ [])) (event ∷ []))

-- an empty segment has no event
in_order_empty : (segments : List (List Event)) → in_order (segments ++ [] ∷ []) ≡ in_order segments
in_order_empty [] = refl
in_order_empty (first ∷ segments) = ap (λ rest. first ++ rest) (in_order_empty segments)

abbrev pub segments_of : Walk → List (List Event)
segments_of walk = walk.ended ++ walk.segment ∷ []

abbrev events_of : Walk → List Event
events_of walk = in_order (segments_of walk)

-- after at most n lines
pub record IsReached (format thread n : ℕ) (walk : Walk) : Type 0 where
  pub count : length (events_of walk) ≤ n
  pub events : AreEventsOf format (events_of walk)
  pub formed : AreWellFormed thread at_first (events_of walk)
  pub stands : walk.standing ≡ after_all at_first (events_of walk)
  pub exits : IsExit walk.exit_in (segments_of walk)

abbrev InOk : (format thread n : ℕ) → Result Walk TraceFault → Type 0
InOk format thread n (Ok walk) = IsReached format thread n walk
InOk format thread n (Err fault) = Unit {0}

-- what an event adds to a list that is well formed
record IsMore (format thread n : ℕ) (s : Standing) (list : List Event) : Type 0 where
  count : length list ≤ n
  events : AreEventsOf format list
  formed : AreWellFormed thread at_first list
  stands : s ≡ after_all at_first list

more : (format thread n : ℕ) (s : Standing) (events : List Event) (event : Event) → length events ≤ n → AreEventsOf format events → AreWellFormed thread at_first events → s ≡ after_all at_first events
    → IsEventOf format event → fault_of thread s event ≡ None → IsMore format thread (n + 1) (after s event) (events ++ event ∷ [])
more format thread n s events event few all formed stands is allows = record {
  count = omega (arith, few, length-append events (event ∷ []));
  events = all_push format events event all is;
  formed = formed_push thread at_first events event formed (let P : Standing → Type 0 = λ t. fault_of thread t event ≡ None in subst P stands allows);
  stands = ap (λ t. after t event) stands ∙ sym (after_push at_first events event);
}

no_exit : (exit_in : Option ℕ) (segments : List (List Event)) → exit_in ≡ None → IsExit exit_in segments
no_exit None segments is = tt
no_exit (Some number) segments is = (cc)

event_reached : (format thread n line : ℕ) (walk : Walk) (event : Event) (r : Result (Unit {0}) TraceFault) → check thread line walk.standing event ≡ r → IsEventOf format event → walk.exit_in ≡ None → IsReached format thread n walk
    → InOk format thread (n + 1) (with_event walk event r)
event_reached format thread n line walk event (Err fault) checked is open_ reached = tt
event_reached format thread n line walk event (Ok u) checked is open_ reached =
    let so : IsMore format thread (n + 1) (after walk.standing event) (events_of walk ++ event ∷ []) =
    more format thread n walk.standing (events_of walk) event reached.count reached.events reached.formed reached.stands is (allowed line (fault_of thread walk.standing event) checked) in
    let same : in_order (walk.ended ++ (walk.segment ++ event ∷ []) ∷ []) ≡ events_of walk ++ event ∷ [] = in_order_push walk.ended walk.segment event in
    let P : List Event → Type 0 = λ events. IsMore format thread (n + 1) (after walk.standing event) events in
    let all : IsMore format thread (n + 1) (after walk.standing event) (in_order (walk.ended ++ (walk.segment ++ event ∷ []) ∷ [])) = subst P (sym same) so in
    record { count = all.count; events = all.events; formed = all.formed; stands = all.stands; exits = no_exit walk.exit_in _ open_ }

abbrev AllEmpty : List (List Event) → Type 0
AllEmpty segments = AllByRecursion (λ segment. segment ≡ []) segments

-- no segment stands past the last
drop_past : (number : ℕ) (segments : List (List Event)) → length segments ≤ number → AllEmpty (drop number segments)
drop_past zero [] le = tt
drop_past zero (first ∷ segments) le = absurd (omega arith)
drop_past (suc number) [] le = tt
drop_past (suc number) (first ∷ segments) le = drop_past number segments (omega (arith, le))

-- an empty segment more after the exit
drop_push : (number : ℕ) (segments : List (List Event)) → AllEmpty (drop number segments) → AllEmpty (drop number (segments ++ [] ∷ []))
drop_push zero [] all = (refl, tt)
drop_push zero (first ∷ segments) all = (all.0, drop_push zero segments all.1)
drop_push (suc number) [] all = drop_past number [] (omega arith)
drop_push (suc number) (first ∷ segments) all = drop_push number segments all

exit_push : (exit_in : Option ℕ) (segments : List (List Event)) → IsExit exit_in segments → IsExit exit_in (segments ++ [] ∷ [])
exit_push None segments exits = tt
exit_push (Some number) segments exits =
    (exits.0, omega (arith, exits.1, length-append segments ([] ∷ [])), drop_push number segments exits.2)

mark_reached : (b : Bool) (format thread n : ℕ) (fault : TraceFault) (walk : Walk) → IsReached format thread n walk
    → InOk format thread (n + 1) (if b then Err fault else Ok (record walk { ended = segments_of walk; segment = [] }))
mark_reached true format thread n fault walk reached = tt
mark_reached false format thread n fault walk reached =
    let same : in_order (segments_of walk ++ [] ∷ []) ≡ events_of walk = in_order_empty (segments_of walk) in
    let so : IsMore format thread (n + 1) walk.standing (events_of walk) =
    record { count = omega (arith, reached.count); events = reached.events; formed = reached.formed; stands = reached.stands } in
    let P : List Event → Type 0 = λ events. IsMore format thread (n + 1) walk.standing events in
    let all : IsMore format thread (n + 1) walk.standing (in_order (segments_of walk ++ [] ∷ [])) = subst P (sym same) so in
    record { count = all.count; events = all.events; formed = all.formed; stands = all.stands; exits = exit_push walk.exit_in (segments_of walk) reached.exits }

exit_reached : (format thread n : ℕ) (walk : Walk) → IsReached format thread n walk → IsReached format thread (n + 1) (at_exit walk)
exit_reached format thread n walk reached = record {
  count = omega (arith, reached.count);
  events = reached.events;
  formed = reached.formed;
  stands = reached.stands;
  exits = (omega arith, omega (arith, length-append walk.ended (walk.segment ∷ [])), drop_past _ (segments_of walk) (omega (arith, length-append walk.ended (walk.segment ∷ []))));
}

before_reached : (format thread marks n line : ℕ) (walk : Walk) (entry : Option Entry) → InSome (IsEntry format) entry → walk.exit_in ≡ None → IsReached format thread n walk
    → InOk format thread (n + 1) (before_exit thread marks line walk entry)
before_reached format thread marks n line walk None is open_ reached = tt
before_reached format thread marks n line walk (Some (Did event)) is open_ reached = event_reached format thread n line walk event _ refl is open_ reached
before_reached format thread marks n line walk (Some Mark) is open_ reached = mark_reached (length walk.ended == marks) format thread n _ walk reached
before_reached format thread marks n line walk (Some Exit) is open_ reached = exit_reached format thread n walk reached

after_reached : (format thread marks n line : ℕ) (walk : Walk) (entry : Option Entry) → IsReached format thread n walk
    → InOk format thread (n + 1) (after_exit marks line walk entry)
after_reached format thread marks n line walk None reached = tt
after_reached format thread marks n line walk (Some (Did event)) reached = tt
after_reached format thread marks n line walk (Some Mark) reached = mark_reached (length walk.ended == marks) format thread n _ walk reached
after_reached format thread marks n line walk (Some Exit) reached = tt

at_reached : (exit_in : Option ℕ) (format thread marks n line : ℕ) (walk : Walk) (entry : Option Entry) → walk.exit_in ≡ exit_in → InSome (IsEntry format) entry → IsReached format thread n walk
    → InOk format thread (n + 1) (if is_some exit_in then after_exit marks line walk entry else before_exit thread marks line walk entry)
at_reached None format thread marks n line walk entry open_ is reached = before_reached format thread marks n line walk entry is open_ reached
at_reached (Some number) format thread marks n line walk entry open_ is reached = after_reached format thread marks n line walk entry reached

further : (format thread n total : ℕ) (walk : Walk) → n ≤ total → IsReached format thread n walk → IsReached format thread total walk
further format thread n total walk le reached = record {
  count = omega (arith, le, reached.count);
  events = reached.events;
  formed = reached.formed;
  stands = reached.stands;
  exits = reached.exits;
}

then_reached : (format thread n total : ℕ) (r : Result Walk TraceFault) (rest : Walk → Result Walk TraceFault) → InOk format thread n r → ((mid : Walk) → IsReached format thread n mid → InOk format thread total (rest mid)) → InOk format thread total (and_then r rest)
then_reached format thread n total (Ok mid) rest reached goes = goes mid reached
then_reached format thread n total (Err fault) rest reached goes = tt

all_reached : (format thread marks n total : ℕ) (walk : Walk) (lines : List Line) → n + length lines ≤ total → IsReached format thread n walk → InOk format thread total (after_lines format thread marks walk lines)
all_reached format thread marks n total walk [] le reached = further format thread n total walk (omega (arith, le)) reached
all_reached format thread marks n total walk (line ∷ lines) le reached =
    then_reached format thread (n + 1) total (next format thread marks walk line) (λ mid. after_lines format thread marks mid lines)
    (at_reached walk.exit_in format thread marks n line.number walk (entry_of format line.words) refl (an_entry format line.words) reached)
    (λ mid so. all_reached format thread marks (n + 1) total mid lines (omega (arith, le)) so)

start_reached : (format thread : ℕ) → IsReached format thread 0 at_start
start_reached format thread = record { count = omega arith; events = tt; formed = tt; stands = refl; exits = tt }

pub reached : (format thread marks : ℕ) (lines : List Line) (walk : Walk) → after_lines format thread marks at_start lines ≡ Ok walk → IsReached format thread (length lines) walk
reached format thread marks lines walk ok =
    let P : Result Walk TraceFault → Type 0 = InOk format thread (length lines) in
    subst P ok (all_reached format thread marks 0 (length lines) at_start lines (omega arith) (start_reached format thread))

ok_not : (walk : Walk) → let is : Result Walk TraceFault = Ok walk in is ≡ Err Memory → ⊥
ok_not walk e = (cc)

-- an answer that is there is the one that is due
pub told : (r : Result Walk TraceFault) (walk : Walk) (due : Result Walk TraceFault) → r ≡ Ok walk → (r ≢ Err Memory → r ≡ due) → due ≡ Ok walk
told r walk due was tells = sym (tells (λ memory. ok_not walk (sym was ∙ memory))) ∙ was

are_events : (format : ℕ) (events : List Event) → AreEventsOf format events → AllByRecursion IsEvent events
are_events format [] all = tt
are_events format (event ∷ events) all = (all.0.0, are_events format events all.1)

one_belongs : (format : ℕ) (shared rest : Bool) → (shared ≡ true → format ≡ 2) → (rest ≡ true → format ≡ 2) → (shared || rest) ≡ true → format ≡ 2
one_belongs format true rest first more some = first refl
one_belongs format false rest first more some = more some

are_of_format : (format : ℕ) (events : List Event) → AreEventsOf format events → AreOfFormat format events
are_of_format format [] all some = (cc)
are_of_format format (event ∷ events) all some =
    one_belongs format (uses_shared (lock_use_of event)) (has_shared_event events) all.0.1 (are_of_format format events all.1) some

-- the trace at the end
pub a_trace : (format thread marks : ℕ) (lines : List Line) (walk : Walk) → length lines < 2 ^ 32 → after_lines format thread marks at_start lines ≡ Ok walk
    → IsLocalTrace (record { thread = thread; segments = segments_of walk; exit_in = walk.exit_in })
a_trace format thread marks lines walk few ok =
    let so = reached format thread marks lines walk ok in
    record {
      some = omega (arith, length-append walk.ended (walk.segment ∷ []));
      few = omega (arith, so.count, few);
      events = are_events format (events_of walk) so.events;
      formed = so.formed;
      exits = so.exits;
    }

-- its events are of the format
pub of_format : (format thread marks : ℕ) (lines : List Line) (walk : Walk) → after_lines format thread marks at_start lines ≡ Ok walk → AreOfFormat format (in_order (segments_of walk))
of_format format thread marks lines walk ok = are_of_format format (events_of walk) (reached format thread marks lines walk ok).events

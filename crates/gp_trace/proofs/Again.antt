-- The text of a trace is read as the trace.
use Rattle.std.proofs.Common.{◌≡◌, refl, sym, ap, ◌∙◌, subst, ℕ, zero, suc, ◌+◌, ◌-◌, ◌*◌, ◌<◌, ◌≤◌, ◌^◌, Bool, true, false, ◌||◌, ◌==◌, nat_le, if◌then◌else◌, List, [], ◌∷◌, ◌++◌, length, drop, Option, Some, None, Result, Ok, ◌⊎◌, inl, inr, decimal, codes, w64, ℤ, FitsSigned, arith, append_assoc, length-append, eq-eqb, lit≤}
use Rattle.std.specs.Fmt.{signed_decimal}
use Rattle.std.specs.List.{AllByRecursion}
use Rattle.std.proofs.lemmas.Bool.Decides.{nat_tests}
use Rattle.gp_text.specs.Lines.{end_line_of, is_passed_over}
use Rattle.gp_text.specs.Name.{is_name}
use Rattle.gp_text.specs.Numbers.{OneSpelling}
use Rattle.gp_text.specs.Spelling.{is_plain_word, IsPlainLine, joined, numbered, PlainWords, ReadsAgain}
use Rattle.gp_trace.specs.declared.event.Event.{Event}
use Rattle.gp_trace.specs.declared.event.Event.TheVariants.{Read, Write, Acquire, Release, RAcquire, RRelease, Start, Join, Op, Begin, End}
use Rattle.gp_trace.specs.declared.fault.TraceFault.{TraceFault}
use Rattle.gp_trace.specs.declared.line.Entry.TheVariants.{Did}
use Rattle.gp_trace.specs.declared.rules.Standing.{Standing}
use Rattle.gp_trace.specs.declared.walk.Walk.{Walk}
use Rattle.gp_trace.specs.Event.{entry_of, names_of}
use Rattle.gp_trace.specs.Printed.{ends_in, event_lines, event_words, exit_lines, later_lines, segment_lines, trace_text, TraceReadsAgain}
use Rattle.gp_trace.specs.Rules.{after, after_all, AreWellFormed, at_first, fault_of, in_line}
use Rattle.gp_trace.specs.LockUse.{AreOfFormat, has_shared_event, lock_use_of, uses_shared}
use Rattle.gp_trace.proofs.Spelled.{Belongs, IsEventOf}
use Rattle.gp_trace.specs.Trace.{in_order, IsEvent, IsExit, IsLocalTrace, LocalTraceForm}
use Rattle.gp_base.specs.Results.{and_then}
use Rattle.gp_trace.specs.Walk.{after_lines, at_end, at_start, before_exit, next, trace_in, with_event}

-- names are read again
names_again : (names : List (List ℕ)) → AllByRecursion (λ name. is_name name ≡ true) names → names_of names ≡ Some names
names_again [] named = refl
names_again (name ∷ names) named = rw (named.0, names_again names named.1) refl

few_true : (n : ℕ) → n ≤ 4 → nat_le n 4 ≡ true
few_true n few = grind (arith, nat_tests)

-- the words of an event spell it
entry_again : OneSpelling → (format : ℕ) (event : Event) → IsEvent event → Belongs format event → entry_of format (event_words event) ≡ Some (Did event)
entry_again spelled format (Read name value) is belongs = rw (is.0, (spelled.signed (signed_decimal value) value is.1).1 refl) refl
entry_again spelled format (Write name value) is belongs = rw (is.0, (spelled.signed (signed_decimal value) value is.1).1 refl) refl
entry_again spelled format (Acquire lock) is belongs = rw is refl
entry_again spelled format (Release lock) is belongs = rw is refl
entry_again spelled format (RAcquire lock) is belongs = rw (belongs refl, is) refl
entry_again spelled format (RRelease lock) is belongs = rw (belongs refl, is) refl
entry_again spelled format (Start thread) is belongs = rw ((spelled.small (decimal thread) thread is).1 refl) refl
entry_again spelled format (Join thread) is belongs = rw ((spelled.small (decimal thread) thread is).1 refl) refl
entry_again spelled format (Op (name, objects)) is belongs = rw (names_again objects is.1, few_true (length objects) is.2, is.0) refl
entry_again spelled format (Begin region) is belongs = rw is refl
entry_again spelled format (End region) is belongs = rw is refl

-- a plain word of at most 32 bytes
abbrev IsShort : List ℕ → Type 0
IsShort word = (is_plain_word word ≡ true) × (length word ≤ 32)

abbrev AreShort : List (List ℕ) → Type 0
AreShort words = AllByRecursion IsShort words

short_names : PlainWords → (names : List (List ℕ)) → AllByRecursion (λ name. is_name name ≡ true) names → AreShort names
short_names plain [] named = tt
short_names plain (name ∷ names) named = (plain.names name named.0, short_names plain names named.1)

short_number : PlainWords → (n : ℕ) → n < 2 ^ 32 → IsShort (decimal n)
short_number plain n small =
    let is = plain.numbers n (omega (arith, small)) in (is.0, omega (arith, is.1))

short_value : PlainWords → (value : ℤ) → FitsSigned w64 value → IsShort (signed_decimal value)
short_value plain value fits =
    let is = plain.signed value fits in (is.0, omega (arith, is.1))

event_short : PlainWords → (event : Event) → IsEvent event → AreShort (event_words event)
event_short plain (Read name value) is = ((refl, lit≤ tt), (plain.names name is.0, (short_value plain value is.1, tt)))
event_short plain (Write name value) is = ((refl, lit≤ tt), (plain.names name is.0, (short_value plain value is.1, tt)))
event_short plain (Acquire lock) is = ((refl, lit≤ tt), (plain.names lock is, tt))
event_short plain (Release lock) is = ((refl, lit≤ tt), (plain.names lock is, tt))
event_short plain (RAcquire lock) is = ((refl, lit≤ tt), (plain.names lock is, tt))
event_short plain (RRelease lock) is = ((refl, lit≤ tt), (plain.names lock is, tt))
event_short plain (Start thread) is = ((refl, lit≤ tt), (short_number plain thread is, tt))
event_short plain (Join thread) is = ((refl, lit≤ tt), (short_number plain thread is, tt))
event_short plain (Op (name, objects)) is = ((refl, lit≤ tt), (plain.names name is.0, short_names plain objects is.1))
event_short plain (Begin region) is = ((refl, lit≤ tt), (plain.names region is, tt))
event_short plain (End region) is = ((refl, lit≤ tt), (plain.names region is, tt))

event_few : (event : Event) → IsEvent event → length (event_words event) ≤ 6
event_few (Op (name, objects)) is = omega (arith, is.2)
event_few event is = lit≤ tt

event_says : (event : Event) → is_passed_over (event_words event) ≡ false
event_says (Op (name, objects)) = refl
event_says event = refl

-- short words in a row
joined_fits : (words : List (List ℕ)) → AreShort words → length (joined words) ≤ 33 * length words
joined_fits [] short = omega arith
joined_fits (word ∷ []) short = omega (arith, short.0.1)
joined_fits (word ∷ more ∷ words) short =
    omega (arith, short.0.1, joined_fits (more ∷ words) short.1, length-append word (32 ∷ joined (more ∷ words)))

plain_words : (words : List (List ℕ)) → AreShort words → AllByRecursion (λ word. is_plain_word word ≡ true) words
plain_words [] short = tt
plain_words (word ∷ words) short = (short.0.0, plain_words words short.1)

plain_line : (words : List (List ℕ)) → AreShort words → length words ≤ 6 → is_passed_over words ≡ false → IsPlainLine words
plain_line words short few says = record {
  plain = plain_words words short;
  says = says;
  fits = omega (arith, few, joined_fits words short);
}

abbrev ArePlain : List (List (List ℕ)) → Type 0
ArePlain lines = AllByRecursion IsPlainLine lines

abbrev AreEvents : List Event → Type 0
AreEvents events = AllByRecursion IsEvent events

abbrev AreEventsOf : ℕ → List Event → Type 0
AreEventsOf format events = AllByRecursion (IsEventOf format) events

plain_append : (xs ys : List (List (List ℕ))) → ArePlain xs → ArePlain ys → ArePlain (xs ++ ys)
plain_append [] ys front back = back
plain_append (x ∷ xs) ys front back = (front.0, plain_append xs ys front.1 back)

events_plain : PlainWords → (events : List Event) → AreEvents events → ArePlain (event_lines events)
events_plain plain [] are = tt
events_plain plain (event ∷ events) are =
    (plain_line (event_words event) (event_short plain event are.0) (event_few event are.0) (event_says event), events_plain plain events are.1)

exit_plain : (b : Bool) → let lines : List (List (List ℕ)) = if b then (codes "exit" ∷ []) ∷ [] else [] in ArePlain lines
exit_plain true = (plain_line (codes "exit" ∷ []) ((refl, lit≤ tt), tt) (lit≤ tt) refl, tt)
exit_plain false = tt

-- the events of the first lists, and those of the rest
front_events : (P : Event → Type 0) (xs ys : List Event) → AllByRecursion P (xs ++ ys) → AllByRecursion P xs × AllByRecursion P ys
front_events P [] ys are = (tt, are)
front_events P (x ∷ xs) ys are =
    let parts = front_events P xs ys are.1 in ((are.0, parts.0), parts.1)

front_formed : (thread : ℕ) (s : Standing) (xs ys : List Event) → AreWellFormed thread s (xs ++ ys) → AreWellFormed thread s xs × AreWellFormed thread (after_all s xs) ys
front_formed thread s [] ys formed = (tt, formed)
front_formed thread s (x ∷ xs) ys formed =
    let parts = front_formed thread (after s x) xs ys formed.1 in ((formed.0, parts.0), parts.1)

later_plain : PlainWords → (exit_in : Option ℕ) (number : ℕ) (segments : List (List Event)) → AreEvents (in_order segments) → ArePlain (later_lines exit_in number segments)
later_plain plain exit_in number [] are = tt
later_plain plain exit_in number (segment ∷ segments) are =
    let parts = front_events IsEvent segment (in_order segments) are in (
      plain_line (codes "mark" ∷ []) ((refl, lit≤ tt), tt) (lit≤ tt) refl,
      plain_append (event_lines segment) _ (events_plain plain segment parts.0)
          (plain_append (exit_lines exit_in number) _ (exit_plain (ends_in exit_in number)) (later_plain plain exit_in (number + 1) segments parts.1)),
    )

segments_plain : PlainWords → (exit_in : Option ℕ) (segments : List (List Event)) → AreEvents (in_order segments) → ArePlain (segment_lines exit_in segments)
segments_plain plain exit_in [] are = tt
segments_plain plain exit_in (segment ∷ segments) are =
    let parts = front_events IsEvent segment (in_order segments) are in
    plain_append (event_lines segment) _ (events_plain plain segment parts.0)
    (plain_append (exit_lines exit_in 1) _ (exit_plain (ends_in exit_in 1)) (later_plain plain exit_in 2 segments parts.1))

-- a walk, by its parts
abbrev walk_at : Standing → List (List Event) → List Event → Option ℕ → Walk
walk_at s ended segment exit_in = record { standing = s; ended = ended; segment = segment; exit_in = exit_in }

-- what the rest of the lines, from line n on, gives in the end
abbrev ends : (format thread marks last : ℕ) → Walk → ℕ → List (List (List ℕ)) → Result LocalTraceForm TraceFault
ends format thread marks last walk n lines = at_end thread marks last (after_lines format thread marks walk (numbered n lines))

append_nil : (events : List Event) → events ++ [] ≡ events
append_nil [] = refl
append_nil (event ∷ events) = ap (λ rest. event ∷ rest) (append_nil events)

one_event : OneSpelling → (format thread marks n : ℕ) (s : Standing) (ended : List (List Event)) (segment : List Event) (event : Event) → IsEventOf format event → fault_of thread s event ≡ None
    → next format thread marks (walk_at s ended segment None) (record { number = n; words = event_words event }) ≡ Ok (walk_at (after s event) ended (segment ++ event ∷ []) None)
one_event spelled format thread marks n s ended segment event is allows =
    ap (before_exit thread marks n (walk_at s ended segment None)) (entry_again spelled format event is.0 is.1)
    ∙ ap (with_event (walk_at s ended segment None) event) (ap (in_line n) allows)

-- the lines of the events of a segment
walk_events : OneSpelling → (format thread marks last n : ℕ) (s : Standing) (ended : List (List Event)) (segment whole events : List Event) (lines : List (List (List ℕ))) (due : Result LocalTraceForm TraceFault)
    → segment ++ events ≡ whole → AreEventsOf format events → AreWellFormed thread s events
    → ((m : ℕ) → ends format thread marks last (walk_at (after_all s events) ended whole None) m lines ≡ due)
    → ends format thread marks last (walk_at s ended segment None) n (event_lines events ++ lines) ≡ due
walk_events spelled format thread marks last n s ended segment whole [] lines due all are formed goes =
    ap (λ list. ends format thread marks last (walk_at s ended list None) n lines) (sym (append_nil segment) ∙ all) ∙ goes n
walk_events spelled format thread marks last n s ended segment whole (event ∷ events) lines due all are formed goes =
    ap (λ r. at_end thread marks last (and_then r (λ mid. after_lines format thread marks mid (numbered (n + 1) (event_lines events ++ lines))))) (one_event spelled format thread marks n s ended segment event are.0 formed.0)
    ∙ walk_events spelled format thread marks last (n + 1) (after s event) ended (segment ++ event ∷ []) whole events lines due (append_assoc segment (event ∷ []) events ∙ all) are.1 formed.1 goes

different : (n m : ℕ) → n < m → (n == m) ≡ false
different n m lt = grind (arith, nat_tests)

above : (n m : ℕ) → n < m → (m == n) ≡ false
above n m lt = grind (arith, nat_tests)

-- a mark before a further segment
mark_open : (format thread marks n : ℕ) (s : Standing) (ended : List (List Event)) (segment : List Event) → length ended < marks
    → next format thread marks (walk_at s ended segment None) (record { number = n; words = codes "mark" ∷ [] }) ≡ Ok (walk_at s (ended ++ segment ∷ []) [] None)
mark_open format thread marks n s ended segment lt = rw (different (length ended) marks lt) refl

mark_closed : (format thread marks n k : ℕ) (s : Standing) (ended : List (List Event)) (segment : List Event) → length ended < marks
    → next format thread marks (walk_at s ended segment (Some k)) (record { number = n; words = codes "mark" ∷ [] }) ≡ Ok (walk_at s (ended ++ segment ∷ []) [] (Some k))
mark_closed format thread marks n k s ended segment lt = rw (different (length ended) marks lt) refl

abbrev trace_with : ℕ → List (List Event) → Option ℕ → LocalTraceForm
trace_with thread segments exit_in = record { thread = thread; segments = segments; exit_in = exit_in }

-- all marks came
finish : (format thread marks last n : ℕ) (s : Standing) (ended : List (List Event)) (segment : List Event) (exit_in : Option ℕ) → length ended ≡ marks
    → ends format thread marks last (walk_at s ended segment exit_in) n [] ≡ Ok (trace_with thread (ended ++ segment ∷ []) exit_in)
finish format thread marks last n s ended segment exit_in is = rw (eq-eqb (length ended) marks is) refl

abbrev AllEmpty : List (List Event) → Type 0
AllEmpty segments = AllByRecursion (λ segment. segment ≡ []) segments

-- the empty segments after the exit
closed_later : (format thread marks last k number n : ℕ) (s : Standing) (ended : List (List Event)) (segment : List Event) (segments : List (List Event))
    → length ended + length segments ≡ marks → k < number → AllEmpty segments
    → ends format thread marks last (walk_at s ended segment (Some k)) n (later_lines (Some k) number segments) ≡ Ok (trace_with thread (ended ++ segment ∷ segments) (Some k))
closed_later format thread marks last k number n s ended segment [] is lt empty =
    finish format thread marks last n s ended segment (Some k) (omega (arith, is))
closed_later format thread marks last k number n s ended segment (first ∷ more) is lt empty =
    let P : List Event → Type 0 = λ list. ends format thread marks last (walk_at s ended segment (Some k)) n (later_lines (Some k) number (list ∷ more)) ≡ Ok (trace_with thread (ended ++ segment ∷ list ∷ more) (Some k)) in
    subst P (sym empty.0)
    (ap (λ r. at_end thread marks last (and_then r (λ mid. after_lines format thread marks mid (numbered (n + 1) (exit_lines (Some k) number ++ later_lines (Some k) (number + 1) more))))) (mark_closed format thread marks n k s ended segment (omega (arith, is)))
    ∙ ap (λ b. ends format thread marks last (walk_at s (ended ++ segment ∷ []) [] (Some k)) (n + 1) ((if b then (codes "exit" ∷ []) ∷ [] else []) ++ later_lines (Some k) (number + 1) more)) (different k number lt)
    ∙ closed_later format thread marks last k (number + 1) (n + 1) s (ended ++ segment ∷ []) [] more (omega (arith, is, length-append ended (segment ∷ []))) (omega (arith, lt)) empty.1
    ∙ ap (λ segments. Ok (trace_with thread segments (Some k))) (append_assoc ended (segment ∷ []) ([] ∷ more)))

-- where the exit is among the segments from this number on, it is in one, and the later are empty
abbrev ExitsIn : Option ℕ → ℕ → List (List Event) → Type 0
ExitsIn None number segments = Unit {0}
ExitsIn (Some k) number [] = ⊥
ExitsIn (Some k) number (segment ∷ segments) = ((k ≡ number) × AllEmpty segments) ⊎ ((number < k) × ExitsIn (Some k) (number + 1) segments)

-- the end of a segment: the exit, or what is later
exit_cases : (format thread marks last : ℕ) (exit_in : Option ℕ) (number n : ℕ) (s : Standing) (ended : List (List Event)) (segment : List Event) (segments : List (List Event))
    → number ≡ length ended + 1 → length ended + length segments ≡ marks → ExitsIn exit_in number (segment ∷ segments)
    → ((m : ℕ) → ExitsIn exit_in (number + 1) segments → ends format thread marks last (walk_at s ended segment None) m (later_lines exit_in (number + 1) segments) ≡ Ok (trace_with thread (ended ++ segment ∷ segments) exit_in))
    → ends format thread marks last (walk_at s ended segment None) n (exit_lines exit_in number ++ later_lines exit_in (number + 1) segments) ≡ Ok (trace_with thread (ended ++ segment ∷ segments) exit_in)
exit_cases format thread marks last None number n s ended segment segments at is exits goes = goes n tt
exit_cases format thread marks last (Some k) number n s ended segment segments at is (inl here) goes =
    let same : length ended + 1 ≡ k = omega (arith, at, here.0) in
    ap (λ b. ends format thread marks last (walk_at s ended segment None) n ((if b then (codes "exit" ∷ []) ∷ [] else []) ++ later_lines (Some k) (number + 1) segments)) (eq-eqb k number here.0)
    ∙ ap (λ e. ends format thread marks last (walk_at s ended segment (Some e)) (n + 1) (later_lines (Some k) (number + 1) segments)) same
    ∙ closed_later format thread marks last k (number + 1) (n + 1) s ended segment segments is (omega (arith, here.0)) here.1
exit_cases format thread marks last (Some k) number n s ended segment segments at is (inr later) goes =
    ap (λ b. ends format thread marks last (walk_at s ended segment None) n ((if b then (codes "exit" ∷ []) ∷ [] else []) ++ later_lines (Some k) (number + 1) segments)) (above number k later.0)
    ∙ goes n later.1

-- the segments that follow, of a thread that has not ended
open_later : OneSpelling → (format thread marks last : ℕ) (exit_in : Option ℕ) (number n : ℕ) (s : Standing) (ended : List (List Event)) (segment : List Event) (segments : List (List Event))
    → number ≡ length ended + 2 → length ended + length segments ≡ marks → ExitsIn exit_in number segments → AreEventsOf format (in_order segments) → AreWellFormed thread s (in_order segments)
    → ends format thread marks last (walk_at s ended segment None) n (later_lines exit_in number segments) ≡ Ok (trace_with thread (ended ++ segment ∷ segments) exit_in)
open_later spelled format thread marks last None number n s ended segment [] at is exits are formed =
    finish format thread marks last n s ended segment None (omega (arith, is))
open_later spelled format thread marks last (Some k) number n s ended segment [] at is exits are formed = absurd exits
open_later spelled format thread marks last exit_in number n s ended segment (first ∷ more) at is exits are formed =
    let events = front_events (IsEventOf format) first (in_order more) are in
    let rules = front_formed thread s first (in_order more) formed in
    let front : List (List Event) = ended ++ segment ∷ [] in
    let long : length front ≡ length ended + 1 = length-append ended (segment ∷ []) in
    let due : Result LocalTraceForm TraceFault = Ok (trace_with thread (front ++ first ∷ more) exit_in) in
    ap (λ r. at_end thread marks last (and_then r (λ mid. after_lines format thread marks mid (numbered (n + 1) (event_lines first ++ (exit_lines exit_in number ++ later_lines exit_in (number + 1) more)))))) (mark_open format thread marks n s ended segment (omega (arith, is)))
    ∙ walk_events spelled format thread marks last (n + 1) s front [] first first (exit_lines exit_in number ++ later_lines exit_in (number + 1) more) due refl events.0 rules.0
    (λ m. exit_cases format thread marks last exit_in number m (after_all s first) front first more (omega (arith, at, long)) (omega (arith, is, long)) exits
    (λ k still. open_later spelled format thread marks last exit_in (number + 1) k (after_all s first) front first more (omega (arith, at, long)) (omega (arith, is, long)) still events.1 rules.1))
    ∙ ap (λ segments. Ok (trace_with thread segments exit_in)) (append_assoc ended (segment ∷ []) (first ∷ more))

-- the exit, found from the front
finds_exit : (d k number : ℕ) (segments : List (List Event)) → k ≡ number + d → d < length segments → AllEmpty (drop (d + 1) segments) → ExitsIn (Some k) number segments
finds_exit d k number [] is lt empty = absurd (omega (arith, lt))
finds_exit zero k number (segment ∷ segments) is lt empty = inl (omega (arith, is), empty)
finds_exit (suc d) k number (segment ∷ segments) is lt empty =
    inr (omega (arith, is), finds_exit d k (number + 1) segments (omega (arith, is)) (omega (arith, lt)) (let P : ℕ → Type 0 = λ i. AllEmpty (drop i (segment ∷ segments)) in let e : suc d + 1 ≡ suc (d + 1) = omega arith in subst P e empty))

exits_in : (exit_in : Option ℕ) (segments : List (List Event)) → IsExit exit_in segments → ExitsIn exit_in 1 segments
exits_in None segments exits = tt
exits_in (Some k) segments exits =
    let one : k ≡ k - 1 + 1 = omega (arith, exits.0) in
    let P : ℕ → Type 0 = λ i. AllEmpty (drop i segments) in
    finds_exit (k - 1) k 1 segments (omega (arith, exits.0)) (omega (arith, exits.0, exits.1)) (subst P one exits.2)

-- the lines of a trace give the trace
segments_again : OneSpelling → (format thread last : ℕ) (exit_in : Option ℕ) (segments : List (List Event)) → 1 ≤ length segments → AreEventsOf format (in_order segments) → AreWellFormed thread at_first (in_order segments) → ExitsIn exit_in 1 segments
    → ends format thread (length segments - 1) last at_start 1 (segment_lines exit_in segments) ≡ Ok (trace_with thread segments exit_in)
segments_again spelled format thread last exit_in [] some are formed exits = absurd (omega (arith, some))
segments_again spelled format thread last exit_in (first ∷ more) some are formed exits =
    let events = front_events (IsEventOf format) first (in_order more) are in
    let rules = front_formed thread at_first first (in_order more) formed in
    let none : List (List Event) = [] in
    let marks : length none + length more ≡ length (first ∷ more) - 1 = omega arith in
    let due : Result LocalTraceForm TraceFault = Ok (trace_with thread (first ∷ more) exit_in) in
    walk_events spelled format thread (length (first ∷ more) - 1) last 1 at_first [] [] first first (exit_lines exit_in 1 ++ later_lines exit_in 2 more) due refl events.0 rules.0
    (λ m. exit_cases format thread (length (first ∷ more) - 1) last exit_in 1 m (after_all at_first first) [] first more refl marks exits
    (λ k still. open_later spelled format thread (length (first ∷ more) - 1) last exit_in 2 k (after_all at_first first) [] first more refl marks still events.1 rules.1))

or_left : (a b : Bool) → a ≡ true → (a || b) ≡ true
or_left a b is = rw is refl

or_right : (a b : Bool) → b ≡ true → (a || b) ≡ true
or_right true b is = refl
or_right false b is = is

belong : (format : ℕ) (events : List Event) → AreEvents events → AreOfFormat format events → AreEventsOf format events
belong format [] are of_format = tt
belong format (event ∷ events) are of_format =
    let rest : AreOfFormat format events = λ some. of_format (or_right (uses_shared (lock_use_of event)) (has_shared_event events) some) in
    ((are.0, λ shared. of_format (or_left (uses_shared (lock_use_of event)) (has_shared_event events) shared)), belong format events are.1 rest)

-- the lines of a trace, with their numbers, are read as the trace
pub lines_again : OneSpelling → (format last : ℕ) (trace : LocalTraceForm) → IsLocalTrace trace → AreOfFormat format (in_order trace.segments)
    → at_end trace.thread (length trace.segments - 1) last (after_lines format trace.thread (length trace.segments - 1) at_start (numbered 1 (segment_lines trace.exit_in trace.segments))) ≡ Ok trace
lines_again spelled format last trace is of_format =
    segments_again spelled format trace.thread last trace.exit_in trace.segments is.some (belong format (in_order trace.segments) is.events of_format) is.formed (exits_in trace.exit_in trace.segments is.exits)

pub trace_again : OneSpelling → PlainWords → ReadsAgain → TraceReadsAgain
trace_again spelled plain again format trace is of_format =
    ap (trace_in format trace.thread (length trace.segments - 1) (end_line_of (trace_text trace))) (again (segment_lines trace.exit_in trace.segments) (segments_plain plain trace.exit_in trace.segments is.events))
    ∙ lines_again spelled format (end_line_of (trace_text trace)) trace is of_format

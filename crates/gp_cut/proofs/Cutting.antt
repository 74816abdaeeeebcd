-- A trace that is cut keeps the rules of a trace, and its later segments are those of the whole.
use Rattle.std.proofs.Common.{◌≡◌, ◌∙◌, refl, ap, sym, subst, inl, inr, false, ℕ, suc, ◌+◌, ◌<◌, ◌≤◌, ◌^◌, List, [], ◌∷◌, ◌++◌, map, length, take, drop, arith, get_or-drop, get_or-take, length-append, length-drop, length-take, take-append-drop}
use Rattle.std.specs.List.{AllByRecursion}
use Rattle.std.proofs.lemmas.Bool.{cases_Bool, false≢true, or_from, or_parts}
use Rattle.std.proofs.lemmas.Option.{unwrap_or-slice_get}
use Rattle.gp_base.specs.ListLaws.{recursion_append, recursion_parts}
use Rattle.gp_trace.specs.declared.event.Event.{Event}
use Rattle.gp_trace.specs.declared.rules.Standing.{Standing}
use Rattle.gp_trace.specs.LockUse.{AreOfFormat, has_shared_event, lock_use_of, uses_shared}
use Rattle.gp_trace.specs.Rules.{after_all, AreWellFormed, at_first}
use Rattle.gp_trace.specs.RulesLaws.{formed_split, in_order_append}
use Rattle.gp_trace.specs.Trace.{in_order, IsEvent, IsLocalTrace, LocalTraceForm}
use Rattle.gp_window.specs.Holders.{segment_after}
use Rattle.gp_window.specs.RecordingForm.{AreNumbered}
use Rattle.gp_cut.specs.Cut.{cut_trace, staged, standing_behind}
use Rattle.gp_cut.proofs.Ending.{exit_kept}
use Rattle.gp_cut.proofs.Staging.{AreInOrder, first_in_order, formed_join, staged_each, staged_few, staged_formed, staged_leads, stays_in_order}

-- the events before the part that is cut out, those in it, and those behind it
abbrev pub events_before : ℕ → List (List Event) → List Event
events_before before segments = in_order (take before segments)

abbrev pub events_there : ℕ → ℕ → List (List Event) → List Event
events_there before count segments = in_order (take count (drop before segments))

abbrev events_behind : ℕ → ℕ → List (List Event) → List Event
events_behind before count segments = in_order (drop count (drop before segments))

-- together they are all events
pub all_parts : (before count : ℕ) (segments : List (List Event))
    → in_order segments ≡ events_before before segments ++ (events_there before count segments ++ events_behind before count segments)
all_parts before count segments =
    ap in_order (sym (take-append-drop before segments))
    ∙ in_order_append (take before segments) (drop before segments)
    ∙ ap (λ rest. events_before before segments ++ rest)
    (ap in_order (sym (take-append-drop count (drop before segments))) ∙ in_order_append (take count (drop before segments)) (drop count (drop before segments)))

-- what holds of each event of the whole holds of each of those that set the stage, and of each in the part
pub each_kept : (P : Event → Type 0) (before count : ℕ) (segments : List (List Event)) → AllByRecursion P (in_order segments)
    → AllByRecursion P (staged (after_all at_first (events_before before segments)) ++ events_there before count segments)
each_kept P before count segments all =
    let parts = recursion_parts P (events_before before segments) (events_there before count segments ++ events_behind before count segments)
    (subst (AllByRecursion P) (all_parts before count segments) all) in
    let later = recursion_parts P (events_there before count segments) (events_behind before count segments) parts.1 in
    recursion_append P (staged (after_all at_first (events_before before segments))) (events_there before count segments)
    (staged_each P (events_before before segments) parts.0) later.0

-- where a thread stands behind some events, its locks are in order
pub stands_in_order : (events : List Event) → AreInOrder (after_all at_first events).held
stands_in_order events = stays_in_order at_first events first_in_order

formed_kept : (thread before count : ℕ) (segments : List (List Event)) → AreWellFormed thread at_first (in_order segments)
    → AreWellFormed thread at_first (staged (after_all at_first (events_before before segments)) ++ events_there before count segments)
formed_kept thread before count segments formed =
    let s : Standing = after_all at_first (events_before before segments) in
    let rise = stands_in_order (events_before before segments) in
    let all = subst (λ (events : List Event). AreWellFormed thread at_first events) (all_parts before count segments) formed in
    let from_here = (formed_split thread at_first (events_before before segments) (events_there before count segments ++ events_behind before count segments) all).1 in
    let there = (formed_split thread s (events_there before count segments) (events_behind before count segments) from_here).0 in
    formed_join thread at_first (staged s) (events_there before count segments) (staged_formed thread s rise)
    (subst (λ (now : Standing). AreWellFormed thread now (events_there before count segments)) (sym (staged_leads s rise)) there)

few_kept : (before count : ℕ) (segments : List (List Event)) → length (in_order segments) < 2 ^ 32
    → length (staged (after_all at_first (events_before before segments)) ++ events_there before count segments) < 2 ^ 32
few_kept before count segments few =
    let whole : length (in_order segments) ≡ length (events_before before segments) + (length (events_there before count segments) + length (events_behind before count segments)) =
    ap length (all_parts before count segments)
    ∙ length-append (events_before before segments) (events_there before count segments ++ events_behind before count segments)
    ∙ ap (λ n. length (events_before before segments) + n) (length-append (events_there before count segments) (events_behind before count segments)) in
    let stage = staged_few (events_before before segments) in
    omega (arith, few, whole, stage, length-append (staged (after_all at_first (events_before before segments))) (events_there before count segments))

-- a trace that is cut keeps the rules of a trace
pub cut_is_trace : (before count : ℕ) (trace : LocalTraceForm) → before + count ≤ length trace.segments → IsLocalTrace trace → IsLocalTrace (cut_trace before count trace)
cut_is_trace before count trace there rules = record {
  some = omega arith;
  few = few_kept before count trace.segments rules.few;
  events = each_kept IsEvent before count trace.segments rules.events;
  formed = formed_kept trace.thread before count trace.segments rules.formed;
  exits = exit_kept before count trace.exit_in (staged (standing_behind before trace)) trace.segments there rules.exits;
}

-- where no event uses a shared lock
none_shared : (events : List Event) → has_shared_event events ≡ false → AllByRecursion (λ event. uses_shared (lock_use_of event) ≡ false) events
none_shared [] none = tt
none_shared (event ∷ events) none =
    let parts = or_parts (uses_shared (lock_use_of event)) (has_shared_event events) none in
    (parts.0, none_shared events parts.1)

all_plain : (events : List Event) → AllByRecursion (λ event. uses_shared (lock_use_of event) ≡ false) events → has_shared_event events ≡ false
all_plain [] all = refl
all_plain (event ∷ events) all = or_from (uses_shared (lock_use_of event)) (has_shared_event events) all.0 (all_plain events all.1)

-- the events of a trace that is cut are of the format of the whole
pub format_kept : (format before count : ℕ) (segments : List (List Event)) → AreOfFormat format (in_order segments)
    → AreOfFormat format (staged (after_all at_first (events_before before segments)) ++ events_there before count segments)
format_kept format before count segments belongs shared =
    elim (cases_Bool (has_shared_event (in_order segments))) [
      | inl is ↦ belongs is
      | inr none ↦ absurd (false≢true (sym (all_plain (staged (after_all at_first (events_before before segments)) ++ events_there before count segments)
          (each_kept (λ event. uses_shared (lock_use_of event) ≡ false) before count segments (none_shared (in_order segments) none))) ∙ shared))
    ]

-- the traces are cut as long as each other
pub cut_numbered : (before count epochs first : ℕ) (traces : List LocalTraceForm) → before + count ≤ epochs → AreNumbered epochs first traces
    → AreNumbered (count + 1) first (map (cut_trace before count) traces)
cut_numbered before count epochs first [] there numbered = tt
cut_numbered before count epochs first (trace ∷ traces) there numbered =
    let size : length trace.segments ≡ epochs = numbered.1 in (
      numbered.0,
      omega (arith, there, size, length-take count (drop before trace.segments), length-drop before trace.segments),
      cut_numbered before count epochs (first + 1) traces there numbered.2,
    )

-- a segment behind the stage is the one that it stands for
pub segment_kept : (before count i : ℕ) (trace : LocalTraceForm) → i < count → segment_after (suc i) (cut_trace before count trace) ≡ segment_after (before + i) trace
segment_kept before count i trace within =
    unwrap_or-slice_get (take count (drop before trace.segments)) i []
    ∙ get_or-take count (drop before trace.segments) i [] within
    ∙ get_or-drop before trace.segments i []
    ∙ sym (unwrap_or-slice_get trace.segments (before + i) [])

pub segments_kept : (before count i : ℕ) (traces : List LocalTraceForm) → i < count
    → map (segment_after (suc i)) (map (cut_trace before count) traces) ≡ map (segment_after (before + i)) traces
segments_kept before count i [] within = refl
segments_kept before count i (trace ∷ traces) within =
    ap (λ segment. segment ∷ map (segment_after (suc i)) (map (cut_trace before count) traces)) (segment_kept before count i trace within)
    ∙ ap (λ rest. segment_after (before + i) trace ∷ rest) (segments_kept before count i traces within)

-- Phrases of which each stands behind a space, without the first space.
use Rattle.std.proofs.Common.{◌≡◌, ◌∙◌, refl, sym, ap, ℕ, ◌+◌, List, [], ◌∷◌, ◌++◌, drop}
use Rattle.std.specs.Fmt.{signed_decimal}
use Rattle.std.specs.List.{flat_map}
use Rattle.std.specs.Prelude.{codes, decimal}
use Rattle.gp_checker.specs.declared.failure.Reason.{Reason}
use Rattle.gp_checker.specs.declared.failure.Reason.TheVariants as why
use Rattle.gp_overview.specs.Verdict.{reason_words}
use Rattle.gp_reason.specs.declared.reasons.Ground.{Ground}
use Rattle.gp_reason.specs.declared.reasons.Ground.TheVariants.{Base, Earlier, Everything, ThreadOrder}
use Rattle.gp_tell.specs.ReasonText.{before_words, cycle_words, family_text, ground_words}
use Rattle.gp_tell.specs.FactText.{any_text}
use Rattle.gp_text.specs.Spelling.{after_words, joined}
use Rattle.gp_text.specs.SpellingLaws.{joined_after}
use Rattle.gp_trace.specs.Printed.{event_words}
use Rattle.gp_trace.specs.declared.event.Event.{Event}
use Rattle.gp_trace.specs.declared.event.Event.TheVariants.{Read, Write, Acquire, Release, RAcquire, RRelease, Start, Join, Op, Begin, End}
use Rattle.gp_window.specs.declared.schedule.EventId.{EventId}

-- of some phrases, the first of which is this one
phrases_first : (phrases : List (List ℕ)) (first : List ℕ) (others : List (List ℕ)) → phrases ≡ first ∷ others → drop 1 (after_words phrases) ≡ joined phrases
phrases_first phrases first others is =
    ap (λ (told : List (List ℕ)). drop 1 (after_words told)) is ∙ sym (joined_after first others) ∙ ap joined (sym is)

-- of an event's words
pub event_words_first : (event : Event) → drop 1 (after_words (event_words event)) ≡ joined (event_words event)
event_words_first (Read name value) = phrases_first (event_words (Read name value)) (codes "read") (name ∷ signed_decimal value ∷ []) refl
event_words_first (Write name value) = phrases_first (event_words (Write name value)) (codes "write") (name ∷ signed_decimal value ∷ []) refl
event_words_first (Acquire lock) = phrases_first (event_words (Acquire lock)) (codes "acquire") (lock ∷ []) refl
event_words_first (Release lock) = phrases_first (event_words (Release lock)) (codes "release") (lock ∷ []) refl
event_words_first (RAcquire lock) = phrases_first (event_words (RAcquire lock)) (codes "racquire") (lock ∷ []) refl
event_words_first (RRelease lock) = phrases_first (event_words (RRelease lock)) (codes "rrelease") (lock ∷ []) refl
event_words_first (Start thread) = phrases_first (event_words (Start thread)) (codes "start") (decimal thread ∷ []) refl
event_words_first (Join thread) = phrases_first (event_words (Join thread)) (codes "join") (decimal thread ∷ []) refl
event_words_first (Op (name, objects)) = phrases_first (event_words (Op (name, objects))) (codes "op") (name ∷ objects) refl
event_words_first (Begin region) = phrases_first (event_words (Begin region)) (codes "begin") (region ∷ []) refl
event_words_first (End region) = phrases_first (event_words (End region)) (codes "end") (region ∷ []) refl

-- of what a step rests on
pub ground_words_first : (name : EventId → List ℕ) (basis : Ground) → drop 1 (after_words (ground_words name basis)) ≡ joined (ground_words name basis)
ground_words_first name (Base family facts) = phrases_first (ground_words name (Base family facts)) (family_text family) (any_text name facts ∷ []) refl
ground_words_first name (Earlier place) = phrases_first (ground_words name (Earlier place)) (codes "step") (decimal (place + 1) ∷ []) refl
ground_words_first name Everything = phrases_first (ground_words name Everything) (codes "all of the above and of the window") [] refl
ground_words_first name ThreadOrder = phrases_first (ground_words name ThreadOrder) (codes "the order within threads alone") [] refl

-- of a cycle
pub cycle_words_first : (name : EventId → List ℕ) (first : EventId) (others : List EventId) → drop 1 (after_words (cycle_words name first others)) ≡ joined (cycle_words name first others)
cycle_words_first name first others =
    phrases_first (cycle_words name first others) (codes "a cycle:") (name first ∷ (flat_map (before_words name) others ++ before_words name first)) refl

-- of why a report is rejected
pub reason_words_first : (reason : Reason) (place : ℕ) → drop 1 (after_words (reason_words reason place)) ≡ joined (reason_words reason place)
reason_words_first why.WindowCount place = phrases_first (reason_words why.WindowCount place) (codes "the report has not as many windows as the recording") ([]) refl
reason_words_first why.WrongSize place = phrases_first (reason_words why.WrongSize place) (codes "it is told as too large and is not, or the reverse, or with other numbers") ([]) refl
reason_words_first why.WrongProperty place = phrases_first (reason_words why.WrongProperty place) (codes "it is missing or surplus, has another name, or has not an entry for each of its instances") ([]) refl
reason_words_first why.WrongEvents place = phrases_first (reason_words why.WrongEvents place) (codes "its events are not those of the instance") ([]) refl
reason_words_first why.Stuck place = phrases_first (reason_words why.Stuck place) (codes "its schedule cannot go on at place") (decimal place ∷ []) refl
reason_words_first why.Unmatched place = phrases_first (reason_words why.Unmatched place) (codes "its schedule can happen and does not show it") ([]) refl
reason_words_first why.BadStep place = phrases_first (reason_words why.BadStep place) (codes "its certificate does not follow at step") (decimal place ∷ []) refl
reason_words_first why.Unrefuted place = phrases_first (reason_words why.Unrefuted place) (codes "its certificate ends in no contradiction") ([]) refl
reason_words_first why.WrongBudget place = phrases_first (reason_words why.WrongBudget place) (codes "it is undecided with another budget than the report has") ([]) refl
reason_words_first why.BadSharedStep place = phrases_first (reason_words why.BadSharedStep place) (codes "its shared steps do not follow at step") (decimal place ∷ []) refl

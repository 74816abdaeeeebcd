-- The ends of a window, thread by thread.
use Rattle.std.proofs.Common.{◌≡◌, ◌∙◌, refl, sym, ap, ℕ, zero, suc, ◌+◌, ◌-◌, ◌<◌, Bool, true, false, List, [], ◌∷◌, ◌++◌, length, if◌then◌else◌, add-one, append_assoc, arith}
use Rattle.std.specs.Prelude.{◌==◌, Some, Ok, Err, flat_map, nat_lt, slice_get}
use Rattle.std.specs.List.{AllByRecursion}
use Rattle.std.proofs.lemmas.Bool.Decides.{nat_tests}
use Rattle.gp_base.specs.ListLaws.{recursion_flat_map}
use Rattle.gp_instance.specs.declared.instance.Instance.{Instance}
use Rattle.gp_instance.specs.declared.instance.InstancesFault.TheVariants.{TooMany}
use Rattle.gp_instance.specs.ListedLaws.{ListsEach}
use Rattle.gp_trace.specs.declared.event.Event.{Event}
use Rattle.gp_window.specs.Events.{segment_of, size_of}
use Rattle.gp_window.specs.WindowForm.{WindowForm, numbers_from}
use Rattle.gp_bridge_rows.specs.Ends.{IsEnd, ask_of, end_in, ends_of, listed}

unfolds : (thread more rest : ℕ) → more ≡ rest + 1 → numbers_from thread more ≡ thread ∷ numbers_from (thread + 1) rest
unfolds thread more rest is = rw (is, add-one) refl

-- one thread more goes from what is left to what is listed
pub one_thread : (window : WindowForm) (number thread threads : ℕ) (ends total : List Instance) → thread < threads + 1
    → ends ++ flat_map (end_in window number) (numbers_from thread (threads + 1 - thread)) ≡ total
    → (ends ++ end_in window number thread) ++ flat_map (end_in window number) (numbers_from (thread + 1) (threads + 1 - (thread + 1))) ≡ total
one_thread window number thread threads ends total below all =
    let left : threads + 1 - thread ≡ (threads + 1 - (thread + 1)) + 1 = omega arith in
    append_assoc ends (end_in window number thread) (flat_map (end_in window number) (numbers_from (thread + 1) (threads + 1 - (thread + 1))))
    ∙ ap (λ (threads : List ℕ). ends ++ flat_map (end_in window number) threads) (sym (unfolds thread (threads + 1 - thread) (threads + 1 - (thread + 1)) left))
    ∙ all

event_there : (events : List Event) (index : ℕ) → index < length events → (event : Event) × (slice_get events index ≡ Some event)
event_there [] index within = absurd (omega (arith, within))
event_there (event ∷ events) zero within = (event, refl)
event_there (event ∷ events) (suc index) within = event_there events index (omega (arith, within))

abbrev AsksEnd : WindowForm → Instance → Type 0
AsksEnd window ask = IsEnd window ask.events

end_if : (window : WindowForm) (number thread : ℕ) (none : Bool) → (size_of window thread == 0) ≡ none
    → AllByRecursion (AsksEnd window) (if none then [] else ask_of number (record { thread = thread; index = size_of window thread - 1 }) ∷ [])
end_if window number thread true test = tt
end_if window number thread false test =
    let last : size_of window thread - 1 < size_of window thread = grind (arith, nat_tests) in
    (record { id = record { thread = thread; index = size_of window thread - 1 }; one = refl; there = event_there (segment_of window thread) (size_of window thread - 1) last }, tt)

listed_if : (window : WindowForm) (asks : List Instance) (many : Bool) → nat_lt 10000 (length asks) ≡ many → AllByRecursion (AsksEnd window) asks
    → ListsEach (IsEnd window) (if many then Err TooMany else Ok asks)
listed_if window asks true test each = tt
listed_if window asks false test each = (grind (arith, nat_tests), each)

-- each end is an event of the window
pub ends_listed : (window : WindowForm) (number : ℕ) → ListsEach (IsEnd window) (listed (ends_of window number))
ends_listed window number =
    let each : AllByRecursion (AsksEnd window) (ends_of window number) =
    recursion_flat_map (AsksEnd window) (end_in window number) (numbers_from 1 (length window.segments)) (λ thread has. end_if window number thread (size_of window thread == 0) refl) in
    listed_if window (ends_of window number) (nat_lt 10000 (length (ends_of window number))) refl each

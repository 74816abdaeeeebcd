-- What is found up to the limit, one part after another.
use Rattle.std.proofs.Common.{◌≡◌, refl, ap, ◌∙◌, sym, ℕ, suc, ◌+◌, ◌<◌, List, [], ◌∷◌, ◌++◌, map, length, drop, get_or}
use Rattle.std.specs.Prelude.{filter}
use Rattle.std.specs.List.{flat_map}
use Rattle.std.proofs.lemmas.List.{map-append}
use Rattle.gp_base.specs.FilterLaws.{flat_map_at}
use Rattle.gp_window.specs.declared.schedule.EventId.{EventId}
use Rattle.gp_window.specs.WindowForm.{WindowForm}
use Rattle.gp_instance.specs.declared.instance.Instance.{Instance}
use Rattle.gp_instance.specs.Instances.{numbered}
use Rattle.gp_instance.specs.LimitLaws.{first_then, one_choice}
use Rattle.gp_instance.specs.Search.{first_instances, instance_after}
use Rattle.gp_stuck.specs.Search.{closed, completions, cycles_from, going_on, may_follow, takers_of}

-- what was found closed, and what goes on
pub closed_then : (window : WindowForm) (first : EventId) (passed : List EventId) (last : EventId) (left fewer : ℕ) (found next : List Instance) (nexts : List EventId)
    → left ≡ suc fewer → flat_map (going_on window first passed fewer) nexts ≡ flat_map (going_on window first passed fewer) (filter (may_follow window first passed last) (takers_of window))
    → next ≡ first_instances found (map (instance_after 0 (first ∷ passed)) (closed window first passed last))
    → first_instances next (map (instance_after 0 (first ∷ passed)) (flat_map (going_on window first passed fewer) nexts))
    ≡ first_instances found (map (instance_after 0 (first ∷ passed)) (completions window (takers_of window) first passed last left))
closed_then window first passed last left fewer found next nexts more are is =
    let done : List (List EventId) = closed window first passed last in
    let others : List (List EventId) = flat_map (going_on window first passed fewer) nexts in
    first_then found next (map (instance_after 0 (first ∷ passed)) done) (map (instance_after 0 (first ∷ passed)) others) is
    ∙ ap (first_instances found) (sym (map-append (instance_after 0 (first ∷ passed)) done others))
    ∙ ap (λ more_lists. first_instances found (map (instance_after 0 (first ∷ passed)) (done ++ more_lists))) are
    ∙ ap (λ n. first_instances found (map (instance_after 0 (first ∷ passed)) (completions window (takers_of window) first passed last n))) (sym more)

-- one event more
pub one_step : (window : WindowForm) (first : EventId) (passed longer : List EventId) (fewer : ℕ) (found next : List Instance) (nexts : List EventId) (i : ℕ) (d : EventId) (all : List Instance)
    → i < length nexts → longer ≡ passed ++ get_or nexts i d ∷ []
    → next ≡ first_instances found (map (instance_after 0 (first ∷ longer)) (completions window (takers_of window) first longer (get_or nexts i d) fewer))
    → first_instances found (map (instance_after 0 (first ∷ passed)) (flat_map (going_on window first passed fewer) (drop i nexts))) ≡ all
    → first_instances next (map (instance_after 0 (first ∷ passed)) (flat_map (going_on window first passed fewer) (drop (i + 1) nexts))) ≡ all
one_step window first passed longer fewer found next nexts i d all below is_longer is walk =
    let id : EventId = get_or nexts i d in
    one_choice found next 0 (first ∷ passed) id (completions window (takers_of window) first (passed ++ id ∷ []) id fewer) (flat_map (going_on window first passed fewer) (drop (i + 1) nexts))
    (is ∙ ap (λ front. first_instances found (map (instance_after 0 (first ∷ front)) (completions window (takers_of window) first front id fewer))) is_longer)
    ∙ ap (λ rest. first_instances found (map (instance_after 0 (first ∷ passed)) rest)) (sym (flat_map_at (going_on window first passed fewer) nexts i (i + 1) d refl below))
    ∙ walk

-- one first event more
pub start_step : (window : WindowForm) (found next : List Instance) (starts : List EventId) (i : ℕ) (d : EventId) (all : List Instance)
    → i < length starts
    → next ≡ first_instances found (map (instance_after 0 (get_or starts i d ∷ [])) (completions window (takers_of window) (get_or starts i d) [] (get_or starts i d) 3))
    → first_instances found (map (numbered 0) (flat_map (cycles_from window (takers_of window)) (drop i starts))) ≡ all
    → first_instances next (map (numbered 0) (flat_map (cycles_from window (takers_of window)) (drop (i + 1) starts))) ≡ all
start_step window found next starts i d all below is walk =
    let id : EventId = get_or starts i d in
    one_choice found next 0 [] id (completions window (takers_of window) id [] id 3) (flat_map (cycles_from window (takers_of window)) (drop (i + 1) starts)) is
    ∙ ap (λ rest. first_instances found (map (numbered 0) rest)) (sym (flat_map_at (cycles_from window (takers_of window)) starts i (i + 1) d refl below))
    ∙ walk

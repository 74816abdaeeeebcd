-- What passes the search is what keeps the conditions of an instance.
use Rattle.std.proofs.Common.{◌≡◌, refl, ap, ◌∙◌, sym, ℕ, Bool, true, not, List, [], ◌∷◌, length, arith}
use Rattle.std.specs.Prelude.{◌&&◌, ◌||◌, ◌==◌, Option, Some, None}
use Rattle.std.specs.List.{list_all}
use Rattle.std.proofs.Math.Dec.{eqb-suc-suc, eqb-suc-zero, eqb-zero-suc}
use Rattle.gp_trace.specs.declared.event.Event.{Event}
use Rattle.gp_window.specs.declared.schedule.EventId.{EventId}
use Rattle.gp_property.specs.declared.atoms.PatternAtom.{PatternAtom}
use Rattle.gp_instance.specs.Instance.{agree, are_apart, bindings, Choice, choice_of, choices_of, closes, is_at, is_like_atom, is_same_mark, keep_region, keep_regions, keep_threads, keeps_conditions, rise}
use Rattle.gp_instance.specs.Pairs.{all_pairs}
use Rattle.gp_instance.specs.Search.{all_agree, chosen_of, end_if_opened, is_candidate, may_stand}
use Rattle.gp_instance.proofs.Bools.{both_tests, first_tests, search_order}
use Rattle.gp_instance.proofs.Pairs.{all_pairs_both, all_pairs-flat_map, list_all_both}
use Rattle.gp_instance.proofs.Passing.{passes}

-- each event passes the test of its atom
abbrev each_passes : (PatternAtom → EventId → Bool) → List PatternAtom → List EventId → Bool
each_passes test [] ids = true
each_passes test (atom ∷ atoms) [] = true
each_passes test (atom ∷ atoms) (id ∷ ids) = test atom id && each_passes test atoms ids

-- each event may stand beside those before it
abbrev each_stands : List (List Event) → List PatternAtom → List EventId → Bool
each_stands segments [] ids = true
each_stands segments (atom ∷ atoms) [] = true
each_stands segments (atom ∷ atoms) (id ∷ ids) =
    each_passes (may_stand segments (chosen_of segments atom id)) atoms ids && each_stands segments atoms ids

-- two tests of each event
each_passes_both : (p q : PatternAtom → EventId → Bool) (atoms : List PatternAtom) (ids : List EventId)
    → each_passes (λ atom id. p atom id && q atom id) atoms ids ≡ (each_passes p atoms ids && each_passes q atoms ids)
each_passes_both p q [] ids = refl
each_passes_both p q (atom ∷ atoms) [] = refl
each_passes_both p q (atom ∷ atoms) (id ∷ ids) =
    ap (λ rest. (p atom id && q atom id) && rest) (each_passes_both p q atoms ids) ∙ both_tests (p atom id) (q atom id) (each_passes p atoms ids) (each_passes q atoms ids)

-- events pass where there are as many as atoms, each passes its test, and each may stand beside those before it
passes_each : (segments : List (List Event)) (test : PatternAtom → EventId → Bool) (atoms : List PatternAtom) (ids : List EventId)
    → passes segments test atoms ids ≡ ((length ids == length atoms) && (each_passes test atoms ids && each_stands segments atoms ids))
passes_each segments test [] [] = refl
passes_each segments test [] (id ∷ ids) = ap (λ same. same && true) (sym (eqb-suc-zero (length ids)))
passes_each segments test (atom ∷ atoms) [] = ap (λ same. same && true) (sym (eqb-zero-suc (length atoms)))
passes_each segments test (atom ∷ atoms) (id ∷ ids) =
    let stands = may_stand segments (chosen_of segments atom id) in
    ap (λ rest. test atom id && rest) (passes_each segments (λ later other. test later other && stands later other) atoms ids)
    ∙ ap (λ each. test atom id && ((length ids == length atoms) && (each && each_stands segments atoms ids))) (each_passes_both test stands atoms ids)
    ∙ first_tests (test atom id) (length ids == length atoms) (each_passes test atoms ids) (each_passes stands atoms ids) (each_stands segments atoms ids)
    ∙ ap (λ same. same && (each_passes test (atom ∷ atoms) (id ∷ ids) && each_stands segments (atom ∷ atoms) (id ∷ ids))) (sym (eqb-suc-suc (length ids) (length atoms)))

-- one choice by itself
abbrev keeps_alone : Choice → Bool
keeps_alone choice = is_like_atom choice && all_pairs agree (bindings choice)

-- two choices, in the order of the search
abbrev keep_both : List (List Event) → Choice → Choice → Bool
keep_both segments one other =
    keep_threads one other && are_apart one other && rise one other && keep_regions segments one other && all_agree (bindings one) (bindings other)

-- candidates are choices that are kept by themselves
candidate_is : (segments : List (List Event)) (atom : PatternAtom) (id : EventId) → is_candidate segments atom id ≡ keeps_alone (choice_of segments atom id)
unfolding is_candidate
candidate_is segments atom id = refl

-- where an atom opens no region, nothing is wanted of the end of its region
region_wanted : (segments : List (List Event)) (opens closing : Option ℕ) (id other : EventId)
    → (not (is_same_mark opens closing) || (id.thread == other.thread && is_at (end_if_opened segments opens id) other.index))
    ≡ (not (is_same_mark opens closing) || closes segments id other)
region_wanted segments None closing id other = refl
region_wanted segments (Some n) closing id other = refl

-- joining from the left and from the right
joined : (t a r e o g : Bool) → (t && a && r && e && o && g) ≡ (t && a && r && (e && o) && g)
joined t a r e o g = grind arith

-- what may stand beside a choice is what is kept with it
stand_is : (segments : List (List Event)) (atom : PatternAtom) (id : EventId) (later : PatternAtom) (other : EventId)
    → may_stand segments (chosen_of segments atom id) later other ≡ keep_both segments (choice_of segments atom id) (choice_of segments later other)
unfolding may_stand
stand_is segments atom id later other =
    let one = choice_of segments atom id in
    let two = choice_of segments later other in
    let opened = not (is_same_mark later.opens atom.closes) || closes segments other id in
    let agreed = all_agree (bindings one) (bindings two) in
    ap (λ ends. keep_threads one two && are_apart one two && rise one two && ends && opened && agreed) (region_wanted segments atom.opens later.closes id other)
    ∙ joined (keep_threads one two) (are_apart one two) (rise one two) (keep_region segments one two) opened agreed

-- tests of events as tests of choices
each_choice : (segments : List (List Event)) (test : PatternAtom → EventId → Bool) (kept : Choice → Bool)
    → ((atom : PatternAtom) (id : EventId) → test atom id ≡ kept (choice_of segments atom id))
    → (atoms : List PatternAtom) (ids : List EventId) → each_passes test atoms ids ≡ list_all kept (choices_of segments atoms ids)
each_choice segments test kept same [] ids = refl
each_choice segments test kept same (atom ∷ atoms) [] = refl
each_choice segments test kept same (atom ∷ atoms) (id ∷ ids) =
    ap (λ first. first && each_passes test atoms ids) (same atom id)
    ∙ ap (λ rest. kept (choice_of segments atom id) && rest) (each_choice segments test kept same atoms ids)

-- events that may stand beside one another as choices that are kept together
each_stands_choice : (segments : List (List Event)) (atoms : List PatternAtom) (ids : List EventId)
    → each_stands segments atoms ids ≡ all_pairs (keep_both segments) (choices_of segments atoms ids)
each_stands_choice segments [] ids = refl
each_stands_choice segments (atom ∷ atoms) [] = refl
each_stands_choice segments (atom ∷ atoms) (id ∷ ids) =
    ap (λ first. first && each_stands segments atoms ids) (each_choice segments (may_stand segments (chosen_of segments atom id)) (keep_both segments (choice_of segments atom id)) (stand_is segments atom id) atoms ids)
    ∙ ap (λ rest. list_all (keep_both segments (choice_of segments atom id)) (choices_of segments atoms ids) && rest) (each_stands_choice segments atoms ids)

-- the conditions on choices by themselves and on each two are the six conditions
six_conditions : (segments : List (List Event)) (choices : List Choice)
    → (list_all keeps_alone choices && all_pairs (keep_both segments) choices) ≡ keeps_conditions segments choices
six_conditions segments choices =
    let alone = list_all_both is_like_atom (λ choice. all_pairs agree (bindings choice)) choices in
    let agreed : Choice → Choice → Bool = λ one other. all_agree (bindings one) (bindings other) in
    let regions = all_pairs_both (λ one other. keep_threads one other && are_apart one other && rise one other && keep_regions segments one other) agreed choices in
    let rising = all_pairs_both (λ one other. keep_threads one other && are_apart one other && rise one other) (keep_regions segments) choices in
    let apart = all_pairs_both (λ one other. keep_threads one other && are_apart one other) rise choices in
    let threads = all_pairs_both keep_threads are_apart choices in
    ap (λ first. first && all_pairs (keep_both segments) choices) alone
    ∙ ap (λ rest. (list_all is_like_atom choices && list_all (λ choice. all_pairs agree (bindings choice)) choices) && rest)
    (regions ∙ ap (λ r. r && all_pairs agreed choices) (rising ∙ ap (λ r. r && all_pairs (keep_regions segments) choices) (apart ∙ ap (λ r. r && all_pairs rise choices) threads)))
    ∙ search_order (list_all is_like_atom choices) (list_all (λ choice. all_pairs agree (bindings choice)) choices) (all_pairs keep_threads choices) (all_pairs are_apart choices) (all_pairs rise choices) (all_pairs (keep_regions segments) choices) (all_pairs agreed choices)
    ∙ ap (λ parameters. list_all is_like_atom choices && parameters && all_pairs keep_threads choices && all_pairs (keep_regions segments) choices && all_pairs are_apart choices && all_pairs rise choices)
    (sym (all_pairs-flat_map agree bindings choices))

-- what passes is as long as the pattern and keeps the conditions
pub passes_conditions : (segments : List (List Event)) (atoms : List PatternAtom) (ids : List EventId)
    → passes segments (is_candidate segments) atoms ids ≡ ((length ids == length atoms) && keeps_conditions segments (choices_of segments atoms ids))
passes_conditions segments atoms ids =
    passes_each segments (is_candidate segments) atoms ids
    ∙ ap (λ kept. (length ids == length atoms) && kept)
    (ap (λ alone. alone && each_stands segments atoms ids) (each_choice segments (is_candidate segments) keeps_alone (candidate_is segments) atoms ids)
    ∙ ap (λ stands. list_all keeps_alone (choices_of segments atoms ids) && stands) (each_stands_choice segments atoms ids)
    ∙ six_conditions segments (choices_of segments atoms ids))

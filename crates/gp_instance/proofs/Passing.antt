-- The search finds exactly the lists that pass, one condition on each choice and one on each two.
use Rattle.std.proofs.Common.{◌≡◌, refl, ap, ◌∙◌, sym, Bool, true, false, List, [], ◌∷◌, map, length}
use Rattle.std.specs.Prelude.{filter, ◌&&◌}
use Rattle.gp_base.specs.FilterLaws.{filter-filter, filter_begun, flat_map_agree}
use Rattle.gp_trace.specs.declared.event.Event.{Event}
use Rattle.gp_window.specs.declared.schedule.EventId.{EventId}
use Rattle.gp_property.specs.declared.atoms.PatternAtom.{PatternAtom}
use Rattle.gp_instance.specs.Instances.{lists_of}
use Rattle.gp_instance.specs.Search.{chosen_of, may_stand, narrowed, search}

-- the events pass the test of their atoms, and each may stand beside those before it
abbrev pub passes : List (List Event) → (PatternAtom → EventId → Bool) → List PatternAtom → List EventId → Bool
passes segments test [] [] = true
passes segments test [] (id ∷ ids) = false
passes segments test (atom ∷ atoms) [] = false
passes segments test (atom ∷ atoms) (id ∷ ids) =
    test atom id && passes segments (λ later other. test later other && may_stand segments (chosen_of segments atom id) later other) atoms ids

-- narrowing events that pass one test gives those that pass both
narrowed_filter : (segments : List (List Event)) (test : PatternAtom → EventId → Bool) (all : List EventId) (atom : PatternAtom) (id : EventId) (atoms : List PatternAtom)
    → narrowed segments (chosen_of segments atom id) atoms (map (λ later. filter (test later) all) atoms)
    ≡ map (λ later. filter (λ other. test later other && may_stand segments (chosen_of segments atom id) later other) all) atoms
narrowed_filter segments test all atom id [] = refl
narrowed_filter segments test all atom id (later ∷ atoms) =
    ap (λ first. first ∷ narrowed segments (chosen_of segments atom id) atoms (map (λ other. filter (test other) all) atoms)) (filter-filter (test later) (may_stand segments (chosen_of segments atom id) later) all)
    ∙ ap (λ rest. filter (λ other. test later other && may_stand segments (chosen_of segments atom id) later other) all ∷ rest) (narrowed_filter segments test all atom id atoms)

-- the search over the events that pass a test
pub search_passes : (segments : List (List Event)) (all : List EventId) (atoms : List PatternAtom) (test : PatternAtom → EventId → Bool)
    → search segments atoms (map (λ atom. filter (test atom) all) atoms) ≡ filter (passes segments test atoms) (lists_of (length atoms) all)
search_passes segments all [] test = refl
search_passes segments all (atom ∷ atoms) test =
    let later : EventId → PatternAtom → EventId → Bool = λ id other event. test other event && may_stand segments (chosen_of segments atom id) other event in
    flat_map_agree _ (λ id. map (λ rest. id ∷ rest) (filter (passes segments (later id) atoms) (lists_of (length atoms) all))) (λ id.
    ap (λ domains. map (λ rest. id ∷ rest) (search segments atoms domains)) (narrowed_filter segments test all atom id atoms)
    ∙ ap (map (λ rest. id ∷ rest)) (search_passes segments all atoms (later id))) (filter (test atom) all)
    ∙ sym (filter_begun (passes segments test (atom ∷ atoms)) (test atom) (λ id. passes segments (later id) atoms) all (lists_of (length atoms) all) (λ id rest. refl))

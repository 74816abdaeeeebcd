-- The search goes over the events of one atom: what each of them completes, one after another, is what all of them complete.
use Rattle.std.proofs.Common.{◌≡◌, refl, ap, ◌∙◌, sym, ℕ, ◌+◌, ◌<◌, List, [], ◌∷◌, ◌++◌, map, length, drop, get_or, arith}
use Rattle.std.specs.List.{flat_map}
use Rattle.gp_base.specs.FilterLaws.{flat_map_at}
use Rattle.gp_trace.specs.declared.event.Event.{Event}
use Rattle.gp_window.specs.declared.schedule.EventId.{EventId}
use Rattle.gp_property.specs.declared.atoms.PatternAtom.{PatternAtom}
use Rattle.gp_instance.specs.declared.instance.Instance.{Instance}
use Rattle.gp_instance.specs.Instances.{numbered}
use Rattle.gp_instance.specs.LimitLaws.{no_more, one_choice}
use Rattle.gp_instance.specs.Search.{candidates_of, chosen_of, first_instances, instance_after, narrowed, search}

-- the lists that begin with this event
abbrev pub completed : List (List Event) → PatternAtom → List PatternAtom → List (List EventId) → EventId → List (List EventId)
completed segments atom later others id = map (λ rest. id ∷ rest) (search segments later (narrowed segments (chosen_of segments atom id) later others))

-- one choice that leaves something for each later atom
pub alive_step : (found next : List Instance) (number : ℕ) (front longer : List EventId) (segments : List (List Event)) (atom : PatternAtom) (ids : List EventId) (i : ℕ) (d : EventId) (later : List PatternAtom) (others left : List (List EventId)) (all : List Instance)
    → i < length ids → longer ≡ front ++ get_or ids i d ∷ [] → search segments later left ≡ search segments later (narrowed segments (chosen_of segments atom (get_or ids i d)) later others)
    → next ≡ first_instances found (map (instance_after number longer) (search segments later left))
    → first_instances found (map (instance_after number front) (flat_map (completed segments atom later others) (drop i ids))) ≡ all
    → first_instances next (map (instance_after number front) (flat_map (completed segments atom later others) (drop (i + 1) ids))) ≡ all
alive_step found next number front longer segments atom ids i d later others left all below is_longer is_left is walk =
    let id = get_or ids i d in
    one_choice found next number front id (search segments later (narrowed segments (chosen_of segments atom id) later others)) (flat_map (completed segments atom later others) (drop (i + 1) ids))
    (is ∙ ap (λ begun. first_instances found (map (instance_after number begun) (search segments later left))) is_longer
    ∙ ap (λ lists. first_instances found (map (instance_after number (front ++ id ∷ [])) lists)) is_left)
    ∙ ap (λ lists. first_instances found (map (instance_after number front) lists)) (sym (flat_map_at (completed segments atom later others) ids i (i + 1) d refl below))
    ∙ walk

-- one choice after which nothing is found
pub dead_step : (found : List Instance) (number : ℕ) (front : List EventId) (segments : List (List Event)) (atom : PatternAtom) (ids : List EventId) (i : ℕ) (d : EventId) (later : List PatternAtom) (others : List (List EventId)) (all : List Instance)
    → i < length ids → search segments later (narrowed segments (chosen_of segments atom (get_or ids i d)) later others) ≡ []
    → first_instances found (map (instance_after number front) (flat_map (completed segments atom later others) (drop i ids))) ≡ all
    → first_instances found (map (instance_after number front) (flat_map (completed segments atom later others) (drop (i + 1) ids))) ≡ all
dead_step found number front segments atom ids i d later others all below none walk =
    ap (λ lists. first_instances found (map (instance_after number front) (map (λ more. get_or ids i d ∷ more) lists ++ flat_map (completed segments atom later others) (drop (i + 1) ids)))) (sym none)
    ∙ ap (λ lists. first_instances found (map (instance_after number front) lists)) (sym (flat_map_at (completed segments atom later others) ids i (i + 1) d refl below))
    ∙ walk

-- the search from the candidates of each atom
pub begun : (segments same : List (List Event)) (atoms : List PatternAtom) (number : ℕ) (domains : List (List EventId)) (none found : List Instance)
    → same ≡ segments → search same atoms domains ≡ search same atoms (map (candidates_of same) atoms) → none ≡ []
    → found ≡ first_instances none (map (instance_after number []) (search same atoms domains))
    → found ≡ first_instances [] (map (numbered number) (search segments atoms (map (candidates_of segments) atoms)))
begun segments same atoms number domains none found is are empty all =
    all
    ∙ ap (λ before. first_instances before (map (numbered number) (search same atoms domains))) empty
    ∙ ap (λ lists. first_instances [] (map (numbered number) lists)) are
    ∙ ap (λ from. first_instances [] (map (numbered number) (search from atoms (map (candidates_of from) atoms)))) is

-- no search, since nothing is found
pub never_begun : (segments same : List (List Event)) (atoms : List PatternAtom) (number : ℕ) (none : List Instance)
    → same ≡ segments → search same atoms (map (candidates_of same) atoms) ≡ [] → none ≡ []
    → none ≡ first_instances [] (map (numbered number) (search segments atoms (map (candidates_of segments) atoms)))
never_begun segments same atoms number none is nothing empty =
    empty
    ∙ no_more [] (omega arith)
    ∙ ap (λ lists. first_instances [] (map (numbered number) lists)) (sym nothing)
    ∙ ap (λ from. first_instances [] (map (numbered number) (search from atoms (map (candidates_of from) atoms)))) is

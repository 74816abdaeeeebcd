-- The search over the candidates finds exactly the instances.
use Rattle.std.proofs.Common.{◌≡◌, ◌∙◌, map, length}
use Rattle.std.proofs.lemmas.List.Elements.{filter_agree}
use Rattle.gp_window.specs.WindowForm.{WindowForm}
use Rattle.gp_property.specs.PropertyForm.{PropertyForm}
use Rattle.gp_property.specs.Atoms.{atoms_of}
use Rattle.gp_instance.specs.Instance.{is_instance}
use Rattle.gp_instance.specs.Instances.{ids_of, instances_of, lists_of}
use Rattle.gp_instance.specs.Search.{candidates_of, is_candidate, search}
use Rattle.gp_instance.proofs.Conditions.{passes_conditions}
use Rattle.gp_instance.proofs.Passing.{passes, search_passes}

-- what the search finds from the candidates of each atom
pub search_finds : (window : WindowForm) (property : PropertyForm)
    → search window.segments (atoms_of property) (map (candidates_of window.segments) (atoms_of property)) ≡ instances_of window property
search_finds window property =
    search_passes window.segments (ids_of window.segments) (atoms_of property) (is_candidate window.segments)
    ∙ filter_agree (passes window.segments (is_candidate window.segments) (atoms_of property)) (is_instance window property) (passes_conditions window.segments (atoms_of property)) (lists_of (length (atoms_of property)) (ids_of window.segments))

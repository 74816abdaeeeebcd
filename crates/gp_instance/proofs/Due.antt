-- The instances that were found are those that are due.
use Rattle.std.proofs.Common.{◌≡◌, ap, ◌∙◌, ℕ, ◌<◌, ◌≤◌, List, [], length, map}
use Rattle.std.specs.Prelude.{Ok, Err}
use Rattle.gp_window.specs.WindowForm.{WindowForm}
use Rattle.gp_property.specs.PropertyForm.{PropertyForm}
use Rattle.gp_instance.specs.declared.instance.Instance.{Instance}
use Rattle.gp_instance.specs.declared.instance.InstancesFault.TheVariants.{TooMany}
use Rattle.gp_property.specs.Atoms.{atoms_of}
use Rattle.gp_instance.specs.Instances.{due_instances, instances_of, numbered}
use Rattle.gp_instance.specs.LimitLaws.{all_due, many_due}
use Rattle.gp_instance.specs.Search.{candidates_of, first_instances, search}
use Rattle.gp_instance.proofs.Found.{search_finds}

-- what the search of a window finds up to the limit
abbrev pub found_of : WindowForm → PropertyForm → ℕ → List Instance
found_of window property number =
    first_instances [] (map (numbered number) (search window.segments (atoms_of property) (map (candidates_of window.segments) (atoms_of property))))

-- the same of the instances
found_is : (window : WindowForm) (property : PropertyForm) (number : ℕ) → found_of window property number ≡ first_instances [] (map (numbered number) (instances_of window property))
found_is window property number = ap (λ lists. first_instances [] (map (numbered number) lists)) (search_finds window property)

-- too many
pub due_too_many : (window : WindowForm) (property : PropertyForm) (number : ℕ) (found : List Instance)
    → found ≡ found_of window property number → 10000 < length found → Err TooMany ≡ due_instances window property number
unfolding due_instances
due_too_many window property number found is over = many_due number (instances_of window property) found (is ∙ found_is window property number) over

-- not too many
pub due_all : (window : WindowForm) (property : PropertyForm) (number : ℕ) (found : List Instance)
    → found ≡ found_of window property number → length found ≤ 10000 → Ok found ≡ due_instances window property number
unfolding due_instances
due_all window property number found is few = all_due number (instances_of window property) found (is ∙ found_is window property number) few

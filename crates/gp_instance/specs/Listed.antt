-- The list of instances in plain words: it has the instances and nothing else, in lexicographic order, none twice.
use Rattle.std.specs.Prelude.{◌≡◌, ◌↔◌, ◌⊎◌, true, List, [], ◌∷◌, Contains}
use Rattle.gp_base.specs.ListLaws.{Pairwise}
use Rattle.gp_window.specs.declared.schedule.EventId.{EventId}
use Rattle.gp_window.specs.WindowForm.{WindowForm}
use Rattle.gp_window.specs.Ids.{IsLess}
use Rattle.gp_property.specs.PropertyForm.{PropertyForm}
use Rattle.gp_instance.specs.Instance.{is_instance}
use Rattle.gp_instance.specs.Instances.{instances_of}

-- a list of events before another: at the first place where they differ it has the lesser event
abbrev pub IsBefore : List EventId → List EventId → Type 0
IsBefore [] [] = ⊥
IsBefore [] (other ∷ others) = Unit {0}
IsBefore (one ∷ ones) [] = ⊥
IsBefore (one ∷ ones) (other ∷ others) = IsLess one other ⊎ ((one ≡ other) × IsBefore ones others)

-- the list has exactly the instances, and each stands before those that follow it
pub record ListsExactly : Type 0 where
  pub all : (window : WindowForm) (property : PropertyForm) (ids : List EventId)
      → Contains (instances_of window property) ids ↔ (is_instance window property ids ≡ true)
  pub ordered : (window : WindowForm) (property : PropertyForm) → Pairwise IsBefore (instances_of window property)

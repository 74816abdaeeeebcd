-- The list of instances holds each of them.
use Rattle.std.proofs.Common.{◌≡◌, refl, subst, eqb-true, true, List, [], ◌∷◌, length, arith}
use Rattle.std.specs.Prelude.{Contains, Option, Some, None}
use Rattle.std.specs.List.{AllByRecursion, list_all}
use Rattle.std.proofs.lemmas.Bool.{and_parts}
use Rattle.gp_base.specs.FilterLaws.{contains_filter, contains_from_filter}
use Rattle.gp_trace.specs.declared.event.Event.{Event}
use Rattle.gp_window.specs.declared.schedule.EventId.{EventId}
use Rattle.gp_window.specs.Events.{event_in}
use Rattle.gp_window.specs.WindowForm.{WindowForm}
use Rattle.gp_property.specs.PropertyForm.{PropertyForm}
use Rattle.gp_property.specs.declared.property.Shape.{Shape}
use Rattle.gp_property.specs.declared.atoms.PatternAtom.{PatternAtom}
use Rattle.gp_property.specs.Atoms.{atoms_of}
use Rattle.gp_instance.specs.IdsLaws.{event_listed, list_listed}
use Rattle.gp_instance.specs.Instance.{choices_of, fits_shape, is_instance, is_like_atom, keeps_conditions}
use Rattle.gp_instance.specs.Instances.{ids_of, instances_of, lists_of}

-- an event that has its atom's shape is there
fitting_there : (shape : Shape) (found : Option Event) → fits_shape shape found ≡ true → (event : Event) × (found ≡ Some event)
fitting_there shape None fits = absurd (cc)
fitting_there shape (Some event) fits = (event, refl)

-- the events of choices that are like their atoms are events of the window
all_held : (segments : List (List Event)) (atoms : List PatternAtom) (ids : List EventId) → length ids ≡ length atoms
    → list_all is_like_atom (choices_of segments atoms ids) ≡ true → AllByRecursion (Contains (ids_of segments)) ids
all_held segments atoms [] long like = tt
all_held segments [] (id ∷ ids) long like = absurd (omega arith)
all_held segments (atom ∷ atoms) (id ∷ ids) long like =
    let pass = and_parts _ _ like in
    let there = fitting_there atom.shape (event_in segments id) pass.0 in
    (event_listed segments id.thread id.index there.0 there.1, all_held segments atoms ids (omega arith) pass.1)

-- the first of the six conditions
first_condition : (segments : List (List Event)) (atoms : List PatternAtom) (ids : List EventId) → keeps_conditions segments (choices_of segments atoms ids) ≡ true → list_all is_like_atom (choices_of segments atoms ids) ≡ true
first_condition segments atoms ids keeps = (and_parts _ _ (and_parts _ _ (and_parts _ _ (and_parts _ _ (and_parts _ _ keeps).0).0).0).0).0

-- an instance is one of the lists
pub instance_held : (window : WindowForm) (property : PropertyForm) (ids : List EventId) → is_instance window property ids ≡ true → Contains (instances_of window property) ids
instance_held window property ids is =
    let pass = and_parts _ _ is in
    let long : length ids ≡ length (atoms_of property) = eqb-true (length ids) (length (atoms_of property)) pass.0 in
    let lists = subst (λ n. Contains (lists_of n (ids_of window.segments)) ids) long (list_listed (ids_of window.segments) ids (all_held window.segments (atoms_of property) ids long (first_condition window.segments (atoms_of property) ids pass.1))) in
    contains_filter (is_instance window property) (lists_of (length (atoms_of property)) (ids_of window.segments)) ids lists is

-- each of the lists is an instance
pub held_instance : (window : WindowForm) (property : PropertyForm) (ids : List EventId) → Contains (instances_of window property) ids → is_instance window property ids ≡ true
held_instance window property ids holds = (contains_from_filter (is_instance window property) (lists_of (length (atoms_of property)) (ids_of window.segments)) ids holds).1

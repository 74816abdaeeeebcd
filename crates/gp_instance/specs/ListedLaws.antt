-- Laws: what the list of instances says of each that it has.
use Rattle.std.specs.Prelude.{ℕ, ◌≡◌, ◌≤◌, ◌==◌, Bool, true, false, nat_lt, List, [], ◌∷◌, length, map, All, Result, Ok, Err, if◌then◌else◌}
use Rattle.std.specs.List.{AllByRecursion}
use Rattle.std.proofs.Common.{refl, subst, sym, arith, eqb-true}
use Rattle.std.proofs.lemmas.Bool.{and_parts}
use Rattle.std.proofs.lemmas.Bool.Decides.{nat_tests}
use Rattle.std.proofs.lemmas.List.{length-map}
use Rattle.std.proofs.lemmas.List.Elements.{All-weaker, All-from_recursion, filter_passes, recursion_from_All}
use Rattle.gp_window.specs.declared.schedule.EventId.{EventId}
use Rattle.gp_window.specs.WindowForm.{WindowForm}
use Rattle.gp_property.specs.Atoms.{atoms_of}
use Rattle.gp_property.specs.Laws.{AtomsKept}
use Rattle.gp_property.specs.Property.{IsProperty}
use Rattle.gp_property.specs.PropertyForm.{PropertyForm}
use Rattle.gp_instance.specs.declared.instance.Instance.{Instance}
use Rattle.gp_instance.specs.declared.instance.InstancesFault.{InstancesFault}
use Rattle.gp_instance.specs.declared.instance.InstancesFault.TheVariants.{Memory, TooMany}
use Rattle.gp_instance.specs.Instance.{choices_of, is_instance, keeps_conditions}
use Rattle.gp_instance.specs.Instances.{due_instances, ids_of, instances_of, lists_of, numbered}

-- what is listed is too many, or at most 10,000 instances, and this holds of the events of each
abbrev pub ListsEach : (List EventId → Type 0) → Result (List Instance) InstancesFault → Type 0
ListsEach P (Ok listed) = (length listed ≤ 10000) × AllByRecursion (λ (instance : Instance). P instance.events) listed
ListsEach P (Err TooMany) = Unit {0}
ListsEach P (Err Memory) = ⊥

each_numbered : (P : List EventId → Type 0) (number : ℕ) (lists : List (List EventId)) → AllByRecursion P lists
    → AllByRecursion (λ (instance : Instance). P instance.events) (map (numbered number) lists)
each_numbered P number [] each = tt
each_numbered P number (ids ∷ lists) each = (each.0, each_numbered P number lists each.1)

listed_where : (P : List EventId → Type 0) (number : ℕ) (lists : List (List EventId)) (many : Bool) → nat_lt 10000 (length lists) ≡ many → AllByRecursion P lists
    → ListsEach P (if many then Err TooMany else Ok (map (numbered number) lists))
listed_where P number lists true test each = tt
listed_where P number lists false test each = (simp length-map (grind (arith, nat_tests)), each_numbered P number lists each)

-- what holds of the events of each instance holds of those of each that is listed
pub each_listed : (P : List EventId → Type 0) (window : WindowForm) (property : PropertyForm) (number : ℕ) → ((ids : List EventId) → is_instance window property ids ≡ true → P ids)
    → ListsEach P (due_instances window property number)
unfolding due_instances
each_listed P window property number holds =
    let found : List (List EventId) = instances_of window property in
    let each : All (λ ids. is_instance window property ids ≡ true) found = filter_passes (is_instance window property) (lists_of (length (atoms_of property)) (ids_of window.segments)) in
    listed_where P number found (nat_lt 10000 (length found)) refl (recursion_from_All P found (All-weaker (λ ids. is_instance window property ids ≡ true) P holds found each))

-- all of these are instances of a property
abbrev pub AreInstances : WindowForm → PropertyForm → List Instance → Type 0
AreInstances window property instances = All (λ (instance : Instance). is_instance window property instance.events ≡ true) instances

-- each that is listed is an instance
pub are_instances : (window : WindowForm) (property : PropertyForm) (number : ℕ) (listed : List Instance) → Ok listed ≡ due_instances window property number → AreInstances window property listed
are_instances window property number listed is =
    let holds : List EventId → Type 0 = λ ids. is_instance window property ids ≡ true in
    let each : ListsEach holds (Ok listed) = subst (ListsEach holds) (sym is) (each_listed holds window property number (λ ids instance. instance)) in
    All-from_recursion (λ (instance : Instance). holds instance.events) listed each.1

-- events are an instance, of one to six events
pub record IsListed (window : WindowForm) (property : PropertyForm) (ids : List EventId) : Type 0 where
  pub instance : is_instance window property ids ≡ true
  pub some : 1 ≤ length ids
  pub few : length ids ≤ 6

-- what is listed is too many, or at most 10,000 such instances
abbrev pub AreListed : WindowForm → PropertyForm → Result (List Instance) InstancesFault → Type 0
AreListed window property due = ListsEach (IsListed window property) due

-- an instance has an event for each atom, and a property has one to six atoms
pub is_listed : AtomsKept → (window : WindowForm) (property : PropertyForm) → IsProperty property → (ids : List EventId) → is_instance window property ids ≡ true → IsListed window property ids
is_listed kept window property is ids instance =
    let has = kept property is in
    let parts = and_parts (length ids == length (atoms_of property)) (keeps_conditions window.segments (choices_of window.segments (atoms_of property) ids)) instance in
    let size : length ids ≡ length (atoms_of property) = eqb-true (length ids) (length (atoms_of property)) parts.0 in
    record { instance = instance; some = omega (arith, size, has.some); few = omega (arith, size, has.most) }

-- what is listed of a property of the language is listed so
pub are_listed : AtomsKept → (window : WindowForm) (property : PropertyForm) (number : ℕ) → IsProperty property → AreListed window property (due_instances window property number)
are_listed kept window property number is = each_listed (IsListed window property) window property number (is_listed kept window property is)

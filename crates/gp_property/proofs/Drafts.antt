-- Properties that are begun, and what finishes them.
use Rattle.std.proofs.Common.{◌≡◌, refl, ap, ◌∙◌, ℕ, ◌<◌, Bool, true, false, List, [], ◌∷◌, ◌++◌, length, arith, append_assoc, append-nil, length-append, inl, inr, lit≤}
use Rattle.std.specs.Prelude.{Some, None, Result, Ok, Err, codes, if◌then◌else◌}
use Rattle.std.specs.List.{AllByRecursion}
use Rattle.std.specs.Str.{bytes_eq}
use Rattle.gp_text.specs.Name.{is_name, name_of}
use Rattle.gp_text.specs.Numbers.{OneSpelling}
use Rattle.gp_property.specs.declared.fault.PropertyFault.{PropertyFault}
use Rattle.gp_property.specs.declared.fault.PropertyFault.TheVariants.{RegionUse, TooManyAtoms, UnknownEvent}
use Rattle.gp_property.specs.declared.property.EventDef.{EventDef}
use Rattle.gp_property.specs.declared.property.PatternStep.{PatternStep}
use Rattle.gp_property.specs.Atoms.{atoms_from}
use Rattle.gp_property.specs.Checks.{are_defined, are_well_used, checked_pattern, has_too_many, is_defined}
use Rattle.gp_property.specs.Draft.{IsDraft}
use Rattle.gp_property.specs.Property.{AreNewEvents, AreSteps, IsEvent, IsProperty}
use Rattle.gp_property.specs.PropertyForm.{PropertyForm}
use Rattle.gp_property.specs.Reading.{property_name_of}
use Rattle.gp_property.specs.Pattern.{pattern_of}
use Rattle.gp_property.specs.Shape.{definition_of}
use Rattle.gp_property.proofs.Bytes.{either, name_read, same_bytes}
use Rattle.gp_property.proofs.PatternRead.{pattern_read}
use Rattle.gp_property.proofs.ShapeRead.{definition_read}

-- one more at the end
pub all_more : {A : Type 0} (P : A → Type 0) (xs : List A) (x : A) → AllByRecursion P xs → P x → AllByRecursion P (xs ++ x ∷ [])
all_more P [] x are is = (is, tt)
all_more P (y ∷ xs) x are is = (are.0, all_more P xs x are.1 is)

new_event : (before events : List EventDef) (event : EventDef) → AreNewEvents before events → is_defined (before ++ events) event.name ≡ false
    → AreNewEvents before (events ++ event ∷ [])
new_event before [] event are new =
    let here : is_defined before event.name ≡ false = rw append-nil at new in
    (here, tt)
new_event before (first ∷ events) event are new =
    let later : is_defined ((before ++ first ∷ []) ++ events) event.name ≡ false =
    ap (λ all. is_defined all event.name) (append_assoc before (first ∷ []) events) ∙ new in
    (are.0, new_event (before ++ first ∷ []) events event are.1 later)

-- `property name`
pub name_from : (words : List (List ℕ)) (name : List ℕ) → property_name_of words ≡ Some name → (words ≡ codes "property" ∷ name ∷ []) × (is_name name ≡ true)
name_from [] name e = (cc)
name_from (keyword ∷ []) name e = (cc)
name_from (keyword ∷ word ∷ []) name e =
    elim (either (bytes_eq keyword (codes "property")) (name_of word) None (Some name) e) [
      | inl same ↦
          let read = name_read word name same.1 in
          (rw (same_bytes keyword (codes "property") same.0, read.0) refl, read.1)
      | inr other ↦ (cc)
    ]
name_from (keyword ∷ word ∷ next ∷ words) name e = (cc)

-- a property that is just begun
pub no_events : (name : List ℕ) → is_name name ≡ true → IsDraft (record { name = name; events = [] })
no_events name named = record { named = named; events = tt; some_events = lit≤ tt; new_events = tt }

-- one event more
pub event_more : (name : List ℕ) (events : List EventDef) (event : EventDef) → IsDraft (record { name = name; events = events })
    → IsEvent event → length events < 16 → is_defined events event.name ≡ false
    → IsDraft (record { name = name; events = events ++ event ∷ [] })
event_more name events event is event_is room new = record {
  named = is.named;
  events = all_more IsEvent events event is.events event_is;
  some_events = omega (arith, length-append events (event ∷ []));
  new_events = new_event [] events event is.new_events new;
}

-- the event of a line is added
pub event_added : OneSpelling → (name : List ℕ) (events more : List EventDef) (event : EventDef) (words : List (List ℕ))
    → IsDraft (record { name = name; events = events }) → definition_of words ≡ Some event
    → length events < 16 → is_defined events event.name ≡ false → more ≡ events ++ event ∷ []
    → IsDraft (record { name = name; events = more })
event_added spelled name events more event words is read room new made =
    rw made (event_more name events event is (definition_read spelled words event read).1 room new)

-- a pattern that breaks no rule
pub record IsKept (events : List EventDef) (pattern : List PatternStep) : Type 0 where
  pub few : has_too_many pattern ≡ false
  pub known : are_defined events pattern ≡ true
  pub regions : are_well_used (atoms_from events 0 pattern) ≡ true

abbrev no_fault : Result (Unit {0}) PropertyFault
no_fault = Ok tt

kept_by : (many known used : Bool) (number : ℕ)
    → (if many then Err (TooManyAtoms number) else (if known then (if used then no_fault else Err (RegionUse number)) else Err (UnknownEvent number))) ≡ no_fault
    → (many ≡ false) × (known ≡ true) × (used ≡ true)
kept_by true known used number e = (cc)
kept_by false true true number e = (refl, refl, refl)
kept_by false true false number e = (cc)
kept_by false false used number e = (cc)

pub kept : (number : ℕ) (events : List EventDef) (pattern : List PatternStep) → checked_pattern number events pattern ≡ Ok tt → IsKept events pattern
unfolding checked_pattern
kept number events pattern e =
    let by = kept_by (has_too_many pattern) (are_defined events pattern) (are_well_used (atoms_from events 0 pattern)) number e in
    record { few = by.0; known = by.1; regions = by.2 }

-- a pattern that breaks no rule finishes a property
pub finished_draft : (property : PropertyForm) → IsDraft (record { name = property.name; events = property.events })
    → AreSteps property.pattern → IsKept property.events property.pattern → IsProperty property
finished_draft property is steps keeps = record {
  named = is.named;
  events = is.events;
  some_events = is.some_events;
  new_events = is.new_events;
  steps = steps;
  few_atoms = keeps.few;
  known = keeps.known;
  regions = keeps.regions;
}

-- the pattern of a line finishes a property
pub pattern_added : (name : List ℕ) (events : List EventDef) (pattern : List PatternStep) (words : List (List ℕ)) (number : ℕ)
    → IsDraft (record { name = name; events = events }) → pattern_of words ≡ Some pattern → checked_pattern number events pattern ≡ Ok tt
    → IsProperty (record { name = name; events = events; pattern = pattern })
pattern_added name events pattern words number is read checked =
    finished_draft (record { name = name; events = events; pattern = pattern }) is (pattern_read words pattern read).1 (kept number events pattern checked)

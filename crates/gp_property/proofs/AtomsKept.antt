-- The atoms of a property of the language.
use Rattle.std.proofs.Common.{◌≡◌, refl, ℕ, ◌+◌, ◌≤◌, Bool, true, false, List, [], ◌∷◌, length, arith, length-append}
use Rattle.std.specs.Prelude.{Option, Some, ◌||◌, if◌then◌else◌, flat_map, nat_lt}
use Rattle.std.specs.List.{AllByRecursion, list_all, list_any}
use Rattle.std.specs.Str.{bytes_eq}
use Rattle.std.proofs.lemmas.Bool.{and_parts, ltb-false, or_parts}
use Rattle.std.proofs.lemmas.List.Sums.{sum_by-cons}
use Rattle.gp_property.specs.declared.property.Atom.{Atom}
use Rattle.gp_property.specs.declared.property.EventDef.{EventDef}
use Rattle.gp_property.specs.declared.property.PatternStep.{PatternStep}
use Rattle.gp_property.specs.declared.property.Shape.{Shape}
use Rattle.gp_property.specs.Atoms.{atom_count, atoms_from, placed, placed_with, shape_named}
use Rattle.gp_property.specs.Checks.{are_defined, is_defined, is_wide}
use Rattle.gp_property.specs.Laws.{AtomsKept, HasAtoms, IsStep}
use Rattle.gp_property.specs.Property.{AreAtoms, AreSteps, IsProperty}
use Rattle.gp_property.specs.PropertyForm.{PropertyForm}
use Rattle.gp_property.proofs.ShortWords.{each_step}

-- an event that is defined has a shape
one_shape : (same : Bool) (shape : Shape) (other : Option Shape) (rest : Bool) (n : ℕ) (atom : Atom)
    → (same || rest) ≡ true → (rest ≡ true → length (placed_with n atom other) ≡ 1)
    → length (placed_with n atom (if same then Some shape else other)) ≡ 1
one_shape true shape other rest n atom is later = refl
one_shape false shape other rest n atom is later = later is

one_each : (events : List EventDef) (n : ℕ) (atom : Atom) → is_defined events atom.event ≡ true
    → length (placed_with n atom (shape_named events atom.event)) ≡ 1
one_each [] n atom is = (cc)
one_each (event ∷ events) n atom is =
    one_shape (bytes_eq event.name atom.event) event.shape (shape_named events atom.event) (is_defined events atom.event) n atom is
    (one_each events n atom)

step_length : (events : List EventDef) (n : ℕ) (atoms : List Atom) → list_all (λ atom. is_defined events atom.event) atoms ≡ true
    → length (flat_map (placed events n) atoms) ≡ length atoms
step_length events n [] are = refl
step_length events n (atom ∷ atoms) are =
    let parts = and_parts (is_defined events atom.event) (list_all (λ other. is_defined events other.event) atoms) are in
    omega (
      arith,
      length-append (placed events n atom) (flat_map (placed events n) atoms),
      one_each events n atom parts.0,
      step_length events n atoms parts.1,
    )

all_length : (events : List EventDef) (n : ℕ) (steps : List PatternStep) → are_defined events steps ≡ true
    → length (atoms_from events n steps) ≡ atom_count steps
all_length events n [] are = refl
all_length events n (step ∷ steps) are =
    let parts = and_parts (list_all (λ atom. is_defined events atom.event) step.atoms) (are_defined events steps) are in
    omega (
      arith,
      length-append (flat_map (placed events n) step.atoms) (atoms_from events (n + 1) steps),
      step_length events n step.atoms parts.0,
      all_length events (n + 1) steps parts.1,
      sum_by-cons (λ (other : PatternStep). length other.atoms) step steps,
    )

-- a step of atoms that is not wide
some_atoms : (atoms : List Atom) → AreAtoms atoms → 1 ≤ length atoms
some_atoms [] are = absurd are
some_atoms (atom ∷ atoms) are = omega arith

one_step : (step : PatternStep) → AreAtoms step.atoms → is_wide step ≡ false → IsStep step
one_step step are narrow = (some_atoms step.atoms are, ltb-false 4 (length step.atoms) narrow)

all_steps : (steps : List PatternStep) → AllByRecursion (λ step. AreAtoms step.atoms) steps → list_any is_wide steps ≡ false → AllByRecursion IsStep steps
all_steps [] are narrow = tt
all_steps (step ∷ steps) are narrow =
    let parts = or_parts (is_wide step) (list_any is_wide steps) narrow in
    (one_step step are.0 parts.0, all_steps steps are.1 parts.1)

some_count : (pattern : List PatternStep) → AreSteps pattern → 1 ≤ atom_count pattern
some_count [] are = absurd are
some_count (step ∷ steps) are =
    omega (arith, some_atoms step.atoms are.0, sum_by-cons (λ (other : PatternStep). length other.atoms) step steps)

has_atoms : (property : PropertyForm) → IsProperty property → HasAtoms property
has_atoms property is =
    let few = or_parts (nat_lt 6 (atom_count property.pattern)) (list_any is_wide property.pattern) is.few_atoms in
    let each = all_length property.events 0 property.pattern is.known in
    record {
      each = each;
      some = omega (arith, each, some_count property.pattern is.steps);
      most = omega (arith, each, ltb-false 6 (atom_count property.pattern) few.0);
      steps = all_steps property.pattern (each_step property.pattern is.steps) few.1;
    }

pub atoms_kept_lem : AtomsKept
atoms_kept_lem property is = has_atoms property is

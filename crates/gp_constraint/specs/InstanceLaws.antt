-- Laws: what the conditions of an instance say of its events.
use Rattle.std.specs.Prelude.{ℕ, zero, suc, ◌≡◌, ◌≢◌, ◌<◌, ◌+◌, ◌==◌, ◌&&◌, ◌||◌, not, Bool, true, false, List, [], ◌∷◌, ◌++◌, Option, Some, None, length, take, drop, nat_lt, flat_map, Contains}
use Rattle.std.specs.List.{AllByRecursion, list_all}
use Rattle.std.specs.Str.{bytes_eq}
use Rattle.std.proofs.Common.{ap, sym, ◌∙◌, refl, subst, inl, inr, arith, eqb-true, eq-eqb, length-append}
use Rattle.std.proofs.lemmas.Bool.{and_parts, cases_Bool, ltb-true, ne_eqb}
use Rattle.gp_trace.specs.declared.event.Event.{Event}
use Rattle.gp_property.specs.declared.atoms.PatternAtom.{PatternAtom}
use Rattle.gp_property.specs.declared.property.Atom.{Atom}
use Rattle.gp_property.specs.declared.property.EventDef.{EventDef}
use Rattle.gp_property.specs.declared.property.PatternStep.{PatternStep}
use Rattle.gp_property.specs.declared.property.Shape.{Shape}
use Rattle.gp_property.specs.Atoms.{atoms_from, atoms_of, placed, placed_with, shape_named}
use Rattle.gp_property.specs.Checks.{are_defined, is_defined}
use Rattle.gp_property.specs.PropertyForm.{PropertyForm}
use Rattle.gp_window.specs.Events.{event_in}
use Rattle.gp_window.specs.WindowForm.{WindowForm}
use Rattle.gp_window.specs.declared.schedule.EventId.{EventId}
use Rattle.gp_window.specs.IdLaws.{same_itself}
use Rattle.gp_window.specs.Ids.{is_same}
use Rattle.gp_instance.specs.Instance.{agree, are_apart, bindings, Choice, choice_of, choices_of, fits_shape, is_instance, is_like_atom, keep_regions, keep_threads, keeps_conditions, rise}
use Rattle.gp_instance.specs.Matches.{groups_of}
use Rattle.gp_instance.specs.Pairs.{all_pairs}
use Rattle.gp_base.specs.ListLaws.{AreDifferent, contains_from_take, first_or_rest, nothing_in, recursion_append, recursion_flat_map}
use Rattle.gp_constraint.specs.PointLaws.{IsEventOf}

-- events of one thread rise from each step to the next; these, of the step before, come before the first
abbrev pub RiseAlong : List EventId → List (List EventId) → Type 0
RiseAlong before [] = Unit {0}
RiseAlong before (group ∷ groups) =
    ((one other : EventId) → Contains before one → Contains group other → one.thread ≡ other.thread → one.index < other.index) × RiseAlong group groups

-- an atom of this step, and one of a later step
abbrev IsOf : ℕ → PatternAtom → Type 0
IsOf step atom = atom.step ≡ step

abbrev IsLater : ℕ → PatternAtom → Type 0
IsLater step atom = step < atom.step

placed_step : (step : ℕ) (atom : Atom) (shape : Option Shape) → AllByRecursion (IsOf step) (placed_with step atom shape)
placed_step step atom None = tt
placed_step step atom (Some shape) = (refl, tt)

placed_steps : (definitions : List EventDef) (step : ℕ) (atoms : List Atom) → AllByRecursion (IsOf step) (flat_map (placed definitions step) atoms)
placed_steps definitions step atoms =
    recursion_flat_map (IsOf step) (placed definitions step) atoms (λ atom i. placed_step step atom (shape_named definitions atom.event))

of_later : (step from : ℕ) (atoms : List PatternAtom) → step < from → AllByRecursion (IsOf from) atoms → AllByRecursion (IsLater step) atoms
of_later step from [] less h = tt
of_later step from (atom ∷ atoms) less h = let own = h.0 in (omega (arith, own, less), of_later step from atoms less h.1)

later_steps : (definitions : List EventDef) (step from : ℕ) (pattern : List PatternStep) → step < from → AllByRecursion (IsLater step) (atoms_from definitions from pattern)
later_steps definitions step from [] less = tt
later_steps definitions step from (first ∷ rest) less =
    recursion_append (IsLater step) (flat_map (placed definitions from) first.atoms) (atoms_from definitions (from + 1) rest)
    (of_later step from (flat_map (placed definitions from) first.atoms) less (placed_steps definitions from first.atoms))
    (later_steps definitions step (from + 1) rest (omega arith))

shape_some : (events : List EventDef) (name : List ℕ) → is_defined events name ≡ true → (shape : Shape) × (shape_named events name ≡ Some shape)
shape_some [] name h = cc
shape_some (event ∷ events) name h =
    elim (cases_Bool (bytes_eq event.name name)) [
      | inl same ↦ (event.shape, rw same refl)
      | inr apart ↦ let rest = shape_some events name (rw apart at h) in (rest.0, rw apart rest.1)
    ]

placed_one : (definitions : List EventDef) (step : ℕ) (atom : Atom) → is_defined definitions atom.event ≡ true → length (placed definitions step atom) ≡ 1
placed_one definitions step atom known =
    let shape = shape_some definitions atom.event known in
    ap (λ s. length (placed_with step atom s)) shape.1

placed_size : (definitions : List EventDef) (step : ℕ) (atoms : List Atom) → list_all (λ atom. is_defined definitions atom.event) atoms ≡ true
    → length (flat_map (placed definitions step) atoms) ≡ length atoms
placed_size definitions step [] known = refl
placed_size definitions step (atom ∷ atoms) known =
    let parts = and_parts (is_defined definitions atom.event) (list_all (λ a. is_defined definitions a.event) atoms) known in
    let one = placed_one definitions step atom parts.0 in
    let rest = placed_size definitions step atoms parts.1 in
    let joined = length-append (placed definitions step atom) (flat_map (placed definitions step) atoms) in
    omega (arith, one, rest, joined)

-- the choice of an event
record IsChosen (test : Choice → Bool) (step : ℕ) (other : EventId) : Type 0 where
  choice : Choice
  own : choice.id ≡ other
  later : step < choice.atom.step
  passes : test choice ≡ true

choice_in : (segments : List (List Event)) (test : Choice → Bool) (step : ℕ) (atoms : List PatternAtom) (ids : List EventId) (other : EventId)
    → list_all test (choices_of segments atoms ids) ≡ true → length ids ≡ length atoms → AllByRecursion (IsLater step) atoms → Contains ids other → IsChosen test step other
choice_in segments test step [] [] other h size later i = absurd (nothing_in _ i)
choice_in segments test step [] (id ∷ ids) other h size later i = absurd (omega (arith, size))
choice_in segments test step (atom ∷ atoms) [] other h size later i = absurd (nothing_in _ i)
choice_in segments test step (atom ∷ atoms) (id ∷ ids) other h size later i =
    elim (first_or_rest _ _ _ i) [
      | inl same ↦
          let parts = and_parts (test (choice_of segments atom id)) (list_all test (choices_of segments atoms ids)) h in
          record { choice = choice_of segments atom id; own = same; later = later.0; passes = parts.0 }
      | inr i ↦
          let parts = and_parts (test (choice_of segments atom id)) (list_all test (choices_of segments atoms ids)) h in
          choice_in segments test step atoms ids other parts.1 (omega (arith, size)) later.1 i
    ]

choice_past : (segments : List (List Event)) (test : Choice → Bool) (step : ℕ) (atoms more : List PatternAtom) (ids : List EventId)
    (other : EventId) → list_all test (choices_of segments (atoms ++ more) ids) ≡ true → length ids ≡ length atoms + length more
    → AllByRecursion (IsLater step) more → Contains (drop (length atoms) ids) other → IsChosen test step other
choice_past segments test step [] more ids other h size later i = choice_in segments test step more ids other h (omega (arith, size)) later i
choice_past segments test step (atom ∷ atoms) more [] other h size later i = absurd (omega (arith, size))
choice_past segments test step (atom ∷ atoms) more (id ∷ ids) other h size later i =
    let parts = and_parts (test (choice_of segments atom id)) (list_all test (choices_of segments (atoms ++ more) ids)) h in
    choice_past segments test step atoms more ids other parts.1 (omega (arith, size)) later i

last_one : (a b c : Bool) → a ≡ true → b ≡ false → (not a || b || c) ≡ true → c ≡ true
last_one true false c one other h = h
last_one true true c one other h = cc
last_one false b c one other h = cc

rise_less : (earlier later : Choice) → rise earlier later ≡ true → earlier.id.thread ≡ later.id.thread → earlier.atom.step < later.atom.step → earlier.id.index < later.id.index
rise_less earlier later h same less =
    ltb-true earlier.id.index later.id.index
    (last_one (earlier.id.thread == later.id.thread) (earlier.atom.step == later.atom.step) (nat_lt earlier.id.index later.id.index)
    (eq-eqb earlier.id.thread later.id.thread same) (ne_eqb earlier.atom.step later.atom.step (λ e. absurd (omega (arith, e, less)))) h)

split_rise : (segments : List (List Event)) (step : ℕ) (atoms more : List PatternAtom) (ids : List EventId)
    → length ids ≡ length atoms + length more → AllByRecursion (IsOf step) atoms → AllByRecursion (IsLater step) more
    → all_pairs rise (choices_of segments (atoms ++ more) ids) ≡ true
    → ((one other : EventId) → Contains (take (length atoms) ids) one → Contains (drop (length atoms) ids) other → one.thread ≡ other.thread → one.index < other.index)
    × (all_pairs rise (choices_of segments more (drop (length atoms) ids)) ≡ true)
split_rise segments step [] more ids size own later h = ((λ one other i j same. absurd (nothing_in _ i)), h)
split_rise segments step (atom ∷ atoms) more [] size own later h = absurd (omega (arith, size))
split_rise segments step (atom ∷ atoms) more (id ∷ ids) size own later h =
    let chosen : Choice = choice_of segments atom id in
    let parts = and_parts (list_all (rise chosen) (choices_of segments (atoms ++ more) ids)) (all_pairs rise (choices_of segments (atoms ++ more) ids)) h in
    let more_split = split_rise segments step atoms more ids (omega (arith, size)) own.1 later parts.1 in
    let here : atom.step ≡ step = own.0 in (
      (λ one other i j same. elim (first_or_rest _ _ _ i) [
        | inl first ↦
            let c = choice_past segments (rise chosen) step atoms more ids other parts.0 (omega (arith, size)) later j in
            let threads : id.thread ≡ c.choice.id.thread = ap (λ (e : EventId). e.thread) first ∙ same ∙ sym (ap (λ (e : EventId). e.thread) c.own) in
            let after = c.later in
            let less = rise_less chosen c.choice c.passes threads (omega (arith, here, after)) in
            let left = ap (λ (e : EventId). e.index) first in
            let right = ap (λ (e : EventId). e.index) c.own in
            omega (arith, less, left, right)
        | inr late ↦ more_split.0 one other late j same
      ]),
      more_split.1,
    )

drop_size : (n m : ℕ) (ids : List EventId) → length ids ≡ n + m → length (drop n ids) ≡ m
drop_size zero m ids size = omega (arith, size)
drop_size (suc n) m [] size = absurd (omega (arith, size))
drop_size (suc n) m (id ∷ ids) size = drop_size n m ids (omega (arith, size))

rise_steps : (segments : List (List Event)) (definitions : List EventDef) (step : ℕ) (before : List EventId) (pattern : List PatternStep) (ids : List EventId)
    → are_defined definitions pattern ≡ true
    → length ids ≡ length (atoms_from definitions step pattern) → all_pairs rise (choices_of segments (atoms_from definitions step pattern) ids) ≡ true
    → ((one other : EventId) → Contains before one → Contains ids other → one.thread ≡ other.thread → one.index < other.index) → RiseAlong before (groups_of pattern ids)
rise_steps segments definitions step before [] ids known size h rises = tt
rise_steps segments definitions step before (first ∷ rest) ids known size h rises =
    let here : List PatternAtom = flat_map (placed definitions step) first.atoms in
    let more : List PatternAtom = atoms_from definitions (step + 1) rest in
    let defined = and_parts (list_all (λ atom. is_defined definitions atom.event) first.atoms) (are_defined definitions rest) known in
    let joined = length-append here more in
    let count : length here ≡ length first.atoms = placed_size definitions step first.atoms defined.0 in
    let whole : length ids ≡ length here + length more = size ∙ joined in
    let split = split_rise segments step here more ids whole (placed_steps definitions step first.atoms) (later_steps definitions step (step + 1) rest (omega arith)) h in
    let told : ((one other : EventId) → Contains (take (length first.atoms) ids) one → Contains (drop (length first.atoms) ids) other → one.thread ≡ other.thread → one.index < other.index)
    × (all_pairs rise (choices_of segments more (drop (length first.atoms) ids)) ≡ true) =
    subst (λ (n : ℕ). ((one other : EventId) → Contains (take n ids) one → Contains (drop n ids) other → one.thread ≡ other.thread → one.index < other.index)
    × (all_pairs rise (choices_of segments more (drop n ids)) ≡ true)) count split in
    let cut : length (drop (length first.atoms) ids) ≡ length more = drop_size (length first.atoms) (length more) ids (omega (arith, whole, count)) in (
      (λ one other i j. rises one other i (contains_from_take (length first.atoms) ids other j)),
      rise_steps segments definitions (step + 1) (take (length first.atoms) ids) rest (drop (length first.atoms) ids) defined.1 cut told.1 told.0,
    )

-- each event differs from all others
apart_all : (segments : List (List Event)) (chosen : Choice) (atoms : List PatternAtom) (ids : List EventId) → length ids ≡ length atoms
    → list_all (are_apart chosen) (choices_of segments atoms ids) ≡ true → AllByRecursion (λ other. chosen.id ≢ other) ids
apart_all segments chosen atoms [] size h = tt
apart_all segments chosen [] (id ∷ ids) size h = absurd (omega (arith, size))
apart_all segments chosen (atom ∷ atoms) (id ∷ ids) size h =
    let parts = and_parts (are_apart chosen (choice_of segments atom id)) (list_all (are_apart chosen) (choices_of segments atoms ids)) h in (
      (λ same.
          let itself : is_same chosen.id id ≡ true = subst (λ o. is_same chosen.id o ≡ true) same (same_itself chosen.id) in
          let bad : not true ≡ true = subst (λ b. not b ≡ true) itself parts.0 in
          cc),
      apart_all segments chosen atoms ids (omega (arith, size)) parts.1,
    )

different_from : (segments : List (List Event)) (atoms : List PatternAtom) (ids : List EventId) → length ids ≡ length atoms
    → all_pairs are_apart (choices_of segments atoms ids) ≡ true → AreDifferent ids
different_from segments atoms [] size h = tt
different_from segments [] (id ∷ ids) size h = absurd (omega (arith, size))
different_from segments (atom ∷ atoms) (id ∷ ids) size h =
    let chosen : Choice = choice_of segments atom id in
    let parts = and_parts (list_all (are_apart chosen) (choices_of segments atoms ids)) (all_pairs are_apart (choices_of segments atoms ids)) h in
    (apart_all segments chosen atoms ids (omega (arith, size)) parts.0, different_from segments atoms ids (omega (arith, size)) parts.1)

-- each event is one of the window
fits_some : (shape : Shape) (event : Option Event) → fits_shape shape event ≡ true → (found : Event) × (event ≡ Some found)
fits_some shape None e = cc
fits_some shape (Some event) e = (event, refl)

there_in : (segments : List (List Event)) (atoms : List PatternAtom) (ids : List EventId) (id : EventId) → length ids ≡ length atoms
    → list_all is_like_atom (choices_of segments atoms ids) ≡ true → Contains ids id → (event : Event) × (event_in segments id ≡ Some event)
there_in segments atoms [] id size h i = absurd (nothing_in _ i)
there_in segments [] (first ∷ ids) id size h i = absurd (omega (arith, size))
there_in segments (atom ∷ atoms) (first ∷ ids) id size h i =
    elim (first_or_rest _ _ _ i) [
      | inl same ↦
          let parts = and_parts (is_like_atom (choice_of segments atom first)) (list_all is_like_atom (choices_of segments atoms ids)) h in
          subst (λ o. (event : Event) × (event_in segments o ≡ Some event)) same (fits_some atom.shape (event_in segments first) parts.0)
      | inr i ↦
          let parts = and_parts (is_like_atom (choice_of segments atom first)) (list_all is_like_atom (choices_of segments atoms ids)) h in
          there_in segments atoms ids id (omega (arith, size)) parts.1 i
    ]

-- what an instance is, of its events alone; their threads rise along a pattern whose events are all defined
pub record InstanceMeans (window : WindowForm) (property : PropertyForm) (ids : List EventId) : Type 0 where
  pub there : (id : EventId) → Contains ids id → IsEventOf window id
  pub different : AreDifferent ids
  pub rises : are_defined property.events property.pattern ≡ true → RiseAlong [] (groups_of property.pattern ids)

pub instance_means : (window : WindowForm) (property : PropertyForm) (ids : List EventId) → is_instance window property ids ≡ true → InstanceMeans window property ids
instance_means window property ids h =
    let atoms : List PatternAtom = atoms_of property in
    let cs : List Choice = choices_of window.segments atoms ids in
    let whole = and_parts (length ids == length atoms) (keeps_conditions window.segments cs) h in
    let size : length ids ≡ length atoms = eqb-true (length ids) (length atoms) whole.0 in
    let like = list_all is_like_atom cs in
    let bound = like && all_pairs agree (flat_map bindings cs) in
    let threads = bound && all_pairs keep_threads cs in
    let regions = threads && all_pairs (keep_regions window.segments) cs in
    let six = and_parts (regions && all_pairs are_apart cs) (all_pairs rise cs) whole.1 in
    let five = and_parts regions (all_pairs are_apart cs) six.0 in
    let four = and_parts threads (all_pairs (keep_regions window.segments) cs) five.0 in
    let three = and_parts bound (all_pairs keep_threads cs) four.0 in
    let two = and_parts like (all_pairs agree (flat_map bindings cs)) three.0 in
    record {
      there = λ id i. there_in window.segments atoms ids id size two.0 i;
      different = different_from window.segments atoms ids size five.1;
      rises = λ known. rise_steps window.segments property.events 0 [] property.pattern ids known size six.1 (λ one other i j same. absurd (nothing_in _ i));
    }

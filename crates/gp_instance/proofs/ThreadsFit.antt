-- Where no threads fit the thread variables, no list is found.
use Rattle.std.proofs.Common.{◌≡◌, refl, ap, ℕ, Bool, true, false, cond, List, [], ◌∷◌, map}
use Rattle.std.specs.Prelude.{filter, if◌then◌else◌, not, ◌==◌, ◌&&◌, ◌||◌}
use Rattle.std.specs.List.{AllByRecursion, flat_map, list_all, list_any}
use Rattle.std.specs.Str.{bytes_eq}
use Rattle.gp_trace.specs.declared.event.Event.{Event}
use Rattle.gp_window.specs.declared.schedule.EventId.{EventId}
use Rattle.gp_property.specs.declared.atoms.PatternAtom.{PatternAtom}
use Rattle.gp_instance.specs.declared.chosen.Chosen.{Chosen}
use Rattle.gp_instance.specs.Search.{chosen_of, keeps_thread, may_stand, narrowed, search}

-- a variable and its thread are equal to these, or both differ
abbrev pub is_apt : List ℕ × ℕ → List ℕ → ℕ → Bool
is_apt pair variable thread = if bytes_eq pair.0 variable then pair.1 == thread else not (pair.1 == thread)

-- a thread may be given to a thread variable beside those that were given before
abbrev pub may_give : List (List ℕ × ℕ) → List ℕ → ℕ → Bool
may_give given variable thread = list_all (λ pair. is_apt pair variable thread) given

-- threads can be given to the thread variables of the atoms, each that of one of the atom's events
abbrev pub threads_fit : List (List ℕ × ℕ) → List PatternAtom → List (List EventId) → Bool
threads_fit given [] domains = true
threads_fit given (atom ∷ atoms) [] = true
threads_fit given (atom ∷ atoms) (ids ∷ domains) =
    list_any (λ id. may_give given atom.thread_var id.thread && threads_fit ((atom.thread_var, id.thread) ∷ given) atoms domains) ids

-- the event is one of these: it fails each test that they all fail
abbrev Among : List EventId → EventId → Type 0
Among ids id = (test : EventId → Bool) → list_any test ids ≡ false → test id ≡ false

-- each of these events is one of the atom's, and its thread may be given beside those before
abbrev Stands : List (List ℕ × ℕ) → PatternAtom → List EventId → EventId → Type 0
Stands given atom ids id = Among ids id × (may_give given atom.thread_var id.thread ≡ true)

-- what was kept of the events of each atom
abbrev Keeps : List (List ℕ × ℕ) → List PatternAtom → List (List EventId) → List (List EventId) → Type 0
Keeps given [] domains kept = Unit {0}
Keeps given (atom ∷ atoms) [] kept = Unit {0}
Keeps given (atom ∷ atoms) (ids ∷ domains) [] = Unit {0}
Keeps given (atom ∷ atoms) (ids ∷ domains) (some ∷ kept) = AllByRecursion (Stands given atom ids) some × Keeps given atoms domains kept

-- both tests pass
both_pass : (a b : Bool) → a ≡ true → b ≡ true → (a && b) ≡ true
both_pass true b one other = other
both_pass false b one other = one

-- the first of two tests that pass
first_passes : (a b : Bool) → (a && b) ≡ true → a ≡ true
first_passes true b both = refl
first_passes false b both = both

-- the second of two tests that fail
second_fails : (a b : Bool) → a ≡ true → (a && b) ≡ false → b ≡ false
second_fails true b passes fails = fails
second_fails false b passes fails = absurd (cc)

-- where one of two tests fails, so do both
first_fails : (a b : Bool) → (a || b) ≡ false → (a ≡ false) × (b ≡ false)
first_fails true b fails = absurd (cc)
first_fails false b fails = (refl, fails)

-- what may stand keeps the threads
stands_in_thread : (segments : List (List Event)) (chosen : Chosen) (atom : PatternAtom) (id : EventId) → may_stand segments chosen atom id ≡ true → keeps_thread chosen atom id ≡ true
unfolding may_stand
stands_in_thread segments chosen atom id stands =
    first_passes _ _ (first_passes _ _ (first_passes _ _ (first_passes _ _ (first_passes _ _ stands))))

-- what a filter keeps of what stands
kept_stands : (segments : List (List Event)) (given : List (List ℕ × ℕ)) (first : PatternAtom) (chosen : EventId) (atom : PatternAtom) (ids some : List EventId)
    → AllByRecursion (Stands given atom ids) some
    → AllByRecursion (Stands ((first.thread_var, chosen.thread) ∷ given) atom ids) (filter (may_stand segments (chosen_of segments first chosen) atom) some)
kept_stands segments given first chosen atom ids [] all = tt
kept_stands segments given first chosen atom ids (id ∷ some) all =
    let rest = kept_stands segments given first chosen atom ids some all.1 in
    let test = may_stand segments (chosen_of segments first chosen) atom in
    let by_cases : (b : Bool) → test id ≡ b → AllByRecursion (Stands ((first.thread_var, chosen.thread) ∷ given) atom ids) (cond b (id ∷ filter test some) (filter test some)) = λ b. elim b as (λ v. test id ≡ v → AllByRecursion (Stands ((first.thread_var, chosen.thread) ∷ given) atom ids) (cond v (id ∷ filter test some) (filter test some))) [
      | true ↦ λ stands. ((all.0.0, both_pass _ _ (stands_in_thread segments (chosen_of segments first chosen) atom id stands) all.0.1), rest)
      | false ↦ λ fails. rest
    ] in
    by_cases (test id) refl

-- what narrowing keeps
narrowed_keeps : (segments : List (List Event)) (given : List (List ℕ × ℕ)) (first : PatternAtom) (chosen : EventId) (atoms : List PatternAtom) (domains kept : List (List EventId))
    → Keeps given atoms domains kept
    → Keeps ((first.thread_var, chosen.thread) ∷ given) atoms domains (narrowed segments (chosen_of segments first chosen) atoms kept)
narrowed_keeps segments given first chosen [] domains kept keeps = tt
narrowed_keeps segments given first chosen (atom ∷ atoms) [] kept keeps = tt
narrowed_keeps segments given first chosen (atom ∷ atoms) (ids ∷ domains) [] keeps = tt
narrowed_keeps segments given first chosen (atom ∷ atoms) (ids ∷ domains) (some ∷ kept) keeps =
    (kept_stands segments given first chosen atom ids some keeps.0, narrowed_keeps segments given first chosen atoms domains kept keeps.1)

-- joins of nothing
all_nothing : {A B : Type 0} (f : A → List B) (xs : List A) → AllByRecursion (λ x. f x ≡ []) xs → flat_map f xs ≡ []
all_nothing f [] none = refl
all_nothing f (x ∷ xs) none = rw none.0 (all_nothing f xs none.1)

-- where what stands fails, nothing is found
all_fail : {P Q : EventId → Type 0} → ((id : EventId) → P id → Q id) → (some : List EventId) → AllByRecursion P some → AllByRecursion Q some
all_fail leads [] all = tt
all_fail leads (id ∷ some) all = (leads id all.0, all_fail leads some all.1)

-- where no threads fit, nothing is found among what was kept
nothing_kept : (segments : List (List Event)) (atoms : List PatternAtom) (given : List (List ℕ × ℕ)) (domains kept : List (List EventId))
    → threads_fit given atoms domains ≡ false → Keeps given atoms domains kept → search segments atoms kept ≡ []
nothing_kept segments [] given domains kept fails keeps = absurd (cc)
nothing_kept segments (atom ∷ atoms) given [] kept fails keeps = absurd (cc)
nothing_kept segments (atom ∷ atoms) given (ids ∷ domains) [] fails keeps = refl
nothing_kept segments (atom ∷ atoms) given (ids ∷ domains) (some ∷ kept) fails keeps =
    all_nothing (λ id. map (λ rest. id ∷ rest) (search segments atoms (narrowed segments (chosen_of segments atom id) atoms kept))) some
    (all_fail (λ id stands.
    let fails_here : threads_fit ((atom.thread_var, id.thread) ∷ given) atoms domains ≡ false =
    second_fails (may_give given atom.thread_var id.thread) _ stands.1
    (stands.0 (λ other. may_give given atom.thread_var other.thread && threads_fit ((atom.thread_var, other.thread) ∷ given) atoms domains) fails) in
    ap (map (λ rest. id ∷ rest)) (nothing_kept segments atoms ((atom.thread_var, id.thread) ∷ given) domains (narrowed segments (chosen_of segments atom id) atoms kept) fails_here (narrowed_keeps segments given atom id atoms domains kept keeps.1)))
    some keeps.0)

-- each event is one of all
each_among : (ids all : List EventId) → ((id : EventId) → Among ids id → Among all id) → (atom : PatternAtom) → AllByRecursion (Stands [] atom all) ids
each_among [] all leads atom = tt
each_among (id ∷ ids) all leads atom = (
  (leads id (λ test fails. (first_fails (test id) (list_any test ids) fails).0), refl),
  each_among ids all (λ other among. leads other (λ test fails. among test (first_fails (test id) (list_any test ids) fails).1)) atom,
)

-- all events are kept at first
all_kept : (atoms : List PatternAtom) (domains : List (List EventId)) → Keeps [] atoms domains domains
all_kept [] domains = tt
all_kept (atom ∷ atoms) [] = tt
all_kept (atom ∷ atoms) (ids ∷ domains) = (each_among ids ids (λ id among. among) atom, all_kept atoms domains)

-- where no threads fit the thread variables, nothing is found
pub no_threads : (segments : List (List Event)) (atoms : List PatternAtom) (domains : List (List EventId))
    → threads_fit [] atoms domains ≡ false → search segments atoms domains ≡ []
no_threads segments atoms domains fails = nothing_kept segments atoms [] domains domains fails (all_kept atoms domains)

-- Whether there are threads for the thread variables. Different variables stand for different threads; so where some of
-- them have fewer threads in all than they are, there is no instance.
use Rattle.std.specs.Prelude.{ℕ, ◌+◌, Bool, ◌||◌, nat_lt, List, [], ◌∷◌, ◌++◌, length, Option, Some, None, if◌then◌else◌}
use Rattle.std.specs.List.{list_any}
use Rattle.std.specs.Str.{bytes_eq}
use Rattle.gp_window.specs.declared.schedule.EventId.{EventId}
use Rattle.gp_window.specs.Starts.{is_among}
use Rattle.gp_property.specs.declared.atoms.PatternAtom.{PatternAtom}

-- these threads and one more, where it is not among them
abbrev pub with_thread : List ℕ → ℕ → List ℕ
with_thread threads thread = if is_among threads thread then threads else threads ++ thread ∷ []

-- these threads and those, none twice
abbrev pub with_threads : List ℕ → List ℕ → List ℕ
with_threads threads [] = threads
with_threads threads (thread ∷ more) = with_threads (with_thread threads thread) more

-- these threads and those of the events, where that is less than so many
abbrev pub few_threads : ℕ → List ℕ → List EventId → Option (List ℕ)
few_threads limit threads [] = Some threads
few_threads limit threads (id ∷ ids) =
    if nat_lt (length (with_thread threads id.thread)) limit then few_threads limit (with_thread threads id.thread) ids else None

-- whether a variable is one of these
abbrev pub is_given : List (List ℕ) → List ℕ → Bool
is_given variables variable = list_any (λ other. bytes_eq other variable) variables

-- a list, where there is one
abbrev pub set_part : Option (List ℕ) → List (List ℕ)
set_part None = []
set_part (Some threads) = threads ∷ []

-- the threads of a variable that has few and did not come before
abbrev pub threads_for : ℕ → List (List ℕ) → List ℕ → List EventId → Option (List ℕ)
threads_for limit before variable ids = if is_given before variable then None else few_threads limit [] ids

-- the threads of each variable that has few: those of the events of the first atom that has the variable
abbrev pub thread_sets : ℕ → List (List ℕ) → List PatternAtom → List (List EventId) → List (List ℕ)
thread_sets limit before [] domains = []
thread_sets limit before (atom ∷ atoms) [] = []
thread_sets limit before (atom ∷ atoms) (ids ∷ domains) =
    set_part (threads_for limit before atom.thread_var ids) ++ thread_sets limit (before ++ atom.thread_var ∷ []) atoms domains

-- some of these sets, and so many that have these threads, have fewer threads in all than they are
abbrev pub is_crowded : List (List ℕ) → List ℕ → ℕ → Bool
is_crowded [] threads count = nat_lt (length threads) count
is_crowded (set ∷ sets) threads count = is_crowded sets threads count || is_crowded sets (with_threads threads set) (count + 1)

-- the events of each atom, where the thread variables are not crowded
abbrev pub unless_crowded : List PatternAtom → List (List EventId) → Option (List (List EventId))
unless_crowded atoms domains = if is_crowded (thread_sets (length atoms) [] atoms domains) [] 0 then None else Some domains

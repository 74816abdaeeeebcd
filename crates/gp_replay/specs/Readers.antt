-- Locks and the threads that hold them by a racquire, in the order of the locks' names and then of
-- the threads.
use Rattle.std.specs.Prelude.{ℕ, Bool, List, [], ◌∷◌, filter, not}
use Rattle.std.specs.BTreeMap.{is_at}
use Rattle.std.specs.BTreeSet.{insert_key}
use Rattle.std.specs.List.{list_any}
use Rattle.std.specs.Str.{bytes_eq}
use Rattle.gp_window.specs.Formed.{stands_at}
use Rattle.gp_window.specs.Holders.{holder_cmp}

-- whether a thread is a reader of a lock
abbrev pub is_reader : List (List ℕ × ℕ) → List ℕ → ℕ → Bool
is_reader readers lock thread = stands_at readers lock thread

-- whether a lock has a reader
abbrev pub has_reader : List (List ℕ × ℕ) → List ℕ → Bool
has_reader readers lock = list_any (λ reader. bytes_eq reader.0 lock) readers

-- the readers with a thread as a reader of a lock, and all others as they were
abbrev pub with_reader : List (List ℕ × ℕ) → List ℕ × ℕ → List (List ℕ × ℕ)
with_reader readers reader = insert_key holder_cmp readers reader

-- the readers without a thread as a reader of a lock, and all others as they were
abbrev pub without_reader : List (List ℕ × ℕ) → List ℕ × ℕ → List (List ℕ × ℕ)
without_reader readers reader = filter (λ other. not (is_at (holder_cmp reader) other)) readers

-- the readers with further ones, one after another
abbrev pub with_readers : List (List ℕ × ℕ) → List (List ℕ × ℕ) → List (List ℕ × ℕ)
with_readers readers [] = readers
with_readers readers (more ∷ rest) = with_readers (with_reader readers more) rest

-- How many threads hold each lock, and which locks may be contested for that.
use Rattle.std.specs.Prelude.{◌≡◌, ℕ, ◌+◌, ◌-◌, ◌≤◌, Bool, true, ◌&&◌, List, Option, Some, None, nat_lt, unwrap_or}
use Rattle.std.specs.List.{count_by}
use Rattle.std.specs.Cmp.Lexicographic.{slice_cmp}
use Rattle.std.specs.Ordering.{nat_cmp}
use Rattle.std.specs.Str.{bytes_eq}
use Rattle.gp_base.specs.Table.{value_at}
use Rattle.gp_trace.specs.declared.lock_use.LockMode.{LockMode}
use Rattle.gp_trace.specs.declared.lock_use.LockMode.TheVariants.{Exclusive, Shared}
use Rattle.gp_window.specs.Holders.{Holdings, is_exclusive}
use Rattle.gp_window.specs.declared.users.Users.{Users}

-- how many acquires a holding in this way is
abbrev pub acquires_of : LockMode → ℕ
acquires_of Exclusive = 1
acquires_of Shared = 0

-- the users with one more thread, which holds the lock in this way
abbrev pub with_user : LockMode → Users → Users
with_user mode users = record { threads = users.threads + 1; acquires = users.acquires + acquires_of mode }

-- the users without one that held the lock in this way
abbrev pub without_user : Option LockMode → Users → Users
without_user None users = users
without_user (Some mode) users = record { threads = users.threads - 1; acquires = users.acquires - acquires_of mode }

-- at least two threads, one of them by an acquire
abbrev pub may_contest : Users → Bool
may_contest users = nat_lt 1 users.threads && nat_lt 0 users.acquires

abbrev pub no_users : Users
no_users = record { threads = 0; acquires = 0 }

-- the users of a lock
abbrev pub users_at : List (List ℕ × Users) → List ℕ → Users
users_at users lock = unwrap_or (value_at (slice_cmp nat_cmp) users lock) no_users

-- no lock has more holdings, and more of them by an acquire, than its users say
abbrev pub IsCounted : Holdings → List (List ℕ × Users) → Type 0
IsCounted held users = (lock : List ℕ)
    → (count_by (λ one. bytes_eq one.0.0 lock) held ≤ (users_at users lock).threads)
    × (count_by (λ one. bytes_eq one.0.0 lock && is_exclusive one.1) held ≤ (users_at users lock).acquires)

-- each lock that may be contested for its users is a suspect
abbrev pub IsListed : List (List ℕ × Users) → List (List ℕ × Unit {0}) → Type 0
IsListed users suspects = (lock : List ℕ) → may_contest (users_at users lock) ≡ true → value_at (slice_cmp nat_cmp) suspects lock ≡ Some tt

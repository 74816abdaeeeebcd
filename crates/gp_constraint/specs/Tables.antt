-- Tables of the points of a window: those that write a variable, those that use a lock, those that start a thread.
use Rattle.std.specs.Prelude.{◌≡◌, ℕ, Bool, true, false, List, [], filter, unwrap_or}
use Rattle.std.specs.Cmp.Lexicographic.{slice_cmp}
use Rattle.std.specs.Ordering.{nat_cmp}
use Rattle.std.specs.Str.{bytes_eq}
use Rattle.gp_base.specs.Table.{value_at}
use Rattle.gp_trace.specs.declared.lock_use.LockUse.{LockUse}
use Rattle.gp_trace.specs.declared.lock_use.LockUse.TheVariants.{Take, GiveBack}
use Rattle.gp_constraint.specs.declared.action.Action.{Action}
use Rattle.gp_constraint.specs.declared.action.Action.TheVariants.{Read, Write, Lock, Start}
use Rattle.gp_constraint.specs.declared.point.Point.{Point}

-- what a table has at a name; nothing where it does not have the name
abbrev pub entry_at : {X : Type 0} → List (List ℕ × List X) → List ℕ → List X
entry_at table name = unwrap_or (value_at (slice_cmp nat_cmp) table name) []

-- whether the variable is written
abbrev pub writes_to : List ℕ → Action → Bool
writes_to variable (Write other written) = bytes_eq other variable
writes_to variable _ = false

-- whether the variable of a read is written
abbrev pub writes_read : Action → Action → Bool
writes_read (Read variable value) write = writes_to variable write
writes_read _ write = false

-- the lock that is taken or given back
abbrev pub lock_of : LockUse → List ℕ
lock_of (Take mode lock) = lock
lock_of (GiveBack mode lock) = lock

-- whether the lock is taken or given back
abbrev pub uses_lock : List ℕ → Action → Bool
uses_lock lock (Lock lock_use) = bytes_eq (lock_of lock_use) lock
uses_lock lock _ = false

-- whether a thread is started
abbrev pub is_start : Action → Bool
is_start (Start thread) = true
is_start _ = false

-- the points that write the variable of a read
abbrev pub writes_for : List Point → Point → List Point
writes_for points r = filter (λ w. writes_read r.action w.action) points

-- the points that use a lock
abbrev pub uses_of : List Point → List ℕ → List Point
uses_of points lock = filter (λ p. uses_lock lock p.action) points

-- what the tables of points have
pub record AreTables (points : List Point) (writes uses : List (List ℕ × List Point)) (starts : List Point) : Type 0 where
  pub written : (variable : List ℕ) → entry_at writes variable ≡ filter (λ p. writes_to variable p.action) points
  pub used : (lock : List ℕ) → entry_at uses lock ≡ uses_of points lock
  pub started : starts ≡ filter (λ p. is_start p.action) points

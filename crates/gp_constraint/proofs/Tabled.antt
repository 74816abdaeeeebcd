-- What the tables of points leave out gives nothing.
use Rattle.std.proofs.Common.{ℕ, suc, ◌≡◌, ap, sym, ◌∙◌, refl, subst, inl, inr, List, [], ◌∷◌, ◌++◌, Bool, true, false}
use Rattle.std.specs.Prelude.{ℤ, ◌==◌, ◌&&◌, not, Some, filter, find, flat_map, if◌then◌else◌, nat_lt, nat_le}
use Rattle.std.specs.Ordering.{int_eq}
use Rattle.std.specs.Str.{bytes_eq}
use Rattle.std.proofs.lemmas.Bool.{and_left, and_right, cases_Bool, cond-false, cond-true, eqb-true, false_from_ne_true, false≢true, true≢false}
use Rattle.std.proofs.lemmas.Slice.Eq.{bytes_eq-Decides}
use Rattle.gp_trace.specs.declared.lock_use.LockMode.{LockMode}
use Rattle.gp_trace.specs.declared.lock_use.LockUse.TheVariants.{Take, GiveBack}
use Rattle.gp_window.specs.Events.{size_of}
use Rattle.gp_window.specs.WindowForm.{WindowForm}
use Rattle.gp_constraint.specs.declared.action.Action.{Action}
use Rattle.gp_constraint.specs.declared.action.Action.TheVariants.{Read, Write, Lock, Start, Join, Other}
use Rattle.gp_constraint.specs.declared.point.Point.{Point}
use Rattle.gp_constraint.specs.declared.symbol.SymbolicLit.{SymbolicLit}
use Rattle.gp_constraint.specs.Joins.{is_last_of}
use Rattle.gp_constraint.specs.Lasts.{is_last, lasts_of}
use Rattle.gp_constraint.specs.Listed.{choices_in, kept_from, rivals_in, seen}
use Rattle.gp_constraint.specs.Reads.{choice, finds_at_start, is_choice, is_rival, kept_apart, kept_later, seen_from, sees}
use Rattle.gp_constraint.specs.Sections.{ends_hold, gives_back, same_mode}
use Rattle.gp_constraint.specs.Starts.{does_start, is_start_of}
use Rattle.gp_constraint.specs.Tables.{is_start, uses_lock, uses_of, writes_for, writes_read}
use Rattle.gp_constraint.specs.Terms.{before, chosen, executed, preceded, simplified, start_chosen}
use Rattle.gp_constraint.proofs.Lists.{find_kept, flat_kept, flat_picked}

start_off : (thread : ℕ) (action : Action) → is_start action ≡ false → does_start thread action ≡ false
start_off thread (Start other) e = absurd (true≢false e)
start_off thread (Read variable value) e = refl
start_off thread (Write variable value) e = refl
start_off thread (Lock lock_use) e = refl
start_off thread (Join other) e = refl
start_off thread Other e = refl

pub start_found : (thread : ℕ) (points : List Point) → find (is_start_of thread) (filter (λ p. is_start p.action) points) ≡ find (is_start_of thread) points
start_found thread points = find_kept (is_start_of thread) (λ p. is_start p.action) points (λ p e. start_off thread p.action e)

-- a conjunction whose first part rules the second out
and_off : (a b : Bool) → (a ≡ true → b ≡ false) → (a && b) ≡ false
and_off true b h = h refl
and_off false b h = refl

pub last_found : (window : WindowForm) (thread : ℕ) (points : List Point) → find (is_last_of window thread) (lasts_of window points) ≡ find (is_last_of window thread) points
last_found window thread points = find_kept (is_last_of window thread) (is_last window) points (λ p e.
    and_off (p.id.thread == thread) (suc p.id.index == size_of window thread)
    (λ same. subst (λ (t : ℕ). (suc p.id.index == size_of window t) ≡ false) (eqb-true p.id.thread thread same) e))

give_off : (mode : LockMode) (lock : List ℕ) (action : Action) → uses_lock lock action ≡ false → gives_back mode lock action ≡ false
give_off mode lock (Lock (GiveBack other again)) e = and_left (bytes_eq again lock) (same_mode other mode) e
give_off mode lock (Lock (Take other again)) e = refl
give_off mode lock (Read variable value) e = refl
give_off mode lock (Write variable value) e = refl
give_off mode lock (Start other) e = refl
give_off mode lock (Join other) e = refl
give_off mode lock Other e = refl

pub end_found : (mode : LockMode) (lock : List ℕ) (thread from : ℕ) (points : List Point)
    → find (ends_hold mode lock thread from) (uses_of points lock) ≡ find (ends_hold mode lock thread from) points
end_found mode lock thread from points = find_kept (ends_hold mode lock thread from) (λ p. uses_lock lock p.action) points (λ p e.
    and_right (p.id.thread == thread) (nat_le from p.id.index && gives_back mode lock p.action)
    (and_right (nat_le from p.id.index) (gives_back mode lock p.action) (give_off mode lock p.action e)))

-- names are equal in either order
pub bytes_turned : (a b : List ℕ) → bytes_eq a b ≡ bytes_eq b a
bytes_turned a b =
    elim (cases_Bool (bytes_eq b a)) [
      | inl same ↦ (bytes_eq-Decides a b).1 (sym ((bytes_eq-Decides b a).0 same)) ∙ sym same
      | inr differ ↦ false_from_ne_true (bytes_eq a b) (λ e. false≢true (sym differ ∙ (bytes_eq-Decides b a).1 (sym ((bytes_eq-Decides a b).0 e)))) ∙ sym differ
    ]

-- a write of another variable is no choice and no rival of a read
off_variable : (variable other : List ℕ) → bytes_eq other variable ≡ false → bytes_eq variable other ≡ false
off_variable variable other e = bytes_turned variable other ∙ e

sees_off : (read write : Action) → writes_read read write ≡ false → sees read write ≡ false
sees_off (Read variable value) (Write other written) e = and_left (bytes_eq variable other) (int_eq value written) (off_variable variable other e)
sees_off (Read variable value) (Read other written) e = refl
sees_off (Read variable value) (Lock lock_use) e = refl
sees_off (Read variable value) (Start thread) e = refl
sees_off (Read variable value) (Join thread) e = refl
sees_off (Read variable value) Other e = refl
sees_off (Write variable value) write e = refl
sees_off (Lock lock_use) write e = refl
sees_off (Start thread) write e = refl
sees_off (Join thread) write e = refl
sees_off Other write e = refl

rival_off : (read write : Action) → writes_read read write ≡ false → is_rival read write ≡ false
rival_off (Read variable value) (Write other written) e = and_left (bytes_eq variable other) (not (int_eq value written)) (off_variable variable other e)
rival_off (Read variable value) (Read other written) e = refl
rival_off (Read variable value) (Lock lock_use) e = refl
rival_off (Read variable value) (Start thread) e = refl
rival_off (Read variable value) (Join thread) e = refl
rival_off (Read variable value) Other e = refl
rival_off (Write variable value) write e = refl
rival_off (Lock lock_use) write e = refl
rival_off (Start thread) write e = refl
rival_off (Join thread) write e = refl
rival_off Other write e = refl

choice_off : (r w : Point) → writes_read r.action w.action ≡ false → is_choice r w ≡ false
choice_off r w e = and_left (sees r.action w.action) (not (w.id.thread == r.id.thread && nat_lt r.id.index w.id.index)) (sees_off r.action w.action e)

-- what a test guards gives nothing where it fails
gives_none : {X : Type 0} (b : Bool) (xs : List X) → b ≡ false → (if b then xs else []) ≡ []
gives_none b xs e = cond-false b xs [] e

pub choices_tabled : (points : List Point) (r : Point) → flat_map (choice r) (writes_for points r) ≡ flat_map (choice r) points
choices_tabled points r = flat_kept (choice r) (λ w. writes_read r.action w.action) points (λ w e.
    gives_none (is_choice r w) (chosen r w true ∷ []) (choice_off r w e))

-- what is kept by a stronger test needs no weaker one before
pub filter_twice : {X : Type 0} (p q : X → Bool) (xs : List X) → ((x : X) → q x ≡ false → p x ≡ false) → filter p (filter q xs) ≡ filter p xs
filter_twice p q [] h = refl
filter_twice p q (x ∷ xs) h =
    elim (cases_Bool (q x)) [
      | inl kept ↦ rw kept (ap (λ rest. if p x then x ∷ rest else rest) (filter_twice p q xs h))
      | inr off ↦ (let fails : p x ≡ false = h x off in rw (off, fails) (filter_twice p q xs h))
    ]

pub rivals_tabled : (points : List Point) (r : Point) → rivals_in (writes_for points r) r ≡ rivals_in points r
rivals_tabled points r = filter_twice (λ w. is_rival r.action w.action) (λ w. writes_read r.action w.action) points (λ w e. rival_off r.action w.action e)

pub choices_listed : (points : List Point) (r : Point) → choices_in (writes_for points r) r ≡ choices_in points r
choices_listed points r = filter_twice (is_choice r) (λ w. writes_read r.action w.action) points (λ w e. choice_off r w e)

apart_listed : (points : List Point) (r w : Point) → flat_map (kept_apart r w) (rivals_in points r) ≡ flat_map (kept_apart r w) points
apart_listed points r w = flat_kept (kept_apart r w) (λ other. is_rival r.action other.action) points (λ other e.
    gives_none (is_rival r.action other.action)
    (simplified (chosen r w false ∷ executed other false ∷ before other w ∷ before r other ∷ [])) e)

-- the choices of a read, by the lists of its choices and of its rivals
pub seen_tabled : (points : List Point) (r : Point)
    → flat_map (seen (rivals_in (writes_for points r) r) r) (choices_in (writes_for points r) r) ≡ flat_map (seen_from points r) points
seen_tabled points r =
    ap (λ rivals. flat_map (seen rivals r) (choices_in (writes_for points r) r)) (rivals_tabled points r)
    ∙ ap (flat_map (seen (rivals_in points r) r)) (choices_listed points r)
    ∙ flat_picked (seen_from points r) (seen (rivals_in points r) r) (is_choice r) points
    (λ w e. gives_none (is_choice r w) (preceded (chosen r w false ∷ []) (Some w) r ++ flat_map (kept_apart r w) points) e)
    (λ w e. ap (λ rest. preceded (chosen r w false ∷ []) (Some w) r ++ rest) (apart_listed points r w)
    ∙ sym (cond-true (is_choice r w) (preceded (chosen r w false ∷ []) (Some w) r ++ flat_map (kept_apart r w) points) [] e))

later_on : (b : Bool) (c : Bool) (xs : List (List SymbolicLit)) → b ≡ true → (if b && c then xs else []) ≡ (if c then xs else [])
later_on b c xs e = rw e refl

later_off : (b : Bool) (c : Bool) (xs : List (List SymbolicLit)) → b ≡ false → (if b && c then xs else []) ≡ []
later_off b c xs e = rw e refl

-- of a read that finds its value at the start: the writes of its variable alone
pub later_tabled : (window : WindowForm) (points : List Point) (r : Point) → finds_at_start window r.action ≡ true
    → flat_map (kept_from r) (writes_for points r) ≡ flat_map (kept_later window r) points
later_tabled window points r found =
    flat_picked (kept_later window r) (kept_from r) (λ w. writes_read r.action w.action) points
    (λ w e. later_on (finds_at_start window r.action) (is_rival r.action w.action) (simplified (start_chosen r false ∷ executed w false ∷ before r w ∷ [])) found
    ∙ gives_none (is_rival r.action w.action) (simplified (start_chosen r false ∷ executed w false ∷ before r w ∷ [])) (rival_off r.action w.action e))
    (λ w e. sym (later_on (finds_at_start window r.action) (is_rival r.action w.action) (simplified (start_chosen r false ∷ executed w false ∷ before r w ∷ [])) found))

-- and of any other read nothing
pub later_none : (window : WindowForm) (points : List Point) (r : Point) → finds_at_start window r.action ≡ false
    → flat_map (kept_later window r) points ≡ []
later_none window [] r missed = refl
later_none window (other ∷ points) r missed =
    ap (λ first. first ++ flat_map (kept_later window r) points)
    (later_off (finds_at_start window r.action) (is_rival r.action other.action) (simplified (start_chosen r false ∷ executed other false ∷ before r other ∷ [])) missed)
    ∙ later_none window points r missed

no_write : (action : Action) (points : List Point) → ((write : Action) → writes_read action write ≡ false) → [] ≡ filter (λ w. writes_read action w.action) points
no_write action [] off = refl
no_write action (p ∷ points) off = (let none : writes_read action p.action ≡ false = off p.action in rw none (no_write action points off))

-- no point writes the variable of what is no read
pub no_writes : (points : List Point) (action : Action) → ((variable : List ℕ) (value : ℤ) → action ≡ Read variable value → ⊥)
    → [] ≡ filter (λ w. writes_read action w.action) points
no_writes points (Read variable value) h = absurd (h variable value refl)
no_writes points (Write variable value) h = no_write (Write variable value) points (λ w. refl)
no_writes points (Lock lock_use) h = no_write (Lock lock_use) points (λ w. refl)
no_writes points (Start thread) h = no_write (Start thread) points (λ w. refl)
no_writes points (Join thread) h = no_write (Join thread) points (λ w. refl)
no_writes points Other h = no_write Other points (λ w. refl)

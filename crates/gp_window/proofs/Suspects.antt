-- The users of the locks after a use of one, and the suspects among the locks.
use Rattle.std.proofs.Common.{◌≡◌, refl, ℕ, ◌+◌, ◌≤◌, Bool, true, false, List, [], ◌∷◌, ◌∙◌, ap, sym, subst, inl, inr, arith}
use Rattle.std.specs.Prelude.{◌&&◌, ◌==◌, not, cond, if◌then◌else◌, nat_lt, Option, Some, None, is_some, option_map, unwrap_or}
use Rattle.std.specs.List.{count_by, find}
use Rattle.std.specs.Cmp.Lexicographic.{slice_cmp}
use Rattle.std.specs.Ordering.{nat_cmp}
use Rattle.std.specs.Str.{bytes_eq}
use Rattle.std.proofs.lemmas.Bool.{and_cases, false≢true, false_from_ne_true}
use Rattle.std.proofs.lemmas.Bool.Decides.{Decides-eqb, nat_tests}
use Rattle.std.proofs.lemmas.Slice.Eq.{bytes_eq-Decides}
use Rattle.gp_base.specs.Table.{value_at, with_entry, without_entry}
use Rattle.gp_base.specs.TableLaws.{dropped_apart, put_apart, put_here, same_or_apart}
use Rattle.gp_trace.specs.declared.lock_use.LockMode.{LockMode}
use Rattle.gp_trace.specs.declared.lock_use.LockMode.TheVariants.{Exclusive, Shared}
use Rattle.gp_window.specs.Contested.{first_contested, is_contested, is_held_beside}
use Rattle.gp_window.specs.Holders.{Holding, Holdings, holder_cmp, is_exclusive}
use Rattle.gp_window.specs.Users.{IsCounted, IsListed, acquires_of, may_contest, no_users, without_user, with_user, users_at}
use Rattle.gp_window.specs.declared.users.Users.{Users}
use Rattle.gp_window.proofs.Counts.{after_drop, after_put, alone, none_both, of_place}

-- a holding of this lock
abbrev on : List ℕ → Holding → Bool
on lock one = bytes_eq one.0.0 lock

-- a holding of this lock by an acquire
abbrev acquired : List ℕ → Holding → Bool
acquired lock one = bytes_eq one.0.0 lock && is_exclusive one.1

not_on : (lock other : List ℕ) → (lock ≡ other → ⊥) → bytes_eq other lock ≡ false
not_on lock other apart = false_from_ne_true (bytes_eq other lock) (λ same. apart (sym ((bytes_eq-Decides other lock).0 same)))

is_on : (lock : List ℕ) → bytes_eq lock lock ≡ true
is_on lock = (bytes_eq-Decides lock lock).1 refl

one_acquire : (mode : LockMode) → cond {A = ℕ} (is_exclusive mode) 1 0 ≡ acquires_of mode
one_acquire Exclusive = refl
one_acquire Shared = refl

-- the users of the lock whose users are put in, and those of the other locks
here : (users : List (List ℕ × Users)) (lock : List ℕ) (now : Users) → users_at (with_entry (slice_cmp nat_cmp) users lock now) lock ≡ now
here users lock now = ap (λ found. unwrap_or found no_users) (put_here users lock now)

elsewhere : (users : List (List ℕ × Users)) (lock other : List ℕ) (now : Users) → (other ≡ lock → ⊥)
    → users_at (with_entry (slice_cmp nat_cmp) users lock now) other ≡ users_at users other
elsewhere users lock other now apart = ap (λ found. unwrap_or found no_users) (put_apart users lock other now apart)

-- no lock but this has more holdings than before, and this one has no more than its new users say
abbrev AreCounted : Holdings → Users → List ℕ → Type 0
AreCounted held users lock = (count_by (on lock) held ≤ users.threads) × (count_by (acquired lock) held ≤ users.acquires)

counted_on : (held : Holdings) (users : List (List ℕ × Users)) (lock : List ℕ) (now : Users)
    → AreCounted held now lock → ((other : List ℕ) → (other ≡ lock → ⊥) → AreCounted held (users_at users other) other)
    → IsCounted held (with_entry (slice_cmp nat_cmp) users lock now)
counted_on held users lock now it others other =
    elim (same_or_apart other lock) [
      | inl same ↦ subst (λ place. AreCounted held (users_at (with_entry (slice_cmp nat_cmp) users lock now) place) place) (sym same)
          (subst (λ users. AreCounted held users lock) (sym (here users lock now)) it)
      | inr apart ↦ subst (λ users. AreCounted held users other) (sym (elsewhere users lock other now apart)) (others other apart)
    ]

-- after a thread takes a lock
pub taken : (held : Holdings) (users : List (List ℕ × Users)) (lock : List ℕ) (thread : ℕ) (mode : LockMode) → IsCounted held users
    → IsCounted (with_entry holder_cmp held (lock, thread) mode) (with_entry (slice_cmp nat_cmp) users lock (with_user mode (users_at users lock)))
taken held users lock thread mode all =
    let own : cond {A = ℕ} (acquired lock ((lock, thread), mode)) 1 0 ≡ acquires_of mode =
    ap (λ b. cond {A = ℕ} (b && is_exclusive mode) 1 0) (is_on lock) ∙ one_acquire mode in
    let one : cond {A = ℕ} (on lock ((lock, thread), mode)) 1 0 ≡ 1 = ap (λ b. cond b 1 0) (is_on lock) in
    let threads = after_put (on lock) held (lock, thread) mode in
    let acquires = after_put (acquired lock) held (lock, thread) mode in
    counted_on (with_entry holder_cmp held (lock, thread) mode) users lock (with_user mode (users_at users lock))
    (omega (arith, (all lock).0), omega (arith, (all lock).1))
    (λ other apart.
    let none : cond {A = ℕ} (on other ((lock, thread), mode)) 1 0 ≡ 0 = ap (λ b. cond b 1 0) (not_on other lock apart) in
    let neither : cond {A = ℕ} (acquired other ((lock, thread), mode)) 1 0 ≡ 0 = ap (λ b. cond {A = ℕ} (b && is_exclusive mode) 1 0) (not_on other lock apart) in
    let threads = after_put (on other) held (lock, thread) mode in
    let acquires = after_put (acquired other) held (lock, thread) mode in
    (omega (arith, (all other).0), omega (arith, (all other).1)))

fewer : (held less : Holdings) (lock : List ℕ) (thread : ℕ) (old : Option LockMode) (now : Users)
    → count_by (on lock) less + of_place (on lock) (lock, thread) old ≤ count_by (on lock) held
    → count_by (acquired lock) less + of_place (acquired lock) (lock, thread) old ≤ count_by (acquired lock) held
    → AreCounted held now lock → AreCounted less (without_user old now) lock
fewer held less lock thread None now threads acquires was = (omega (arith, was.0), omega (arith, was.1))
fewer held less lock thread (Some mode) now threads acquires was =
    let own : cond {A = ℕ} (acquired lock ((lock, thread), mode)) 1 0 ≡ acquires_of mode =
    ap (λ b. cond {A = ℕ} (b && is_exclusive mode) 1 0) (is_on lock) ∙ one_acquire mode in
    let one : cond {A = ℕ} (on lock ((lock, thread), mode)) 1 0 ≡ 1 = ap (λ b. cond b 1 0) (is_on lock) in
    (omega (arith, was.0), omega (arith, was.1))

-- after a thread gives a lock back
pub given_back : (held : Holdings) (users : List (List ℕ × Users)) (lock : List ℕ) (thread : ℕ) → IsCounted held users
    → IsCounted (without_entry holder_cmp held (lock, thread))
    (with_entry (slice_cmp nat_cmp) users lock (without_user (value_at holder_cmp held (lock, thread)) (users_at users lock)))
given_back held users lock thread all =
    counted_on (without_entry holder_cmp held (lock, thread)) users lock (without_user (value_at holder_cmp held (lock, thread)) (users_at users lock))
    (fewer held (without_entry holder_cmp held (lock, thread)) lock thread (value_at holder_cmp held (lock, thread)) (users_at users lock)
    (after_drop (on lock) held (lock, thread)) (after_drop (acquired lock) held (lock, thread)) (all lock))
    (λ other apart.
    let threads = after_drop (on other) held (lock, thread) in
    let acquires = after_drop (acquired other) held (lock, thread) in
    (omega (arith, (all other).0), omega (arith, (all other).1)))

-- the suspects with a lock that may be contested, and without one that cannot
abbrev suspected : List (List ℕ × Unit {0}) → List ℕ → Bool → List (List ℕ × Unit {0})
suspected suspects lock may = if may then with_entry (slice_cmp nat_cmp) suspects lock tt else without_entry (slice_cmp nat_cmp) suspects lock

listed_here : (suspects : List (List ℕ × Unit {0})) (lock : List ℕ) (may : Bool) → may ≡ true
    → value_at (slice_cmp nat_cmp) (suspected suspects lock may) lock ≡ Some tt
listed_here suspects lock true is = put_here suspects lock tt
listed_here suspects lock false is = absurd (false≢true is)

listed_apart : (suspects : List (List ℕ × Unit {0})) (lock other : List ℕ) (may : Bool) → (other ≡ lock → ⊥)
    → value_at (slice_cmp nat_cmp) (suspected suspects lock may) other ≡ value_at (slice_cmp nat_cmp) suspects other
listed_apart suspects lock other true apart = put_apart suspects lock other tt apart
listed_apart suspects lock other false apart = dropped_apart suspects lock other apart

-- after the users of a lock changed
pub listed_on : (users : List (List ℕ × Users)) (suspects : List (List ℕ × Unit {0})) (lock : List ℕ) (now : Users) → IsListed users suspects
    → IsListed (with_entry (slice_cmp nat_cmp) users lock now)
    (if may_contest now then with_entry (slice_cmp nat_cmp) suspects lock tt else without_entry (slice_cmp nat_cmp) suspects lock)
listed_on users suspects lock now all other may =
    elim (same_or_apart other lock) [
      | inl same ↦
          let there : users_at (with_entry (slice_cmp nat_cmp) users lock now) other ≡ now =
          ap (λ place. users_at (with_entry (slice_cmp nat_cmp) users lock now) place) same ∙ here users lock now in
          ap (λ place. value_at (slice_cmp nat_cmp) (suspected suspects lock (may_contest now)) place) same
          ∙ listed_here suspects lock (may_contest now) (sym (ap may_contest there) ∙ may)
      | inr apart ↦
          listed_apart suspects lock other (may_contest now) apart
          ∙ all other (sym (ap may_contest (elsewhere users lock other now apart)) ∙ may)
    ]

not_other : (n : ℕ) → not (n == n) ≡ false
not_other n = ap not ((Decides-eqb n n).1 refl)

at_most_one : (n : ℕ) → nat_lt 1 n ≡ false → n ≤ 1
at_most_one n is = grind (arith, nat_tests)

at_most_none : (n : ℕ) → nat_lt 0 n ≡ false → n ≤ 0
at_most_none n is = grind (arith, nat_tests)

-- a lock that may not be contested for its users is not
not_contested : (held : Holdings) (users : Users) (lock : List ℕ) → AreCounted held users lock → may_contest users ≡ false → is_contested held lock ≡ false
not_contested held users lock counted may =
    elim (and_cases (nat_lt 1 users.threads) (nat_lt 0 users.acquires) may) [
      | inl few ↦
          let one = at_most_one users.threads few in
          alone (on lock) (λ one. is_exclusive one.1) (λ other one. not (other.0.1 == one.0.1)) (λ one. not_other one.0.1) held (omega (arith, counted.0))
      | inr few ↦
          let none = at_most_none users.acquires few in
          none_both (on lock) (λ one. is_exclusive one.1) (λ one. is_held_beside held lock one.0.1) held (omega (arith, counted.1))
    ]

-- a lock that is no suspect is not contested
pub not_suspected : (held : Holdings) (users : List (List ℕ × Users)) (suspects : List (List ℕ × Unit {0})) (lock : List ℕ)
    → IsCounted held users → IsListed users suspects → is_some (value_at (slice_cmp nat_cmp) suspects lock) ≡ false → is_contested held lock ≡ false
not_suspected held users suspects lock counted listed none =
    not_contested held (users_at users lock) lock (counted lock)
    (false_from_ne_true (may_contest (users_at users lock)) (λ is. false≢true (sym none ∙ ap is_some (listed lock is))))

none_found : {X : Type 0} (test : X → Bool) (xs : List X) → ((x : X) → test x ≡ false) → find test xs ≡ None
none_found test [] all = refl
none_found test (x ∷ xs) all = ap (λ b. cond b (Some x) (find test xs)) (all x) ∙ none_found test xs all

-- without suspects no lock is contested
pub no_suspects : (held : Holdings) (users : List (List ℕ × Users)) (suspects : List (List ℕ × Unit {0}))
    → IsCounted held users → IsListed users suspects → suspects ≡ [] → None ≡ first_contested held
no_suspects held users suspects counted listed none =
    sym (ap (option_map (λ one. one.0.0)) (none_found (λ one. is_contested held one.0.0) held
    (λ one. not_suspected held users suspects one.0.0 counted listed (ap (λ suspects. is_some (value_at (slice_cmp nat_cmp) suspects one.0.0)) none))))

-- after a lock is taken, its users and the suspects
pub after_take : (held next : Holdings) (users more : List (List ℕ × Users)) (suspects rest : List (List ℕ × Unit {0})) (lock : List ℕ) (thread : ℕ) (mode : LockMode) (now : Users)
    → IsCounted held users → IsListed users suspects → next ≡ with_entry holder_cmp held (lock, thread) mode → now ≡ with_user mode (users_at users lock)
    → more ≡ with_entry (slice_cmp nat_cmp) users lock now
    → rest ≡ (if may_contest now then with_entry (slice_cmp nat_cmp) suspects lock tt else without_entry (slice_cmp nat_cmp) suspects lock)
    → IsCounted next more × IsListed more rest
after_take held next users more suspects rest lock thread mode now counted listed next_is now_is more_is rest_is =
    rw (next_is, more_is, rest_is, now_is) (taken held users lock thread mode counted, listed_on users suspects lock (with_user mode (users_at users lock)) listed)

-- after a lock is given back, its users and the suspects
pub after_give_back : (held next : Holdings) (users more : List (List ℕ × Users)) (suspects rest : List (List ℕ × Unit {0})) (lock : List ℕ) (thread : ℕ) (old : Option LockMode) (now : Users)
    → IsCounted held users → IsListed users suspects → old ≡ value_at holder_cmp held (lock, thread) → next ≡ without_entry holder_cmp held (lock, thread)
    → now ≡ without_user old (users_at users lock) → more ≡ with_entry (slice_cmp nat_cmp) users lock now
    → rest ≡ (if may_contest now then with_entry (slice_cmp nat_cmp) suspects lock tt else without_entry (slice_cmp nat_cmp) suspects lock)
    → IsCounted next more × IsListed more rest
after_give_back held next users more suspects rest lock thread old now counted listed old_is next_is now_is more_is rest_is =
    rw (next_is, more_is, rest_is, now_is, old_is)
    (given_back held users lock thread counted, listed_on users suspects lock (without_user (value_at holder_cmp held (lock, thread)) (users_at users lock)) listed)

-- a lock that is not found among the suspects is not contested
pub unsuspected : (held now : Holdings) (users : List (List ℕ × Users)) (suspects : List (List ℕ × Unit {0})) (lock : List ℕ) → held ≡ now
    → IsCounted now users → IsListed users suspects → None ≡ value_at (slice_cmp nat_cmp) suspects lock → false ≡ is_contested held lock
unsuspected held now users suspects lock same counted listed none =
    rw same (sym (not_suspected now users suspects lock counted listed (ap is_some (sym none))))

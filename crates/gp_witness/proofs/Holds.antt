-- How a thread's own events use locks, and which locks are held when the window begins.
use Rattle.std.proofs.Common.{ℕ, zero, suc, ◌≡◌, ◌⊎◌, ◌<◌, ap, sym, ◌∙◌, refl, subst, inl, inr, List, [], ◌∷◌, ◌++◌, arith}
use Rattle.std.specs.Prelude.{Some, None, Option, slice_get, Contains}
use Rattle.std.specs.Ordering.{is_eq, match_ordering}
use Rattle.std.specs.declared.cmp.Ordering.{Ordering}
use Rattle.std.specs.declared.cmp.Ordering.TheVariants.{Less, Equal, Greater}
use Rattle.std.proofs.lemmas.Bool.{cases_Bool, cases_eq}
use Rattle.std.proofs.lemmas.List.Elements.{Contains-append_left, Contains-append_right, Contains-append_cases}
use Rattle.gp_base.specs.Table.{with_entries, with_entry}
use Rattle.gp_base.specs.TableLaws.{dropped_apart, put_apart, put_here, same_or_apart}
use Rattle.gp_trace.specs.declared.event.Event.{Event}
use Rattle.gp_trace.specs.declared.lock_use.LockMode.{LockMode}
use Rattle.gp_trace.specs.declared.lock_use.LockMode.TheVariants.{Exclusive, Shared}
use Rattle.gp_trace.specs.declared.lock_use.LockUse.{LockUse}
use Rattle.gp_trace.specs.declared.lock_use.LockUse.TheVariants.{Take, GiveBack}
use Rattle.gp_trace.specs.LockUse.{held_after_use, HeldLocks, IsGoodUse, lock_use_of, LocksAreUsedWell, mode_held}
use Rattle.gp_window.specs.Formed.{IsFormed, mode_at_start, stands_at}
use Rattle.gp_window.specs.Holders.{holder_cmp, Holding, Holdings, held_as}
use Rattle.gp_window.specs.WindowForm.{WindowForm, held_at_start}
use Rattle.gp_window.specs.HoldersLaws.{found_pair, stands_to}
use Rattle.gp_replay.specs.LockUses.{use_of}
use Rattle.gp_base.specs.ListLaws.{contains_from_map, contains_map, first_or_rest, here, nothing_in, there}

-- a lock that is held is given back in that way, or still held so
held_or_given : (held : HeldLocks) (lock_use : Option LockUse) (lock : List ℕ) (m : LockMode) → mode_held held lock ≡ Some m → IsGoodUse held lock_use
    → (lock_use ≡ Some (GiveBack m lock)) ⊎ (mode_held (held_after_use held lock_use) lock ≡ Some m)
held_or_given held None lock m is good = inr is
held_or_given held (Some (Take other name)) lock m is good =
    elim (same_or_apart lock name) [
      | inl same ↦
          let free : mode_held held lock ≡ None = subst (λ n. mode_held held n ≡ None) (sym same) good in
          let bad : ◌≡◌ {A = Option LockMode} None (Some m) = sym free ∙ is in cc
      | inr apart ↦ inr (put_apart held name lock other apart ∙ is)
    ]
held_or_given held (Some (GiveBack other name)) lock m is good =
    elim (same_or_apart lock name) [
      | inl same ↦
          let found : mode_held held lock ≡ Some other = subst (λ n. mode_held held n ≡ Some other) (sym same) good in
          let both : ◌≡◌ {A = Option LockMode} (Some other) (Some m) = sym found ∙ is in
          let mode : other ≡ m = cc in
          inl (ap (λ n. Some (GiveBack other n)) (sym same) ∙ ap (λ k. Some (GiveBack k lock)) mode)
      | inr apart ↦ inr (dropped_apart held name lock apart ∙ is)
    ]

-- a lock that is held is given back before it is taken
pub given_before : (held : HeldLocks) (events : List Event) (at : ℕ) (lock : List ℕ) (m mode : LockMode) → LocksAreUsedWell held events
    → mode_held held lock ≡ Some m → use_of (slice_get events at) ≡ Some (Take mode lock)
    → (end : ℕ) × (end < at) × (use_of (slice_get events end) ≡ Some (GiveBack m lock))
given_before held [] at lock m mode well is there = cc
given_before held (event ∷ events) zero lock m mode well is there =
    let free : mode_held held lock ≡ None = subst (λ u. IsGoodUse held u) there well.0 in
    let bad : ◌≡◌ {A = Option LockMode} None (Some m) = sym free ∙ is in cc
given_before held (event ∷ events) (suc at) lock m mode well is there =
    elim (held_or_given held (lock_use_of event) lock m is well.0) [
      | inl given ↦ (0, omega arith, given)
      | inr kept ↦
          let rest = given_before (held_after_use held (lock_use_of event)) events at lock m mode well.1 kept there in
          let less = rest.1 in
          (suc rest.0, omega (arith, less), rest.2)
    ]

-- a lock that is taken is given back before it is taken again
pub given_between : (held : HeldLocks) (events : List Event) (one at : ℕ) (lock : List ℕ) (m mode : LockMode) → LocksAreUsedWell held events
    → one < at → use_of (slice_get events one) ≡ Some (Take m lock) → use_of (slice_get events at) ≡ Some (Take mode lock)
    → (end : ℕ) × (one < end) × (end < at) × (use_of (slice_get events end) ≡ Some (GiveBack m lock))
given_between held events one zero lock m mode well less first second = absurd (omega (arith, less))
given_between held [] one (suc at) lock m mode well less first second = cc
given_between held (event ∷ events) zero (suc at) lock m mode well less first second =
    let next : HeldLocks = held_after_use held (Some (Take m lock)) in
    let now : LocksAreUsedWell next events = subst (λ u. LocksAreUsedWell (held_after_use held u) events) first well.1 in
    let rest = given_before next events at lock m mode now (put_here held lock m) second in
    let early = rest.1 in
    (suc rest.0, omega arith, omega (arith, early), rest.2)
given_between held (event ∷ events) (suc one) (suc at) lock m mode well less first second =
    let rest = given_between (held_after_use held (lock_use_of event)) events one at lock m mode well.1 (omega (arith, less)) first second in
    let low = rest.1 in
    let high = rest.2 in
    (suc rest.0, omega (arith, low), omega (arith, high), rest.3)

-- what was put into the table of holds is there
put_in : (hold : Holding) (rest more : Holdings) (key : List ℕ × ℕ) (mode : LockMode) (order : Ordering) → holder_cmp key hold.0 ≡ order
    → Contains more (key, mode) → Contains (match_ordering order ((key, mode) ∷ hold ∷ rest) ((hold.0, mode) ∷ rest) (hold ∷ more)) (key, mode)
put_in hold rest more key mode Less is i = here _ (hold ∷ rest)
put_in hold rest more key mode Equal is i = let same = found_pair key hold.0 (ap is_eq is) in (0, omega arith, (λ j. (sym same j, mode)))
put_in hold rest more key mode Greater is i = there _ _ _ i

has_put : (held : Holdings) (key : List ℕ × ℕ) (mode : LockMode) → Contains (with_entry holder_cmp held key mode) (key, mode)
has_put [] key mode = here _ []
has_put (hold ∷ held) key mode =
    put_in hold held (with_entry holder_cmp held key mode) key mode (holder_cmp key hold.0) refl (has_put held key mode)

-- and what stands at another lock or thread stays
kept_in : (hold : Holding) (rest more : Holdings) (key place : List ℕ × ℕ) (mode other : LockMode) (order : Ordering) → holder_cmp key hold.0 ≡ order
    → (place ≡ key → ⊥) → (Contains rest (place, other) → Contains more (place, other)) → Contains (hold ∷ rest) (place, other)
    → Contains (match_ordering order ((key, mode) ∷ hold ∷ rest) ((hold.0, mode) ∷ rest) (hold ∷ more)) (place, other)
kept_in hold rest more key place mode other Less is apart go i = there _ (hold ∷ rest) _ i
kept_in hold rest more key place mode other Equal is apart go i =
    elim (first_or_rest _ _ _ i) [
      | inl same ↦
          absurd (apart (sym (ap (λ (h : Holding). h.0) same) ∙ sym (found_pair key hold.0 (ap is_eq is))))
      | inr i ↦ there _ _ _ i
    ]
kept_in hold rest more key place mode other Greater is apart go i =
    elim (first_or_rest _ _ _ i) [
      | inl same ↦ (0, omega arith, same)
      | inr i ↦ there _ _ _ (go i)
    ]

has_stays : (held : Holdings) (key place : List ℕ × ℕ) (mode other : LockMode) → (place ≡ key → ⊥) → Contains held (place, other)
    → Contains (with_entry holder_cmp held key mode) (place, other)
has_stays [] key place mode other apart i = absurd (nothing_in _ i)
has_stays (hold ∷ held) key place mode other apart i =
    kept_in hold held (with_entry holder_cmp held key mode) key place mode other (holder_cmp key hold.0) refl apart
    (has_stays held key place mode other apart) i

same_or_other : (one other : List ℕ × ℕ) → (one ≡ other) ⊎ (one ≡ other → ⊥)
same_or_other one other =
    elim (same_or_apart one.0 other.0) [
      | inl name ↦ elim (cases_eq one.1 other.1) [
        | inl thread ↦ inl (λ i. (name i, thread i))
        | inr apart ↦ inr (λ same. apart (ap (λ (h : List ℕ × ℕ). h.1) same))
      ]
      | inr apart ↦ inr (λ same. apart (ap (λ (h : List ℕ × ℕ). h.0) same))
    ]

has_entries : (start more : Holdings) (key : List ℕ × ℕ) (mode : LockMode) → ((m : LockMode) → Contains more (key, m) → m ≡ mode)
    → Contains start (key, mode) ⊎ Contains more (key, mode) → Contains (with_entries holder_cmp start more) (key, mode)
has_entries start [] key mode one (inl i) = i
has_entries start [] key mode one (inr none) = absurd (nothing_in _ none)
has_entries start (hold ∷ more) key mode one i =
    let next : Holdings = with_entry holder_cmp start hold.0 hold.1 in
    elim (same_or_other hold.0 key) [
      | inl same ↦
          let own : hold.1 ≡ mode = one hold.1 (0, omega arith, (λ j. (same j, hold.1))) in
          let put : Contains next (hold.0, hold.1) = has_put start hold.0 hold.1 in
          let placed : ◌≡◌ {A = Holding} (hold.0, hold.1) (key, mode) = λ j. (same j, own j) in
          has_entries next more key mode (λ m j. one m (there _ _ _ j)) (inl (subst (λ (h : Holding). Contains next h) placed put))
      | inr apart ↦ elim i [
        | inl old ↦
            has_entries next more key mode (λ m j. one m (there _ _ _ j)) (inl (has_stays start hold.0 key hold.1 mode (λ same. apart (sym same)) old))
        | inr new ↦ elim (first_or_rest _ _ _ new) [
          | inl now ↦ absurd (apart (ap (λ (h : Holding). h.0) now))
          | inr later ↦ has_entries next more key mode (λ m j. one m (there _ _ _ j)) (inr later)
        ]
      ]
    ]

-- the way of a hold in a list of one way
mode_as : (way : LockMode) (pairs : List (List ℕ × ℕ)) (key : List ℕ × ℕ) (m : LockMode) → Contains (held_as way pairs) (key, m) → (way ≡ m) × Contains pairs key
mode_as way pairs key m i =
    let back = contains_from_map (λ (holder : List ℕ × ℕ). (holder, way)) pairs (key, m) i in
    (ap (λ (h : Holding). h.1) back.2, subst (λ k. Contains pairs k) (ap (λ (h : Holding). h.0) back.2) back.1)

not_both : (window : WindowForm) (lock : List ℕ) (thread : ℕ) → IsFormed window → Contains window.holders (lock, thread) → Contains window.readers (lock, thread) → ⊥
not_both window lock thread formed i j =
    formed.alone lock thread thread (i) (j)

-- a lock that a thread holds when the window begins is one of the holds at the start
pub mode_held_at : (window : WindowForm) (lock : List ℕ) (thread : ℕ) (m : LockMode) → IsFormed window → mode_at_start window thread lock ≡ Some m
    → Contains (held_at_start window) ((lock, thread), m)
mode_held_at window lock thread m formed is =
    let alone : Holdings = held_as Exclusive window.holders in
    let shared : Holdings = held_as Shared window.readers in
    elim (cases_Bool (stands_at window.holders lock thread)) [
      | inl holds ↦
          let mode : ◌≡◌ {A = Option LockMode} (Some Exclusive) (Some m) = rw holds at is in
          let own : Exclusive ≡ m = cc in
          let i : Contains window.holders (lock, thread) = stands_to window.holders lock thread holds in
          let here : Contains (alone ++ shared) ((lock, thread), Exclusive) =
          Contains-append_left alone shared ((lock, thread), Exclusive) (contains_map (λ (h : List ℕ × ℕ). (h, Exclusive)) window.holders (lock, thread) i) in
          subst (λ k. Contains (held_at_start window) ((lock, thread), k)) own
          (has_entries [] (alone ++ shared) (lock, thread) Exclusive (λ k j. elim (Contains-append_cases alone shared ((lock, thread), k) j) [
            | inl one ↦ sym (mode_as Exclusive window.holders (lock, thread) k one).0
            | inr other ↦ absurd (not_both window lock thread formed i (mode_as Shared window.readers (lock, thread) k other).1)
          ]) (inr here))
      | inr none ↦ elim (cases_Bool (stands_at window.readers lock thread)) [
        | inl reads ↦
            let mode : ◌≡◌ {A = Option LockMode} (Some Shared) (Some m) = rw (none, reads) at is in
            let own : Shared ≡ m = cc in
            let i : Contains window.readers (lock, thread) = stands_to window.readers lock thread reads in
            let here : Contains (alone ++ shared) ((lock, thread), Shared) =
            Contains-append_right alone shared ((lock, thread), Shared) (contains_map (λ (h : List ℕ × ℕ). (h, Shared)) window.readers (lock, thread) i) in
            subst (λ k. Contains (held_at_start window) ((lock, thread), k)) own
            (has_entries [] (alone ++ shared) (lock, thread) Shared (λ k j. elim (Contains-append_cases alone shared ((lock, thread), k) j) [
              | inl one ↦ absurd (not_both window lock thread formed (mode_as Exclusive window.holders (lock, thread) k one).1 i)
              | inr other ↦ sym (mode_as Shared window.readers (lock, thread) k other).0
            ]) (inr here))
        | inr neither ↦ (let bad : ◌≡◌ {A = Option LockMode} None (Some m) = rw (none, neither) at is in cc)
      ]
    ]

-- The holds at the start are those that the window tells.
use Rattle.std.proofs.Common.{ℕ, ◌≡◌, ap, sym, refl, subst, inl, inr, List, [], ◌∷◌, ◌++◌, Bool, true, false}
use Rattle.std.specs.Prelude.{Option, Some, None, if◌then◌else◌, Contains}
use Rattle.std.specs.BTreeMap.{insert_entry, is_at}
use Rattle.std.specs.List.{AllByRecursion}
use Rattle.std.specs.Ordering.{is_eq, match_ordering}
use Rattle.std.specs.declared.cmp.Ordering.{Ordering}
use Rattle.std.specs.declared.cmp.Ordering.TheVariants.{Less, Equal, Greater}
use Rattle.std.proofs.lemmas.Bool.{cases_Bool, false_from_ne_true}
use Rattle.gp_base.specs.Table.{with_entries, with_entry}
use Rattle.gp_trace.specs.declared.lock_use.LockMode.{LockMode}
use Rattle.gp_trace.specs.declared.lock_use.LockMode.TheVariants.{Exclusive, Shared}
use Rattle.gp_window.specs.Formed.{IsFormed, mode_at_start, stands_at}
use Rattle.gp_window.specs.Holders.{Holding, Holdings, holder_cmp, held_as}
use Rattle.gp_window.specs.HoldersLaws.{found_itself, found_pair, stands_to}
use Rattle.gp_window.specs.WindowForm.{WindowForm, held_at_start}
use Rattle.gp_base.specs.ListLaws.{first_or_rest, nothing_in, recursion_append, recursion_at, recursion_map}

-- the window tells the hold
abbrev pub IsHold : WindowForm → Holding → Type 0
IsHold window hold = mode_at_start window hold.0.1 hold.0.0 ≡ Some hold.1

stands_here : (pairs : List (List ℕ × ℕ)) (pair : List ℕ × ℕ) → Contains pairs pair → stands_at pairs pair.0 pair.1 ≡ true
stands_here [] pair has = absurd (nothing_in _ has)
stands_here (first ∷ pairs) pair has =
    elim (first_or_rest _ _ _ has) [
      | inl same ↦
          let here : is_at (holder_cmp pair) first ≡ true = subst (λ p. is_at (holder_cmp pair) p ≡ true) (sym same) (found_itself pair) in
          rw here refl
      | inr has ↦
          elim (cases_Bool (is_at (holder_cmp pair) first)) [
            | inl here ↦ rw here refl
            | inr other ↦ rw other (stands_here pairs pair has)
          ]
    ]

first_mode : (holds reads : Bool) → holds ≡ true → ◌≡◌ {A = Option LockMode} (if holds then Some Exclusive else (if reads then Some Shared else None)) (Some Exclusive)
first_mode holds reads e = rw e refl

second_mode : (holds reads : Bool) → holds ≡ false → reads ≡ true
    → ◌≡◌ {A = Option LockMode} (if holds then Some Exclusive else (if reads then Some Shared else None)) (Some Shared)
second_mode holds reads e f = rw (e, f) refl

-- all entries are told after one more is
put_told : (window : WindowForm) (entries : Holdings) (place : List ℕ × ℕ) (mode : LockMode) → AllByRecursion (IsHold window) entries → IsHold window (place, mode)
    → AllByRecursion (IsHold window) (insert_entry holder_cmp entries place mode)
put_told window [] place mode all told = (told, tt)
put_told window (entry ∷ entries) place mode all told = at (holder_cmp place entry.0) refl (put_told window entries place mode all.1 told)
  where
    at : (order : Ordering) → holder_cmp place entry.0 ≡ order → AllByRecursion (IsHold window) (insert_entry holder_cmp entries place mode)
        → AllByRecursion (IsHold window) (match_ordering order ((place, mode) ∷ entry ∷ entries) ((entry.0, mode) ∷ entries) (entry ∷ insert_entry holder_cmp entries place mode))
    at Less is rest = (told, all)
    at Equal is rest =
        let same : place ≡ entry.0 = found_pair place entry.0 (ap is_eq is) in
        (subst (λ p. IsHold window (p, mode)) same told, all.1)
    at Greater is rest = (all.0, rest)

put_all_told : (window : WindowForm) (entries more : Holdings) → AllByRecursion (IsHold window) entries → AllByRecursion (IsHold window) more
    → AllByRecursion (IsHold window) (with_entries holder_cmp entries more)
put_all_told window entries [] all told = all
put_all_told window entries (entry ∷ more) all told =
    put_all_told window (with_entry holder_cmp entries entry.0 entry.1) more (put_told window entries entry.0 entry.1 all told.0) told.1

-- each hold at the start is told by the window
pub holds_from : (window : WindowForm) → IsFormed window → (hold : Holding) → Contains (held_at_start window) hold → IsHold window hold
holds_from window formed hold has =
    let alone : Holdings = held_as Exclusive window.holders in
    let beside : Holdings = held_as Shared window.readers in
    let holders : AllByRecursion (IsHold window) alone =
    recursion_map (IsHold window) (λ pair. (pair, Exclusive)) window.holders (λ pair among.
    first_mode (stands_at window.holders pair.0 pair.1) (stands_at window.readers pair.0 pair.1) (stands_here window.holders pair among)) in
    let readers : AllByRecursion (IsHold window) beside =
    recursion_map (IsHold window) (λ pair. (pair, Shared)) window.readers (λ pair among.
    let reads = stands_here window.readers pair among in
    second_mode (stands_at window.holders pair.0 pair.1) (stands_at window.readers pair.0 pair.1)
    (false_from_ne_true _ (λ holds. formed.alone pair.0 pair.1 pair.1 (stands_to window.holders pair.0 pair.1 holds) (stands_to window.readers pair.0 pair.1 reads))) reads) in
    recursion_at (IsHold window) (held_at_start window) hold (put_all_told window [] (alone ++ beside) tt (recursion_append (IsHold window) alone beside holders readers)) has

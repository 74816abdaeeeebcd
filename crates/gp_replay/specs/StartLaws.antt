-- Laws: a window begins as it tells, where it is formed.
use Rattle.std.proofs.Common.{ℕ, true, ◌≡◌, ◌∙◌, sym, ap, refl, subst, List, [], ◌∷◌, ◌++◌, append_assoc}
use Rattle.std.specs.Prelude.{◌↔◌, Some}
use Rattle.std.specs.declared.cmp.Ordering.{Ordering}
use Rattle.std.specs.declared.cmp.Ordering.TheVariants.{Less, Greater}
use Rattle.std.specs.Cmp.Lexicographic.{slice_cmp}
use Rattle.std.specs.Ordering.{nat_cmp, ordering_reverse}
use Rattle.std.specs.Cmp.{IsTotalOrder}
use Rattle.std.specs.BTreeSet.{insert_key}
use Rattle.std.specs.List.{AllByRecursion}
use Rattle.std.specs.List.Sorted.{IsStrictlySortedBy}
use Rattle.std.proofs.lemmas.Cmp.{nat_list_cmp_total}
use Rattle.std.proofs.lemmas.List.{append-nil}
use Rattle.std.proofs.lemmas.Map.Lookups.{exact_bytes}
use Rattle.std.proofs.lemmas.Map.Views.{Contains-from_lookup, tells_apart}
use Rattle.gp_window.specs.Holders.{holder_cmp}
use Rattle.gp_window.specs.HoldersLaws.{holder_total, stands_to}
use Rattle.gp_trace.specs.declared.lock_use.LockMode.TheVariants.{Exclusive, Shared}
use Rattle.gp_window.specs.Formed.{IsFormed, mode_at_start}
use Rattle.gp_window.specs.FormedLaws.{holds_at_start, reads_at_start}
use Rattle.gp_window.specs.WindowForm.{WindowForm}
use Rattle.gp_replay.specs.Readers.{is_reader, with_readers}
use Rattle.gp_replay.specs.Step.{holder_of, start_state}
use Rattle.gp_replay.specs.ExclusionLaws.{HoldersAreAlone}
use Rattle.gp_base.specs.OrderLaws.{put_all_in_order}
use Rattle.gp_base.specs.Table.{value_at}

-- a key above all others goes to their end
add_last : {K : Type 0} {R : K → K → Ordering} (o : IsTotalOrder R) (prefix : List K) (k : K)
    → AllByRecursion (λ key. R key k ≡ Less) prefix → insert_key R prefix k ≡ prefix ++ k ∷ []
add_last o [] k below = refl
add_last {R = R} o (first ∷ prefix) k below =
    let above : R k first ≡ Greater = o.antisymm k first ∙ ap ordering_reverse below.0 in
    rw above (ap (λ rest. first ∷ rest) (add_last o prefix k below.1))

-- what holds of all keys holds of the one in the middle
key_in_middle : {K : Type 0} (P : K → Type 0) (prefix : List K) (k : K) (back : List K) → AllByRecursion P (prefix ++ k ∷ back) → P k
key_in_middle P [] k back all = all.0
key_in_middle P (first ∷ prefix) k back all = key_in_middle P prefix k back all.1

-- in an order the keys before one are below it
keys_below_middle : {K : Type 0} (R : K → K → Ordering) (prefix : List K) (k : K) (back : List K)
    → IsStrictlySortedBy R (prefix ++ k ∷ back) → AllByRecursion (λ key. R key k ≡ Less) prefix
unfolding IsStrictlySortedBy
keys_below_middle R [] k back sorted = tt
keys_below_middle R (first ∷ prefix) k back sorted =
    (key_in_middle (λ key. R first key ≡ Less) prefix k back sorted.0, keys_below_middle R prefix k back sorted.1)

-- readers in order, after others that are all before them, stay as they are
add_in_order : (prefix back : List (List ℕ × ℕ)) → IsStrictlySortedBy holder_cmp (prefix ++ back) → with_readers prefix back ≡ prefix ++ back
add_in_order prefix [] sorted = sym (append-nil prefix)
add_in_order prefix (reader ∷ back) sorted =
    let moved : (prefix ++ reader ∷ []) ++ back ≡ prefix ++ reader ∷ back = append_assoc prefix (reader ∷ []) back in
    let last : insert_key holder_cmp prefix reader ≡ prefix ++ reader ∷ [] = add_last holder_total prefix reader (keys_below_middle holder_cmp prefix reader back sorted) in
    ap (λ readers. with_readers readers back) last
    ∙ add_in_order (prefix ++ reader ∷ []) back (subst (λ readers. IsStrictlySortedBy holder_cmp readers) (sym moved) sorted)
    ∙ moved

-- readers in order are the readers that are added one after another
pub add_all_in_order : (readers : List (List ℕ × ℕ)) → IsStrictlySortedBy holder_cmp readers → with_readers [] readers ≡ readers
add_all_in_order readers sorted = add_in_order [] readers sorted

-- a window begins as it tells, where it is formed
pub values_as_told : (window : WindowForm) → IsFormed window → (start_state window).values ≡ window.start_values
values_as_told window formed = put_all_in_order nat_list_cmp_total window.start_values formed.values

pub holders_as_told : (window : WindowForm) → IsFormed window → (start_state window).holders ≡ window.holders
holders_as_told window formed = put_all_in_order nat_list_cmp_total window.holders formed.holders

pub readers_as_told : (window : WindowForm) → IsFormed window → (start_state window).readers ≡ window.readers
readers_as_told window formed = add_all_in_order window.readers formed.readers

-- a thread is the holder of a lock where it holds the lock alone, and a reader where it reads it
pub held_as_told : (window : WindowForm) → IsFormed window → (lock : List ℕ) (thread : ℕ)
    → (holder_of (start_state window) lock ≡ Some thread) ↔ (mode_at_start window thread lock ≡ Some Exclusive)
held_as_told window formed lock thread =
    subst (λ holders. (value_at (slice_cmp nat_cmp) holders lock ≡ Some thread) ↔ (mode_at_start window thread lock ≡ Some Exclusive))
    (sym (holders_as_told window formed)) (holds_at_start window formed lock thread)

pub read_as_told : (window : WindowForm) → IsFormed window → (lock : List ℕ) (thread : ℕ)
    → (is_reader (start_state window).readers lock thread ≡ true) ↔ (mode_at_start window thread lock ≡ Some Shared)
read_as_told window formed lock thread =
    subst (λ readers. (is_reader readers lock thread ≡ true) ↔ (mode_at_start window thread lock ≡ Some Shared))
    (sym (readers_as_told window formed)) (reads_at_start window formed lock thread)

-- and no lock that has a holder then has a reader
pub alone_at_start : (window : WindowForm) → IsFormed window → HoldersAreAlone (start_state window)
alone_at_start window formed lock one other holds reads =
    formed.alone lock one other
    (Contains-from_lookup (tells_apart exact_bytes) lock one window.holders
    (ap (λ holders. value_at (slice_cmp nat_cmp) holders lock) (sym (holders_as_told window formed)) ∙ holds))
    (stands_to window.readers lock other (subst (λ readers. is_reader readers lock other ≡ true) (readers_as_told window formed) reads))

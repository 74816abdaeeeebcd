-- Laws: which threads are readers after one is added or taken away.
use Rattle.std.proofs.Common.{ℕ, ◌≡◌, ◌<◌, arith, ap, sym, ◌∙◌, refl, subst, inl, inr, Bool, true, false, cond, not, List, [], ◌∷◌, filter}
use Rattle.std.specs.Prelude.{◌||◌, IfSome, slice_get}
use Rattle.std.specs.declared.cmp.Ordering.{Ordering}
use Rattle.std.specs.declared.cmp.Ordering.TheVariants.{Less, Equal, Greater}
use Rattle.std.specs.BTreeMap.{is_at}
use Rattle.std.specs.BTreeMap.Range.{IsLeBy}
use Rattle.std.specs.BTreeSet.{BTreeSet, IsKeyInRange, IsKeyRangeOf, insert_key}
use Rattle.std.specs.Cmp.{IsTotalOrder}
use Rattle.std.specs.Cmp.Lexicographic.{slice_cmp}
use Rattle.std.specs.List.{list_any}
use Rattle.std.specs.Ordering.{is_eq, is_gt, match_ordering, nat_cmp, ordering_reverse, ordering_then}
use Rattle.std.specs.Set.{remove_key}
use Rattle.std.specs.declared.ops.Bound.TheVariants.{Included, Unbounded}
use Rattle.std.specs.Str.{bytes_eq}
use Rattle.std.proofs.lemmas.Bool.{cases_Bool, false_from_ne_true, true≢false, false≢true}
use Rattle.std.proofs.lemmas.Cmp.{alike_right, nat_list_cmp_total, ranked, tied_itself}
use Rattle.std.proofs.lemmas.Map.Lookups.{exact_bytes}
use Rattle.std.proofs.lemmas.Map.Views.{any-filter_same}
use Rattle.std.proofs.lemmas.Slice.Eq.{bytes_eq-Decides}
use Rattle.gp_window.specs.Holders.{holder_cmp}
use Rattle.gp_window.specs.HoldersLaws.{found_is_same, found_itself, holder_total, not_found}
use Rattle.gp_replay.specs.Readers.{has_reader, is_reader, with_reader, without_reader}

or_swapped : (a b c : Bool) → (a || (b || c)) ≡ (b || (a || c))
or_swapped true true c = refl
or_swapped true false c = refl
or_swapped false true c = refl
or_swapped false false c = refl

or_twice : (a b : Bool) → (a || b) ≡ (a || (a || b))
or_twice true b = refl
or_twice false b = refl

-- a key is added before the first, not at all, or behind it
added_head : {K : Type 0} {R : K → K → Ordering} (o : IsTotalOrder R) (order : Ordering) (first : K) (rest : List K) (key place : K) → R key first ≡ order
    → list_any (is_at (R place)) (insert_key R rest key) ≡ (is_at (R place) key || list_any (is_at (R place)) rest)
    → list_any (is_at (R place)) (match_ordering order (key ∷ first ∷ rest) (first ∷ rest) (first ∷ insert_key R rest key))
    ≡ (is_at (R place) key || (is_at (R place) first || list_any (is_at (R place)) rest))
added_head o Less first rest key place is more = refl
added_head {R = R} o Equal first rest key place is more =
    let alike : is_at (R place) key ≡ is_at (R place) first = ap is_eq (alike_right o key first place is) in
    or_twice (is_at (R place) first) (list_any (is_at (R place)) rest)
    ∙ ap (λ b. b || (is_at (R place) first || list_any (is_at (R place)) rest)) (sym alike)
added_head {R = R} o Greater first rest key place is more =
    ap (λ b. is_at (R place) first || b) more ∙ or_swapped (is_at (R place) first) (is_at (R place) key) (list_any (is_at (R place)) rest)

-- after a key is added, it is there, and all others as before
member_after_insert : {K : Type 0} {R : K → K → Ordering} (o : IsTotalOrder R) (keys : List K) (key place : K)
    → list_any (is_at (R place)) (insert_key R keys key) ≡ (is_at (R place) key || list_any (is_at (R place)) keys)
member_after_insert o [] key place = refl
member_after_insert {R = R} o (first ∷ rest) key place =
    added_head o (R key first) first rest key place refl (member_after_insert o rest key place)

-- a thread that was added is a reader
pub added_here : (readers : List (List ℕ × ℕ)) (lock : List ℕ) (thread : ℕ) → is_reader (with_reader readers (lock, thread)) lock thread ≡ true
added_here readers lock thread =
    member_after_insert holder_total readers (lock, thread) (lock, thread)
    ∙ ap (λ b. b || is_reader readers lock thread) (found_itself (lock, thread))

-- all others are readers as before
pub added_apart : (readers : List (List ℕ × ℕ)) (lock name : List ℕ) (thread other : ℕ) → (name ≡ lock → other ≡ thread → ⊥)
    → is_reader (with_reader readers (lock, thread)) name other ≡ is_reader readers name other
added_apart readers lock name thread other apart =
    member_after_insert holder_total readers (lock, thread) (name, other)
    ∙ ap (λ b. b || is_reader readers name other) (not_found name other (lock, thread) apart)

-- a thread that was taken away is no reader
pub dropped_here : (readers : List (List ℕ × ℕ)) (lock : List ℕ) (thread : ℕ) → is_reader (without_reader readers (lock, thread)) lock thread ≡ false
dropped_here readers lock thread =
    any-filter_same (is_at (holder_cmp (lock, thread))) (λ reader. not (is_at (holder_cmp (lock, thread)) reader)) false (λ reader e. ap not e) readers

-- all others are readers as before
pub dropped_apart : (readers : List (List ℕ × ℕ)) (lock name : List ℕ) (thread other : ℕ) → (name ≡ lock → other ≡ thread → ⊥)
    → is_reader (without_reader readers (lock, thread)) name other ≡ is_reader readers name other
dropped_apart readers lock name thread other apart =
    any-filter_same (is_at (holder_cmp (name, other))) (λ reader. not (is_at (holder_cmp (lock, thread)) reader)) true
    (λ reader e.
    let here = found_is_same name other reader e in
    ap not (not_found lock thread reader (λ a b. apart (here.0 ∙ sym a) (here.1 ∙ sym b))))
    readers

-- one of two tests that fail together
neither : (a b : Bool) → (a || b) ≡ false → (a ≡ false) × (b ≡ false)
neither true b e = absurd (true≢false e)
neither false b e = (refl, e)

-- where a lock has no reader, no thread is one
pub no_reader : (readers : List (List ℕ × ℕ)) (lock : List ℕ) (thread : ℕ) → has_reader readers lock ≡ false → is_reader readers lock thread ≡ false
no_reader [] lock thread e = refl
no_reader (reader ∷ readers) lock thread e =
    let parts = neither (bytes_eq reader.0 lock) (has_reader readers lock) e in
    let here : is_at (holder_cmp (lock, thread)) reader ≡ false =
    not_found lock thread reader (λ same u. true≢false (sym ((bytes_eq-Decides reader.0 lock).1 (sym same)) ∙ parts.0)) in
    ap (λ b. b || is_reader readers lock thread) here ∙ no_reader readers lock thread parts.1

-- what is found nowhere is filtered out nowhere
none_filtered : {K : Type 0} (test : K → Bool) (keys : List K) → list_any test keys ≡ false → filter (λ key. not (test key)) keys ≡ keys
none_filtered test [] e = refl
none_filtered test (key ∷ keys) e =
    let parts = neither (test key) (list_any test keys) e in
    ap (λ b. cond (not b) (key ∷ filter (λ other. not (test other)) keys) (filter (λ other. not (test other)) keys)) parts.0
    ∙ ap (λ rest. key ∷ rest) (none_filtered test keys parts.1)

removed_head : {K : Type 0} (test : K → Bool) (key : K) (keys : List K) (b : Bool)
    → (list_any test (remove_key test keys) ≡ false → remove_key test keys ≡ filter (λ other. not (test other)) keys)
    → test key ≡ b → list_any test (cond b keys (key ∷ remove_key test keys)) ≡ false
    → cond b keys (key ∷ remove_key test keys)
    ≡ cond (not b) (key ∷ filter (λ other. not (test other)) keys) (filter (λ other. not (test other)) keys)
removed_head test key keys true more is e = sym (none_filtered test keys e)
removed_head test key keys false more is e =
    ap (λ rest. key ∷ rest) (more ((neither (test key) (list_any test (remove_key test keys)) e).1))

-- a key that is nowhere after it was removed once was filtered out
pub removed_is_filtered : {K : Type 0} (test : K → Bool) (keys : List K)
    → list_any test (remove_key test keys) ≡ false → remove_key test keys ≡ filter (λ key. not (test key)) keys
removed_is_filtered test [] e = refl
removed_is_filtered test (key ∷ keys) e = removed_head test key keys (test key) (removed_is_filtered test keys) refl e

either_way : (a b : Bool) → b ≡ true → (a || b) ≡ true
either_way true b e = refl
either_way false b e = e

-- orders of which one is the reverse of the other, and none of which is above
level : (one other : Ordering) → one ≡ ordering_reverse other → is_gt one ≡ false → is_gt other ≡ false → one ≡ Equal
level one Less back up down = absurd (true≢false (ap is_gt (sym back) ∙ up))
level one Equal back up down = back
level one Greater back up down = absurd (true≢false down)

-- a lock that has a reader has some thread as one
pub some_reader : (readers : List (List ℕ × ℕ)) (lock : List ℕ) → has_reader readers lock ≡ true → (thread : ℕ) × (is_reader readers lock thread ≡ true)
some_reader [] lock e = absurd (false≢true e)
some_reader (reader ∷ readers) lock e =
    elim (cases_Bool (bytes_eq reader.0 lock)) [
      | inl same ↦
          let is : reader.0 ≡ lock = (bytes_eq-Decides reader.0 lock).0 same in
          let here : is_at (holder_cmp (lock, reader.1)) reader ≡ true =
          subst (λ name. is_at (holder_cmp (name, reader.1)) reader ≡ true) is (found_itself reader) in
          (reader.1, ap (λ b. b || is_reader readers lock reader.1) here)
      | inr differ ↦
          let later : has_reader readers lock ≡ true = sym (ap (λ b. b || has_reader readers lock) differ) ∙ e in
          let more = some_reader readers lock later in
          (more.0, either_way (is_at (holder_cmp (lock, more.0)) reader) (is_reader readers lock more.0) more.1)
    ]

-- what is not above is not above by its first part
first_not_above : (first second : Ordering) → is_gt (ordering_then first second) ≡ false → is_gt first ≡ false
first_not_above Less second e = refl
first_not_above Equal second e = refl
first_not_above Greater second e = e

-- two names of which none is above the other are the same
same_name : (one other : List ℕ) → is_gt (slice_cmp nat_cmp one other) ≡ false → is_gt (slice_cmp nat_cmp other one) ≡ false → one ≡ other
same_name one other up down =
    exact_bytes one other (level (slice_cmp nat_cmp one other) (slice_cmp nat_cmp other one) (nat_list_cmp_total.antisymm one other) up down)

-- no number is below 0
none_below : (order : Ordering) (n : ℕ) → order ≡ nat_cmp 0 n → is_gt order ≡ false
none_below Less n e = refl
none_below Equal n e = refl
none_below Greater n e = let below : n < 0 = ranked 0 n Greater e in absurd (omega arith)

-- every reader of a lock comes from here on
from_first : (lock : List ℕ) (thread : ℕ) → is_gt (holder_cmp (lock, 0) (lock, thread)) ≡ false
from_first lock thread =
    ap (λ order. is_gt (ordering_then order (nat_cmp 0 thread))) (tied_itself nat_list_cmp_total lock) ∙ none_below (nat_cmp 0 thread) thread refl

-- the first reader from a lock on is one of the lock exactly where the lock has a reader
first_tells_with : (readers : List (List ℕ × ℕ)) (lock : List ℕ) (first : List ℕ × ℕ)
    → is_gt (holder_cmp (lock, 0) first) ≡ false → list_any (is_at (holder_cmp first)) readers ≡ true
    → ((thread : ℕ) → is_reader readers lock thread ≡ true → is_gt (holder_cmp first (lock, thread)) ≡ false)
    → (has : Bool) → has_reader readers lock ≡ has → bytes_eq first.0 lock ≡ has
first_tells_with readers lock first up there least true e =
    let some = some_reader readers lock e in
    let low = first_not_above (slice_cmp nat_cmp lock first.0) (nat_cmp 0 first.1) up in
    let high = first_not_above (slice_cmp nat_cmp first.0 lock) (nat_cmp first.1 some.0) (least some.0 some.1) in
    (bytes_eq-Decides first.0 lock).1 (same_name first.0 lock high low)
first_tells_with readers lock first up there least false e =
    false_from_ne_true _ (λ same.
    let is : first.0 ≡ lock = (bytes_eq-Decides first.0 lock).0 same in
    let here : is_reader readers lock first.1 ≡ true = subst (λ name. is_reader readers name first.1 ≡ true) is there in
    true≢false (sym here ∙ no_reader readers lock first.1 e))

pub first_tells : (set : BTreeSet (List ℕ × ℕ)) (lock : List ℕ) (range : List (List ℕ × ℕ)) (first : List ℕ × ℕ) (rest : List (List ℕ × ℕ))
    → range ≡ first ∷ rest → IsKeyRangeOf holder_cmp (Included (lock, 0)) Unbounded set range
    → bytes_eq first.0 lock ≡ has_reader set.keys lock
first_tells set lock range first rest is in_range =
    let found = subst (λ (r : List (List ℕ × ℕ)). IfSome (slice_get r 0) (IsKeyInRange holder_cmp (Included (lock, 0)) Unbounded set)) is in_range.1 in
    let least = λ (thread : ℕ) (reads : is_reader set.keys lock thread ≡ true).
    subst (λ (r : List (List ℕ × ℕ)). IfSome (slice_get r 0) (λ key. IsLeBy holder_cmp key (lock, thread))) is
    (in_range.2 (lock, thread) (from_first lock thread, tt) reads) in
    first_tells_with set.keys lock first found.0.0 found.1 least (has_reader set.keys lock) refl

-- where no reader comes from a lock on, the lock has none
pub none_tells : (set : BTreeSet (List ℕ × ℕ)) (lock : List ℕ) (range : List (List ℕ × ℕ))
    → range ≡ [] → IsKeyRangeOf holder_cmp (Included (lock, 0)) Unbounded set range → false ≡ has_reader set.keys lock
none_tells set lock range is in_range =
    sym (false_from_ne_true _ (λ has.
    let some = some_reader set.keys lock has in
    true≢false (sym some.1 ∙ in_range.5 is (lock, some.0) (from_first lock some.0, tt))))

-- Laws: tables stay in the order of their keys, and entries in that order are the table into which they are put.
use Rattle.std.specs.Prelude.{◌≡◌, Bool, true, false, cond, not, filter, List, [], ◌∷◌, ◌++◌}
use Rattle.std.specs.declared.cmp.Ordering.{Ordering}
use Rattle.std.specs.declared.cmp.Ordering.TheVariants.{Less, Equal, Greater}
use Rattle.std.specs.BTreeMap.{insert_entry}
use Rattle.std.specs.Cmp.{IsTotalOrder}
use Rattle.std.specs.List.{AllByRecursion}
use Rattle.std.specs.List.Sorted.{IsStrictlySortedBy}
use Rattle.std.specs.Map.{keys_of}
use Rattle.std.specs.Ordering.{match_ordering, ordering_reverse}
use Rattle.std.proofs.Common.{refl, ap, ◌∙◌}
use Rattle.gp_base.specs.Table.{with_entries, with_entry}

-- what holds of each holds still where it tells less
pub each : {X : Type 0} (P Q : X → Type 0) → ((x : X) → P x → Q x) → (xs : List X) → AllByRecursion P xs → AllByRecursion Q xs
each P Q less [] all = tt
each P Q less (x ∷ xs) all = (less x all.0, each P Q less xs all.1)

all_put_at : {K V : Type 0} (P : K → Type 0) (R : K → K → Ordering) (order : Ordering) (e : K × V) (es : List (K × V)) (k : K) (v : V)
    → P k → AllByRecursion P (keys_of (e ∷ es)) → AllByRecursion P (keys_of (insert_entry R es k v))
    → AllByRecursion P (keys_of (match_ordering order ((k, v) ∷ e ∷ es) ((e.0, v) ∷ es) (e ∷ insert_entry R es k v)))
all_put_at P R Less e es k v here all more = (here, all)
all_put_at P R Equal e es k v here all more = all
all_put_at P R Greater e es k v here all more = (all.0, more)

-- what holds of all keys and of one more
all_put : {K V : Type 0} (P : K → Type 0) (R : K → K → Ordering) (es : List (K × V)) (k : K) (v : V) → P k → AllByRecursion P (keys_of es)
    → AllByRecursion P (keys_of (insert_entry R es k v))
all_put P R [] k v here all = (here, tt)
all_put P R (e ∷ es) k v here all = all_put_at P R (R k e.0) e es k v here all (all_put P R es k v here all.1)

put_at : {K V : Type 0} {R : K → K → Ordering} (o : IsTotalOrder R) (order : Ordering) (e : K × V) (es : List (K × V)) (k : K) (v : V)
    → R k e.0 ≡ order → IsStrictlySortedBy R (keys_of (e ∷ es)) → IsStrictlySortedBy R (keys_of (insert_entry R es k v))
    → IsStrictlySortedBy R (keys_of (match_ordering order ((k, v) ∷ e ∷ es) ((e.0, v) ∷ es) (e ∷ insert_entry R es k v)))
unfolding IsStrictlySortedBy
put_at {R = R} o Less e es k v is rise more =
    ((is, each (λ y. R e.0 y ≡ Less) (λ y. R k y ≡ Less) (λ y less. o.trans k e.0 y is less) (keys_of es) rise.0), rise)
put_at o Equal e es k v is rise more = rise
put_at {R = R} o Greater e es k v is rise more =
    let below : R e.0 k ≡ Less = o.antisymm e.0 k ∙ ap ordering_reverse is in
    (all_put (λ y. R e.0 y ≡ Less) R es k v below rise.0, more)

-- the keys rise after one entry is put in
pub put_rises : {K V : Type 0} {R : K → K → Ordering} (o : IsTotalOrder R) (es : List (K × V)) (k : K) (v : V)
    → IsStrictlySortedBy R (keys_of es) → IsStrictlySortedBy R (keys_of (with_entry R es k v))
unfolding IsStrictlySortedBy
put_rises o [] k v rise = (tt, tt)
put_rises {R = R} o (e ∷ es) k v rise = put_at o (R k e.0) e es k v refl rise (put_rises o es k v rise.1)

all_kept_at : {K V : Type 0} (P : K → Type 0) (b : Bool) (e : K × V) (rest : List (K × V)) → P e.0 → AllByRecursion P (keys_of rest)
    → AllByRecursion P (keys_of (cond b (e ∷ rest) rest))
all_kept_at P true e rest here all = (here, all)
all_kept_at P false e rest here all = all

-- what holds of all keys holds of those that are kept
pub all_kept : {K V : Type 0} (P : K → Type 0) (p : K × V → Bool) (es : List (K × V)) → AllByRecursion P (keys_of es)
    → AllByRecursion P (keys_of (filter p es))
all_kept P p [] all = tt
all_kept P p (e ∷ es) all = all_kept_at P (p e) e (filter p es) all.0 (all_kept P p es all.1)

kept_at : {K V : Type 0} (R : K → K → Ordering) (b : Bool) (e : K × V) (rest : List (K × V)) → AllByRecursion (λ y. R e.0 y ≡ Less) (keys_of rest)
    → IsStrictlySortedBy R (keys_of rest) → IsStrictlySortedBy R (keys_of (cond b (e ∷ rest) rest))
unfolding IsStrictlySortedBy
kept_at R true e rest above rise = (above, rise)
kept_at R false e rest above rise = rise

-- the keys of the entries that are kept rise
pub filter_rises : {K V : Type 0} (R : K → K → Ordering) (p : K × V → Bool) (es : List (K × V)) → IsStrictlySortedBy R (keys_of es)
    → IsStrictlySortedBy R (keys_of (filter p es))
unfolding IsStrictlySortedBy
filter_rises R p [] rise = tt
filter_rises R p (e ∷ es) rise =
    kept_at R (p e) e (filter p es) (all_kept (λ y. R e.0 y ≡ Less) p es rise.0) (filter_rises R p es rise.1)

-- an entry below all others goes to their front
put_first : {K V : Type 0} (R : K → K → Ordering) (first : K × V) (es : List (K × V)) → AllByRecursion (λ y. R first.0 y ≡ Less) (keys_of es)
    → with_entry R es first.0 first.1 ≡ first ∷ es
put_first R first [] above = refl
put_first R first (e ∷ es) above = rw above.0 refl

-- entries that are all above the first are put in behind it
put_above : {K V : Type 0} {R : K → K → Ordering} (o : IsTotalOrder R) (first : K × V) (es more : List (K × V))
    → AllByRecursion (λ y. R first.0 y ≡ Less) (keys_of more) → with_entries R (first ∷ es) more ≡ first ∷ with_entries R es more
put_above o first es [] above = refl
put_above {R = R} o first es (e ∷ more) above =
    let behind : R e.0 first.0 ≡ Greater = o.antisymm e.0 first.0 ∙ ap ordering_reverse above.0 in
    rw behind (put_above o first (insert_entry R es e.0 e.1) more above.1)

-- entries in the order of their keys are the table into which they are put
pub put_all_in_order : {K V : Type 0} {R : K → K → Ordering} (o : IsTotalOrder R) (es : List (K × V)) → IsStrictlySortedBy R (keys_of es)
    → with_entries R [] es ≡ es
unfolding IsStrictlySortedBy
put_all_in_order o [] rise = refl
put_all_in_order o (e ∷ es) rise = put_above o e [] es rise.0 ∙ ap (λ rest. e ∷ rest) (put_all_in_order o es rise.1)

parts_at : {K V : Type 0} {R : K → K → Ordering} (o : IsTotalOrder R) (b : Bool) (e : K × V) (kept other whole : List (K × V))
    → AllByRecursion (λ y. R e.0 y ≡ Less) (keys_of kept) → AllByRecursion (λ y. R e.0 y ≡ Less) (keys_of other) → with_entries R kept other ≡ whole
    → with_entries R (cond b (e ∷ kept) kept) (cond (not b) (e ∷ other) other) ≡ e ∷ whole
parts_at o true e kept other whole above beside is = put_above o e kept other beside ∙ ap (λ rest. e ∷ rest) is
parts_at {R = R} o false e kept other whole above beside is =
    ap (λ entries. with_entries R entries other) (put_first R e kept above) ∙ put_above o e kept other beside ∙ ap (λ rest. e ∷ rest) is

-- the entries that fail a test, put in among those that pass it, give all back
pub parts_in_order : {K V : Type 0} {R : K → K → Ordering} (o : IsTotalOrder R) (p : K × V → Bool) (es : List (K × V)) → IsStrictlySortedBy R (keys_of es)
    → with_entries R (filter p es) (filter (λ e. not (p e)) es) ≡ es
unfolding IsStrictlySortedBy
parts_in_order o p [] rise = refl
parts_in_order {R = R} o p (e ∷ es) rise =
    parts_at o (p e) e (filter p es) (filter (λ e. not (p e)) es) es (all_kept (λ y. R e.0 y ≡ Less) p es rise.0)
    (all_kept (λ y. R e.0 y ≡ Less) (λ e. not (p e)) es rise.0) (parts_in_order o p es rise.1)

-- two lists of entries are put in one after the other
pub put_both : {K V : Type 0} (R : K → K → Ordering) (es first second : List (K × V))
    → with_entries R es (first ++ second) ≡ with_entries R (with_entries R es first) second
put_both R es [] second = refl
put_both R es (e ∷ first) second = put_both R (with_entry R es e.0 e.1) first second

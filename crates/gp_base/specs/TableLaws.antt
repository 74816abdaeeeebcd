-- Laws: what a table holds at a key after a change.
use Rattle.std.specs.Prelude.{◌≡◌, ◌⊎◌, refl, ℕ, Bool, true, false, cond, not, filter, List, [], ◌∷◌, Option, Some, None}
use Rattle.std.specs.declared.cmp.Ordering.{Ordering}
use Rattle.std.specs.declared.cmp.Ordering.TheVariants.{Less, Equal, Greater}
use Rattle.std.specs.BTreeMap.{insert_entry, is_at}
use Rattle.std.specs.Cmp.{IsTotalOrder}
use Rattle.std.specs.Cmp.Lexicographic.{slice_cmp}
use Rattle.std.specs.Map.{lookup}
use Rattle.std.specs.Ordering.{nat_cmp, is_eq, match_ordering}
use Rattle.std.proofs.Common.{sym, ap, subst, ◌∙◌, inl, inr}
use Rattle.std.proofs.lemmas.Bool.{cases_Bool, false≢true, true≢false, false_from_ne_true}
use Rattle.std.proofs.lemmas.Cmp.{alike_right, tied_itself, nat_list_cmp_total}
use Rattle.std.proofs.lemmas.Map.Lookups.{exact_bytes}
use Rattle.gp_base.specs.Table.{value_at, with_entry, without_entry}

-- what the same test decides twice
decided_twice : {X : Type 0} (b : Bool) (x y z : X) → cond b x z ≡ cond b x (cond b y z)
decided_twice true x y z = refl
decided_twice false x y z = refl

-- two tests that never hold together may be tried in either order
either_order : {X : Type 0} (a b : Bool) (x y z : X) → (a ≡ true → b ≡ true → ⊥) → cond a x (cond b y z) ≡ cond b y (cond a x z)
either_order true true x y z apart = absurd (apart refl refl)
either_order true false x y z apart = refl
either_order false true x y z apart = refl
either_order false false x y z apart = refl

equal_from : (order : Ordering) → is_eq order ≡ true → order ≡ Equal
equal_from Less tied = absurd (false≢true tied)
equal_from Equal tied = refl
equal_from Greater tied = absurd (false≢true tied)

-- a key that two keys are equal to makes these equal
not_greater : {K : Type 0} {R : K → K → Ordering} (o : IsTotalOrder R) (key place other : K)
    → R key other ≡ Greater → is_at (R place) other ≡ true → is_at (R place) key ≡ true → ⊥
not_greater {R = R} o key place other above here there =
    let same : R place key ≡ Equal = equal_from (R place key) there in
    let alike : R place other ≡ R key other = o.congr place key other same in
    true≢false (sym here ∙ ap is_eq (alike ∙ above))

-- an entry is put in before the first, in its place, or behind it
put_head : {K V : Type 0} {R : K → K → Ordering} (o : IsTotalOrder R) (order : Ordering) (entry : K × V) (entries : List (K × V)) (key place : K) (value : V)
    → R key entry.0 ≡ order
    → lookup (is_at (R place)) (insert_entry R entries key value) ≡ cond (is_at (R place) key) (Some value) (lookup (is_at (R place)) entries)
    → lookup (is_at (R place)) (match_ordering order ((key, value) ∷ entry ∷ entries) ((entry.0, value) ∷ entries) (entry ∷ insert_entry R entries key value))
    ≡ cond (is_at (R place) key) (Some value) (cond (is_at (R place) entry.0) (Some entry.1) (lookup (is_at (R place)) entries))
put_head o Less entry entries key place value is rest = refl
put_head {V = V} {R = R} o Equal entry entries key place value is rest =
    let found : Option V = lookup (is_at (R place)) entries in
    let test : Bool = is_at (R place) entry.0 in
    subst (λ (order : Ordering). cond test (Some value) found ≡ cond (is_eq order) (Some value) (cond test (Some entry.1) found))
    (sym (alike_right o key entry.0 place is)) (decided_twice test (Some value) (Some entry.1) found)
put_head {R = R} o Greater entry entries key place value is rest =
    ap (cond (is_at (R place) entry.0) (Some entry.1)) rest
    ∙ either_order (is_at (R place) entry.0) (is_at (R place) key) (Some entry.1) (Some value) (lookup (is_at (R place)) entries) (not_greater o key place entry.0 is)

-- in a total order of keys: the value that was put in is found at its key, and all others as before
pub value_after_put : {K V : Type 0} {R : K → K → Ordering} (o : IsTotalOrder R) (entries : List (K × V)) (key place : K) (value : V)
    → value_at R (with_entry R entries key value) place ≡ cond (is_at (R place) key) (Some value) (value_at R entries place)
value_after_put o [] key place value = refl
value_after_put {R = R} o (entry ∷ entries) key place value =
    put_head o (R key entry.0) entry entries key place value refl (value_after_put o entries key place value)

dropped_head : {K V : Type 0} (test : K → Bool) (entry : K × V) (rest : List (K × V)) (b : Bool) → test entry.0 ≡ b
    → lookup test rest ≡ None → lookup test (cond (not b) (entry ∷ rest) rest) ≡ None
dropped_head test entry rest true is none = none
dropped_head test entry rest false is none = ap (λ b. cond b (Some entry.1) (lookup test rest)) is ∙ none

-- nothing is found at a key whose entries are taken away
dropped_all : {K V : Type 0} (test : K → Bool) (entries : List (K × V)) → lookup test (filter (λ entry. not (test entry.0)) entries) ≡ None
dropped_all test [] = refl
dropped_all test (entry ∷ entries) = dropped_head test entry _ (test entry.0) refl (dropped_all test entries)

kept_head : {K V : Type 0} (test other : K → Bool) (entry : K × V) (rest entries : List (K × V)) (b : Bool) → test entry.0 ≡ b
    → (test entry.0 ≡ true → other entry.0 ≡ false) → lookup other rest ≡ lookup other entries
    → lookup other (cond (not b) (entry ∷ rest) rest) ≡ cond (other entry.0) (Some entry.1) (lookup other entries)
kept_head test other entry rest entries true is apart same =
    same ∙ sym (ap (λ b. cond b (Some entry.1) (lookup other entries)) (apart is))
kept_head test other entry rest entries false is apart same = ap (cond (other entry.0) (Some entry.1)) same

-- entries that are taken away are not found by a test that fails at them
kept_all : {K V : Type 0} (test other : K → Bool) (entries : List (K × V)) → ((key : K) → test key ≡ true → other key ≡ false)
    → lookup other (filter (λ entry. not (test entry.0)) entries) ≡ lookup other entries
kept_all test other [] apart = refl
kept_all test other (entry ∷ entries) apart =
    kept_head test other entry _ entries (test entry.0) refl (apart entry.0) (kept_all test other entries apart)

-- two names are the same, or not
pub same_or_apart : (a b : List ℕ) → (a ≡ b) ⊎ (a ≡ b → ⊥)
same_or_apart a b =
    elim (cases_Bool (is_eq (slice_cmp nat_cmp a b))) [
      | inl tied ↦ inl (exact_bytes a b (equal_from (slice_cmp nat_cmp a b) tied))
      | inr differ ↦ inr (λ same.
          true≢false (sym (ap is_eq (tied_itself nat_list_cmp_total a))
          ∙ ap (λ name. is_eq (slice_cmp nat_cmp a name)) same ∙ differ))
    ]

not_at : (place key : List ℕ) → (place ≡ key → ⊥) → is_at (slice_cmp nat_cmp place) key ≡ false
not_at place key apart =
    false_from_ne_true _ (λ tied. apart (exact_bytes place key (equal_from (slice_cmp nat_cmp place key) tied)))

-- the value that was put in is found at its name
pub put_here : {V : Type 0} (entries : List (List ℕ × V)) (key : List ℕ) (value : V)
    → value_at (slice_cmp nat_cmp) (with_entry (slice_cmp nat_cmp) entries key value) key ≡ Some value
put_here entries key value =
    value_after_put nat_list_cmp_total entries key key value
    ∙ ap (λ order. cond (is_eq order) (Some value) (value_at (slice_cmp nat_cmp) entries key)) (tied_itself nat_list_cmp_total key)

-- at every other name the table is as it was
pub put_apart : {V : Type 0} (entries : List (List ℕ × V)) (key place : List ℕ) (value : V) → (place ≡ key → ⊥)
    → value_at (slice_cmp nat_cmp) (with_entry (slice_cmp nat_cmp) entries key value) place ≡ value_at (slice_cmp nat_cmp) entries place
put_apart entries key place value apart =
    value_after_put nat_list_cmp_total entries key place value
    ∙ ap (λ b. cond b (Some value) (value_at (slice_cmp nat_cmp) entries place)) (not_at place key apart)

-- nothing is found at a name that was taken away
pub dropped_here : {V : Type 0} (entries : List (List ℕ × V)) (key : List ℕ)
    → value_at (slice_cmp nat_cmp) (without_entry (slice_cmp nat_cmp) entries key) key ≡ None
dropped_here entries key = dropped_all (is_at (slice_cmp nat_cmp key)) entries

-- at every other name the table is as it was
pub dropped_apart : {V : Type 0} (entries : List (List ℕ × V)) (key place : List ℕ) → (place ≡ key → ⊥)
    → value_at (slice_cmp nat_cmp) (without_entry (slice_cmp nat_cmp) entries key) place ≡ value_at (slice_cmp nat_cmp) entries place
dropped_apart entries key place apart =
    kept_all (is_at (slice_cmp nat_cmp key)) (is_at (slice_cmp nat_cmp place)) entries
    (λ other passes. not_at place other (λ is.
    apart (is ∙ sym (exact_bytes key other (equal_from (slice_cmp nat_cmp key other) passes)))))

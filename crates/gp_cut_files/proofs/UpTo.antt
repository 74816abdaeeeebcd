-- The values that are given for a window and those before it are those with which the window begins.
use Rattle.std.proofs.Common.{◌≡◌, refl, ap, ◌∙◌, inl, inr, ℕ, ℤ, zero, suc, ◌<◌, ◌≤◌, List, [], ◌∷◌, ◌++◌, map, filter, arith, eq-eqb, ne_eqb}
use Rattle.std.specs.Prelude.{◌==◌}
use Rattle.std.specs.declared.cmp.Ordering.{Ordering}
use Rattle.std.specs.declared.cmp.Ordering.TheVariants.{Less, Equal, Greater}
use Rattle.std.specs.Cmp.Lexicographic.{slice_cmp}
use Rattle.std.specs.List.{AllByRecursion}
use Rattle.std.specs.List.Sorted.{IsStrictlySortedBy}
use Rattle.std.specs.Ordering.{nat_cmp, ordering_then}
use Rattle.std.proofs.lemmas.Bool.{cases_order, le-leb, lt-leb}
use Rattle.std.proofs.lemmas.Cmp.{ranked}
use Rattle.std.proofs.lemmas.List.Elements.{recursion_from_All}
use Rattle.gp_base.specs.Table.{with_entry}
use Rattle.gp_window.specs.declared.manifest.StartValue.{StartValue}
use Rattle.gp_window.specs.ManifestForm.{IsInside, IsManifest, ManifestForm, place_cmp, place_of}
use Rattle.gp_window.specs.WindowForm.{given_all, values_at}
use Rattle.gp_cut_files.specs.Values.{is_up_to}

-- values that are given for no window before this one
abbrev NotBefore : ℕ → List StartValue → Type 0
NotBefore window given = AllByRecursion (λ (value : StartValue). window ≤ value.window) given

-- each value is given for no window before that of a value before it
abbrev Rising : List StartValue → Type 0
Rising [] = Unit {0}
Rising (value ∷ given) = NotBefore value.window given × Rising given

-- a place that comes before another is in no later window
window_le : (one other : ℕ) (answer rest : Ordering) → answer ≡ nat_cmp one other → ordering_then answer rest ≡ Less → one ≤ other
window_le one other Less rest is less = let lt : one < other = ranked one other Less is in omega arith
window_le one other Equal rest is less = let same : one ≡ other = ranked one other Equal is in omega arith
window_le one other Greater rest is less = absurd (cc)

not_before : (value : StartValue) (given : List StartValue)
    → AllByRecursion (λ place. place_cmp (place_of value) place ≡ Less) (map place_of given) → NotBefore value.window given
not_before value [] all = tt
not_before value (next ∷ given) all = (
  window_le value.window next.window (nat_cmp value.window next.window) (slice_cmp nat_cmp value.variable next.variable) refl all.0,
  not_before value given all.1,
)

rising_from : (given : List StartValue) → IsStrictlySortedBy place_cmp (map place_of given) → Rising given
unfolding IsStrictlySortedBy
rising_from [] sorted = tt
rising_from (value ∷ given) sorted = (not_before value given sorted.0, rising_from given sorted.1)

from_first : (epochs : ℕ) (given : List StartValue) → AllByRecursion (IsInside epochs) (map place_of given) → NotBefore 1 given
from_first epochs [] all = tt
from_first epochs (value ∷ given) all = (all.0.0, from_first epochs given all.1)

-- none of them is given for an earlier window
none_earlier : (window first : ℕ) (given : List StartValue) → window < first → NotBefore first given → filter (is_up_to window) given ≡ []
none_earlier window first [] below all = refl
none_earlier window first (value ∷ given) below all =
    rw (lt-leb value.window window (omega (arith, below, all.0))) (none_earlier window first given below all.1)

-- the values up to the next window are those up to this one, and those of the next
up_to_next : (k : ℕ) (given : List StartValue) → Rising given
    → filter (is_up_to (suc k)) given ≡ filter (is_up_to k) given ++ filter (λ value. value.window == suc k) given
up_to_next k [] rising = refl
up_to_next k (value ∷ given) rising =
    let rest = up_to_next k given rising.1 in
    elim (cases_order value.window (suc k)) [
      | inl same ↦
          let none : filter (is_up_to k) given ≡ [] = none_earlier k value.window given (omega (arith, same)) rising.0 in
          let now = filter (λ (value : StartValue). value.window == suc k) given in
          let later : filter (is_up_to (suc k)) given ≡ now = rest ∙ ap (λ early. early ++ now) none in
          rw (le-leb value.window (suc k) (omega (arith, same)), lt-leb value.window k (omega (arith, same)), eq-eqb value.window (suc k) same, none)
          (ap (λ more. value ∷ more) later)
      | inr (inl less) ↦
          rw (le-leb value.window (suc k) (omega (arith, less)), le-leb value.window k (omega (arith, less)), ne_eqb value.window (suc k) (λ same. absurd (omega (arith, same, less))))
          (ap (λ more. value ∷ more) rest)
      | inr (inr more) ↦
          rw (lt-leb value.window (suc k) more, lt-leb value.window k (omega (arith, more)), ne_eqb value.window (suc k) (λ same. absurd (omega (arith, same, more))))
          rest
    ]

given_then : (values : List (List ℕ × ℤ)) (first second : List StartValue) → given_all values (first ++ second) ≡ given_all (given_all values first) second
given_then values [] second = refl
given_then values (one ∷ first) second = given_then (with_entry (slice_cmp nat_cmp) values one.variable one.value) first second

given_up_to : (given : List StartValue) (k : ℕ) → Rising given → NotBefore 1 given → given_all [] (filter (is_up_to k) given) ≡ values_at given k
given_up_to given zero rising first = ap (given_all []) (none_earlier 0 1 given (omega arith) first)
given_up_to given (suc k) rising first =
    let now = filter (λ (value : StartValue). value.window == suc k) given in
    ap (given_all []) (up_to_next k given rising)
    ∙ given_then [] (filter (is_up_to k) given) now
    ∙ ap (λ values. given_all values now) (given_up_to given k rising first)

-- the values of a manifest up to a window are those with which the window begins
pub values_up_to : (m : ManifestForm) → IsManifest m → (k : ℕ) → given_all [] (filter (is_up_to k) m.values) ≡ values_at m.values k
values_up_to m kept k =
    given_up_to m.values k (rising_from m.values kept.ordered)
    (from_first m.epochs m.values (recursion_from_All (IsInside m.epochs) (map place_of m.values) kept.inside))

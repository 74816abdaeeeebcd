-- What a walk carries, from one window to the next.
use Rattle.std.proofs.Common.{◌≡◌, refl, ℕ, suc, ◌+◌, ◌-◌, ◌≤◌, ◌<◌, ℤ, Bool, true, false, List, [], ◌∷◌, ◌++◌, map, ◌∙◌, ap, sym, arith}
use Rattle.std.specs.Prelude.{◌==◌, nat_lt, filter, if◌then◌else◌}
use Rattle.std.specs.List.{AllByRecursion}
use Rattle.std.specs.List.Sorted.{IsStrictlySortedBy}
use Rattle.std.specs.Ordering.{nat_cmp, ordering_then}
use Rattle.std.specs.Cmp.Lexicographic.{slice_cmp}
use Rattle.std.specs.declared.cmp.Ordering.{Ordering}
use Rattle.std.specs.declared.cmp.Ordering.TheVariants.{Less, Equal, Greater}
use Rattle.std.proofs.lemmas.Bool.Decides.{nat_tests}
use Rattle.std.proofs.lemmas.Cmp.{ranked}
use Rattle.std.proofs.lemmas.List.Elements.{recursion_from_All}
use Rattle.gp_window.specs.declared.manifest.StartValue.{StartValue}
use Rattle.gp_window.specs.Holders.{Holdings, held_after_window}
use Rattle.gp_window.specs.ManifestForm.{IsInside, IsManifest, ManifestForm, place_cmp, place_of}
use Rattle.gp_window.specs.RecordingForm.{IsRecording, RecordingForm}
use Rattle.gp_base.specs.Table.{with_entry}
use Rattle.gp_window.specs.Walk.{IsCarried, after_given, later_values, past_given}
use Rattle.gp_window.specs.WindowForm.{given_all, started_in, values_at}

-- the values for one window alone
abbrev at : ℕ → List StartValue → List StartValue
at k given = filter (λ value. value.window == k) given

-- no value is for an earlier window than this one
abbrev NotBefore : ℕ → List StartValue → Type 0
NotBefore k given = AllByRecursion (λ value. k ≤ value.window) given

-- the windows never fall
abbrev Rising : List StartValue → Type 0
Rising [] = Unit {0}
Rising (value ∷ given) = NotBefore value.window given × Rising given

none_at : (k : ℕ) (value : StartValue) (rest : List StartValue) (here : Bool) → (value.window == k) ≡ here → k < value.window → rest ≡ []
    → (if here then value ∷ rest else rest) ≡ []
none_at k value rest true is late none = absurd (grind (arith, nat_tests))
none_at k value rest false is late none = none

-- no value is for a window before all of theirs
later_none : (k first : ℕ) (given : List StartValue) → k < first → NotBefore first given → at k given ≡ []
later_none k first [] late all = refl
later_none k first (value ∷ given) late all =
    none_at k value (at k given) (value.window == k) refl (omega (arith, all.0)) (later_none k first given late all.1)

kept_later : (k : ℕ) (value : StartValue) (kept rest : List StartValue) (test : Bool) → nat_lt k value.window ≡ test → k < value.window → kept ≡ rest
    → (if test then value ∷ kept else kept) ≡ value ∷ rest
kept_later k value kept rest true is late same = ap (λ rest. value ∷ rest) same
kept_later k value kept rest false is late same = absurd (grind (arith, nat_tests))

-- all values are for later windows than one before all of theirs
all_later : (k first : ℕ) (given : List StartValue) → k < first → NotBefore first given → later_values k given ≡ given
all_later k first [] late all = refl
all_later k first (value ∷ given) late all =
    kept_later k value (later_values k given) given (nat_lt k value.window) refl (omega (arith, all.0)) (all_later k first given late all.1)

value_given : (k : ℕ) (value : StartValue) (later one : List StartValue) (values : List (List ℕ × ℤ)) (late here : Bool)
    → nat_lt k value.window ≡ late → (value.window == suc k) ≡ here → (suc k < value.window → one ≡ [])
    → ((values : List (List ℕ × ℤ)) → after_given (suc k) values later ≡ given_all values one)
    → after_given (suc k) values (if late then value ∷ later else later) ≡ given_all values (if here then value ∷ one else one)
value_given k value later one values true true l h none same = rw h (same (with_entry (slice_cmp nat_cmp) values value.variable value.value))
value_given k value later one values true false l h none same =
    let empty : one ≡ [] = none (grind (arith, nat_tests)) in
    rw (h, empty) refl
value_given k value later one values false true l h none same = absurd (grind (arith, nat_tests))
value_given k value later one values false false l h none same = same values

-- what is given at the front of the later values is what is given for the next window
front_given : (k : ℕ) (given : List StartValue) (values : List (List ℕ × ℤ)) → Rising given
    → after_given (suc k) values (later_values k given) ≡ given_all values (at (suc k) given)
front_given k [] values rising = refl
front_given k (value ∷ given) values rising =
    value_given k value (later_values k given) (at (suc k) given) values (nat_lt k value.window) (value.window == suc k) refl refl
    (λ late. later_none (suc k) value.window given late rising.0)
    (λ values. front_given k given values rising.1)

value_passed : (k : ℕ) (value : StartValue) (later after : List StartValue) (late here next : Bool)
    → nat_lt k value.window ≡ late → (value.window == suc k) ≡ here → nat_lt (suc k) value.window ≡ next
    → (suc k < value.window → later ≡ after) → past_given (suc k) later ≡ after
    → past_given (suc k) (if late then value ∷ later else later) ≡ (if next then value ∷ after else after)
value_passed k value later after true true false l h n same is = rw h is
value_passed k value later after true false true l h n same is =
    let all : later ≡ after = same (grind (arith, nat_tests)) in
    rw h (ap (λ rest. value ∷ rest) all)
value_passed k value later after false false false l h n same is = is
value_passed k value later after true true true l h n same is = absurd (grind (arith, nat_tests))
value_passed k value later after true false false l h n same is = absurd (grind (arith, nat_tests))
value_passed k value later after false true next l h n same is = absurd (grind (arith, nat_tests))
value_passed k value later after false false true l h n same is = absurd (grind (arith, nat_tests))

-- what follows the values for the next window are those for windows after it
front_passed : (k : ℕ) (given : List StartValue) → Rising given → past_given (suc k) (later_values k given) ≡ later_values (suc k) given
front_passed k [] rising = refl
front_passed k (value ∷ given) rising =
    value_passed k value (later_values k given) (later_values (suc k) given) (nat_lt k value.window) (value.window == suc k) (nat_lt (suc k) value.window) refl refl refl
    (λ late. all_later k value.window given (omega arith) rising.0 ∙ sym (all_later (suc k) value.window given late rising.0))
    (front_passed k given rising.1)

-- a place that comes before another is in no later window
window_le : (one other : ℕ) (answer rest : Ordering) → answer ≡ nat_cmp one other → ordering_then answer rest ≡ Less → one ≤ other
window_le one other Less rest is less = let lt : one < other = ranked one other Less is in omega arith
window_le one other Equal rest is less = let same : one ≡ other = ranked one other Equal is in omega arith
window_le one other Greater rest is less = absurd (cc)

after_all : (value : StartValue) (given : List StartValue)
    → AllByRecursion (λ place. place_cmp (place_of value) place ≡ Less) (map place_of given) → NotBefore value.window given
after_all value [] all = tt
after_all value (next ∷ given) all = (
  window_le value.window next.window (nat_cmp value.window next.window) (slice_cmp nat_cmp value.variable next.variable) refl all.0,
  after_all value given all.1,
)

rising_from : (given : List StartValue) → IsStrictlySortedBy place_cmp (map place_of given) → Rising given
unfolding IsStrictlySortedBy
rising_from [] sorted = tt
rising_from (value ∷ given) sorted = (after_all value given sorted.0, rising_from given sorted.1)

from_first : (epochs : ℕ) (given : List StartValue) → AllByRecursion (IsInside epochs) (map place_of given) → NotBefore 1 given
from_first epochs [] all = tt
from_first epochs (value ∷ given) all = (all.0.0, from_first epochs given all.1)

-- all values of a manifest are for windows after 0
all_given : (m : ManifestForm) → IsManifest m → later_values 0 m.values ≡ m.values
all_given m rules =
    all_later 0 1 m.values (omega arith) (from_first m.epochs m.values (recursion_from_All (IsInside m.epochs) (map place_of m.values) rules.inside))

-- what a walk carries at window 1
pub carried_first : (r : RecordingForm) (now : List (List ℕ × ℤ)) (left : List StartValue) (held : Holdings) (running : List ℕ) → IsRecording r
    → now ≡ after_given 1 [] r.manifest.values → left ≡ past_given 1 r.manifest.values → held ≡ [] → running ≡ []
    → IsCarried r 1 now left held running
carried_first r now left held running rules now_is left_is held_is running_is =
    let rising : Rising r.manifest.values = rising_from r.manifest.values rules.manifest.ordered in
    let all : later_values 0 r.manifest.values ≡ r.manifest.values = all_given r.manifest rules.manifest in
    record {
      rules = rules;
      first = omega arith;
      last = rules.manifest.epochs.0;
      values = now_is ∙ ap (after_given 1 []) (sym all) ∙ front_given 0 r.manifest.values [] rising;
      later = left_is ∙ ap (past_given 1) (sym all) ∙ front_passed 0 r.manifest.values rising;
      holders = held_is;
      started = running_is;
    }

-- what a walk carries at the next window
pub carried_on : (r : RecordingForm) (k : ℕ) (now next : List (List ℕ × ℤ)) (left rest : List StartValue) (held more : Holdings) (running joined : List ℕ)
    → IsCarried r k now left held running → k < r.manifest.epochs
    → next ≡ after_given (k + 1) now left → rest ≡ past_given (k + 1) left
    → more ≡ held_after_window (k - 1) held r.traces → joined ≡ running ++ started_in (k - 1) r.traces
    → IsCarried r (k + 1) next rest more joined
carried_on r k now next left rest held more running joined carried below next_is rest_is more_is joined_is =
    let rising : Rising r.manifest.values = rising_from r.manifest.values carried.rules.manifest.ordered in
    let same : k + 1 - 1 ≡ suc (k - 1) = omega (arith, carried.first) in
    let one : k + 1 ≡ suc k = omega arith in
    record {
      rules = carried.rules;
      first = omega arith;
      last = omega (arith, below);
      values = next_is ∙ rw (one, carried.values, carried.later) (front_given k r.manifest.values (values_at r.manifest.values k) rising);
      later = rest_is ∙ rw (one, carried.later) (front_passed k r.manifest.values rising);
      holders = more_is ∙ rw (same, carried.holders) refl;
      started = joined_is ∙ rw (same, carried.started) refl;
    }

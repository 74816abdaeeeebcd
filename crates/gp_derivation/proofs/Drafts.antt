-- Numbers of the steps of a cone.
use Rattle.std.proofs.Common.{◌≡◌, ℕ, zero, suc, ◌+◌, ◌-◌, ◌<◌, ◌≤◌, ◌==◌, ◌⊎◌, inl, inr, Bool, true, false, nat_lt, Option, None, Some, List, [], ◌∷◌, ◌++◌, length, map, take, get_or, All, refl, sym, ◌∙◌, ap, subst, add-one, arith}
use mathlib.Core.Bool.{◌||◌}
use Rattle.std.specs.List.{slice_get, sum_by, list_any}
use Rattle.std.specs.Prelude.{AllPairs, Contains}
use Rattle.std.proofs.lemmas.List.{append-nil, length-append, length-map, length_push, get_or_append_left, get_or_push, get_or_default}
use Rattle.std.proofs.lemmas.List.Elements.{All-nil, All-cons, All-head, All-tail, Contains-get_or}
use Rattle.std.proofs.lemmas.List.Sums.{sum_by_more, sum_by_more_le}
use Rattle.std.proofs.lemmas.Bool.{cases_eq, cases_lt, eq-eqb, eqb-true}
use Rattle.std.proofs.lemmas.Bool.Decides.{nat_tests}
use Rattle.std.proofs.lemmas.Option.{slice_get_cases, get_or_from_slice_get}
use Rattle.gp_certificate.specs.declared.step.Step.{Step}
use Rattle.gp_derivation.specs.declared.log.LogEntry.{LogEntry}
use Rattle.gp_derivation.specs.declared.log.Origin.{Origin}
use Rattle.gp_derivation.specs.declared.log.Origin.TheVariants.{Learned, Taken}
use Rattle.gp_derivation.specs.Numbering.{IsNumbered, size_of, counted, steps_before, number_of, number_beside, renumbered, moved, based, with_base, with_hints}
use Rattle.gp_derivation.specs.Reach.{rests_on}
use Rattle.gp_derivation.proofs.Numbers.{number_at}
use Rattle.gp_derivation.specs.Cones.{cone_step, steps_given, kept_steps, cone_steps}

pub map_agree : (f g : ℕ → ℕ) (xs : List ℕ) → All (λ x. f x ≡ g x) xs → map f xs ≡ map g xs
map_agree f g [] agree = refl
map_agree f g (x ∷ xs) agree =
    let first : f x ≡ g x = All-head (λ y. f y ≡ g y) x xs agree in
    let rest : map f xs ≡ map g xs = map_agree f g xs (All-tail (λ y. f y ≡ g y) x xs agree) in
    cc

-- a step by two tables of numbers that agree at its hints
with_hints_agree : (bases : ℕ) (f g : ℕ → ℕ) (step : Step) → All (λ hint. renumbered bases f hint ≡ renumbered bases g hint) step.hints → with_hints (renumbered bases f) step ≡ with_hints (renumbered bases g) step
with_hints_agree bases f g step agree =
    let same : map (renumbered bases f) step.hints ≡ map (renumbered bases g) step.hints = map_agree (renumbered bases f) (renumbered bases g) step.hints agree in
    λ i. record { clause = step.clause; hints = same i }

-- what holds of the hints of a step, and of a hint to a base clause, holds of its hints in a cone
pub based_all : (P : ℕ → Type 0) (hints : List ℕ) (bases : ℕ) → (0 < bases → P 0) → All P hints → All P (based hints bases)
based_all P [] zero first all = All-nil P
based_all P [] (suc others) first all = All-cons P 0 [] (first (omega arith)) (All-nil P)
based_all P (hint ∷ hints) bases first all = all

-- a hint to a base clause stays by any table of numbers
base_stays : (bases : ℕ) (number : ℕ → ℕ) → 0 < bases → renumbered bases number 0 ≡ 0
base_stays bases number some = at (nat_lt 0 bases) refl
  where
    at : (b : Bool) → nat_lt 0 bases ≡ b → renumbered bases number 0 ≡ 0
    at true e = rw e refl
    at false e = absurd (let none : bases ≤ 0 = grind (arith, nat_tests) in omega (arith, some, none))

-- a step in a cone by two tables of numbers that agree at its hints
pub cone_step_agree : (bases : ℕ) (f g : ℕ → ℕ) (step : Step) → All (λ hint. renumbered bases f hint ≡ renumbered bases g hint) step.hints → cone_step bases f step ≡ cone_step bases g step
cone_step_agree bases f g step agree = with_hints_agree bases f g (with_base bases step)
    (based_all (λ hint. renumbered bases f hint ≡ renumbered bases g hint) step.hints bases (λ some. base_stays bases f some ∙ sym (base_stays bases g some)) agree)

-- the steps that an entry gives
given_agree : (bases before : ℕ) (f g : ℕ → ℕ) (step : Step) (origin : Origin) → All (λ hint. renumbered bases f hint ≡ renumbered bases g hint) (rests_on step origin) → steps_given bases f before step origin ≡ steps_given bases g before step origin
given_agree bases before f g step Learned agree = ap (λ (s : Step). s ∷ []) (cone_step_agree bases f g step agree)
given_agree bases before f g step (Taken sender certificate) agree = refl

length_given : (bases : ℕ) (number : ℕ → ℕ) (before : ℕ) (step : Step) (origin : Origin) → length (steps_given bases number before step origin) ≡ size_of (record { step = step; origin = origin })
length_given bases number before step Learned = refl
length_given bases number before step (Taken sender certificate) = length-map certificate.value.steps (with_hints (moved bases before))

pub length_kept : (bases : ℕ) (number : ℕ → ℕ) (before : ℕ) (needed : Bool) (entry : Option LogEntry) → length (kept_steps bases number before needed entry) ≡ counted needed entry
length_kept bases number before false entry = refl
length_kept bases number before true None = refl
length_kept bases number before true (Some entry) = length_given bases number before entry.step entry.origin

pub length_cone : (bases : ℕ) (kept : ℕ → Bool) (log : List LogEntry) (place : ℕ) → length (cone_steps bases kept log place) ≡ steps_before kept log place
length_cone bases kept log zero = refl
length_cone bases kept log (suc place) =
    omega (
      arith,
      length_cone bases kept log place,
      length_kept bases (number_of bases kept log) (steps_before kept log place) (kept place) (slice_get log place),
      length-append (cone_steps bases kept log place) (kept_steps bases (number_of bases kept log) (steps_before kept log place) (kept place) (slice_get log place)),
    )

counted_le : (needed : Bool) (entry : LogEntry) → counted needed (Some entry) ≤ size_of entry
counted_le true entry = omega arith
counted_le false entry = omega arith

-- the kept entries give no more steps than all do
pub before_le : (kept : ℕ → Bool) (log : List LogEntry) (place : ℕ) → place ≤ length log → steps_before kept log place ≤ sum_by size_of (take place log)
before_le kept log zero within = omega arith
before_le kept log (suc place) within = at (slice_get_cases log place).1 (before_le kept log place (omega arith))
  where
    at : ((entry : LogEntry) × (place < length log) × (slice_get log place ≡ Some entry) × (get_or log place entry ≡ entry)) ⊎ ((length log ≤ place) × (slice_get log place ≡ None))
        → steps_before kept log place ≤ sum_by size_of (take place log) → steps_before kept log (suc place) ≤ sum_by size_of (take (suc place) log)
    at (inl (entry, inside, got, same)) rest =
        let one : counted (kept place) (slice_get log place) ≤ size_of entry = rw got (counted_le (kept place) entry) in
        let more : sum_by size_of (take (suc place) log) ≡ sum_by size_of (take place log) + size_of entry = rw add-one at (sum_by_more size_of log place entry inside) ∙ ap (λ e. sum_by size_of (take place log) + size_of e) same in
        omega arith
    at (inr (past, got)) rest = absurd (omega arith)

-- nothing is kept between two places
pub cone_gap : (bases : ℕ) (kept : ℕ → Bool) (log : List LogEntry) (low high : ℕ) → low ≤ high → ((q : ℕ) → low ≤ q → q < high → kept q ≡ false) → cone_steps bases kept log high ≡ cone_steps bases kept log low
cone_gap bases kept log low zero within none = let same : 0 ≡ low = omega (arith, within) in ap (cone_steps bases kept log) same
cone_gap bases kept log low (suc high) within none = at (cases_lt low (suc high)) (λ less. cone_gap bases kept log low high less (λ q least below. none q least (omega (arith, below))))
  where
    at : (low < suc high) ⊎ (suc high ≤ low) → (low ≤ high → cone_steps bases kept log high ≡ cone_steps bases kept log low) → cone_steps bases kept log (suc high) ≡ cone_steps bases kept log low
    at (inl less) earlier =
        ap (λ (b : Bool). cone_steps bases kept log high ++ kept_steps bases (number_of bases kept log) (steps_before kept log high) b (slice_get log high)) (none high (omega (arith, less)) (omega arith))
        ∙ append-nil (cone_steps bases kept log high) ∙ earlier (omega (arith, less))
    at (inr least) earlier = let same : suc high ≡ low = omega (arith, within, least) in ap (cone_steps bases kept log) same

-- the entries at the places are those that are kept, and the places rise within the log
pub record AreKept (kept : ℕ → Bool) (log : List LogEntry) (places : List ℕ) : Type 0 where
  pub rising : AllPairs (λ (a b : ℕ). a < b) places
  pub within : (k : ℕ) → k < length places → get_or places k 0 < length log
  pub on : (k : ℕ) → k < length places → kept (get_or places k 0) ≡ true
  pub off : (q : ℕ) → ((k : ℕ) → k < length places → get_or places k 0 ≡ q → ⊥) → kept q ≡ false

-- what has been drafted of a cone after some of the places: the steps of the entries before a place
pub record IsDraft (bases : ℕ) (kept : ℕ → Bool) (log : List LogEntry) (places : List ℕ) (i : ℕ) (steps : List Step) (numbers : List ℕ) : Type 0 where
  pub from : ℕ
  pub inside : from ≤ length log
  pub steps_are : steps ≡ cone_steps bases kept log from
  pub size : length numbers ≡ i
  pub each : (k : ℕ) → k < i → get_or numbers k 0 ≡ number_of bases kept log (get_or places k 0)
  pub before : (k : ℕ) → k < i → get_or places k 0 < from
  pub after : (k : ℕ) → i ≤ k → k < length places → from ≤ get_or places k 0

-- up to the next place nothing is kept
draft_gap : (bases : ℕ) (kept : ℕ → Bool) (log : List LogEntry) (places : List ℕ) (i : ℕ) (steps : List Step) (numbers : List ℕ) → AreKept kept log places → i < length places → IsDraft bases kept log places i steps numbers
    → steps ≡ cone_steps bases kept log (get_or places i 0)
draft_gap bases kept log places i steps numbers are within draft = draft.steps_are ∙ sym (cone_gap bases kept log draft.from (get_or places i 0) (draft.after i (omega arith) within) (λ q least below. are.off q (λ k inside same. elim (cases_lt k i) [
  | inl earlier ↦ omega (arith, draft.before k earlier, same, least)
  | inr later ↦ elim (cases_eq i k) [
    | inl here ↦ omega (arith, below, same, ap (λ (n : ℕ). get_or places n 0) here)
    | inr differ ↦ omega (arith, below, same, are.rising i k 0 (omega (arith, later, differ)) inside)
  ]
])))

-- a hint to an entry before the next place has a number, which is that of the entry
pub draft_numbers : (bases : ℕ) (kept : ℕ → Bool) (log : List LogEntry) (places : List ℕ) (i : ℕ) (steps : List Step) (numbers : List ℕ) → AreKept kept log places → i ≤ length places → IsDraft bases kept log places i steps numbers
    → (hint : ℕ) → ((other : ℕ) → bases + other ≡ hint → (k : ℕ) × (k < i) × (get_or places k 0 ≡ other))
    → IsNumbered bases places numbers hint × (renumbered bases (number_beside places numbers) hint ≡ renumbered bases (number_of bases kept log) hint)
draft_numbers bases kept log places i steps numbers are few draft hint stands = (
  λ least.
      let there : (k : ℕ) × (k < i) × (get_or places k 0 ≡ hint - bases) = stands (hint - bases) (omega (arith, least)) in
      (there.0, omega (arith, there.1, few), omega (arith, there.1, draft.size), there.2),
  at (nat_lt hint bases) refl,
)
  where
    at : (b : Bool) → nat_lt hint bases ≡ b → renumbered bases (number_beside places numbers) hint ≡ renumbered bases (number_of bases kept log) hint
    at true e = rw e refl
    at false e =
        let least : bases ≤ hint = grind (arith, nat_tests) in
        let there : (k : ℕ) × (k < i) × (get_or places k 0 ≡ hint - bases) = stands (hint - bases) (omega (arith, least)) in
        rw e (sym (number_at places numbers (hint - bases) there.0 are.rising (omega (arith, there.1, few)) there.2) ∙ draft.each there.0 there.1 ∙ ap (number_of bases kept log) there.2)

-- the next entry
pub draft_more : (bases : ℕ) (kept : ℕ → Bool) (log : List LogEntry) (places : List ℕ) (i : ℕ) (steps : List Step) (numbers : List ℕ) (entry : LogEntry) (more : List Step) (longer : List ℕ) → AreKept kept log places → i < length places
    → slice_get log (get_or places i 0) ≡ Some entry → All (λ hint. renumbered bases (number_beside places numbers) hint ≡ renumbered bases (number_of bases kept log) hint) (rests_on entry.step entry.origin)
    → more ≡ steps ++ steps_given bases (number_beside places numbers) (length steps) entry.step entry.origin → longer ≡ numbers ++ ((bases + length more) - 1) ∷ []
    → IsDraft bases kept log places i steps numbers → IsDraft bases kept log places (i + 1) more longer
draft_more bases kept log places i steps numbers entry more longer are within got agree more_is longer_is draft = record {
  from = place + 1;
  inside = omega (arith, are.within i within);
  steps_are = are_next ∙ ap (cone_steps bases kept log) (sym (add-one place));
  size = omega (arith, ap (λ (xs : List ℕ). length xs) longer_is, length_push numbers ((bases + length more) - 1), draft.size);
  each = λ k below. ap (λ (xs : List ℕ). get_or xs k 0) longer_is ∙ elim (cases_lt k i) [
    | inl earlier ↦ get_or_append_left numbers (((bases + length more) - 1) ∷ []) 0 k (omega (arith, draft.size, earlier)) ∙ draft.each k earlier
    | inr least ↦
        let here : k ≡ i = omega (arith, least, below) in
        get_or_push numbers ((bases + length more) - 1) 0 k (draft.size ∙ sym here) ∙ ap (λ (n : ℕ). (bases + n) - 1) long ∙ ap (λ (n : ℕ). number_of bases kept log (get_or places n 0)) (sym here)
  ];
  before = λ k below. elim (cases_lt k i) [
    | inl earlier ↦ omega (arith, draft.before k earlier, draft.after i (omega arith) within)
    | inr least ↦ let here : k ≡ i = omega (arith, least, below) in omega (arith, ap (λ (n : ℕ). get_or places n 0) here)
  ];
  after = λ k least inside. omega (arith, are.rising i k 0 (omega (arith, least)) inside);
}
  where
    place : ℕ
    place = get_or places i 0

    gap : steps ≡ cone_steps bases kept log place
    gap = draft_gap bases kept log places i steps numbers are within draft

    earlier_steps : length steps ≡ steps_before kept log place
    earlier_steps = ap (λ (xs : List Step). length xs) gap ∙ length_cone bases kept log place

    given : steps_given bases (number_beside places numbers) (length steps) entry.step entry.origin ≡ kept_steps bases (number_of bases kept log) (steps_before kept log place) (kept place) (slice_get log place)
    given = given_agree bases (length steps) (number_beside places numbers) (number_of bases kept log) entry.step entry.origin agree
        ∙ ap (λ (n : ℕ). steps_given bases (number_of bases kept log) n entry.step entry.origin) earlier_steps
        ∙ sym (ap (λ (b : Bool). kept_steps bases (number_of bases kept log) (steps_before kept log place) b (slice_get log place)) (are.on i within) ∙ ap (λ (o : Option LogEntry). kept_steps bases (number_of bases kept log) (steps_before kept log place) true o) got)

    are_next : more ≡ cone_steps bases kept log (suc place)
    are_next = more_is ∙ (λ j. gap j ++ given j)

    long : length more ≡ steps_before kept log (suc place)
    long = ap (λ (xs : List Step). length xs) are_next ∙ length_cone bases kept log (suc place)

-- a draft has room for the next entry
pub draft_room : (bases : ℕ) (kept : ℕ → Bool) (log : List LogEntry) (places : List ℕ) (i : ℕ) (steps : List Step) (numbers : List ℕ) (entry : LogEntry) → AreKept kept log places → i < length places → slice_get log (get_or places i 0) ≡ Some entry
    → IsDraft bases kept log places i steps numbers → length steps + size_of entry ≤ sum_by size_of log
draft_room bases kept log places i steps numbers entry are within got draft =
    let place : ℕ = get_or places i 0 in
    let before : length steps ≡ steps_before kept log place = ap (λ (xs : List Step). length xs) (draft_gap bases kept log places i steps numbers are within draft) ∙ length_cone bases kept log place in
    let inside : place < length log = are.within i within in
    let few : steps_before kept log place ≤ sum_by size_of (take place log) = before_le kept log place (omega (arith, inside)) in
    let all : sum_by size_of (take place log) + size_of entry ≤ sum_by size_of log = rw (get_or_from_slice_get log place entry entry got) at (sum_by_more_le size_of log place entry inside) in
    omega arith

-- after all places the draft is the cone
pub draft_all : (bases : ℕ) (kept : ℕ → Bool) (log : List LogEntry) (places : List ℕ) (i : ℕ) (steps : List Step) (numbers : List ℕ) → AreKept kept log places → length places ≤ i → IsDraft bases kept log places i steps numbers → steps ≡ cone_steps bases kept log (length log)
draft_all bases kept log places i steps numbers are end draft = draft.steps_are ∙ sym (cone_gap bases kept log draft.from (length log) draft.inside (λ q least below. are.off q (λ k inside same. omega (arith, draft.before k (omega (arith, inside, end)), same, least))))

-- whether a place is among some places
abbrev pub among : List ℕ → ℕ → Bool
among places place = list_any (λ (other : ℕ). other == place) places

here_first : (x : ℕ) (xs : List ℕ) → Contains (x ∷ xs) x
here_first x xs = (0, omega arith, refl)

there_later : (x : ℕ) (xs : List ℕ) (y : ℕ) → Contains xs y → Contains (x ∷ xs) y
there_later x xs y (k, below, is) = (suc k, omega (arith, below), is)

pub among_tells : (places : List ℕ) (place : ℕ) → among places place ≡ true → Contains places place
among_tells [] place told = absurd (let wrong : false ≡ true = told in let clash : ⊥ = cc in clash)
among_tells (p ∷ places) place told = at (p == place) refl told (among_tells places place)
  where
    at : (here : Bool) → (p == place) ≡ here → (here || among places place) ≡ true → (among places place ≡ true → Contains places place) → Contains (p ∷ places) place
    at true same is later = subst (λ (n : ℕ). Contains (p ∷ places) n) (eqb-true p place same) (here_first p places)
    at false differ is later = there_later p places place (later is)

pub among_at : (places : List ℕ) (k : ℕ) → k < length places → among places (get_or places k 0) ≡ true
among_at [] k within = absurd (omega (arith, within))
among_at (p ∷ places) zero within = ap (λ (b : Bool). b || among places p) (eq-eqb p p refl)
among_at (p ∷ places) (suc k) within = at (p == get_or places k 0) (among_at places k (omega (arith, within)))
  where
    at : (here : Bool) → among places (get_or places k 0) ≡ true → (here || among places (get_or places k 0)) ≡ true
    at true later = refl
    at false later = later

-- the places that a step rests on are those that are kept
pub are_kept : (log : List LogEntry) (places : List ℕ) → AllPairs (λ (a b : ℕ). a < b) places → ((place : ℕ) → Contains places place → place < length log) → AreKept (among places) log places
are_kept log places rising within = record {
  rising = rising;
  within = λ k inside. within (get_or places k 0) (Contains-get_or places k 0 inside);
  on = λ k inside. among_at places k inside;
  off = λ q none. at q none (among places q) refl;
}
  where
    at : (q : ℕ) → ((k : ℕ) → k < length places → get_or places k 0 ≡ q → ⊥) → (b : Bool) → among places q ≡ b → among places q ≡ false
    at q none false is = is
    at q none true is = let there : Contains places q = among_tells places q is in absurd (none there.0 there.1 (get_or_default places there.0 0 q there.1 ∙ there.2))

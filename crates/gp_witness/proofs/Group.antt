-- A group of n events within n places leaves no place for others.
use Rattle.std.proofs.Common.{ℕ, suc, ◌≡◌, ◌⊎◌, ◌<◌, ◌≤◌, ap, refl, subst, inl, inr, List, [], ◌∷◌, length, map, true, false, arith, eqb, eqb-true}
use Rattle.std.specs.Prelude.{ℤ, pos, negsuc, ◌-◌, ◌-ℤ◌, ◌≤ℤ◌, ◌≢◌, Contains}
use Rattle.std.specs.List.{AllByRecursion, IsDistinct, list_any}
use Rattle.std.specs.Int.Signed.{le_z}
use Rattle.std.proofs.lemmas.Bool.{cases_Bool, ne_eqb}
use Rattle.std.proofs.lemmas.Int.{ints}
use Rattle.std.proofs.lemmas.Map.Steps.{length-le_from_distinct_below}
use Rattle.gp_window.specs.declared.schedule.EventId.{EventId}
use Rattle.gp_base.specs.ListLaws.{AreDifferent, first_or_rest, here, nothing_in, recursion_at, recursion_from_each, there}
use Rattle.gp_witness.specs.Meaning.{Truth}
use Rattle.gp_witness.proofs.Sorted.{Before, Does}

-- the events happen, differ, lie within as many places as they are, and each stands before or after every other event that happens
pub record IsGroup (t : Truth) (group : List EventId) : Type 0 where
  pub does : (id : EventId) → Contains group id → Does t id
  pub different : AreDifferent group
  pub near : (one other : EventId) → Contains group one → Contains group other → (t.place one -ℤ t.place other) ≤ℤ pos (length group - 1)
  pub ordered : (id other : EventId) → Contains group id → Does t other → id ≢ other → Before t id other ⊎ Before t other id

abbrev nat_of : ℤ → ℕ
nat_of (pos n) = n
nat_of (negsuc n) = 0

nat_of_is : (z : ℤ) → pos 0 ≤ℤ z → z ≡ pos (nat_of z)
nat_of_is (pos n) h = refl
nat_of_is (negsuc n) h = absurd (omega (arith, ints))

-- how far a place lies above the lowest one
abbrev offset : Truth → ℤ → EventId → ℕ
offset t low id = nat_of (t.place id -ℤ low)

offset_is : (t : Truth) (low : ℤ) (id : EventId) → low ≤ℤ t.place id → (t.place id -ℤ low) ≡ pos (offset t low id)
offset_is t low id h = nat_of_is (t.place id -ℤ low) (omega (arith, ints))

-- the event differs in place from each of these
abbrev IsApart : Truth → EventId → List EventId → Type 0
IsApart t id ids = AllByRecursion (λ other. t.place id ≡ t.place other → ⊥) ids

abbrev AreApart : Truth → List EventId → Type 0
AreApart t [] = Unit {0}
AreApart t (id ∷ ids) = IsApart t id ids × AreApart t ids

abbrev AreIn : Truth → ℤ → ℕ → List EventId → Type 0
AreIn t low n ids = AllByRecursion (λ id. (low ≤ℤ t.place id) × (offset t low id < n)) ids

offset_apart : (t : Truth) (low : ℤ) (n : ℕ) (id : EventId) (ids : List EventId) → low ≤ℤ t.place id → AreIn t low n ids → IsApart t id ids
    → AllByRecursion (λ k. eqb (offset t low id) k ≡ false) (map (offset t low) ids)
offset_apart t low n id [] above within apart = tt
offset_apart t low n id (other ∷ ids) above within apart =
    let one = offset_is t low id above in
    let two = offset_is t low other within.0.0 in (
      ne_eqb (offset t low id) (offset t low other) (λ same. apart.0 (omega (arith, ints, one, two, same))),
      offset_apart t low n id ids above within.1 apart.1,
    )

offsets_distinct : (t : Truth) (low : ℤ) (n : ℕ) (ids : List EventId) → AreIn t low n ids → AreApart t ids → IsDistinct eqb (map (offset t low) ids)
unfolding IsDistinct
offsets_distinct t low n [] within apart = tt
offsets_distinct t low n (id ∷ ids) within apart =
    (offset_apart t low n id ids within.0.0 within.1 apart.0, offsets_distinct t low n ids within.1 apart.1)

offsets_below : (t : Truth) (low : ℤ) (n : ℕ) (ids : List EventId) → AreIn t low n ids
    → (q : ℕ) → list_any (eqb q) (map (offset t low) ids) ≡ true → q < n
offsets_below t low n [] within q e = cc
offsets_below t low n (id ∷ ids) within q e =
    elim (cases_Bool (eqb q (offset t low id))) [
      | inl same ↦
          let is = eqb-true q (offset t low id) same in
          let below = within.0.1 in
          omega (arith, is, below)
      | inr differ ↦ offsets_below t low n ids within.1 q (rw differ at e)
    ]

length_offsets : (t : Truth) (low : ℤ) (ids : List EventId) → length (map (offset t low) ids) ≡ length ids
length_offsets t low [] = refl
length_offsets t low (id ∷ ids) = ap suc (length_offsets t low ids)

-- so many different places are at least so many
few_places : (t : Truth) (low : ℤ) (n : ℕ) (ids : List EventId) → AreIn t low n ids → AreApart t ids → length ids ≤ n
few_places t low n ids within apart =
    let few = length-le_from_distinct_below (map (offset t low) ids) n (offsets_distinct t low n ids within apart) (offsets_below t low n ids within) in
    let same = length_offsets t low ids in
    omega (arith, few, same)

-- the lowest event of some
lowest : (t : Truth) (first : EventId) (ids : List EventId)
    → (low : EventId) × Contains (first ∷ ids) low × ((id : EventId) → Contains (first ∷ ids) id → t.place low ≤ℤ t.place id)
lowest t first [] = (
  first,
  here _ [],
  λ id i. elim (first_or_rest _ [] _ i) [
    | inl same ↦ let places = ap t.place same in omega (arith, ints, places)
    | inr none ↦ absurd (nothing_in _ none)
  ],
)
lowest t first (next ∷ ids) =
    let rest = lowest t next ids in
    elim (cases_Bool (le_z (t.place first) (t.place rest.0))) [
      | inl less ↦
          let below : t.place first ≤ℤ t.place rest.0 = omega (arith, ints, less) in (
            first,
            here _ (next ∷ ids),
            λ id i. elim (first_or_rest _ (next ∷ ids) _ i) [
              | inl same ↦ let places = ap t.place same in omega (arith, ints, places)
              | inr later ↦ let above = rest.2 id later in omega (arith, ints, above, below)
            ],
          )
      | inr more ↦
          let below : t.place rest.0 ≤ℤ t.place first = omega (arith, ints, more) in (
            rest.0,
            there _ (next ∷ ids) _ rest.1,
            λ id i. elim (first_or_rest _ (next ∷ ids) _ i) [
              | inl same ↦ let places = ap t.place same in omega (arith, ints, places, below)
              | inr later ↦ rest.2 id later
            ],
          )
    ]

group_apart : (t : Truth) (group ids : List EventId) → IsGroup t group → ((id : EventId) → Contains ids id → Contains group id) → AreDifferent ids → AreApart t ids
group_apart t group [] g inside different = tt
group_apart t group (id ∷ ids) g inside different = (
  recursion_from_each (λ other. t.place id ≡ t.place other → ⊥) ids (λ other i same.
      elim (g.ordered id other (inside id (here _ _)) (g.does other (inside other (there _ _ _ i))) (recursion_at (λ o. id ≡ o → ⊥) ids other different.0 i)) [
        | inl before ↦ absurd (omega (arith, ints, before, same))
        | inr after ↦ absurd (omega (arith, ints, after, same))
      ]),
  group_apart t group ids g (λ other i. inside other (there _ _ _ i)) different.1,
)

-- what stands between two events of a group is one of it
pub group_holds : (t : Truth) (group : List EventId) (first last other : EventId) → IsGroup t group
    → Contains group first → Contains group last → Does t other → Before t first other → Before t other last → (Contains group other → ⊥) → ⊥
group_holds t [] first last other g low high does after before outside = absurd (nothing_in _ low)
group_holds t (head ∷ rest) first last other g low high does after before outside =
    let group : List EventId = head ∷ rest in
    let least = lowest t head rest in
    let bottom : ℤ = t.place least.0 in
    let inside : (id : EventId) → Contains group id → (bottom ≤ℤ t.place id) × (offset t bottom id < length group) = (λ id i.
    let above = least.2 id i in
    let near = g.near id least.0 i least.1 in
    let is = offset_is t bottom id above in
    (above, omega (arith, ints, near, is))) in
    let first_above = least.2 first low in
    let last_near = g.near last least.0 high least.1 in
    let above : bottom ≤ℤ t.place other = omega (arith, ints, first_above, after) in
    let is = offset_is t bottom other above in
    let below : offset t bottom other < length group = omega (arith, ints, last_near, before, is) in
    let within : AreIn t bottom (length group) (other ∷ group) =
    ((above, below), recursion_from_each (λ id. (bottom ≤ℤ t.place id) × (offset t bottom id < length group)) group inside) in
    let away : IsApart t other group = recursion_from_each (λ id. t.place other ≡ t.place id → ⊥) group (λ id i same.
    elim (g.ordered id other i does (λ e. outside (subst (λ o. Contains group o) e i))) [
      | inl earlier ↦ absurd (omega (arith, ints, earlier, same))
      | inr later ↦ absurd (omega (arith, ints, later, same))
    ]) in
    let few = few_places t bottom (length group) (other ∷ group) within (away, group_apart t group group g (λ id i. i) g.different) in
    absurd (omega (arith, few))

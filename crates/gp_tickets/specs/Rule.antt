-- The rule of the tickets: what holds, between any two steps, of the word and of what all drawers know.
use Rattle.std.specs.Prelude.{ℕ, ◌≡◌, ◌+◌, ◌<◌, ◌≤◌, ◌==◌, min, List, [], ◌∷◌, length, count_by, sum_by}
use mathlib.Core.Option.{some}
use lib.ListN.{get_elem?}
use Rattle.gp_tickets.specs.declared.hand.Hand.{Hand}
use Rattle.gp_tickets.specs.Hand.{once_below}

-- how many numbers were drawn in all
abbrev pub drawn_in : List Hand → ℕ
drawn_in hands = sum_by (λ (hand : Hand). length hand.drawn) hands

-- how often it was told in all that none is left
abbrev pub nones_in : List Hand → ℕ
nones_in hands = sum_by (λ (hand : Hand). hand.nones) hands

-- one count and one crew for all that stand for drawers; no more None than drawers; and without a drawer nothing was drawn
pub record Fits (count crew : ℕ) (hand : Hand) : Type 0 where
  pub same : 0 < hand.drawers → (hand.count ≡ count) × (hand.crew ≡ crew)
  pub few : hand.nones ≤ hand.drawers
  pub idle : hand.drawers ≡ 0 → hand.drawn ≡ []

-- the word says how many draws there were; of the numbers below it and below the count, each was drawn once, by one drawer,
-- and no other number was; and all hands together stand for the crew
pub record Kept (count crew : ℕ) (words : List ℕ) (hands : List Hand) : Type 0 where
  pub small : (count ≤ 4294967296) × (crew ≤ 16)
  pub word : words ≡ (drawn_in hands + nones_in hands) ∷ []
  pub fits : (seat : ℕ) (hand : Hand) → get_elem? hands seat ≡ some hand → Fits count crew hand
  pub each : (number : ℕ) → sum_by (λ (hand : Hand). count_by (◌==◌ number) hand.drawn) hands ≡ once_below number (min count (drawn_in hands + nones_in hands))
  pub drawn : drawn_in hands ≡ min count (drawn_in hands + nones_in hands)
  pub parts : sum_by (λ (hand : Hand). hand.drawers) hands ≡ crew

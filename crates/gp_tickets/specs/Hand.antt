-- What the drawers of tickets know: what each drew, and how often it was told that no number is left.
use Rattle.std.specs.Prelude.{ℕ, ◌≡◌, ◌+◌, ◌-◌, ◌<◌, ◌≤◌, ◌==◌, nat_lt, Bool, true, false, [], ◌∷◌, ◌++◌, length, count_by, if◌then◌else◌}
use Rattle.gp_tickets.specs.declared.hand.Hand.{Hand}

-- once for a number below the count, and never for another
abbrev pub once_below : ℕ → ℕ → ℕ
once_below number count = if nat_lt number count then 1 else 0

-- one that has drawn nothing, and stands for so many drawers
abbrev pub unused : ℕ → ℕ → ℕ → Hand
unused count crew drawers = record { count = count; crew = crew; drawn = []; nones = 0; drawers = drawers }

-- what is left where one of the drawers was handed over
abbrev pub left_of : Hand → Hand
left_of hand = record hand { drawers = hand.drawers - 1 }

-- the drawer that was handed over
abbrev pub one_of : Hand → Hand
one_of hand = unused hand.count hand.crew 1

-- one that stands for the drawers of both
abbrev pub joined : Hand → Hand → Hand
joined hand other = record hand { drawn = hand.drawn ++ other.drawn; nones = hand.nones + other.nones; drawers = hand.drawers + other.drawers }

-- one that stands for no drawer
abbrev pub spent : Hand
spent = unused 0 0 0

-- a number was drawn
abbrev pub drew : Hand → ℕ → Hand
drew hand number = record hand { drawn = hand.drawn ++ number ∷ [] }

-- it was told that none is left
abbrev pub told_none : Hand → Hand
told_none hand = record hand { nones = hand.nones + 1 }

-- each number that was drawn is below the count, and was drawn once
pub record IsSound (hand : Hand) : Type 0 where
  pub each : (number : ℕ) → count_by (◌==◌ number) hand.drawn ≤ once_below number hand.count
  pub few : length hand.drawn ≤ hand.count

-- one that stands for all drawers and was told that none is left has all numbers below the count
abbrev pub IsWhole : Hand → Type 0
IsWhole hand = hand.drawers ≡ hand.crew → 0 < hand.nones → (number : ℕ) → count_by (◌==◌ number) hand.drawn ≡ once_below number hand.count

-- what a draw that found a number tells: where it is below the count, it is drawn; else none is left
pub record Draws (hand : Hand) (found : ℕ) (after : Hand) : Type 0 where
  pub is : after ≡ (if nat_lt found hand.count then drew hand found else told_none hand)
  pub sound : IsSound after
  pub whole : IsWhole after

-- each drawer for which it stands was told that none is left
abbrev pub WasTold : Hand → Type 0
WasTold hand = (0 < hand.drawers) × (hand.nones ≡ hand.drawers)

-- what a drawer remembers: that it was told so, or that it stands for one drawer that was not
pub record IsTold (told : Bool) (hand : Hand) : Type 0 where
  pub all : told ≡ true → WasTold hand
  pub none : told ≡ false → (hand.nones ≡ 0) × (hand.drawers ≡ 1)

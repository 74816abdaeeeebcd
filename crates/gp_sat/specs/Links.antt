-- Lists linked by index: of each number a head, and of each slot a next link, both one more than a slot, or 0 for none.
use Rattle.std.specs.Prelude.{◌≡◌, ℕ, ◌+◌, ◌==◌, if◌then◌else◌, zero, suc, List, [], ◌∷◌, Contains}

-- no slot stands in a list twice
abbrev pub IsOnce : List ℕ → Type 0
IsOnce [] = Unit {0}
IsOnce (x ∷ xs) = (Contains xs x → ⊥) × IsOnce xs

-- from a link the next links lead over the slots of a list to its end
abbrev pub IsChain : (ℕ → ℕ) → ℕ → List ℕ → Type 0
IsChain next link [] = link ≡ 0
IsChain next link (x ∷ xs) = (link ≡ x + 1) × IsChain next (next x) xs

-- a function with one value replaced
abbrev pub put : {A : Type 0} → (ℕ → A) → ℕ → A → ℕ → A
put f at value k = if k == at then value else f k

-- the heads and links spell the lists, and no slot stands in two of them
pub record AreLinked (head next : ℕ → ℕ) (lists : ℕ → List ℕ) : Type 0 where
  pub chains : (l : ℕ) → IsChain next (head l) (lists l)
  pub once : (l : ℕ) → IsOnce (lists l)
  pub apart : (l m x : ℕ) → Contains (lists l) x → Contains (lists m) x → l ≡ m

-- a slot stands in no list
abbrev pub IsLoose : ℕ → (ℕ → List ℕ) → Type 0
IsLoose x lists = (l : ℕ) → Contains (lists l) x → ⊥

-- how many slots the next links lead over, up to a bound
abbrev pub steps : (ℕ → ℕ) → ℕ → ℕ → ℕ
steps next zero link = 0
steps next (suc bound) zero = 0
steps next (suc bound) (suc x) = suc (steps next bound (next x))

-- What holds of each of a list, as one changes or is added.
use Rattle.std.proofs.Common.{◌≡◌, ℕ, ◌≢◌, List, [], ◌∷◌, ◌++◌, set, subst, ⊎_elim}
use mathlib.Core.Option.{some}
use lib.ListN.{get_elem?}
use Rattle.crossbeam_queue.proofs.Lists.{at_set, at_snoc}

module _ {V : Type 0} where
  -- what holds of the one that changed and of each other holds of all
  pub each_set : (F : V → Type 0) (views : List V) (seat : ℕ) (new : V) → F new → ((other : ℕ) (one : V) → other ≢ seat → get_elem? views other ≡ some one → F one)
      → (other : ℕ) (one : V) → get_elem? (set views seat new) other ≡ some one → F one
  each_set F views seat new mine others other one there =
      ⊎_elim (λ (here : (other ≡ seat) × (new ≡ one)). subst F here.1 mine)
      (λ (elsewhere : (other ≢ seat) × (get_elem? views other ≡ some one)). others other one elsewhere.0 elsewhere.1) (at_set views seat other new one there)

  -- what holds of each and of one more holds of all
  pub each_push : (F : V → Type 0) (views : List V) (new : V) → ((other : ℕ) (one : V) → get_elem? views other ≡ some one → F one) → F new
      → (other : ℕ) (one : V) → get_elem? (views ++ new ∷ []) other ≡ some one → F one
  each_push F views new others mine other one there =
      ⊎_elim (λ (old : get_elem? views other ≡ some one). others other one old) (λ (last : new ≡ one). subst F last mine) (at_snoc views new one other there)

-- Trying chains of more and more orders, level by level.
use Rattle.std.proofs.Common.{ℕ, zero, suc, ◌≡◌, ◌+◌, ◌-◌, ◌<◌, refl, ap, sym, ◌∙◌, subst, arith, true, List, [], ◌∷◌, length, reverse, eqb-true}
use Rattle.std.specs.Prelude.{Option, None, Some, slice_get}
use Rattle.std.specs.Option.{option_or}
use Rattle.gp_cycle.specs.declared.levels.Levels.{Levels}
use Rattle.gp_cycle.specs.declared.order.Order.{Order}
use Rattle.gp_cycle.specs.Cycle.{chain, shortest}
use Rattle.gp_cycle.specs.Levels.{chain_through, is_over, with_level}
use Rattle.gp_cycle.proofs.Leveled.{chain_is, farther, is_far, last_put, level, level_more, levels_at, levels_to, none_left}

-- so many levels were made, no chain of fewer orders was found, and what is left to try comes to the whole
pub record AreTried (orders : List Order) (order : Order) (count : ℕ) (made : Levels) (whole : Option (List Order)) : Type 0 where
  pub levels : made ≡ levels_at orders order count
  pub far : is_far orders order count order ≡ true
  pub left : shortest orders (length orders - count) count order order ≡ whole

-- one chain that is tried
try : (orders : List Order) (count rest tried : ℕ) (last goal : Order) → count ≡ rest + 1 → shortest orders count tried last goal ≡ option_or (chain orders tried last goal) (shortest orders rest (suc tried) last goal)
try orders zero rest tried last goal is = absurd (omega (arith, is))
try orders (suc count) rest tried last goal is =
    let same : count ≡ rest = omega (arith, is) in
    ap (λ (n : ℕ). option_or (chain orders tried last goal) (shortest orders n (suc tried) last goal)) same

found_is : (orders : List Order) (order : Order) (count : ℕ) (levels : Levels) (whole found : Option (List Order)) → AreTried orders order count levels whole
    → found ≡ chain_through levels.goal (reverse levels.levels) order → found ≡ chain orders count order order
found_is orders order count levels whole found tried is =
    is
    ∙ ap (λ (l : Levels). chain_through l.goal (reverse l.levels) order) tried.levels
    ∙ chain_is orders order count order tried.far

tried_is : (orders : List Order) (order : Order) (count : ℕ) (levels : Levels) (whole found : Option (List Order)) → count < length orders → AreTried orders order count levels whole
    → found ≡ chain_through levels.goal (reverse levels.levels) order
    → option_or found (shortest orders (length orders - suc count) (suc count) order order) ≡ whole
tried_is orders order count levels whole found within tried is =
    ap (λ (own : Option (List Order)). option_or own (shortest orders (length orders - suc count) (suc count) order order)) (found_is orders order count levels whole found tried is)
    ∙ sym (try orders (length orders - count) (length orders - suc count) count order order (omega (arith, within)))
    ∙ tried.left

-- the chain that is found is the shortest
pub found_whole : (orders : List Order) (order : Order) (count : ℕ) (levels : Levels) (whole found : Option (List Order)) (own : List Order) → count < length orders → AreTried orders order count levels whole
    → found ≡ chain_through levels.goal (reverse levels.levels) order → found ≡ Some own → Some own ≡ whole
found_whole orders order count levels whole found own within tried is some =
    ap (λ (one : Option (List Order)). option_or one (shortest orders (length orders - suc count) (suc count) order order)) (sym some)
    ∙ tried_is orders order count levels whole found within tried is

-- one level more, where none is found
pub tried_more : (orders : List Order) (order : Order) (count next : ℕ) (levels more : Levels) (whole found : Option (List Order)) → next ≡ count + 1 → count < length orders
    → AreTried orders order count levels whole → found ≡ chain_through levels.goal (reverse levels.levels) order → found ≡ None → more ≡ with_level levels → AreTried orders order next more whole
tried_more orders order count next levels more whole found after within tried is none made =
    let same : suc count ≡ next = omega (arith, after) in
    subst (λ (n : ℕ). AreTried orders order n more whole) same (record {
      levels = made ∙ ap with_level tried.levels ∙ level_more orders order count;
      far = farther orders order count order tried.far (sym (found_is orders order count levels whole found tried is) ∙ none);
      left =
          ap (λ (one : Option (List Order)). option_or one (shortest orders (length orders - suc count) (suc count) order order)) (sym none)
          ∙ tried_is orders order count levels whole found within tried is;
    })

-- nothing is found behind an empty level
empty : (list : List Order) → length list ≡ 0 → list ≡ []
empty [] none = refl
empty (order ∷ list) none = absurd (omega (arith, none))

pub none_whole : (orders : List Order) (order : Order) (count next : ℕ) (levels : Levels) (whole : Option (List Order)) → next ≡ count + 1
    → AreTried orders order next levels whole → is_over (slice_get levels.levels (length levels.levels - 1)) ≡ true → None ≡ whole
none_whole orders order count next levels whole after tried over =
    sym (none_left (length orders - suc count) count orders order order none one.far) ∙ one.left
  where
    one : AreTried orders order (suc count) levels whole
    one = let same : next ≡ suc count = omega (arith, after) in subst (λ (n : ℕ). AreTried orders order n levels whole) same tried

    none : level orders order count ≡ []
    none =
        let last = ap (λ (l : Levels). is_over (slice_get l.levels (length l.levels - 1))) one.levels in
        let own = ap is_over (last_put (levels_to orders order count) (level orders order count)) in
        empty (level orders order count) (eqb-true (length (level orders order count)) 0 (sym own ∙ sym last ∙ over))

-- all were tried
pub all_tried : (orders : List Order) (order : Order) (count : ℕ) (levels : Levels) (whole : Option (List Order)) → count ≡ length orders → AreTried orders order count levels whole → None ≡ whole
all_tried orders order count levels whole all tried =
    let none : length orders - count ≡ 0 = omega (arith, all) in
    sym (ap (λ (n : ℕ). shortest orders n count order order) none) ∙ tried.left

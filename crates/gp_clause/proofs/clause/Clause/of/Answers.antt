use Rattle.std.proofs.Common.{◌+◌, ◌<◌, ◌≤◌, ◌==◌, ℕ, length, get_or, refl, arith, rules}
use Rattle.std.proofs.lemmas.List.Sorted.{IsNonDecreasingBy-from_sort_by_key}
use Rattle.std.specs.List.Sorted.{IsNonDecreasingBy}
use Rattle.gp_base.specs.CountLaws.{count_permuted, once_from_rising, twice_from_sorted}
use Rattle.gp_clause.specs.Clause.{IsRising}
use Rattle.gp_clause.specs.declared.lit.Lit.{Lit}
use Rattle.gp_clause.proofs.clause.Clause.of.Goals as goal

pub returns-then-not-is_rising-clause-bad : goal.returns-then-not-is_rising-clause-bad
returns-then-not-is_rising-clause-bad c =
    let ordered : IsNonDecreasingBy (λ (lit : Lit). lit.variable) c.sort_unstable_by_key.new.self.items = IsNonDecreasingBy-from_sort_by_key (λ (lit : Lit). lit.variable) _ c.sort_unstable_by_key.ensures.sorted (λ a r f q. search rules) in
    let falls : (k : ℕ) × (k + 1 < length c.sort_unstable_by_key.new.self.items) × ((d : Lit) → (get_or c.sort_unstable_by_key.new.self.items (k + 1) d).variable ≤ (get_or c.sort_unstable_by_key.new.self.items k d).variable) = rw c.as_slice.ensures.value at c.if-not-is_rising.ensures in
    (λ _. twice_from_sorted (λ (l : Lit). l.variable) _ _ c.sort_unstable_by_key.ensures.permutation ordered falls.0 falls.1 falls.2, λ _. refl)

pub returns-clause-bad : goal.returns-clause-bad
returns-clause-bad c =
    let rising : IsRising c.sort_unstable_by_key.new.self.items = rw c.as_slice.ensures.value at c.if-not-is_rising.ensures in (
      λ e. absurd cc,
      λ twice. absurd (omega (arith, twice.1, once_from_rising (λ (l : Lit). l.variable) twice.0 _ rising, count_permuted (λ (l : Lit). l.variable == twice.0) _ _ c.sort_unstable_by_key.ensures.permutation)),
    )

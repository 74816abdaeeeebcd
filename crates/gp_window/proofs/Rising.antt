-- The values of a window stand in the order of their variables.
use Rattle.std.proofs.Common.{ℕ, zero, suc, ℤ, List, [], ◌∷◌}
use Rattle.std.specs.Prelude.{filter, ◌==◌}
use Rattle.std.specs.Cmp.Lexicographic.{slice_cmp}
use Rattle.std.specs.List.Sorted.{IsStrictlySortedBy}
use Rattle.std.specs.Ordering.{nat_cmp}
use Rattle.std.proofs.lemmas.Cmp.{nat_list_cmp_total}
use Rattle.gp_base.specs.OrderLaws.{filter_rises, put_rises}
use Rattle.gp_base.specs.Table.{with_entry}
use Rattle.gp_window.specs.declared.manifest.StartValue.{StartValue}
use Rattle.gp_window.specs.Formed.{HasRisingNames}
use Rattle.gp_window.specs.WindowForm.{given_all, is_kept, start_values_of, values_at}

given_rise : (given : List StartValue) (values : List (List ℕ × ℤ)) → HasRisingNames values → HasRisingNames (given_all values given)
given_rise [] values rise = rise
given_rise (one ∷ more) values rise =
    given_rise more (with_entry (slice_cmp nat_cmp) values one.variable one.value) (put_rises nat_list_cmp_total values one.variable one.value rise)

-- the names of the variables with a value at the start of a window, 0 or not, rise
pub values_rise : (given : List StartValue) (k : ℕ) → HasRisingNames (values_at given k)
unfolding IsStrictlySortedBy
values_rise given zero = tt
values_rise given (suc k) = given_rise (filter (λ value. value.window == suc k) given) (values_at given k) (values_rise given k)

-- the names of the variables with a value at the start of a window rise
pub start_values_rise : (given : List StartValue) (k : ℕ) → HasRisingNames (start_values_of given k)
start_values_rise given k = filter_rises (slice_cmp nat_cmp) is_kept (values_at given k) (values_rise given k)

-- Bindings that agree with those of terms and names.
use Rattle.std.proofs.Common.{◌≡◌, sym, ℕ, List}
use Rattle.std.specs.Prelude.{zip}
use Rattle.std.specs.List.{list_all}
use Rattle.gp_property.specs.declared.property.Term.{Term}
use Rattle.gp_instance.specs.Instance.{agree}
use Rattle.gp_instance.specs.Search.{agrees_along, all_agree}
use Rattle.gp_instance.specs.Shape.{binding_of, bindings_in}
use Rattle.gp_instance.proofs.Pairs.{list_all_agree, list_all-flat_map}

-- along the terms, and with all that they bind
pub all_along : (ones : List (List ℕ × List ℕ)) (terms : List Term) (names : List (List ℕ))
    → list_all (λ one. agrees_along one terms names) ones ≡ all_agree ones (bindings_in terms names)
all_along ones terms names =
    list_all_agree (λ one. agrees_along one terms names) (λ one. list_all (agree one) (bindings_in terms names)) (λ one. sym (list_all-flat_map (agree one) binding_of (zip terms names))) ones

-- A table after a removal.
use Rattle.std.proofs.Common.{◌≡◌, inl, inr, sym, ap, refl, Bool, not, List, [], ◌∷◌, filter}
use Rattle.std.specs.Map.{remove_entry}
use Rattle.std.proofs.lemmas.Bool.{cases_Bool}
use Rattle.std.proofs.lemmas.Map.{NonePasses}

-- where no key passes the test, a filter keeps all entries
kept_all : {K V : Type 0} (test : K → Bool) (es : List (K × V)) → NonePasses test es → filter (λ entry. not (test entry.0)) es ≡ es
kept_all test [] none = refl
kept_all test (e ∷ es) none = rw none.0 (ap (λ rest. e ∷ rest) (kept_all test es none.1))

-- where no key passes the test after an entry is removed, all that passed are gone
pub removed_is_filtered : {K V : Type 0} (test : K → Bool) (es : List (K × V))
    → NonePasses test (remove_entry test es) → remove_entry test es ≡ filter (λ entry. not (test entry.0)) es
removed_is_filtered test [] none = refl
removed_is_filtered test (e ∷ es) none =
    elim (cases_Bool (test e.0)) [
      | inl passes ↦ let rest = rw passes at none in rw passes (sym (kept_all test es rest))
      | inr fails ↦ let rest = rw fails at none in rw fails (ap (λ kept. e ∷ kept) (removed_is_filtered test es rest.1))
    ]

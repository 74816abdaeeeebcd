-- The value of a variable at the start of a window: what is given for that window, or what it was at the start of the one before.
use Rattle.std.proofs.Common.{◌≡◌, ◌∙◌, refl, ap, sym, subst, inl, inr, cond, ℕ, suc, ℤ, pos, List, [], ◌∷◌, map, eqb-true}
use Rattle.std.specs.Prelude.{◌==◌, ◌&&◌, None, Some, filter, unwrap_or}
use Rattle.std.specs.BTreeMap.{is_at}
use Rattle.std.specs.Cmp.Lexicographic.{slice_cmp}
use Rattle.std.specs.List.{AllByRecursion}
use Rattle.std.specs.List.Sorted.{IsStrictlySortedBy}
use Rattle.std.specs.Map.{keys_of}
use Rattle.std.specs.Ordering.{int_eq, is_eq, nat_cmp}
use Rattle.std.specs.Str.{bytes_eq}
use Rattle.std.specs.declared.cmp.Ordering.TheVariants.{Less}
use Rattle.std.proofs.lemmas.Bool.{and_parts, cases_Bool, false≢true}
use Rattle.std.proofs.lemmas.Bool.Decides.{Decides-int_eq}
use Rattle.std.proofs.lemmas.Map.Text.{is_eq-slice_cmp}
use Rattle.std.proofs.lemmas.Slice.Eq.{bytes_eq-Decides}
use Rattle.gp_base.specs.Table.{value_at, with_entry}
use Rattle.gp_base.specs.TableLaws.{put_apart, put_here}
use Rattle.gp_window.specs.declared.manifest.StartValue.{StartValue}
use Rattle.gp_window.specs.Follow.{given_for}
use Rattle.gp_window.specs.Formed.{HasRisingNames}
use Rattle.gp_window.specs.ManifestForm.{ManifestForm, place_cmp, place_of}
use Rattle.gp_window.specs.WindowForm.{given_all, is_kept, start_values_of, value_in, values_at}
use Rattle.gp_window.proofs.ManifestValues.{not_below_itself}
use Rattle.gp_window.proofs.Rising.{values_rise}

-- a variable that is below all names has the value 0
below_all : (variable : List ℕ) (values : List (List ℕ × ℤ)) → AllByRecursion (λ name. slice_cmp nat_cmp variable name ≡ Less) (keys_of values)
    → value_in values variable ≡ pos 0
below_all variable [] all = refl
below_all variable (value ∷ values) all =
    ap (λ order. unwrap_or (cond (is_eq order) (Some value.1) (value_at (slice_cmp nat_cmp) values variable)) (pos 0)) all.0 ∙ below_all variable values all.1

-- a value of 0 may be left out
kept_tell : (variable : List ℕ) (values : List (List ℕ × ℤ)) → HasRisingNames values → value_in (filter is_kept values) variable ≡ value_in values variable
unfolding IsStrictlySortedBy
kept_tell variable [] rise = refl
kept_tell variable (value ∷ values) rise =
    let rest = kept_tell variable values rise.1 in
    elim (cases_Bool (is_at (slice_cmp nat_cmp variable) value.0)) [
      | inl here ↦ elim (cases_Bool (int_eq value.1 (pos 0))) [
        | inl zero ↦
            let name : variable ≡ value.0 = (bytes_eq-Decides variable value.0).0 (sym (is_eq-slice_cmp variable value.0) ∙ here) in
            let none : value_in values variable ≡ pos 0 = subst (λ name. value_in values name ≡ pos 0) (sym name) (below_all value.0 values rise.0) in
            rw (zero, here) (rest ∙ none ∙ sym ((Decides-int_eq value.1 (pos 0)).0 zero))
        | inr other ↦ rw (other, here) refl
      ]
      | inr apart ↦ elim (cases_Bool (int_eq value.1 (pos 0))) [
        | inl zero ↦ rw (zero, apart) rest
        | inr other ↦ rw (other, apart) rest
      ]
    ]

-- nothing is given at a place that is below all
none_given : (given : List StartValue) (window : ℕ) (variable : List ℕ) → AllByRecursion (λ place. place_cmp (window, variable) place ≡ Less) (map place_of given)
    → given_for given window variable ≡ None
none_given [] window variable all = refl
none_given (one ∷ given) window variable all =
    elim (cases_Bool (one.window == window && bytes_eq one.variable variable)) [
      | inl here ↦
          let parts = and_parts (one.window == window) (bytes_eq one.variable variable) here in
          let same : place_of one ≡ (window, variable) =
          ap (λ k. (k, one.variable)) (eqb-true one.window window parts.0) ∙ ap (λ name. (window, name)) ((bytes_eq-Decides one.variable variable).0 parts.1) in
          absurd (not_below_itself (window, variable) (subst (λ place. place_cmp (window, variable) place ≡ Less) same all.0))
      | inr apart ↦ rw apart (none_given given window variable all.1)
    ]

-- after all that is given for a window, a variable has the value that is given for it there, or the one that it had
given_tell : (given : List StartValue) (window : ℕ) (values : List (List ℕ × ℤ)) (variable : List ℕ) → IsStrictlySortedBy place_cmp (map place_of given)
    → value_in (given_all values (filter (λ value. value.window == window) given)) variable ≡ unwrap_or (given_for given window variable) (value_in values variable)
unfolding IsStrictlySortedBy
given_tell [] window values variable sorted = refl
given_tell (one ∷ given) window values variable sorted =
    elim (cases_Bool (one.window == window)) [
      | inl now ↦
          let more : List (List ℕ × ℤ) = with_entry (slice_cmp nat_cmp) values one.variable one.value in
          let rest = given_tell given window more variable sorted.1 in
          elim (cases_Bool (bytes_eq one.variable variable)) [
            | inl same ↦
                let name : one.variable ≡ variable = (bytes_eq-Decides one.variable variable).0 same in
                let place : place_of one ≡ (window, variable) = ap (λ k. (k, one.variable)) (eqb-true one.window window now) ∙ ap (λ name. (window, name)) name in
                let none = none_given given window variable
                (subst (λ one. AllByRecursion (λ place. place_cmp one place ≡ Less) (map place_of given)) place sorted.0) in
                let told : value_in more variable ≡ one.value =
                subst (λ name. value_in more name ≡ one.value) name (ap (λ found. unwrap_or found (pos 0)) (put_here values one.variable one.value)) in
                rw (now, same) (rest ∙ ap (λ found. unwrap_or found (value_in more variable)) none ∙ told)
            | inr apart ↦
                let kept : value_in more variable ≡ value_in values variable =
                ap (λ found. unwrap_or found (pos 0)) (put_apart values one.variable variable one.value
                (λ same. false≢true (sym apart ∙ (bytes_eq-Decides one.variable variable).1 (sym same)))) in
                rw (now, apart) (rest ∙ ap (unwrap_or (given_for given window variable)) kept)
          ]
      | inr other ↦ rw other (given_tell given window values variable sorted.1)
    ]

-- a variable begins a window with the value that a manifest gives it there, or else with the one that it began the window before with
pub values_follow : (m : ManifestForm) (k : ℕ) → IsStrictlySortedBy place_cmp (map place_of m.values) → (variable : List ℕ)
    → value_in (start_values_of m.values (suc k)) variable ≡ unwrap_or (given_for m.values (suc k) variable) (value_in (start_values_of m.values k) variable)
values_follow m k sorted variable =
    kept_tell variable (values_at m.values (suc k)) (values_rise m.values (suc k))
    ∙ given_tell m.values (suc k) (values_at m.values k) variable sorted
    ∙ ap (unwrap_or (given_for m.values (suc k) variable)) (sym (kept_tell variable (values_at m.values k) (values_rise m.values k)))

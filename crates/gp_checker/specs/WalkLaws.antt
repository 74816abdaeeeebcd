-- Laws: how far the windows of a report are checked, whatever is accepted of a window and however it fails.
use Rattle.std.proofs.Common.{◌≡◌, refl, sym, ap, ◌∙◌, subst, ℕ, suc, ◌+◌, ◌-◌, ◌<◌, ◌≤◌, List, ◌⊎◌, inl, inr, [], ◌∷◌, Option, None, Some, length, get_or, drop, take, add-one, arith}
use Rattle.std.specs.List.{AllZip, slice_get}
use Rattle.std.specs.Option.{IsSomeAnd}
use Rattle.std.proofs.lemmas.Bool.{cases_lt}
use Rattle.std.proofs.lemmas.List.{length-drop}
use Rattle.std.proofs.Math.Seq.{drop-cons}
use Rattle.std.proofs.lemmas.Option.{slice_get-get_or, slice_get_past}
use Rattle.gp_report.specs.Records.{WindowRecord}
use Rattle.gp_window.specs.RecordingForm.{RecordingForm}
use Rattle.gp_window.specs.WindowForm.{WindowForm, window_of}
use Rattle.gp_window.specs.Windows.{all_windows}
use Rattle.gp_window.specs.WindowsLaws.{count_windows}
use Rattle.gp_checker.specs.declared.failure.Checked.{Checked}
use Rattle.gp_checker.specs.declared.failure.Checked.TheVariants.{Accepted, Rejected}
use Rattle.gp_checker.specs.declared.failure.Failure.{Failure}
use Rattle.gp_checker.specs.declared.failure.Reason.{Reason}
use Rattle.gp_checker.specs.declared.failure.Reason.TheVariants.{WindowCount}
use Rattle.gp_checker.specs.First.{FailsHere}
use Rattle.gp_checker.specs.Reasons.{IsOfWindow}
use Rattle.gp_checker.specs.FirstLaws.{accepted_all, accepted_more, lacks_first}
use Rattle.gp_checker.specs.PlaceLaws.{counted_at, one_at}
use Rattle.gp_checker.specs.Windows.{IsCheckedBy, IsRejectedBy}

-- a failure of a window as a whole
pub of_window_is : (reason : Reason) (failure : Failure) (number : ℕ) → failure ≡ record { window = number; property = 0; instance = 0; reason = reason; place = 0 } → IsOfWindow reason failure
of_window_is reason failure number is = record {
  whole = record {
    reason_is = ap (λ (f : Failure). f.reason) is;
    no_instance = ap (λ (f : Failure). f.instance) is;
    no_place = ap (λ (f : Failure). f.place) is;
  };
  no_property = ap (λ (f : Failure). f.property) is;
}

told_there : {X : Type 0} (told : Option X) (P : X → Type 0) → IsSomeAnd told P → (x : X) × (told ≡ Some x) × P x
told_there (Some x) P holds = (x, refl, holds)
told_there None P holds = absurd holds

-- the record of a window, as it is read
pub record_there : (windows records : List WindowRecord) (told : WindowRecord) (read number : ℕ) → records ≡ windows → read ≡ number → slice_get records (read - 1) ≡ Some told
    → slice_get windows (number - 1) ≡ Some told
record_there windows records told read number same is got = subst (λ all. slice_get all (number - 1) ≡ Some told) same (subst (λ k. slice_get records (k - 1) ≡ Some told) is got)

-- what stands first without so many at the front, and what is left behind it
first_left : {X : Type 0} (xs : List X) (n : ℕ) (x : X) (rest : List X) → drop n xs ≡ x ∷ rest → (slice_get xs n ≡ Some x) × (drop (n + 1) xs ≡ rest)
first_left xs n x rest is =
    let size : length (drop n xs) ≡ length (x ∷ rest) = ap (λ ys. length ys) is in
    let within : n < length xs = omega (arith, size, length-drop n xs) in
    let parted : get_or xs n x ∷ drop (suc n) xs ≡ x ∷ rest = sym (drop-cons xs n x within) ∙ is in
    let one : get_or xs n x ≡ x = cc in
    let others : drop (suc n) xs ≡ rest = cc in
    (slice_get-get_or xs n x within ∙ ap Some one, ap (λ k. drop k xs) (add-one n) ∙ others)

module _ (Accepts : WindowForm → WindowRecord → Type 0) (Fails : Failure → WindowForm → WindowRecord → Type 0) (r : RecordingForm) (windows : List WindowRecord) (number : ℕ) where
  window_past : number ≡ r.manifest.epochs → slice_get (all_windows r) number ≡ None
  window_past last =
      let size = count_windows r 1 r.manifest.epochs in
      slice_get_past (all_windows r) number (omega (arith, size, last))

  -- and it is the last
  pub every_window : number ≡ r.manifest.epochs → length windows ≤ number → AllZip Accepts (take number (all_windows r)) (take number windows) → AllZip Accepts (all_windows r) windows
  every_window last few accepted =
      let size = count_windows r 1 r.manifest.epochs in
      accepted_all Accepts (all_windows r) windows number (omega (arith, size, last)) few accepted

  -- but the report has more
  pub windows_surplus : number ≡ r.manifest.epochs → number < length windows → AllZip Accepts (take number (all_windows r)) (take number windows)
      → IsRejectedBy Accepts Fails r windows (record { window = number + 1; property = 0; instance = 0; reason = WindowCount; place = 0 })
  windows_surplus last more accepted =
      let told = one_at windows number more in
      let failure : Failure = record { window = number + 1; property = 0; instance = 0; reason = WindowCount; place = 0 } in (
        number,
        refl,
        lacks_first Accepts (all_windows r) windows number (Fails failure) (IsOfWindow WindowCount failure) told.0
            (window_past last) told.1 (of_window_is WindowCount failure (number + 1) refl) accepted,
      )

  -- so the check is at its end
  pub checked_at_end : (checked : Checked) (count : ℕ) → number ≡ r.manifest.epochs → count ≡ length windows → (count ≤ number → checked ≡ Accepted)
      → (number < count → checked ≡ Rejected (record { window = number + 1; property = 0; instance = 0; reason = WindowCount; place = 0 }))
      → AllZip Accepts (take number (all_windows r)) (take number windows) → IsCheckedBy Accepts Fails r windows checked
  checked_at_end checked count last size all more accepted = at (cases_lt number count)
    where
      at : (number < count) ⊎ (count ≤ number) → IsCheckedBy Accepts Fails r windows checked
      at (inl surplus) = subst (IsCheckedBy Accepts Fails r windows) (sym (more surplus)) (windows_surplus last (omega (arith, surplus, size)) accepted)
      at (inr few) = subst (IsCheckedBy Accepts Fails r windows) (sym (all few)) (every_window last (omega (arith, few, size)) accepted)

module _ (Accepts : WindowForm → WindowRecord → Type 0) (Fails : Failure → WindowForm → WindowRecord → Type 0) (r : RecordingForm) (windows : List WindowRecord) where
  -- the windows before those that are left are accepted
  pub record AreChecked (left : List WindowForm) : Type 0 where
    pub passed : ℕ
    pub within : passed ≤ r.manifest.epochs
    pub left_is : drop passed (all_windows r) ≡ left
    pub accepted : AllZip Accepts (take passed (all_windows r)) (take passed windows)

  -- none is checked yet
  pub none_checked : (left : List WindowForm) → left ≡ all_windows r → AreChecked left
  none_checked left all = record { passed = 0; within = omega arith; left_is = sym all; accepted = tt }

  -- where the first of those that are left stands
  place_of : (left rest : List WindowForm) (window : WindowForm) (checked : AreChecked left) → left ≡ window ∷ rest
      → (checked.passed < r.manifest.epochs) × (slice_get (all_windows r) checked.passed ≡ Some window) × (drop (checked.passed + 1) (all_windows r) ≡ rest) × (window.number - 1 ≡ checked.passed) × (window.number ≡ checked.passed + 1)
  place_of left rest window checked first =
      let here = first_left (all_windows r) checked.passed window rest (checked.left_is ∙ first) in
      let counted = counted_at (window_of r) 1 r.manifest.epochs checked.passed window here.0 in
      let number : window.number ≡ 1 + checked.passed = ap (λ (w : WindowForm). w.number) counted.1 in
      (counted.0, here.0, here.1, omega (arith, number), omega (arith, number))

  -- the first of those that are left is missing, or it fails
  pub window_rejected : (left rest : List WindowForm) (window : WindowForm) (failure : Failure) → AreChecked left → left ≡ window ∷ rest → (failure.window ≡ window.number)
      × FailsHere (Fails failure) (IsOfWindow WindowCount failure) (Some window) (slice_get windows (window.number - 1)) → IsRejectedBy Accepts Fails r windows failure
  window_rejected left rest window failure checked first fails =
      let place = place_of left rest window checked first in
      let here : FailsHere (Fails failure) (IsOfWindow WindowCount failure) (Some window) (slice_get windows checked.passed) =
      subst (λ (k : ℕ). FailsHere (Fails failure) (IsOfWindow WindowCount failure) (Some window) (slice_get windows k)) place.3 fails.1 in (
        checked.passed,
        fails.0 ∙ place.4,
        record {
          before = checked.accepted;
          here = subst (λ (one : Option WindowForm). FailsHere (Fails failure) (IsOfWindow WindowCount failure) one (slice_get windows checked.passed)) (sym place.1) here;
        },
      )

  -- it is accepted too
  pub window_accepted : (left rest : List WindowForm) (window : WindowForm) → AreChecked left → left ≡ window ∷ rest
      → IsSomeAnd (slice_get windows (window.number - 1)) (Accepts window) → AreChecked rest
  window_accepted left rest window checked first accepts =
      let place = place_of left rest window checked first in
      let told = told_there (slice_get windows (window.number - 1)) (Accepts window) accepts in
      let there : slice_get windows checked.passed ≡ Some told.0 = subst (λ (k : ℕ). slice_get windows k ≡ Some told.0) place.3 told.1 in
      record {
        passed = checked.passed + 1;
        within = omega (arith, place.0);
        left_is = place.2;
        accepted = accepted_more Accepts (all_windows r) windows checked.passed window told.0 place.1 there told.2 checked.accepted;
      }

  -- no window is left
  pub all_checked : (left : List WindowForm) (epochs : ℕ) (checked : Checked) (count : ℕ) → AreChecked left → left ≡ [] → epochs ≡ r.manifest.epochs → count ≡ length windows → (count ≤ epochs → checked ≡ Accepted)
      → (epochs < count → checked ≡ Rejected (record { window = epochs + 1; property = 0; instance = 0; reason = WindowCount; place = 0 })) → IsCheckedBy Accepts Fails r windows checked
  all_checked left epochs checked count so_far none last size all more =
      let whole = count_windows r 1 r.manifest.epochs in
      let rest : length (all_windows r) - so_far.passed ≡ 0 = sym (length-drop so_far.passed (all_windows r)) ∙ ap (λ (ws : List WindowForm). length ws) (so_far.left_is ∙ none) in
      let passed : so_far.passed ≡ epochs = omega (arith, so_far.within, whole, rest, last) in
      checked_at_end Accepts Fails r windows epochs checked count last size all more
      (subst (λ (n : ℕ). AllZip Accepts (take n (all_windows r)) (take n windows)) passed so_far.accepted)

-- How far the properties of a window are checked.
use Rattle.std.proofs.Common.{◌≡◌, sym, ap, subst, ℕ, ◌+◌, ◌<◌, ◌≤◌, List, None, Some, length, take, arith}
use Rattle.std.specs.List.{AllZip, enumerate_from, slice_get}
use Rattle.std.proofs.lemmas.List.FromFn.{length-enumerate_from}
use Rattle.gp_certificate.specs.declared.step.Step.{Step}
use Rattle.gp_property.specs.PropertyForm.{PropertyForm}
use Rattle.gp_report.specs.Records.{PropertyRecord}
use Rattle.gp_window.specs.WindowForm.{WindowForm}
use Rattle.gp_checker.specs.declared.failure.Failure.{Failure}
use Rattle.gp_checker.specs.declared.failure.Reason.TheVariants.{WrongProperty}
use Rattle.gp_checker.specs.Accepted.{AcceptsProperty}
use Rattle.gp_checker.specs.First.{FailsFirst}
use Rattle.gp_checker.specs.Reasons.{IsOfProperty}
use Rattle.gp_checker.specs.Rejected.{FailsProperty}
use Rattle.gp_checker.proofs.Finds.{of_property_is}
use Rattle.gp_checker.specs.FirstLaws.{accepted_all, accepted_more, fails_pair, lacks_first, lacks_second}
use Rattle.gp_checker.proofs.Moved.{property_moved}
use Rattle.gp_checker.specs.PlaceLaws.{numbered_first, numbered_past, one_at}

module _ (window : WindowForm) (budget : ℕ) (shared : List Step) (properties : List PropertyForm) (records : List PropertyRecord) (place : ℕ) where
  -- a property is the first that fails
  abbrev pub FailsBy : Failure → Type 0
  FailsBy failure =
      FailsFirst (AcceptsProperty window budget shared) (FailsProperty window budget shared failure) (IsOfProperty WrongProperty failure) (enumerate_from 0 properties) records failure.property

  -- the properties before this place are accepted
  abbrev pub AreAccepted : Type 0
  AreAccepted = AllZip (AcceptsProperty window budget shared) (take place (enumerate_from 0 properties)) (take place records)

  -- this one is missing
  pub property_missing : (property : PropertyForm) (failure : Failure) → failure ≡ record { window = 0; property = place; instance = 0; reason = WrongProperty; place = 0 } → slice_get properties place ≡ Some property
      → slice_get records place ≡ None → AreAccepted → FailsBy failure
  property_missing property failure is there none before =
      subst (λ n. FailsFirst (AcceptsProperty window budget shared) (FailsProperty window budget shared failure) (IsOfProperty WrongProperty failure) (enumerate_from 0 properties) records n) (sym (ap (λ (f : Failure). f.property) is))
      (lacks_second (AcceptsProperty window budget shared) (enumerate_from 0 properties) records place (FailsProperty window budget shared failure) (IsOfProperty WrongProperty failure) (place, property)
      (numbered_first properties place property there) none (of_property_is failure place is) before)

  -- this one fails
  pub property_fails : (property : PropertyForm) (told : PropertyRecord) (failure : Failure) → slice_get properties place ≡ Some property → slice_get records place ≡ Some told
      → FailsProperty window budget shared failure (place, property) told → AreAccepted → FailsBy (record failure { property = place })
  property_fails property told failure there also fails before =
      let here : Failure = record failure { property = place } in
      fails_pair (AcceptsProperty window budget shared) (enumerate_from 0 properties) records place (FailsProperty window budget shared here) (IsOfProperty WrongProperty here) (place, property) told
      (numbered_first properties place property there) also (property_moved failure.window place failure window budget shared (place, property) told fails) before

  -- this one is accepted too
  pub property_accepted : (property : PropertyForm) (told : PropertyRecord) → slice_get properties place ≡ Some property → slice_get records place ≡ Some told
      → AcceptsProperty window budget shared (place, property) told → AreAccepted → AllZip (AcceptsProperty window budget shared) (take (place + 1) (enumerate_from 0 properties)) (take (place + 1) records)
  property_accepted property told there also accepts before =
      accepted_more (AcceptsProperty window budget shared) (enumerate_from 0 properties) records place (place, property) told (numbered_first properties place property there) also accepts before

  -- there are no more properties and no more records
  pub all_properties : length properties ≤ place → length records ≤ place → AreAccepted → AllZip (AcceptsProperty window budget shared) (enumerate_from 0 properties) records
  all_properties past few before =
      let size = length-enumerate_from 0 properties in accepted_all (AcceptsProperty window budget shared) (enumerate_from 0 properties) records place (omega (arith, past, size)) few before

  -- there are no more properties, but a record more
  pub properties_surplus : (failure : Failure) → failure ≡ record { window = 0; property = place; instance = 0; reason = WrongProperty; place = 0 } → length properties ≤ place → place < length records → AreAccepted → FailsBy failure
  properties_surplus failure is past more before =
      let told = one_at records place more in
      subst (λ n. FailsFirst (AcceptsProperty window budget shared) (FailsProperty window budget shared failure) (IsOfProperty WrongProperty failure) (enumerate_from 0 properties) records n) (sym (ap (λ (f : Failure). f.property) is))
      (lacks_first (AcceptsProperty window budget shared) (enumerate_from 0 properties) records place (FailsProperty window budget shared failure) (IsOfProperty WrongProperty failure) told.0
      (numbered_past properties place past) told.1 (of_property_is failure place is) before)

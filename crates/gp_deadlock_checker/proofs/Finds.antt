-- What a check finds, carried over to what it is found of.
use Rattle.std.proofs.Common.{◌≡◌, ◌≢◌, refl, sym, ap, subst, inr, ℕ, List, [], ◌∷◌, length, Option, None, Some, Ok, Err, codes}
use Rattle.std.specs.List.{AllZip}
use Rattle.std.specs.Option.{MatchOption}
use Rattle.gp_constraint.specs.Base.{base_of}
use Rattle.gp_certificate.specs.Shared.{SharedPasses}
use Rattle.gp_checker.specs.declared.failure.Checked.{Checked}
use Rattle.gp_checker.specs.declared.failure.Checked.TheVariants.{Accepted, Rejected}
use Rattle.gp_checker.specs.declared.failure.Failure.{Failure}
use Rattle.gp_checker.specs.declared.failure.Reason.TheVariants.{WrongProperty}
use Rattle.gp_checker.specs.Basis.{Basis}
use Rattle.gp_checker.specs.First.{FailsFirst}
use Rattle.gp_checker.specs.Reasons.{IsOfProperty}
use Rattle.gp_checker.specs.Windows.{IsCheckedBy}
use Rattle.gp_instance.specs.declared.instance.Instance.{Instance}
use Rattle.gp_instance.specs.declared.instance.InstancesFault.TheVariants.{TooMany}
use Rattle.gp_report.specs.Records.{Entry, PropertyBody, PropertyRecord}
use Rattle.gp_report.specs.declared.record.PropertyBodyOf.TheVariants as body
use Rattle.gp_report.specs.declared.record.WindowBodyOf.TheVariants as told
use Rattle.gp_report.specs.ReportForm.{ReportForm}
use Rattle.gp_stuck.specs.Cycles.{due_cycles}
use Rattle.gp_window.specs.RecordingForm.{RecordingForm}
use Rattle.gp_deadlock_checker.specs.Accepted.{AcceptsProperty, AcceptsWindow, subjects}
use Rattle.gp_deadlock_checker.specs.Checked.{AreCheckedDeadlocks}
use Rattle.gp_deadlock_checker.specs.Finds.{FindsBody, FindsEntries, FindsListed, FindsProperties, FindsProperty}
use Rattle.gp_deadlock_checker.specs.Rejected.{FailsProperty, FailsWindow}

-- where there are too many cycles
pub too_many_told : (basis : Basis) (told_body : PropertyBody) (found : Option Failure)
    → MatchOption found (told_body ≡ body.TooMany) (λ (failure : Failure). IsOfProperty WrongProperty failure × (told_body ≢ body.TooMany)) → FindsListed basis (Err TooMany) told_body found
too_many_told basis body.TooMany None finds = tt
too_many_told basis (body.Entries entries) None finds = absurd (cc)
too_many_told basis body.TooMany (Some failure) finds = finds.1 refl
too_many_told basis (body.Entries entries) (Some failure) finds = finds.0

-- a failure of a property as a whole
pub of_property_is : (failure : Failure) (number : ℕ) → failure ≡ record { window = 0; property = number; instance = 0; reason = WrongProperty; place = 0 } → IsOfProperty WrongProperty failure
of_property_is failure number is = record {
  reason_is = ap (λ (f : Failure). f.reason) is;
  no_instance = ap (λ (f : Failure). f.instance) is;
  no_place = ap (λ (f : Failure). f.place) is;
}

-- what is found of the property that has its name
pub property_found : (basis : Basis) (name : List ℕ) (one : PropertyRecord) → one.name ≡ name → (found : Option Failure)
    → FindsListed basis (due_cycles basis.window) one.body found → FindsProperty basis name one found
property_found basis name one same None finds = (same, finds)
property_found basis name one same (Some failure) finds = inr (same, finds)

-- what is found of as many entries as cycles
pub entries_found : (basis : Basis) (cycles : List Instance) (entries : List Entry) → length entries ≡ length cycles → (found : Option Failure)
    → FindsEntries basis cycles entries found → FindsListed basis (Ok cycles) (body.Entries entries) found
entries_found basis cycles entries count None finds = finds
entries_found basis cycles entries count (Some failure) finds = inr (count, finds)

-- what is found of the properties of a window whose shared steps pass
pub body_found : (basis : Basis) (records : List PropertyRecord) → SharedPasses (base_of basis.window) basis.shared → (found : Option Failure)
    → FindsProperties basis records found → FindsBody basis (told.Answers records) found
body_found basis records shares None finds = (shares, finds)
body_found basis records shares (Some failure) finds = inr (shares, finds)

-- what is said of all windows is said of the report
pub whole_checked : (recording : RecordingForm) (report : ReportForm) (checked : Checked)
    → IsCheckedBy (AcceptsWindow report.budget) (FailsWindow report.budget) recording report.windows checked → AreCheckedDeadlocks recording report checked
whole_checked recording report Accepted is = is
whole_checked recording report (Rejected failure) is = is

module _ (basis : Basis) where
  -- the records of a window's properties fail so
  abbrev pub FailsBy : Failure → List PropertyRecord → Type 0
  FailsBy failure records =
      FailsFirst (AcceptsProperty basis.window basis.budget basis.shared) (FailsProperty basis.window basis.budget basis.shared failure) (IsOfProperty WrongProperty failure)
      subjects records failure.property

  -- there is no record
  pub property_missing : (failure : Failure) (records : List PropertyRecord) → failure ≡ record { window = 0; property = 0; instance = 0; reason = WrongProperty; place = 0 } → [] ≡ records → FailsBy failure records
  property_missing failure records is none =
      subst (FailsBy failure) none
      (subst (λ n. FailsFirst (AcceptsProperty basis.window basis.budget basis.shared) (FailsProperty basis.window basis.budget basis.shared failure) (IsOfProperty WrongProperty failure) subjects [] n)
      (sym (ap (λ (f : Failure). f.property) is)) (record { before = tt; here = of_property_is failure 0 is }))

  -- the first one fails
  pub property_fails : (failure : Failure) (one : PropertyRecord) (others records : List PropertyRecord) → one ∷ others ≡ records
      → FailsProperty basis.window basis.budget basis.shared (record failure { property = 0 }) (codes "deadlock") one → FailsBy (record failure { property = 0 }) records
  property_fails failure one others records is fails = subst (FailsBy (record failure { property = 0 })) is (record { before = tt; here = fails })

  -- it is not the only one
  pub properties_surplus : (failure : Failure) (one other : PropertyRecord) (others records : List PropertyRecord) → failure ≡ record { window = 0; property = 1; instance = 0; reason = WrongProperty; place = 0 } → one ∷ other ∷ others ≡ records
      → AcceptsProperty basis.window basis.budget basis.shared (codes "deadlock") one → FailsBy failure records
  properties_surplus failure one other others records is are accepts =
      subst (FailsBy failure) are
      (subst (λ n. FailsFirst (AcceptsProperty basis.window basis.budget basis.shared) (FailsProperty basis.window basis.budget basis.shared failure) (IsOfProperty WrongProperty failure) subjects (one ∷ other ∷ others) n)
      (sym (ap (λ (f : Failure). f.property) is)) (record { before = (accepts, tt); here = of_property_is failure 1 is }))

  -- it is
  pub property_accepted : (one : PropertyRecord) (records : List PropertyRecord) → one ∷ [] ≡ records
      → AcceptsProperty basis.window basis.budget basis.shared (codes "deadlock") one → AllZip (AcceptsProperty basis.window basis.budget basis.shared) subjects records
  property_accepted one records is accepts = subst (AllZip (AcceptsProperty basis.window basis.budget basis.shared) subjects) is (accepts, tt)

-- What a check finds, carried over to what it is found of.
use Rattle.std.proofs.Common.{◌≡◌, ◌≢◌, refl, ap, inr, ℕ, List, length, Option, None, Some, Ok, Err}
use Rattle.std.specs.Option.{MatchOption}
use Rattle.gp_constraint.specs.Base.{base_of}
use Rattle.gp_certificate.specs.Shared.{SharedPasses}
use Rattle.gp_instance.specs.declared.instance.Instance.{Instance}
use Rattle.gp_instance.specs.declared.instance.InstancesFault.TheVariants.{TooMany}
use Rattle.gp_instance.specs.Instances.{due_instances}
use Rattle.gp_property.specs.PropertyForm.{PropertyForm}
use Rattle.gp_report.specs.Records.{Entry, PropertyBody, PropertyRecord}
use Rattle.gp_report.specs.declared.record.PropertyBodyOf.TheVariants as body
use Rattle.gp_report.specs.declared.record.WindowBodyOf.TheVariants as told
use Rattle.gp_report.specs.ReportForm.{ReportForm}
use Rattle.gp_window.specs.RecordingForm.{RecordingForm}
use Rattle.gp_checker.specs.declared.failure.Checked.{Checked}
use Rattle.gp_checker.specs.declared.failure.Checked.TheVariants.{Accepted, Rejected}
use Rattle.gp_checker.specs.declared.failure.Failure.{Failure}
use Rattle.gp_checker.specs.declared.failure.Reason.TheVariants.{WrongProperty}
use Rattle.gp_checker.specs.Accepted.{AcceptsWindow}
use Rattle.gp_checker.specs.Basis.{Basis}
use Rattle.gp_checker.specs.Checked.{IsChecked}
use Rattle.gp_checker.specs.Finds.{FindsBody, FindsEntries, FindsListed, FindsProperties, FindsProperty}
use Rattle.gp_checker.specs.Reasons.{IsOfProperty}
use Rattle.gp_checker.specs.Rejected.{FailsWindow}
use Rattle.gp_checker.specs.Windows.{IsCheckedBy}

-- where there are too many instances
pub too_many_told : (basis : Basis) (property : PropertyForm) (told_body : PropertyBody) (found : Option Failure)
    → MatchOption found (told_body ≡ body.TooMany) (λ (failure : Failure). IsOfProperty WrongProperty failure × (told_body ≢ body.TooMany)) → FindsListed basis property (Err TooMany) told_body found
too_many_told basis property body.TooMany None finds = tt
too_many_told basis property (body.Entries entries) None finds = absurd (cc)
too_many_told basis property body.TooMany (Some failure) finds = finds.1 refl
too_many_told basis property (body.Entries entries) (Some failure) finds = finds.0

-- a failure of a property as a whole
pub of_property_is : (failure : Failure) (number : ℕ) → failure ≡ record { window = 0; property = number; instance = 0; reason = WrongProperty; place = 0 } → IsOfProperty WrongProperty failure
of_property_is failure number is = record {
  reason_is = ap (λ (f : Failure). f.reason) is;
  no_instance = ap (λ (f : Failure). f.instance) is;
  no_place = ap (λ (f : Failure). f.place) is;
}

-- what is found of a property that has its name
pub property_found : (basis : Basis) (number : ℕ) (property : PropertyForm) (one : PropertyRecord) → one.name ≡ property.name → (found : Option Failure)
    → FindsListed basis property (due_instances basis.window property number) one.body found → FindsProperty basis (number, property) one found
property_found basis number property one same None finds = (same, finds)
property_found basis number property one same (Some failure) finds = inr (same, finds)

-- what is found of as many entries as instances
pub entries_found : (basis : Basis) (property : PropertyForm) (instances : List Instance) (entries : List Entry) → length entries ≡ length instances → (found : Option Failure)
    → FindsEntries basis property instances entries found → FindsListed basis property (Ok instances) (body.Entries entries) found
entries_found basis property instances entries count None finds = finds
entries_found basis property instances entries count (Some failure) finds = inr (count, finds)

-- what is found of the properties of a window whose shared steps pass
pub body_found : (basis : Basis) (properties : List PropertyForm) (records : List PropertyRecord) → SharedPasses (base_of basis.window) basis.shared → (found : Option Failure)
    → FindsProperties basis properties records found → FindsBody basis properties (told.Answers records) found
body_found basis properties records shares None finds = (shares, finds)
body_found basis properties records shares (Some failure) finds = inr (shares, finds)

-- what is said of all windows is said of the report
pub whole_checked : (recording : RecordingForm) (properties : List PropertyForm) (report : ReportForm) (checked : Checked)
    → IsCheckedBy (AcceptsWindow properties report.budget) (FailsWindow properties report.budget) recording report.windows checked → IsChecked recording properties report checked
whole_checked recording properties report Accepted is = is
whole_checked recording properties report (Rejected failure) is = is

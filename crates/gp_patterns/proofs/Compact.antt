-- What is recorded of all windows in the compact form is the compact form of a report that answers the recording.
use Rattle.std.proofs.Common.{◌≡◌, refl, ap, sym, ◌∙◌, subst, inl, ℕ, ◌≤◌, List, [], ◌∷◌, Result, Ok, Err}
use Rattle.gp_constraint.specs.declared.fault.BaseFault.{BaseFault}
use Rattle.gp_constraint.specs.declared.fault.BaseFault.TheVariants as no_window
use Rattle.gp_constraint.specs.Base.{base_of}
use Rattle.gp_constraint.specs.Encoded.{base_due}
use Rattle.gp_constraint.specs.EncodedLaws.{is_encoded}
use Rattle.gp_property.specs.PropertyForm.{PropertyForm}
use Rattle.gp_report.specs.Records.{WindowRecord}
use Rattle.gp_report.specs.Report.{IsReport}
use Rattle.gp_report.specs.ReportForm.{ReportForm}
use Rattle.gp_window.specs.RecordingForm.{RecordingForm}
use Rattle.gp_window.specs.WindowForm.{WindowForm}
use Rattle.gp_window.specs.Windows.{all_windows}
use Rattle.gp_sharing.specs.Compacted.{compacted_by, sizes_in}
use Rattle.gp_compact.specs.Compact.{compacted_over, compacted_window, compacted_windows}
use Rattle.gp_compact.specs.ToldLaws.{report_told}
use Rattle.gp_analysis.specs.Recorded.{CompactEach, RecordEach, compacted_where}
use Rattle.gp_analysis.specs.RecordedLaws.{all_answered, is_report}
use Rattle.gp_patterns.specs.CompactAnswer.{IsCompactAnswer}
use Rattle.gp_patterns.specs.Question.{left_out_in, patterns}
use Rattle.gp_patterns.proofs.Same.{windows_there}

-- the compact form of what is told of a window is made by its constraints, where it is not left out
form_where : (window : WindowForm) (told : WindowRecord) (due : Result WindowForm BaseFault) → base_due window ≡ due
    → compacted_where (left_out_in due) (sizes_in (base_of window) told.shared) told ≡ compacted_over due told
form_where window told (Ok encoded) is = ap (λ (w : WindowForm). compacted_by (sizes_in (base_of w) told.shared) told) (sym (is_encoded window encoded is).same)
form_where window told (Err (no_window.TooLarge events clauses)) is = refl
form_where window told (Err no_window.Memory) is = refl

form_same : (window : WindowForm) (told : WindowRecord) → compacted_where (left_out_in (base_due window)) (sizes_in (base_of window) told.shared) told ≡ compacted_window window told
form_same window told = form_where window told (base_due window) refl

module _ (properties : List PropertyForm) (count budget : ℕ) where
  -- records are the compact forms of others, which are recorded of some windows
  record AreForms (windows : List WindowForm) (records : List WindowRecord) : Type 0 where
    told : List WindowRecord
    recorded : RecordEach (patterns properties) count budget windows told
    made : records ≡ compacted_windows windows told

  are_forms : (windows : List WindowForm) (records : List WindowRecord) → CompactEach (patterns properties) count budget windows records → AreForms windows records
  are_forms [] [] each = record { told = []; recorded = tt; made = refl }
  are_forms [] (own ∷ records) each = absurd each
  are_forms (window ∷ windows) [] each = absurd each
  are_forms (window ∷ windows) (own ∷ records) each =
      let rest = are_forms windows records each.1 in
      record {
        told = each.0.told ∷ rest.told;
        recorded = (each.0.records, rest.recorded);
        made = λ i. (each.0.made ∙ form_same window each.0.told) i ∷ rest.made i;
      }

  -- a text can tell a report with these records, which is the compact form of one that answers the recording
  pub record AreCompact (recording : RecordingForm) (records : List WindowRecord) : Type 0 where
    pub report : IsReport (record { format = 2; budget = budget; windows = records })
    pub answers : IsCompactAnswer recording properties count budget (record { format = 2; budget = budget; windows = records })

  pub are_compact : (recording : RecordingForm) (records : List WindowRecord) → 1 ≤ budget → budget ≤ 1000000 → CompactEach (patterns properties) count budget (all_windows recording) records → AreCompact recording records
  are_compact recording records some few each = record {
    report = subst (λ (windows : List WindowRecord). IsReport (record { format = 2; budget = budget; windows = windows })) (sym forms.made) (report_told recording plain plain_told);
    answers = record {
      answered = record { format = 1; budget = budget; windows = forms.told };
      plain = refl;
      typed = plain_told;
      instances = record {
        same_budget = refl;
        windows = windows_there properties count budget (all_windows recording) forms.told (all_answered (patterns properties) count budget recording forms.told forms.recorded);
      };
      made = λ i. record { format = 2; budget = budget; windows = forms.made i };
    };
  }
    where
      forms : AreForms (all_windows recording) records
      forms = are_forms (all_windows recording) records each

      plain : ReportForm
      plain = record { format = 1; budget = budget; windows = forms.told }

      plain_told : IsReport (record { format = 1; budget = budget; windows = forms.told })
      plain_told = is_report (patterns properties) count budget 1 recording forms.told (inl refl) (λ one window. refl) some few forms.recorded

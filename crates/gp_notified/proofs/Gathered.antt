-- Windows that are left out for a wake, gathered one after another.
use Rattle.std.proofs.Common.{◌≡◌, refl, sym, ap, ◌∙◌, subst, ℕ, List, [], ◌∷◌, ◌++◌, append_assoc, append-nil, arith, length, map}
use Rattle.std.specs.List.{AllZip, flat_map}
use Rattle.gp_report.specs.declared.record.WindowRecordOf.{WindowRecordOf}
use Rattle.gp_window.specs.RecordingForm.{RecordingForm}
use Rattle.gp_window.specs.WindowForm.{numbers_from, window_of}
use Rattle.gp_notified.specs.declared.paired.Paired.{Paired}
use Rattle.gp_notified.specs.declared.report.Unpaired.{Unpaired}
use Rattle.gp_notified.specs.Due.{unpaired_in, unpaired_of}
use Rattle.gp_notified.specs.Unasked.{AreRecordsOf, IsRecordOf}

-- of the windows of these numbers
unpaired_at : RecordingForm → List ℕ → List Unpaired
unpaired_at recording numbers = flat_map unpaired_in (map (window_of recording) numbers)

-- the windows of the records that are left have these numbers; with theirs, what was found is all
pub record IsUnderWay (recording : RecordingForm) (found : List Unpaired) (left : List (WindowRecordOf Paired)) : Type 0 where
  pub numbers : List ℕ
  pub own : AllZip (IsRecordOf recording) numbers left
  pub all : found ++ flat_map unpaired_in (map (window_of recording) numbers) ≡ unpaired_of recording

pub begun : (recording : RecordingForm) (records : List (WindowRecordOf Paired)) → AreRecordsOf recording records → IsUnderWay recording [] records
begun recording records are = record { numbers = numbers_from 1 recording.manifest.epochs; own = are; all = refl }

-- the record of the first number
pub record IsFirst (recording : RecordingForm) (found : List Unpaired) (own : WindowRecordOf Paired) (more : List (WindowRecordOf Paired)) : Type 0 where
  pub first : IsRecordOf recording own.number own
  pub way : (next : List Unpaired) → next ≡ found ++ unpaired_in (window_of recording own.number) → IsUnderWay recording next more

first_at : (recording : RecordingForm) (found : List Unpaired) (numbers : List ℕ) (own : WindowRecordOf Paired) (more : List (WindowRecordOf Paired))
    → AllZip (IsRecordOf recording) numbers (own ∷ more) → found ++ flat_map unpaired_in (map (window_of recording) numbers) ≡ unpaired_of recording
    → IsFirst recording found own more
first_at recording found [] own more are all = absurd are
first_at recording found (k ∷ numbers) own more are all =
    let same = sym are.0.number in
    record {
      first = subst (λ (n : ℕ). IsRecordOf recording n own) same are.0;
      way = λ next is. record {
        numbers = numbers;
        own = are.1;
        all = ap (λ (xs : List Unpaired). xs ++ flat_map unpaired_in (map (window_of recording) numbers)) (is ∙ ap (λ (n : ℕ). found ++ unpaired_in (window_of recording n)) are.0.number)
            ∙ append_assoc found (unpaired_in (window_of recording k)) (flat_map unpaired_in (map (window_of recording) numbers))
            ∙ all;
      };
    }

pub first_of : (recording : RecordingForm) (found : List Unpaired) (left : List (WindowRecordOf Paired)) (own : WindowRecordOf Paired) (more : List (WindowRecordOf Paired))
    → left ≡ own ∷ more → IsUnderWay recording found left → IsFirst recording found own more
first_of recording found left own more is way =
    first_at recording found way.numbers own more (subst (AllZip (IsRecordOf recording) way.numbers) is way.own) way.all

all_at : (recording : RecordingForm) (found : List Unpaired) (numbers : List ℕ) → AllZip (IsRecordOf recording) numbers []
    → found ++ flat_map unpaired_in (map (window_of recording) numbers) ≡ unpaired_of recording → found ≡ unpaired_of recording
all_at recording found [] are all = sym (append-nil found) ∙ all
all_at recording found (k ∷ numbers) are all = absurd are

-- where no record is left, all were found
pub all_found : (recording : RecordingForm) (found : List Unpaired) (left : List (WindowRecordOf Paired)) → length left ≡ 0 → IsUnderWay recording found left → found ≡ unpaired_of recording
all_found recording found [] none way = all_at recording found way.numbers way.own way.all
all_found recording found (own ∷ more) none way = absurd (omega (arith, none))

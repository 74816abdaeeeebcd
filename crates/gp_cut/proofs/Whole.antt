-- Windows that are cut out of a recording are a recording, and each of them is the window that it stands for.
use Rattle.std.proofs.Common.{◌≡◌, ◌∙◌, ap, sym, subst, ℕ, zero, suc, ◌+◌, ◌-◌, ◌≤◌, List, [], ◌∷◌, map, length, filter, arith}
use Rattle.std.specs.Prelude.{Ok}
use Rattle.std.specs.List.{AllByRecursion}
use Rattle.std.proofs.lemmas.List.{length-map}
use Rattle.std.proofs.lemmas.List.Elements.{All-from_recursion, recursion_from_All}
use Rattle.gp_base.specs.ListLaws.{nothing_in}
use Rattle.gp_trace.specs.LockUse.{AreOfFormat}
use Rattle.gp_trace.specs.Trace.{in_order, IsLocalTrace, LocalTraceForm}
use Rattle.gp_window.specs.Holders.{held_over, holders_among, Holdings, readers_among, segment_after}
use Rattle.gp_window.specs.Marks.{after_marks}
use Rattle.gp_window.specs.MarksTold.{MarksMean, TwoHold}
use Rattle.gp_window.specs.RecordingForm.{AreNumbered, IsRecording, RecordingForm}
use Rattle.gp_window.specs.StartsTold.{StartsMean}
use Rattle.gp_window.specs.WindowForm.{chosen, exited_of, is_kept, numbers_from, started_before, values_at}
use Rattle.gp_cut.specs.Cut.{cut_of, cut_trace}
use Rattle.gp_cut.specs.Laws.{CanBeCut, CutsAreRecordings, CutWindowsAreTheSame}
use Rattle.gp_cut.proofs.Cutting.{cut_is_trace, cut_numbered, format_kept, segments_kept}
use Rattle.gp_cut.proofs.Ending.{exits_kept}
use Rattle.gp_cut.proofs.Giving.{values_inside, values_kept, values_ordered}
use Rattle.gp_cut.proofs.Holding.{held_kept}
use Rattle.gp_cut.proofs.Roots.{roots_rise, some_root}
use Rattle.gp_cut.proofs.Starting.{runs_kept, starts_kept}

traces_kept : (before count epochs first : ℕ) (traces : List LocalTraceForm) → before + count ≤ epochs → AreNumbered epochs first traces
    → AllByRecursion IsLocalTrace traces → AllByRecursion IsLocalTrace (map (cut_trace before count) traces)
traces_kept before count epochs first [] there numbered all = tt
traces_kept before count epochs first (trace ∷ traces) there numbered all =
    let size : length trace.segments ≡ epochs = numbered.1 in (
      cut_is_trace before count trace (omega (arith, there, size)) all.0,
      traces_kept before count epochs (first + 1) traces there numbered.2 all.1,
    )

formats_kept : (format before count : ℕ) (traces : List LocalTraceForm) → AllByRecursion (λ trace. AreOfFormat format (in_order trace.segments)) traces
    → AllByRecursion (λ trace. AreOfFormat format (in_order trace.segments)) (map (cut_trace before count) traces)
formats_kept format before count [] all = tt
formats_kept format before count (trace ∷ traces) all = (format_kept format before count trace.segments all.0, formats_kept format before count traces all.1)

-- over no mark of a recording two threads hold a lock, nor at its beginning
none_contested : MarksMean → (epochs n : ℕ) (traces : List LocalTraceForm) (lock : List ℕ) → after_marks epochs traces ≡ Ok tt → n + 1 ≤ epochs
    → TwoHold (held_over traces n) lock → ⊥
none_contested marks epochs zero traces lock passed within held = nothing_in _ held.4
none_contested marks epochs (suc n) traces lock passed within held =
    let place : suc (suc n) - 1 ≡ suc n = omega arith in
    (marks.none epochs traces).0 passed (suc (suc n)) lock (omega arith) (omega (arith, within))
    (subst (λ k. TwoHold (held_over traces k) lock) (sym place) held)

module _ (starts : StartsMean) (marks : MarksMean) (r : RecordingForm) (before count : ℕ) (can : CanBeCut r before count) where
  rules : IsRecording r
  rules = can.rules

  cut : List LocalTraceForm
  cut = map (cut_trace before count) r.traces

  holders : after_marks (count + 1) cut ≡ Ok tt
  unfolding cut
  holders = (marks.none (count + 1) cut).1 (λ window lock least most held.
      let place : window - 1 ≡ suc (window - 2) = omega (arith, least) in
      none_contested marks r.manifest.epochs (before + (window - 2)) r.traces lock rules.holders (omega (arith, least, most, can.there))
      (subst (λ (over : Holdings). TwoHold over lock)
      (held_kept before count r.manifest.epochs (window - 2) r.traces can.there rules.numbered (omega (arith, least, most)))
      (subst (λ n. TwoHold (held_over cut n) lock) place held)))

  pub cut_is_recording : IsRecording (cut_of before count r)
  unfolding cut
  cut_is_recording = record {
    manifest = record {
      format = rules.manifest.format;
      threads = rules.manifest.threads;
      epochs = (omega arith, omega (arith, can.few));
      rooted = some_root r.manifest.roots (started_before before r.traces) r.manifest.threads rules.manifest.rooted rules.manifest.roots;
      roots = roots_rise r.manifest.roots (started_before before r.traces) r.manifest.threads;
      inside = values_inside before count r.manifest.values;
      ordered = values_ordered before count r.manifest.values rules.manifest.ordered;
    };
    count = length-map r.traces (cut_trace before count) ∙ rules.count;
    numbered = cut_numbered before count r.manifest.epochs 1 r.traces can.there rules.numbered;
    traces = All-from_recursion IsLocalTrace cut
        (traces_kept before count r.manifest.epochs 1 r.traces can.there rules.numbered (recursion_from_All IsLocalTrace r.traces rules.traces));
    starts = (starts.none r.manifest.threads (chosen r.manifest.roots (started_before before r.traces) (numbers_from 1 r.manifest.threads)) cut).1
        (starts_kept r.manifest.threads before count r.manifest.roots r.traces ((starts.none r.manifest.threads r.manifest.roots r.traces).0 rules.starts));
    holders = holders;
  }

pub cuts_are_recordings : StartsMean → MarksMean → CutsAreRecordings
cuts_are_recordings starts marks = record {
  rules = cut_is_recording starts marks;
  format = λ r before count can fits.
      All-from_recursion (λ trace. AreOfFormat r.manifest.format (in_order trace.segments)) (map (cut_trace before count) r.traces)
      (formats_kept r.manifest.format before count r.traces
      (recursion_from_All (λ trace. AreOfFormat r.manifest.format (in_order trace.segments)) r.traces fits));
}

-- each window behind the stage is the window that it stands for
pub windows_same : CutWindowsAreTheSame
windows_same r before count zero can some within = absurd (omega (arith, some))
windows_same r before zero (suc j) can some within = absurd (omega (arith, within))
windows_same r before (suc more) (suc j) can some within =
    let cut : RecordingForm = cut_of before (suc more) r in
    let behind : suc j + 1 - 1 ≡ suc j = omega arith in
    let number : suc j + 1 ≡ suc (suc j) = omega arith in
    let place : before + j ≡ before + suc j - 1 = omega arith in
    let window : suc (before + j) ≡ before + suc j = omega arith in
    let held : held_over cut.traces (suc j + 1 - 1) ≡ held_over r.traces (before + suc j - 1) =
    ap (held_over cut.traces) behind
    ∙ held_kept before (suc more) r.manifest.epochs j r.traces can.there can.rules.numbered (omega (arith, within))
    ∙ ap (held_over r.traces) place in
    let segments =
    ap (λ n. map (segment_after n) cut.traces) behind
    ∙ segments_kept before (suc more) j r.traces (omega (arith, within))
    ∙ ap (λ n. map (segment_after n) r.traces) place in
    let values =
    ap (λ n. filter is_kept (values_at cut.manifest.values n)) number
    ∙ ap (filter is_kept) (values_kept before more j r.manifest.values (omega (arith, within)))
    ∙ ap (λ n. filter is_kept (values_at r.manifest.values n)) window in
    let started =
    ap (λ n. chosen cut.manifest.roots (started_before n cut.traces) (numbers_from 1 r.manifest.threads)) behind
    ∙ runs_kept r.manifest.threads before (suc more) j r.manifest.roots r.traces (omega (arith, within))
    ∙ ap (λ n. chosen r.manifest.roots (started_before n r.traces) (numbers_from 1 r.manifest.threads)) place in
    let exited = ap (λ n. exited_of n cut.traces) number ∙ exits_kept before (suc more) j r.traces (omega (arith, within)) in
    λ i. record {
      number = suc j + 1;
      segments = segments i;
      start_values = values i;
      holders = holders_among (held i);
      readers = readers_among (held i);
      started = started i;
      exited = exited i;
    }

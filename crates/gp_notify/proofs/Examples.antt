-- Small windows with their signals: all of it computes.
use Rattle.std.proofs.Common.{refl}
use Rattle.gp_notify.specs.Examples.{SignalsExamples}

pub examples : SignalsExamples
examples = record {
  one_kinds = refl;
  one_clauses = refl;
  two_signals = refl;
  all_signals = refl;
  none = refl;
  paired = refl;
  raised = refl;
  one_signal = refl;
  signal_to_all = refl;
  wake_unpaired = refl;
}

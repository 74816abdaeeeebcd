-- The walk over the traces is one over their events, and what it tells is what is wrong with the first.
use Rattle.std.proofs.Common.{◌∙◌, [], ap, sym}
use Rattle.std.specs.Prelude.{is_ok}
use Rattle.gp_window.specs.StartsTold.{events_of}
use Rattle.gp_window.proofs.StartsTold.{first_wrong, none_passes, nothing_started, passed_none, traces_walked, wrong_first}
use Rattle.gp_window.proofs.laws.starts_mean.Goals as goal

pub returns : goal.returns
returns c = record {
  first = λ threads roots traces fault. (
    λ told. first_wrong threads roots [] [] (events_of traces) fault nothing_started (sym (traces_walked threads roots [] traces) ∙ told),
    λ wrong. traces_walked threads roots [] traces ∙ wrong_first threads roots [] [] (events_of traces) fault nothing_started wrong,
  );
  none = λ threads roots traces. (
    λ ok. passed_none threads roots [] [] (events_of traces) nothing_started (ap is_ok (sym (traces_walked threads roots [] traces)) ∙ ok),
    λ none. ap is_ok (traces_walked threads roots [] traces) ∙ none_passes threads roots [] [] (events_of traces) nothing_started none,
  );
}

-- What a truth of symbols says of the events of a window.
use Rattle.std.specs.Prelude.{◌&&◌, is_some}
use Rattle.gp_window.specs.Events.{event_at}
use Rattle.gp_window.specs.WindowForm.{WindowForm}
use Rattle.gp_constraint.specs.declared.symbol.Symbol.TheVariants.{Executed, Choice, StartChoice, First, Last, Signal}
use Rattle.gp_constraint.specs.Points.{number_in}
use Rattle.gp_constraint.specs.SymbolTruth.{SymbolTruth}
use Rattle.gp_witness.specs.Meaning.{Truth}

-- each event has the truth values and the place of its point; what is no event is not executed
abbrev pub truth_in : WindowForm → SymbolTruth → Truth
truth_in window t = record {
  executed = λ id. is_some (event_at window id) && t.symbols (Executed (number_in window id));
  place = λ id. t.places (number_in window id);
  reads = λ r w. t.symbols (Choice (number_in window r) (number_in window w));
  reads_start = λ r. t.symbols (StartChoice (number_in window r));
  first = λ a c. t.symbols (First (number_in window a) (number_in window c));
  last = λ w. t.symbols (Last (number_in window w));
  signals = λ w g. t.symbols (Signal (number_in window w) (number_in window g));
}

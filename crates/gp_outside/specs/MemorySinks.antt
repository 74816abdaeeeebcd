use Rattle.gp_base.specs.Counts.{one_more}
use Rattle.gp_outside.specs.declared.sinks.PutFault.TheVariants.{Failed}
use Rattle.gp_outside.specs.declared.sinks.PutFault.{PutFault}
use Rattle.std.specs.Map.{lookup}
use Rattle.std.specs.Prelude.{◌++◌, ◌==◌, Err, List, None, Ok, Option, Result, Some, take, ℕ}

-- a sink in memory: its bytes, how many bytes each call that fails may write, and how many calls and faults there were
pub record SinkState : Type 0 where
  pub written : List ℕ
  pub failing : List (ℕ × ℕ)
  pub calls : ℕ
  pub faults : ℕ

-- how many bytes the call of that number may write, where it is one that fails
abbrev pub allowance : List (ℕ × ℕ) → ℕ → Option ℕ
allowance failing call = lookup (λ number. number == call) failing

-- the answer by that allowance
abbrev pub answer_by : Option ℕ → Result (Unit {0}) PutFault
answer_by None = Ok tt
answer_by (Some bytes) = Err Failed

-- the sink after the piece was written by that allowance
abbrev pub written_by : Option ℕ → SinkState → List ℕ → SinkState
written_by None sink piece = record sink { written = sink.written ++ piece }
written_by (Some bytes) sink piece = record sink { written = sink.written ++ take bytes piece; faults = one_more sink.faults }

-- the answer of the next call, where there is memory for it
abbrev pub put_answer : SinkState → Result (Unit {0}) PutFault
put_answer sink = answer_by (allowance sink.failing (one_more sink.calls))

-- the sink after one call more that wrote nothing
abbrev pub after_call : SinkState → SinkState
after_call sink = record sink { calls = one_more sink.calls }

-- the sink after the next call, where there is memory for the piece
abbrev pub after_put : SinkState → List ℕ → SinkState
after_put sink piece = written_by (allowance sink.failing (one_more sink.calls)) (after_call sink) piece

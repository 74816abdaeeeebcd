-- A feasible schedule meets all families.
use Rattle.std.proofs.Common.{List}
use Rattle.gp_window.specs.declared.schedule.EventId.{EventId}
use Rattle.gp_window.specs.Formed.{IsFormed}
use Rattle.gp_window.specs.WindowForm.{WindowForm}
use Rattle.gp_replay.specs.Feasible.{IsFeasible}
use Rattle.gp_witness.specs.Meaning.{MeetsAll}
use Rattle.gp_witness.specs.ScheduleTruth.{schedule_truth}
use Rattle.gp_witness.proofs.Placed.{places_rise, threads_run}
use Rattle.gp_witness.proofs.Ordered.{joins_hold, starts_hold}
use Rattle.gp_witness.proofs.Written.{choices_hold, IsTold, reads_hold, start_choices_hold}
use Rattle.gp_witness.proofs.Locked.{sections_hold, start_holds_hold}

pub meets_all : (window : WindowForm) (ids : List EventId) → IsFormed window → IsTold window → IsFeasible window ids → MeetsAll window (schedule_truth window ids)
meets_all window ids formed told feasible = record {
  rise = places_rise window ids feasible;
  run = threads_run window ids feasible;
  starts = starts_hold window ids feasible;
  joins = joins_hold window ids feasible;
  reads = reads_hold window ids told feasible;
  choices = choices_hold window ids feasible;
  start_choices = start_choices_hold window ids feasible;
  sections = sections_hold window ids formed feasible;
  start_holds = start_holds_hold window ids formed feasible;
}

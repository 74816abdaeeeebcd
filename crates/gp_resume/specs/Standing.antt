-- Whether an answer to an instance stands in a window as it is now.
use Rattle.std.specs.Prelude.{Bool, false, ◌&&◌, List}
use Rattle.std.specs.Result.{is_ok}
use Rattle.gp_certificate.specs.declared.step.Step.{Step}
use Rattle.gp_constraint.specs.Base.{base_of}
use Rattle.gp_constraint.specs.Query.{query_of}
use Rattle.gp_decided.specs.Refuting.{refutes_over}
use Rattle.gp_instance.specs.Matches.{matches_events}
use Rattle.gp_property.specs.PropertyForm.{PropertyForm}
use Rattle.gp_replay.specs.Feasible.{end_of}
use Rattle.gp_report.specs.Records.{Answer}
use Rattle.gp_report.specs.declared.record.AnswerOf.TheVariants.{Found, Impossible, Undecided}
use Rattle.gp_window.specs.declared.schedule.EventId.{EventId}
use Rattle.gp_window.specs.WindowForm.{WindowForm}

-- whether a schedule can happen in a window: it replays
abbrev pub is_feasible : WindowForm → List EventId → Bool
is_feasible window ids = is_ok (end_of window ids)

-- found stands where the schedule is feasible and matches; impossible where the shared list passes and the certificate refutes
-- the query over it; undecided never
abbrev pub stands : List Step → WindowForm → PropertyForm → List EventId → Answer → Bool
stands shared window property ids (Found schedule) = is_feasible window schedule.events && matches_events property ids schedule.events
stands shared window property ids (Impossible certificate) = refutes_over (base_of window) shared (query_of window property ids) certificate
stands shared window property ids (Undecided worker from to) = false

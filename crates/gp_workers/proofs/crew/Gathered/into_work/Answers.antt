-- What was gathered comes in the order of the tickets.
use Rattle.std.proofs.Common.{◌∙◌}
use Rattle.gp_workers.proofs.CrewRecords.{all_gathered}
use Rattle.gp_workers.proofs.crew.Gathered.into_work.Goals as goal

pub returns-clause-work : goal.returns-clause-work
returns-clause-work c tickets problem queries budget gathered all counted =
    all_gathered tickets problem queries budget c.args.self c.in_ok-answers.answers.items _ gathered all counted (c.in_ok-answers.ensures tickets gathered.drawn (gathered.drawers ∙ all)) c.from_vec.ensures c.from_vec-2.ensures

-- What the first worker handed back is all.
use Rattle.std.proofs.Common.{refl}
use Rattle.gp_workers.proofs.CrewRecords.{first_gathered}
use Rattle.gp_workers.proofs.crew.Gathered.of.Goals as goal

pub returns-clause-gathered : goal.returns-clause-gathered
returns-clause-gathered c tickets problem queries budget done = first_gathered tickets problem queries budget c.args.worked _ done refl c.in_ok-records.ensures.items

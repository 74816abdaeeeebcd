-- One worker more is gathered.
use Rattle.gp_workers.proofs.CrewRecords.{next_gathered}
use Rattle.gp_workers.proofs.crew.Gathered.take.Goals as goal

pub returns-clause-gathered : goal.returns-clause-gathered
returns-clause-gathered c problem queries budget gathered done =
    next_gathered c.args.tickets.now problem queries budget c.args.self.now c.args.worked _ gathered done c.in_ok-take.ensures.made c.in_ok-push.ensures.items c.in_ok-take.ensures.drawn c.in_ok-take.ensures.drawers

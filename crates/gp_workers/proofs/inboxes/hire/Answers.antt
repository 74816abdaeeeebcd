-- The passes that are dealt are those of the jobs.
use Rattle.gp_workers.proofs.inboxes.hire.Goals as goal

pub returns : goal.returns
returns c = record {
  all_tickets = c.in_ok-tickets.ensures.count;
  crew = c.in_ok-tickets.ensures.crew;
  own_inboxes = c.in_ok-inboxes.ensures.inboxes;
  own_jobs = c.in_ok-tickets.ensures.len;
  each = c.in_ok-tickets.ensures.jobs c.args.problem.now c.in_ok-inboxes.inboxes.items c.in_ok-inboxes.ensures.passes c.in_ok-inboxes.ensures.inboxes;
}

-- Each worker does its job, and hands back at its place.
use Rattle.std.proofs.Common.{◌<◌, ℕ, arith, length, get_or}
use Rattle.std.specs.Prelude.{IfOk}
use Rattle.gp_workers.specs.SharedCrew.{IsHandedBack}
use Rattle.gp_workers.proofs.SharedCrew.{back_at, may_begin}
use Rattle.gp_workers.proofs.CrewAlone.{both_if_ok}
use Rattle.gp_workers.proofs.window.run_all.Goals as goal

pub map_vec-requires-after_bounds : goal.map_vec-requires-after_bounds
map_vec-requires-after_bounds g c κs within place sharing here is =
    let begun = may_begin c.args.load.now.tickets.now c.args.load.now.problem.now c.args.inboxes.now c.args.jobs.items c.requires.few.1 c.requires.jobs place sharing here is in
    (c.requires.asked, c.requires.count, c.requires.few.0, begun.0, begun.1, begun.2)

pub returns-clause-done : goal.returns-clause-done
returns-clause-done g c =
    both_if_ok _ _
    (λ handed. (place : ℕ) (d : _) → place < length handed.items → IfOk (get_or handed.items place d) (IsHandedBack c.args.load.now.tickets.now c.args.load.now.problem.now c.args.load.now.queries.now c.args.load.now.budget c.args.inboxes.now place)) c.map_vec.result
    (λ handed as_many gives place d here.
    let within : place < length c.args.jobs.items = omega (arith, here, as_many) in
    let one = (gives place d within).1 in
    back_at c.args.load.now.tickets.now c.args.load.now.problem.now c.args.load.now.queries.now c.args.load.now.budget c.args.inboxes.now c.args.jobs.items c.requires.jobs place one.job within (one.job_is one.job) (get_or handed.items place d) one.call.met)
    c.map_vec.ensures.len c.map_vec.ensures.each

-- A worker begins with a desk of its own, and hands back what its desk knows.
use Rattle.std.proofs.Common.{◌≡◌, ◌∙◌, sym, ap, arith, ◌-◌}
use Rattle.gp_workers.specs.declared.crew.Shared.{Shared}
use Rattle.gp_workers.specs.declared.desk.Desk.{Desk}
use Rattle.gp_workers.specs.Crew.{IsDone}
use Rattle.gp_workers.specs.SharedCrew.{SameButOffers}
use Rattle.gp_workers.proofs.SharedCrew.{new_desk, shared_among, silent_yet, still_done}
use Rattle.gp_workers.proofs.CrewAlone.{same_if_ok}
use Rattle.gp_workers.proofs.sharing.work_named.Goals as goal

pub new-mail-requires-clause-desk : goal.new-mail-requires-clause-desk
new-mail-requires-clause-desk g c = new_desk _ (omega (arith, c.requires.number)) c.requires.few c.requires.job.1 c.new.ensures.items

pub work-requires-clause-silent : goal.work-requires-clause-silent
work-requires-clause-silent g c = silent_yet _ c.new-mail.result c.new-mail.ensures (omega (arith, c.requires.number)) c.requires.job.1 c.new.ensures.items

pub returns-clause-done : goal.returns-clause-done
returns-clause-done g c =
    let number = c.args.sharing.job.number in
    same_if_ok (λ (shared : Shared). SameButOffers c.in_ok-worked.worked shared.worked) (λ (shared : Shared). IsDone c.args.load.now.tickets.now c.args.load.now.problem.now c.args.load.now.queries.now c.args.load.now.budget number shared.worked) c.hand_back.result
    (λ shared same. still_done c.args.load.now.tickets.now c.args.load.now.problem.now c.args.load.now.queries.now c.args.load.now.budget number c.in_ok-worked.worked shared.worked c.in_ok-worked.ensures.done same) c.hand_back.ensures.same

pub returns-clause-shared : goal.returns-clause-shared
returns-clause-shared g c =
    let begun : c.new-mail.result.place ≡ c.args.sharing.job.number - 1 = ap (λ (desk : Desk). desk.place) c.new-mail.ensures in
    let kept : c.into_desk.result.place ≡ c.work.new.mail.place = ap (λ (desk : Desk). desk.place) c.into_desk.ensures.same in
    let number = c.work.ensures.number in
    shared_among c.hand_back.result c.into_desk.result.problem.now c.args.load.now.problem.now c.into_desk.result.inboxes.now c.args.inboxes.now c.into_desk.result.place (c.args.sharing.job.number - 1)
    (ap (λ (desk : Desk). desk.problem.now) c.into_desk.ensures.same ∙ c.in_ok-worked.ensures.problem) (c.into_desk.ensures.named ∙ sym c.requires.named) (omega (arith, begun, kept, number)) c.hand_back.ensures.shared
